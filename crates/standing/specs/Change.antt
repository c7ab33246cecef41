-- The replies of opening, put and removal: document 01, "Rows, endless and listed", and the causes that each meets. Definitions only; the laws are in
-- Change/Laws.antt.
use Rattle.std.specs.Prelude.{ℕ, ◌+◌, List, [], ◌∷◌, ◌++◌, length, drop, Result as Returned, Ok, Err}
use Rattle.calculus.specs.Generators.{columns}
use Rattle.calculus.specs.Rows.{Row, Result, listed, only_in, numbers}
use Rattle.causes.specs.Causes.{Answer, Done, Refused, Check, check, first_cause, when, number_of, place_of}
use Rattle.tables.specs.declared.Store.{Store}
use Rattle.tables.specs.Store.{held, store_of, store_checks}
use Rattle.query.specs.declared.Query.{Query}
use Rattle.query.specs.Reading.{formula, read_checks}
use Rattle.answer.specs.Reply.{result_of, query_read}
use Rattle.standing.specs.declared.View.{View}
use Rattle.standing.specs.View.{rows_in, kept, view_of}
use Rattle.standing.specs.Checks.{Action, view_checks, record_checks, records_after, is_over, report_checks}
use Rattle.causes.specs.declared.Refusal.{Refusal}
use Rattle.standing.specs.declared.Change.{Change as Changed}

-- What an opening answers, and the list.
pub record Opened : Type 0 where
  pub answer : Answer
  pub view : View

-- What a put or removal answers: the numbers of rows that joined and left, and the store and list after it.
pub record Change : Type 0 where
  pub answer : Answer
  pub joined : ℕ
  pub left : ℕ
  pub store : Store
  pub view : View

-- ---- opening

-- Causes 1 to 10.
abbrev pub begin_checks : Store → List ℕ → List Check
begin_checks s bs = store_checks s ++ read_checks s.widths bs

-- Cause 17 at an opening: over `max_rows` rows.
abbrev pub over_checks : Result → List Check
over_checks found = check 17 (when (is_over (length (kept found)))) ∷ []

-- A refusal hands back a list without columns and rows.
abbrev pub refused_opening : ℕ → ℕ → Opened
refused_opening n p = record { answer = Refused n p; view = view_of [] (listed []) 0 0 0 }

-- What an opening comes to by what it hands back.
abbrev pub opened_in : Returned View Refusal → Opened
opened_in (Ok v) = record { answer = Done; view = v }
opened_in (Err r) = refused_opening (number_of r) (place_of r)

abbrev pub opening_reply : Answer → List ℕ → Result → Opened
opening_reply Done cols found = record { answer = Done; view = view_of cols found (length (kept found)) 0 0 }
opening_reply (Refused n p) cols found = refused_opening n p

-- The reply to the opening of a list over s for the query in the bytes bs.
abbrev pub opened_of : Store → List ℕ → Opened
opened_of s bs =
    let q : Query = query_read s bs in
    let found : Result = result_of s q in
    opening_reply (first_cause (begin_checks s bs ++ over_checks found)) (columns (formula q)) found

-- ---- a change

-- The rows that join where the list v comes to hold what is found.
abbrev pub joining : View → Result → List Row
joining v found = only_in (kept found) (rows_in v)

-- The rows that leave where the list v comes to hold what is found.
abbrev pub leaving : View → Result → List Row
leaving v found = only_in (rows_in v) (kept found)

-- Causes 17 to 19, where the buffers have the lengths a and b.
abbrev pub turn_checks : View → List ℕ → Result → ℕ → ℕ → List Check
turn_checks v cols found a b =
    let j : ℕ = length (joining v found) in
    let l : ℕ = length (leaving v found) in
    report_checks (is_over (length (kept found))) (v.opening ∷ (v.joined + j) ∷ (v.left + l) ∷ []) (length cols) j l a b

-- Rows at the front of a buffer, the rest of it unaltered.
abbrev pub fronted : List Row → List ℕ → List ℕ
fronted rows buffer = numbers rows ++ drop (length (numbers rows)) buffer

-- A refusal leaves the store and the list.
abbrev pub refusal : ℕ → ℕ → Store → View → Change
refusal n p s v = record { answer = Refused n p; joined = 0; left = 0; store = s; view = v }

-- What a change of the store s and its list v comes to by what it hands back (here `Changed`); a refusal hands back neither, and both are as they were.
abbrev pub change_in : Store → View → Returned Changed Refusal → Change
change_in s v (Ok c) = record { answer = Done; joined = c.joined; left = c.left; store = c.store; view = c.view }
change_in s v (Err r) = refusal (number_of r) (place_of r) s v

-- The reply to a change: the store is t, and the list holds what is found, with its counts added to. A refusal leaves the store, the list and both buffers.
abbrev pub turn_reply : Answer → Store → Store → View → List ℕ → Result → List ℕ → List ℕ → Change × (List ℕ × List ℕ)
turn_reply Done s t v cols found first second =
    let j : ℕ = length (joining v found) in
    let l : ℕ = length (leaving v found) in (
      record { answer = Done; joined = j; left = l; store = t; view = view_of cols found v.opening (v.joined + j) (v.left + l) },
      (fronted (joining v found) first, fronted (leaving v found) second),
    )
turn_reply (Refused n p) s t v cols found first second = (refusal n p s v, (first, second))

-- The store after a call.
abbrev pub store_after : Action → Store → Store
store_after action s = store_of s.widths (records_after action (held s))

-- Causes 1 to 10, and 12.
abbrev pub ready_checks : Store → View → List ℕ → List Check
ready_checks s v bs = begin_checks s bs ++ view_checks v (columns (formula (query_read s bs)))

-- The reply to a put or removal, for the query in the bytes bs, over the store s and its list v; and the buffers after it.
abbrev pub change_of : Action → Store → View → List ℕ → List ℕ → List ℕ → Change × (List ℕ × List ℕ)
change_of action s v bs first second =
    let q : Query = query_read s bs in
    let t : Store = store_after action s in
    let found : Result = result_of t q in
    turn_reply
    (first_cause (ready_checks s v bs ++ (record_checks action s.widths (held s) ++ turn_checks v (columns (formula q)) found (length first) (length second))))
    s t v (columns (formula q)) found first second
