-- Runs, and demand 3: one claim about every run, over the family of its lists. Definitions only; the theorem is in Runs/Laws.antt.
use Rattle.std.specs.Prelude.{ℕ, ◌+◌, ◌≡◌, Bool, true, cond, List, [], ◌∷◌, ◌++◌, map, length, drop, eqb}
use Rattle.std.proofs.Math.Option.{some}
use Rattle.calculus.specs.Sets.{In}
use Rattle.calculus.specs.Generators.{columns}
use Rattle.calculus.specs.Rows.{numbers}
use Rattle.causes.specs.Causes.{Done, number, place, is_done}
use Rattle.tables.specs.declared.Store.{Store}
use Rattle.tables.specs.Store.{held}
use Rattle.query.specs.declared.Query.{Query}
use Rattle.query.specs.Reading.{formula, columns_of}
use Rattle.answer.specs.Reply.{query_read}
use Rattle.standing.specs.declared.View.{View}
use Rattle.standing.specs.Change.{Change, opened_of, change_of}
use Rattle.standing.specs.Families.{Family, with_list, Paired}
use Rattle.standing.specs.View.{rows_in, stored}
use Rattle.standing.specs.Ledger.{Account, Ledger, Call, Step, opening, call, Report}

-- ---- runs

-- What the driver of a list keeps: the bytes of its query, and the list as its opening or its own last call left it.
pub record Driver : Type 0 where
  pub bytes : List ℕ
  pub view : View

abbrev pub driver : List ℕ → View → Driver
driver bs v = record { bytes = bs; view = v }

-- What a call hands back: its reply, and the two buffers.
abbrev pub Reply : Type 0
Reply = Change × (List ℕ × List ℕ)

-- What happens to the list i in a run: an accepted opening for the query in these bytes, which answers with a list, or a call and what it hands back.
pub data Event : Type 0 where
  opened : ℕ → List ℕ → View → Event
  called : ℕ → Call → Reply → Event

-- The index of its list.
abbrev pub index : Event → ℕ
index (opened i bs v) = i
index (called i c r) = i

-- What the ledger is fed of it: no answer.
abbrev pub fed : Event → Step
fed (opened i bs v) = opening i bs
fed (called i c r) = call i c

-- What the contract of opening ensures of one over the store s that is accepted, and answers with the list v.
abbrev pub OpensWith : Store → List ℕ → View → Type 0
OpensWith s bs v = opened_of s bs ≡ record { answer = Done; view = v }

-- What the contracts of put and removal ensure of a call for the query in the bytes bs, given the store s and the list v.
abbrev pub Ensured : List ℕ → Store → View → Call → Reply → Type 0
Ensured bs s v c r = r ≡ change_of c.action s v bs c.first c.second

-- Accepted openings, and puts and removals, refused ones included. Each is given the store that the last one left; a call is given any record and buffers, and the
-- query and list of its own index, as the opening or the last call of that index left them. A list that isn't open has no calls.
pub data Run : Store → Family Driver → List Event → Store → Family Driver → Type 0 where
  ended : {s : Store} {d : Family Driver} → Run s d [] s d
  open_then : {s t : Store} {d e : Family Driver} {i : ℕ} {bs : List ℕ} {v : View} {es : List Event}
      → OpensWith s bs v → Run s (with_list i (driver bs v) d) es t e → Run s d (opened i bs v ∷ es) t e
  call_then : {s t : Store} {d e : Family Driver} {i : ℕ} {x : Driver} {c : Call} {r : Reply} {es : List Event}
      → d i ≡ some x → Ensured x.bytes s x.view c r → Run r.0.store (with_list i (driver x.bytes r.0.view) d) es t e → Run s d (called i c r ∷ es) t e

-- ---- the ledger's answers

-- The reply is the ledger's: number and place of its answer, and both numbers of rows; the first buffer starts with the ledger's joined rows and the second with
-- its left rows, in row order, and the rest is as lent. After a refused call, which has no rows, that is the whole.
pub record Agrees (c : Call) (l : Report) (r : Reply) : Type 0 where
  pub number_is : number r.0.answer ≡ l.number
  pub place_is : place r.0.answer ≡ l.place
  pub joined_is : r.0.joined ≡ length l.joined
  pub left_is : r.0.left ≡ length l.left
  pub first_is : r.1.0 ≡ numbers l.joined ++ drop (length (numbers l.joined)) c.first
  pub second_is : r.1.1 ≡ numbers l.left ++ drop (length (numbers l.left)) c.second
  pub first_length : length r.1.0 ≡ length c.first
  pub second_length : length r.1.1 ≡ length c.second

-- Every reply of a run agrees with the ledger's report of the same call, in order.
pub data Agree : List Event → List Report → Type 0 where
  none : Agree [] []
  past : {i : ℕ} {bs : List ℕ} {v : View} {es : List Event} {us : List Report} → Agree es us → Agree (opened i bs v ∷ es) us
  also : {i : ℕ} {c : Call} {r : Reply} {es : List Event} {u : Report} {us : List Report} → Agrees c u r → Agree es us → Agree (called i c r ∷ es) (u ∷ us)

-- ---- what it stands for

-- The list has the columns of the query q, which is the account's, and the account's rows, mark and counts.
pub record IsListOf (q : Query) (a : Account) (v : View) : Type 0 where
  pub query_is : a.query ≡ q
  pub columns_are : v.columns ≡ columns_of (columns (formula q))
  pub rows_are : rows_in v ≡ a.rows
  pub rows_stored : v.rows ≡ stored a.rows
  pub endless_is : v.endless ≡ a.endless
  pub opening_is : v.opening ≡ a.opening
  pub joined_is : v.joined ≡ a.joined
  pub left_is : v.left ≡ a.left

-- The store has the ledger's widths and records; the lists that are open are those that it has an account of, and each is its account's, for the query in its
-- bytes.
pub record Represents (l : Ledger) (s : Store) (d : Family Driver) : Type 0 where
  pub widths_are : s.widths ≡ l.widths
  pub records_are : held s ≡ l.records
  pub lists_are : (i : ℕ) → Paired (λ a x. IsListOf (query_read s x.bytes) a x.view) (l.lists i) (d i)

-- ---- one list of a run

-- Whether the list i was found anew since the last change: no call of another list was accepted since it was last opened or a call of its own was last accepted. b
-- says whether it was at the start.
abbrev pub up_to_date : ℕ → Bool → List Event → Bool
up_to_date i b [] = b
up_to_date i b (opened j bs v ∷ es) = up_to_date i (cond (eqb i j) true b) es
up_to_date i b (called j c r ∷ es) = up_to_date i (cond (is_done r.0.answer) (eqb i j) b) es

-- What was told of a list since it was opened: how many rows it had then, and how many joined and left since.
pub record Tally : Type 0 where
  pub opening : ℕ
  pub joined : ℕ
  pub left : ℕ

-- The tally after an opening, and after the reply to a call.
abbrev pub first_tally : View → Tally
first_tally v = record { opening = length (rows_in v); joined = 0; left = 0 }

abbrev pub next_tally : Tally → Change → Tally
next_tally n r = record { opening = n.opening; joined = n.joined + r.joined; left = n.left + r.left }

-- What was told of the list i in all since it was last opened; at first it was n.
abbrev pub tally : ℕ → Tally → List Event → Tally
tally i n [] = n
tally i n (opened j bs v ∷ es) = tally i (cond (eqb i j) (first_tally v) n) es
tally i n (called j c r ∷ es) = tally i (cond (eqb i j) (next_tally n r.0) n) es

abbrev pub no_tally : Tally
no_tally = record { opening = 0; joined = 0; left = 0 }

-- Every event is of the list i.
abbrev pub Alone : ℕ → List Event → Type 0
Alone i es = (e : Event) → In e es → index e ≡ i

-- ---- document 01's run: an accepted opening, then the calls of that list

-- Calls of the list i, with their replies.
abbrev pub calls_of : ℕ → List (Call × Reply) → List Event
calls_of i ps = map (λ p. called i p.0 p.1) ps

-- How many rows the replies told as joined, and how many as left.
abbrev pub joined_in : List (Call × Reply) → ℕ
joined_in [] = 0
joined_in (p ∷ ps) = p.1.0.joined + joined_in ps

abbrev pub left_in : List (Call × Reply) → ℕ
left_in [] = 0
left_in (p ∷ ps) = p.1.0.left + left_in ps
