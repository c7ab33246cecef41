-- A call that is refused names a node of its query, or 0.
use Rattle.std.specs.Prelude.{ℕ, ◌+◌, ◌*◌, ◌<◌, Bool, not, ◌||◌, List, [], ◌∷◌, ◌++◌, length, ltb}
use Rattle.std.proofs.Common.{arith}
use Rattle.calculus.specs.Sets.{any_of}
use Rattle.calculus.specs.Generators.{columns}
use Rattle.calculus.specs.Rows.{Result}
use Rattle.causes.specs.Causes.{Answer, Done, Refused, Check, check, first_cause, when, place}
use Rattle.causes.proofs.Theory.Causes.Laws.{place-then, place-when}
use Rattle.tables.specs.declared.Record.{Record}
use Rattle.tables.specs.declared.Store.{Store}
use Rattle.tables.specs.Records.{fits}
use Rattle.tables.specs.Store.{held, has_room}
use Rattle.tables.specs.Change.{is_held}
use Rattle.query.specs.Reading.{max_nodes, formula}
use Rattle.answer.specs.Reply.{result_of, query_read}
use Rattle.answer.proofs.Theory.Reply.Places.{begin-place}
use Rattle.standing.specs.declared.View.{View}
use Rattle.standing.specs.View.{suits, kept}
use Rattle.standing.specs.Checks.{Action, put, removal, view_checks, record_checks, is_over, is_past, report_checks}
use Rattle.standing.specs.Change.{joining, leaving, begin_checks, over_checks, opening_reply, opened_of, ready_checks, turn_checks, store_after, turn_reply, change_of}

pub open-place : (s : Store) (bs : List ℕ) → place (opened_of s bs).answer < max_nodes
open-place s bs =
    go (first_cause (begin_checks s bs ++ over_checks found))
    (place-then (begin_checks s bs) (over_checks found) (begin-place s bs) (place-when 17 (is_over (length (kept found))) [] (omega arith)))
  where
    found : Result
    found = result_of s (query_read s bs)

    go : (a : Answer) → place a < max_nodes → place (opening_reply a (columns (formula (query_read s bs))) found).answer < max_nodes
    go Done h = h
    go (Refused n p) h = h

ready-place : (s : Store) (v : View) (bs : List ℕ) → place (first_cause (ready_checks s v bs)) < max_nodes
ready-place s v bs =
    let cols = columns (formula (query_read s bs)) in
    place-then (begin_checks s bs) (view_checks v cols) (begin-place s bs) (place-when 12 (not (suits v cols)) [] (omega arith))

record-place : (action : Action) (ws : List ℕ) (held : List Record) → place (first_cause (record_checks action ws held)) < max_nodes
record-place (put r) ws held =
    let full = check 15 (when (not (has_room r held))) ∷ [] in
    place-when 13 (not (fits ws r)) (check 14 (when (is_held r held)) ∷ full) (place-when 14 (is_held r held) full (place-when 15 (not (has_room r held)) [] (omega arith)))
record-place (removal r) ws held =
    place-when 13 (not (fits ws r)) (check 16 (when (not (is_held r held))) ∷ []) (place-when 16 (not (is_held r held)) [] (omega arith))

report-place : (over : Bool) (counts : List ℕ) (k joined left a b : ℕ) → place (first_cause (report_checks over counts k joined left a b)) < max_nodes
report-place over counts k joined left a b =
    let second = check 19 (when (ltb b (left * k))) ∷ [] in
    place-when 17 (over || any_of is_past counts) (check 18 (when (ltb a (joined * k))) ∷ second) (place-when 18 (ltb a (joined * k)) second (place-when 19 (ltb b (left * k)) [] (omega arith)))

turn-place : (v : View) (cols : List ℕ) (found : Result) (a b : ℕ) → place (first_cause (turn_checks v cols found a b)) < max_nodes
turn-place v cols found a b =
    let j = length (joining v found) in let l = length (leaving v found) in
    report-place (is_over (length (kept found))) (v.opening ∷ (v.joined + j) ∷ (v.left + l) ∷ []) (length cols) j l a b

pub change-place : (action : Action) (s : Store) (v : View) (bs : List ℕ) (first second : List ℕ) → place (change_of action s v bs first second).0.answer < max_nodes
change-place action s v bs first second =
    go (first_cause (ready_checks s v bs ++ (records ++ turn)))
    (place-then (ready_checks s v bs) (records ++ turn) (ready-place s v bs)
    (place-then records turn (record-place action s.widths (held s)) (turn-place v cols found (length first) (length second))))
  where
    cols : List ℕ
    cols = columns (formula (query_read s bs))

    found : Result
    found = result_of (store_after action s) (query_read s bs)

    records : List Check
    records = record_checks action s.widths (held s)

    turn : List Check
    turn = turn_checks v cols found (length first) (length second)

    go : (a : Answer) → place a < max_nodes → place (turn_reply a s (store_after action s) v cols found first second).0.answer < max_nodes
    go Done h = h
    go (Refused n p) h = h
