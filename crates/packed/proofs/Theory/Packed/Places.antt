-- A call over a packed input that is refused names a node of its query, or 0.
use Rattle.std.specs.Prelude.{ℕ, ◌<◌, ◌≡◌, not, ◌&&◌, List, [], ◌∷◌, ◌++◌, length}
use Rattle.std.proofs.Common.{arith}
use Rattle.std.proofs.Math.Path.{subst⁻¹}
use Rattle.calculus.specs.Order.{insert}
use Rattle.calculus.specs.Generators.{columns}
use Rattle.causes.specs.Causes.{Answer, Done, Refused, check, first_cause, when, place}
use Rattle.causes.proofs.Theory.Causes.Laws.{place-then, place-when, refused-place}
use Rattle.tables.specs.declared.Record.{Record}
use Rattle.tables.specs.Records.{record_below, fits}
use Rattle.tables.specs.Store.{has_room}
use Rattle.tables.specs.Change.{is_held}
use Rattle.query.specs.Reading.{max_nodes, read_checks, formula}
use Rattle.query.proofs.Theory.Reading.Laws.{read-place}
use Rattle.answer.specs.Reply.{Writing, exceeds, row_checks}
use Rattle.packed.specs.Packed.{Listing, widths_in, query_in, records_in, is_whole, record_checks, input_checks, store_in, query_read, judged_reply, judged_of, result_in, list_checks, listing_reply, listing_in}

record-place : (ws : List ℕ) (ps rs : List Record) → place (first_cause (record_checks ws ps rs)) < max_nodes
record-place ws ps [] = omega arith
record-place ws ps (r ∷ rs) =
    let later = record_checks ws (insert record_below r ps) rs in
    let full = not (is_held r ps) && not (has_room r ps) in
    place-when 13 (not (fits ws r)) (check 15 (when full) ∷ later) (place-when 15 full later (record-place ws (insert record_below r ps) rs))

input-place : (bs : List ℕ) → place (first_cause (input_checks bs)) < max_nodes
input-place bs =
    let reads = read_checks (widths_in bs) (query_in bs) in
    let fills = record_checks (widths_in bs) [] (records_in bs) in
    place-when 2 (not (is_whole bs)) (reads ++ fills) (place-then reads fills (read-place (widths_in bs) (query_in bs)) (record-place (widths_in bs) [] (records_in bs)))

-- The verdict's place.
pub judged-place : (bs : List ℕ) → place (judged_of bs).answer < max_nodes
judged-place bs = go (first_cause (input_checks bs)) (input-place bs)
  where
    go : (a : Answer) → place a < max_nodes → place (judged_reply a (query_read bs)).answer < max_nodes
    go Done h = omega arith
    go (Refused n p) h = h

-- The list's place, into whatever its rows are written.
pub listing-place : (write : Writing (List ℕ)) (room : ℕ) (bs buffer : List ℕ) → place (listing_in write room bs buffer).0.answer < max_nodes
listing-place write room bs buffer =
    go (first_cause (list_checks bs room))
    (place-then (input_checks bs) (row_checks (store_in bs) (query_read bs) room) (input-place bs)
    (place-when 18 (exceeds room (length (columns (formula (query_read bs)))) (result_in bs)) [] (omega arith)))
  where
    go : (a : Answer) → place a < max_nodes → place (listing_reply write a (query_read bs) (result_in bs) buffer).0.answer < max_nodes
    go Done h = omega arith
    go (Refused n p) h = h

-- So the place of a list's refusal is below the most nodes.
pub listing-refused : (write : Writing (List ℕ)) (room : ℕ) (bs buffer : List ℕ) (l : Listing) (after : List ℕ) → (l, after) ≡ listing_in write room bs buffer → (n p : ℕ) → l.answer ≡ Refused n p → p < max_nodes
listing-refused write room bs buffer l after e n p a = refused-place l.answer n p a (subst⁻¹ (λ r. place r.0.answer < max_nodes) e (listing-place write room bs buffer))
