-- The loop's invariant: without place i, the records are what they were before without place k.
use Rattle.std.proofs.Common.{◌≡◌, length}
use Rattle.tables.specs.Store.{capacity, places_of}
use Rattle.tables.proofs.Theory.Store.Places.{remove-at}
use Rattle.tables.proofs.change.lower.Given as goal

abbrev pub invariant-loop-i : goal.invariant-loop-i
invariant-loop-i l =
    (length l.s.relations ≡ capacity) × (length l.s.values ≡ 1024) × (l.s.widths ≡ l.fn.s.widths) × (l.s.count ≡ l.fn.s.count)
    × (remove-at (places_of l.s) l.i ≡ remove-at (places_of l.fn.s) l.fn.k)
