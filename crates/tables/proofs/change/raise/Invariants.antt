-- The loop's invariant: what is carried, put in at place i, makes what r, put in at place k, would have made.
use Rattle.std.proofs.Common.{◌≡◌, length}
use Rattle.tables.specs.Store.{capacity, places_of}
use Rattle.tables.proofs.Theory.Store.Places.{insert-at}
use Rattle.tables.proofs.change.raise.Given as goal

abbrev pub invariant-loop-i : goal.invariant-loop-i
invariant-loop-i l =
    (length l.s.relations ≡ capacity) × (length l.s.values ≡ 1024) × (l.s.widths ≡ l.fn.s.widths) × (l.s.count ≡ l.fn.s.count)
    × (insert-at (places_of l.s) l.i l.carried ≡ insert-at (places_of l.fn.s) l.fn.k l.fn.r)
