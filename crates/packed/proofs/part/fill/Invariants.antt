-- The loop's invariant: the first i records are collected into the filling that began.
use Rattle.std.proofs.Common.{◌≡◌}
use Rattle.calculus.specs.Lists.{tabulate}
use Rattle.tables.specs.Store.{no_store}
use Rattle.tables.specs.Change.{changed_of}
use Rattle.tables.specs.Code.Fill.{beginning, collect_all}
use Rattle.packed.specs.Packed.{record_at}
use Rattle.packed.proofs.part.fill.Given as goal

abbrev pub invariant-loop-i : goal.invariant-loop-i
invariant-loop-i l = changed_of no_store l.f ≡ collect_all (beginning l.fn.head.widths) (tabulate (record_at l.bytes) l.i)
