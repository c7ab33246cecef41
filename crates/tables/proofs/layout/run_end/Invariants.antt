-- The loop's invariant: every place after the start and before i goes on.
use Rattle.tables.specs.Store.{record_at}
use Rattle.tables.specs.Code.Layout.{goes_on}
use Rattle.tables.proofs.Runs.{Running}
use Rattle.tables.proofs.layout.run_end.Given as goal

abbrev pub invariant-loop-i : goal.invariant-loop-i
invariant-loop-i l = Running (goes_on l.relation l.width (record_at l.s.relations l.s.values)) l.start l.s.count l.i
