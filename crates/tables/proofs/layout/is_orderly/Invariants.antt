-- The loop's invariant, where a run starts: the records before it are in order (`Entered`).
use Rattle.std.proofs.Common.{◌-◌, ◌≤◌}
use Rattle.tables.specs.Store.{record_at, held}
use Rattle.tables.proofs.Runs.{Entered}
use Rattle.tables.proofs.layout.is_orderly.Given as goal

abbrev pub invariant-loop-i : goal.invariant-loop-i
invariant-loop-i l = (l.i ≤ l.s.count) × Entered l.s.widths (held l.s) l.s.count (record_at l.s.relations l.s.values) l.i l.least

abbrev pub decreases-loop-i : goal.decreases-loop-i
decreases-loop-i l = l.s.count - l.i
