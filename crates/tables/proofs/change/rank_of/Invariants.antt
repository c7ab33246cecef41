-- The loop's invariant: i records are below r, and those from place i on decide how many more.
use Rattle.std.proofs.Common.{◌≡◌, ◌+◌, drop}
use Rattle.tables.specs.Store.{held}
use Rattle.tables.specs.Change.{rank}
use Rattle.tables.proofs.change.rank_of.Given as goal

abbrev pub invariant-loop-i : goal.invariant-loop-i
invariant-loop-i l = rank l.r (held l.s) ≡ l.i + rank l.r (drop l.i (held l.s))
