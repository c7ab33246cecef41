-- The loop's invariant: of the first i nodes the array has the sets of their free variables, and 0 of the others.
use Rattle.std.proofs.Common.{◌≡◌, length}
use Rattle.query.specs.Reading.{max_nodes}
use Rattle.query.proofs.Theory.Code.Free.Sets.{Sets}
use Rattle.query.proofs.free.free_set.Given as goal

abbrev pub invariant-loop-i : goal.invariant-loop-i
invariant-loop-i l = (length l.sets ≡ max_nodes) × Sets l.nodes l.i l.sets
