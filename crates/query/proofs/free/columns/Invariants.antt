-- The loop's invariant: the count and the places are those of the free variables below x.
use Rattle.query.specs.Decoding.{root}
use Rattle.query.proofs.Theory.Code.Free.Laws.{Found}
use Rattle.query.proofs.free.columns.Given as goal

abbrev pub invariant-loop-x : goal.invariant-loop-x
invariant-loop-x l = Found (root l.fn.nodes) l.x l.variables l.count
