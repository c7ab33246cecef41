-- Every row before place p is below x.
use Rattle.std.specs.Prelude.{take}
use Rattle.standing.specs.View.{row_places}
use Rattle.standing.specs.Code.View.{values_of, Passed}
use Rattle.standing.proofs.places.skip.Given as goal

abbrev pub invariant-loop-p : goal.invariant-loop-p
invariant-loop-p l = Passed (take l.fn.m (row_places l.fn.ys)) l.p (values_of l.fn.x)
