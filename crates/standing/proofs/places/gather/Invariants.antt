-- The rows before row i are at the front.
use Rattle.std.specs.Prelude.{◌≡◌}
use Rattle.standing.specs.Change.{fronted}
use Rattle.standing.proofs.Carrying.{first_rows}
use Rattle.standing.proofs.places.gather.Given as goal

abbrev pub invariant-loop-i : goal.invariant-loop-i
invariant-loop-i l = l.out ≡ fronted (first_rows l.fn.k l.i l.fn.values) l.fn.out
