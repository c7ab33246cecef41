-- The rows before row i are in their places.
use Rattle.std.specs.Prelude.{◌≡◌}
use Rattle.answer.specs.Code.Listing.{cut}
use Rattle.standing.specs.View.{stored}
use Rattle.standing.proofs.places.spread.Given as goal

abbrev pub invariant-loop-i : goal.invariant-loop-i
invariant-loop-i l = l.values ≡ (stored (cut l.fn.k l.i l.fn.numbers)).values
