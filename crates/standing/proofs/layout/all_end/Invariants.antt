-- The rows from place i on decide.
use Rattle.std.proofs.Common.{◌≡◌, take, drop}
use Rattle.calculus.specs.Sets.{all_of}
use Rattle.standing.specs.View.{row_places, ends}
use Rattle.standing.proofs.layout.all_end.Given as goal

abbrev pub invariant-loop-i : goal.invariant-loop-i
invariant-loop-i l = let rows = take l.fn.to (row_places l.fn.values) in all_of (ends l.fn.k) (drop l.fn.from rows) ≡ all_of (ends l.fn.k) (drop l.i rows)
