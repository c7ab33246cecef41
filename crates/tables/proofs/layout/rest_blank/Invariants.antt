-- The loop's invariant: the places from i on decide.
use Rattle.std.proofs.Common.{◌≡◌, drop}
use Rattle.calculus.specs.Sets.{all_of}
use Rattle.tables.specs.Records.{is_blank}
use Rattle.tables.specs.Store.{places_of, unused}
use Rattle.tables.proofs.layout.rest_blank.Given as goal

abbrev pub invariant-loop-i : goal.invariant-loop-i
invariant-loop-i l = all_of is_blank (unused l.s) ≡ all_of is_blank (drop l.i (places_of l.s))
