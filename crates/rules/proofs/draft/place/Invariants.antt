-- The place is among the constants from here on.
use Rattle.rules.proofs.Theory.Code.Draft.Laws.{PlaceFrom}
use Rattle.rules.proofs.draft.place.Given as goal

abbrev pub invariant-loop-i : goal.invariant-loop-i
invariant-loop-i l = PlaceFrom l.constants l.fn.v l.i
