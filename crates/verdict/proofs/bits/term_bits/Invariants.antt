-- The loop of `verdict::bits::term_bits`: the set of the first i of the terms that count.
use Rattle.std.proofs.Common.{◌≡◌, [], ◌∷◌, take}
use Rattle.verdict.specs.Bits.{variable_mask}
use Rattle.verdict.proofs.bits.term_bits.Given as goal

abbrev pub invariant-loop-i : goal.invariant-loop-i
invariant-loop-i l = l.bits ≡ variable_mask (take l.i (take l.count (l.a ∷ l.b ∷ l.c ∷ l.d ∷ [])))
