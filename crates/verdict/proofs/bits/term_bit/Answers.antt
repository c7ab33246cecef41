-- `verdict::bits::term_bit` meets its contract: a variable is one of 16 bits, a constant none.
use native.Mathlib.Omega.{arith}
use mathlib.Core.Path.{sym}
use mathlib.Core.List.{[], ◌∷◌}
use Rattle.calculus.specs.Sets.{member}
use Rattle.verdict.proofs.Theory.Bits.Laws.{mask_one, mask-past, bits_small}
use Rattle.verdict.proofs.bits.term_bit.Goals as goal

pub returns-then-t-lt16 : goal.returns-then-t-lt16
returns-then-t-lt16 c = let t = c.args.t in omega (arith, mask_one 16 t c.if-t-lt16.true, bits_small (λ m. member m (t ∷ [])) 16)

pub returns : goal.returns
returns c = sym (mask-past 16 c.args.t c.if-t-lt16.false)
