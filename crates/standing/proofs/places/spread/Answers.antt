-- `standing::places::spread` meets its contract: one row more is in its place.
use Rattle.std.specs.Prelude.{◌*◌, refl}
use Rattle.std.proofs.Common.{arith, rules, ◌∙◌}
use Rattle.standing.proofs.Carrying.{copied, spread-next}
use Rattle.standing.proofs.places.spread.Goals as goal

pub loop-i-preserved : goal.loop-i-preserved
loop-i-preserved c =
    let s = c.args in let l = c.loop-i in let i = l.i in
    copied l.values s.numbers.now c.copy_from_slice.new.self (4 * i) (i * s.k) s.k _ _ c.copy_from_slice.ensures.after (omega arith) (omega arith) (search rules)
    ∙ spread-next s.k i s.n (i * s.k) s.numbers.now l.values c.requires.0 c.requires.1 c.requires.2 c.loop-i-test.true refl l.invariant
