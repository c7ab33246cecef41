-- `standing::places::gather` meets its contract: one row more is at the front.
use Rattle.std.specs.Prelude.{◌*◌, ◌<◌, refl}
use Rattle.std.proofs.Common.{arith, rules, ◌∙◌}
use Rattle.standing.specs.View.{max_rows}
use Rattle.standing.proofs.Carrying.{copied, gather-next}
use Rattle.standing.proofs.places.gather.Goals as goal

pub loop-i-preserved : goal.loop-i-preserved
loop-i-preserved c =
    let s = c.args in let l = c.loop-i in let i = l.i in
    let few : i < max_rows = omega (arith, c.loop-i-test.true, c.requires.1) in
    copied l.out s.values.now c.copy_from_slice.new.self (i * s.k) (4 * i) s.k _ _ c.copy_from_slice.ensures.after (omega arith) (omega arith) (search rules)
    ∙ gather-next s.k i (i * s.k) s.values.now s.out.now l.out c.requires.0 few c.told-values refl l.invariant
