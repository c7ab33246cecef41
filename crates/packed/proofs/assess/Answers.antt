-- `packed::assess` meets its contract: what was taken is refused, or its query is judged.
use Rattle.std.proofs.Common.{rules, Fits, w32, get_or, ◌≡◌, ◌∙◌, ap, refl, Err}
use Rattle.causes.specs.Causes.{number_of, place_of}
use Rattle.verdict.specs.Verdict.{verdict_in}
use Rattle.packed.specs.Code.Packed.{assessment_in}
use Rattle.packed.proofs.Taking.{refused-input, judged-asks, judged-input}
use Rattle.packed.proofs.assess.Goals as goal

pub returns-in_err-input : goal.returns-in_err-input
returns-in_err-input c =
    let r = c.in_err-input.field-0.0 in
    let e : c.from_residual.result ≡ Err r = search rules in
    ap assessment_in e ∙ refused-input c.args.bytes.now (number_of r) (place_of r) c.in_err-input.ensures

pub judged-requires : goal.judged-requires
judged-requires c = judged-asks c.args.bytes.now _ c.in_ok-input.ensures refl (λ k. let f : Fits w32 (get_or c.in_ok-input.input.query.constants k 0) = search rules in f.fits)

pub returns : goal.returns
returns c = judged-input c.args.bytes.now _ c.in_ok-input.ensures refl (verdict_in c.judged.result) c.judged.ensures
