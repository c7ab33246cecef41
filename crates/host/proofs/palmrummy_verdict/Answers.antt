-- The entry meets its contract: the verdict is refused, or its bytes are written.
use Rattle.std.proofs.Common.{rules, refl, get_or, Fits, w32}
use Rattle.causes.specs.Causes.{number_of, place_of}
use Rattle.verdict.specs.Verdict.{verdict_in, refusal}
use Rattle.host.proofs.Theory.Entry.Laws.{verdict-refused, verdict-place, verdict-written, verdict-writable}
use Rattle.host.proofs.palmrummy_verdict.Goals as goal

pub written-requires : goal.written-requires
written-requires c =
    let v = verdict_in c.in-Ok.verdict in
    verdict-writable c.args.input.now v c.in-Ok.ensures (λ k. let f : Fits w32 (get_or v.form.constants k 0) = search rules in f.fits) refl

pub returns-in-Ok : goal.returns-in-Ok
returns-in-Ok c = verdict-written c.args.input.now c.args.out.now (verdict_in c.in-Ok.verdict) c.in-Ok.ensures c.written.result refl c.written.ensures

pub code-requires : goal.code-requires
code-requires c =
    let r = c.in-Err.refusal in
    verdict-place c.args.input.now c.args.out.now (refusal (number_of r) (place_of r)) c.in-Err.ensures (number_of r) (place_of r) refl

pub returns-in-Err : goal.returns-in-Err
returns-in-Err c =
    let r = c.in-Err.refusal in
    verdict-refused c.args.input.now c.args.out.now (refusal (number_of r) (place_of r)) c.in-Err.ensures (number_of r) (place_of r) c.code.result refl c.code.ensures.0
