-- `output::print` meets its contract: the line of the refusal, or the packed bytes, are written at the front of the buffer, and these are the output.
use Rattle.std.specs.Prelude.{◌≡◌, refl, length, Ok, Err}
use Rattle.std.proofs.Common.{rules, ap, ◌∙◌, arith}
use Rattle.causes.specs.Causes.{number_of, place_of}
use Rattle.query.specs.Code.Writing.{wrote}
use Rattle.query.proofs.Theory.Code.Writing.Laws.{wrote-end}
use Rattle.rules.specs.Reply.{max_bytes, packing_in}
use Rattle.rules.proofs.Theory.Reply.Laws.{reply-short}
use Rattle.rules.proofs.Theory.Output.Laws.{printed-refused, printed-packed}
use Rattle.rules.proofs.output.print.Goals as goal

pub packed-requires : goal.packed-requires
packed-requires c = reply-short c.args.text.now (packing_in (Ok c.in-Ok.p)) c.in-Ok.ensures

pub returns-in-Ok-clause-print_reply : goal.returns-in-Ok-clause-print_reply
returns-in-Ok-clause-print_reply c =
    let h : length c.args.out.now ≡ max_bytes = search rules in
    let k = wrote-end 0 c.bytes.result c.packed.result.now c.args.out.now c.bytes.new.out c.bytes.ensures in
    printed-packed c.args.text.now (packing_in (Ok c.in-Ok.p)) c.in-Ok.ensures c.args.out.now c.bytes.result c.bytes.new.out refl
    (omega (arith, h, k, c.packed.ensures.few))
    (c.bytes.ensures ∙ ap (λ t. wrote 0 t c.args.out.now) c.packed.ensures.value)

pub returns-in-Err-clause-print_reply : goal.returns-in-Err-clause-print_reply
returns-in-Err-clause-print_reply c =
    printed-refused c.args.text.now (packing_in (Err c.in-Err.r)) c.in-Err.ensures c.args.out.now (number_of c.in-Err.r) (place_of c.in-Err.r) c.refusal.result c.refusal.new.out refl (let h : length c.args.out.now ≡ max_bytes = search rules in omega (arith, h, c.refusal.ensures.upper_bound)) c.refusal.ensures.out_after
