-- `rules::read` meets its contract: a text that is packed is read as the packed bytes.
use Rattle.std.specs.Prelude.{◌≡◌, refl, Ok, Err}
use Rattle.std.proofs.Common.{rules, ap, ◌∙◌}
use Rattle.causes.specs.Causes.{number_of, place_of}
use Rattle.query.specs.Reading.{read_of, reading_of}
use Rattle.rules.specs.Reply.{packing_in}
use Rattle.rules.proofs.Theory.Reply.Laws.{reply-short, reply-refuses, reply-reads}
use Rattle.rules.proofs.read.Goals as goal

pub returns-in_err-p : goal.returns-in_err-p
returns-in_err-p c =
    let r = c.in_err-p.field-0.0 in
    let e : c.from_residual.result ≡ Err r = search rules in
    let f : c.pack.result ≡ Err r = search rules in
    reply-refuses c.args.text.now (packing_in c.pack.result) c.pack.ensures c.args.widths (number_of r) (place_of r) (ap (λ q. (packing_in q).answer) f) (reading_of c.from_residual.result) (ap reading_of e)

pub packed-requires : goal.packed-requires
packed-requires c = reply-short c.args.text.now (packing_in (Ok c.in_ok-p.p)) c.in_ok-p.ensures

pub returns : goal.returns
returns c =
    reply-reads c.args.text.now (packing_in (Ok c.in_ok-p.p)) c.in_ok-p.ensures c.args.widths refl (reading_of c.read.result) (c.read.ensures ∙ ap (read_of c.args.widths) c.packed.ensures.value)
