-- `standing::ready` meets its contract: store and query are judged, and where they are not refused the list by the query's columns.
use Rattle.std.specs.Prelude.{◌≡◌, Err}
use Rattle.std.proofs.Common.{rules, sym, ap, ◌∙◌}
use Rattle.query.specs.Reading.{reading_of}
use Rattle.standing.proofs.Theory.Change.Laws.{readied-suited, readied-unsuited}
use Rattle.standing.proofs.Reading.{readied-err, begun-done, parsed-columns, suits-parsed}
use Rattle.standing.proofs.ready.Goals as goal

pub returns-in_err-parsed : goal.returns-in_err-parsed
returns-in_err-parsed c =
    let r = c.in_err-parsed.field-0.0 in
    let e : c.from_residual.result ≡ Err r = search rules in
    ap reading_of e ∙ readied-err c.args.store c.args.bytes.now c.args.view r c.in_err-parsed.ensures

pub suits-requires : goal.suits-requires
suits-requires c = parsed-columns c.args.store c.args.bytes.now c.in_ok-parsed.parsed c.in_ok-parsed.ensures

pub returns-then-suits : goal.returns-then-suits
returns-then-suits c =
    let s = c.args.store in let bs = c.args.bytes.now in let v = c.args.view in let p = c.in_ok-parsed in
    p.ensures ∙ readied-suited s bs v (begun-done s bs p.parsed p.ensures) (sym (suits-parsed s bs p.parsed p.ensures v) ∙ sym c.suits.ensures ∙ c.if-suits.true)

pub returns-else-suits : goal.returns-else-suits
returns-else-suits c =
    let s = c.args.store in let bs = c.args.bytes.now in let v = c.args.view in let p = c.in_ok-parsed in
    readied-unsuited s bs v (begun-done s bs p.parsed p.ensures) (sym (suits-parsed s bs p.parsed p.ensures v) ∙ sym c.suits.ensures ∙ c.if-suits.false)
