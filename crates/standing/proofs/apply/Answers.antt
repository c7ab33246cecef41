-- `standing::apply` meets its contract: after each of its three parts the reply is the one of `change_of`, or what the next part asks for holds.
use Rattle.std.specs.Prelude.{ℕ, ◌≡◌, get_or, Ok, Err}
use Rattle.std.proofs.Common.{rules, Fits, w32, ap, ◌∙◌}
use Rattle.standing.specs.Change.{change_in}
use Rattle.standing.proofs.Changing.{unready, few_records, list-suits, unchanged, answerable, maintains}
use Rattle.standing.proofs.apply.Goals as goal

pub returns-in_err-parsed : goal.returns-in_err-parsed
returns-in_err-parsed g c = λ action alters.
    let s = c.args.store in let v = c.args.view in let r = c.in_err-parsed.field-0.0 in
    let e : c.from_residual.result ≡ Err r = search rules in
    ap (λ x. (change_in s v x, (c.args.joined.now, c.args.left.now))) e ∙ unready action s v c.args.bytes.now c.args.joined.now c.args.left.now r c.in_err-parsed.ensures

pub step-requires : goal.step-requires
step-requires g c = let p = c.in_ok-parsed in c.requires.called (few_records c.args.store c.args.view c.args.bytes.now p.parsed p.ensures)

pub returns-in_err-after : goal.returns-in_err-after
returns-in_err-after g c = λ action alters.
    let s = c.args.store in let v = c.args.view in let p = c.in_ok-parsed in let r = c.in_err-after.field-0.0 in
    let e : c.from_residual-in_err-after.result ≡ Err r = search rules in
    ap (λ x. (change_in s v x, (c.args.joined.now, c.args.left.now))) e
    ∙ unchanged s v c.args.bytes.now p.parsed p.ensures action c.args.joined.now c.args.left.now r (alters (Err r) c.in_err-after.ensures)

pub maintain-requires : goal.maintain-requires
maintain-requires g c =
    let s = c.args.store in let v = c.args.view in let bs = c.args.bytes.now in let p = c.in_ok-parsed in let t = c.in_ok-after in let a = c.requires.alters in
    let small : (i : ℕ) → Fits w32 (get_or p.parsed.query.constants i 0) = λ i. search rules in
    (answerable s v bs p.parsed p.ensures a.0 t.after (a.1 (Ok t.after) t.ensures) (λ i. (small i).fits), list-suits s v bs p.parsed p.ensures)

pub returns : goal.returns
returns g c = λ action alters.
    let s = c.args.store in let p = c.in_ok-parsed in let t = c.in_ok-after in
    c.maintain.ensures s
    ∙ maintains s c.args.view c.args.bytes.now p.parsed p.ensures action t.after (alters (Ok t.after) t.ensures) c.args.joined.now c.args.left.now
