-- `query::fault::has_stray` meets its contract.
use Rattle.std.proofs.Common.{rules, tests, ◌≡◌, true, false, ◌∙◌, take}
use Rattle.std.proofs.lemmas.Iterator.{cases_from_any, YieldsList-from_slice, YieldsList-from_take}
use Rattle.calculus.specs.Sets.{any_of}
use Rattle.calculus.proofs.Theory.Chains.{any-met}
use Rattle.query.specs.Nodes.{is_stray}
use Rattle.query.proofs.Theory.Code.Fields.Laws.{strays-Record}
use Rattle.query.proofs.fault.has_stray.Goals as goal

pub returns-in-Record : goal.returns-in-Record
returns-in-Record c =
    let a = c.in-Record.a in let p = is_stray c.args.constants in
    let some : c.any.result ≡ any_of p (take a.count a.terms) = any-met p (take a.count a.terms) c.any.result (cases_from_any _ _ c.any.result (λ x. p x ≡ true) (λ x. p x ≡ false) c.any.ensures.ran (YieldsList-from_take a.count (YieldsList-from_slice a.terms cc) cc) (λ x q k. search (rules, tests)) (λ x q k. search (rules, tests))) in
    some ∙ strays-Record c.args.constants c.args.w a c.in-Record.ensures
