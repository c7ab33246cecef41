-- `query::fault::is_malformed` meets its contract.
use Rattle.std.proofs.Common.{rules, tests, ◌≡◌, true, false, ◌∙◌, drop}
use Rattle.std.proofs.lemmas.Iterator.{cases_from_any, YieldsList-from_slice}
use Rattle.std.proofs.lemmas.Iterator.Adapters.{YieldsList-from_skip}
use Rattle.calculus.specs.Sets.{any_of}
use Rattle.calculus.proofs.Theory.Chains.{any-met}
use Rattle.query.specs.Nodes.{nonzero}
use Rattle.query.proofs.Theory.Code.Fields.Laws.{malformed-Record}
use Rattle.query.proofs.fault.is_malformed.Goals as goal

pub returns-in-Record : goal.returns-in-Record
returns-in-Record c =
    let a = c.in-Record.a in
    let some : c.any.result ≡ any_of nonzero (drop a.count a.terms) = any-met nonzero (drop a.count a.terms) c.any.result (cases_from_any _ _ c.any.result (λ x. nonzero x ≡ true) (λ x. nonzero x ≡ false) c.any.ensures.ran (YieldsList-from_skip a.count (YieldsList-from_slice a.terms cc) cc) (λ x q k. search (rules, tests)) (λ x q k. search (rules, tests))) in
    some ∙ malformed-Record c.args.w a c.in-Record.ensures (search rules)
