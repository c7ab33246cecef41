-- `query::judge::misplaced` meets its contract.
use Rattle.std.proofs.Common.{rules, tests, ◌≡◌, true, false, length}
use Rattle.std.proofs.lemmas.Iterator.{first_from_Range}
use Rattle.query.specs.Nodes.{misplaced}
use Rattle.query.proofs.Theory.Reading.Laws.{lowest-range}
use Rattle.query.proofs.judge.misplaced.Goals as goal

pub returns : goal.returns
returns c =
    let ns = c.args.nodes.now in let p = misplaced ns in
    lowest-range p (length ns) c.find.result (first_from_Range _ _ _ c.find.result (λ i. p i ≡ true) (λ i. p i ≡ false) c.find.ensures.ran (λ x q k. search (rules, tests)) (λ x q k. search (rules, tests)))
