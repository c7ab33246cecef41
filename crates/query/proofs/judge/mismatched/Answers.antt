-- `query::judge::mismatched` meets its contract.
use Rattle.std.proofs.Common.{rules, tests, ◌≡◌, true, false}
use Rattle.std.proofs.lemmas.Iterator.{IsFirst-from_position, YieldsList-from_slice}
use Rattle.query.specs.Nodes.{mismatched}
use Rattle.query.proofs.Theory.Reading.Laws.{lowest-position}
use Rattle.query.proofs.judge.mismatched.Goals as goal

pub returns : goal.returns
returns c =
    let ns = c.args.nodes.now in let p = (mismatched c.args.widths.now) in
    lowest-position p ns c.position.result (IsFirst-from_position _ _ c.position.result (λ x. p x ≡ true) (λ x. p x ≡ false) c.position.ensures.ran (YieldsList-from_slice ns c.iter.ensures.rest) (λ x q k. search (rules, tests)) (λ x q k. search (rules, tests)))
