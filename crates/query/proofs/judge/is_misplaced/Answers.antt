-- `query::judge::is_misplaced` meets its contract.
use Rattle.std.proofs.Common.{◌≡◌, get_or, arith, rules, ap, ◌∙◌}
use Rattle.calculus.proofs.Theory.Lists.Laws.{get_d_tabulate}
use Rattle.query.specs.Nodes.{uses}
use Rattle.query.specs.Reading.{max_nodes}
use Rattle.query.proofs.judge.is_misplaced.Goals as goal

pub returns-then-i-nodes : goal.returns-then-i-nodes
returns-then-i-nodes c =
    let ns = c.args.nodes.now in
    let e : get_or c.args.counts.now c.args.i 0 ≡ uses ns c.args.i = ap (λ cs. get_or cs c.args.i 0) c.requires.2 ∙ get_d_tabulate (uses ns) max_nodes c.args.i 0 (omega arith) in
    rw e (search rules)
