-- `query::judge::count_uses` meets its contract.
use Rattle.std.proofs.Common.{◌<◌, arith, ap, ◌∙◌, get_or, take}
use Rattle.std.proofs.Math.Path.{subst⁻¹}
use Rattle.calculus.proofs.Theory.Lists.Laws.{get_d_tabulate}
use Rattle.query.specs.Nodes.{uses}
use Rattle.query.specs.Code.Judging.{counted_with}
use Rattle.query.specs.Reading.{max_nodes}
use Rattle.query.proofs.Theory.Nodes.Laws.{counted_next, uses-fit}
use Rattle.query.proofs.judge.count_uses.Goals as goal

pub count-requires : goal.count-requires
count-requires c x h =
    let l = c.loop-w in let ns = c.args.nodes.now in
    subst⁻¹ (λ cs. get_or cs x 0 < 254) l.invariant (omega (arith, get_d_tabulate (uses (take l.w-index ns)) max_nodes x 0 h, uses-fit ns l.w-index x (omega arith) (omega arith)))

pub loop-w-preserved : goal.loop-w-preserved
loop-w-preserved c =
    let l = c.loop-w in let ns = c.args.nodes.now in
    c.count.ensures ∙ ap (λ cs. counted_with cs (get_or ns l.w-index 0)) l.invariant ∙ counted_next ns l.w-index (omega arith)
