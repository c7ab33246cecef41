-- `query::judge::count` meets its contract: each child is one more in the counts.
use Rattle.std.proofs.Common.{rules}
use Rattle.query.proofs.Theory.Nodes.Laws.{counted_none, counted-one, counted-two}
use Rattle.query.proofs.Theory.Code.Fields.Laws.{children-Not, children-Join, children-Exists}
use Rattle.query.proofs.judge.count.Goals as goal

pub returns-in-Not : goal.returns-in-Not
returns-in-Not c = counted-one c.args.counts.now (search rules) c.args.w c.in-Not.child c.in-Not.ensures.2 (children-Not c.args.w c.in-Not.ensures)

pub returns-in-Exists : goal.returns-in-Exists
returns-in-Exists c = counted-one c.args.counts.now (search rules) c.args.w c.in-Exists.child c.in-Exists.ensures.4 (children-Exists c.args.w c.in-Exists.ensures)

pub returns-in-Join : goal.returns-in-Join
returns-in-Join c =
    let n = c.in-Join.ensures in
    counted-two c.args.counts.now (search rules) c.args.w c.in-Join.left c.in-Join.right n.2 n.4 (children-Join c.args.w c.in-Join.field-0 n)

pub returns-in_default : goal.returns-in_default
returns-in_default c = counted_none c.args.counts.now (search rules) c.args.w (search rules)
