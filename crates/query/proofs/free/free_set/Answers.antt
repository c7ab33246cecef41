-- `query::free::free_set` meets its contract.
use Rattle.std.proofs.Common.{refl, arith, rules}
use Rattle.query.proofs.Theory.Code.Free.Sets.{sets-none, sets_more, sets-whole}
use Rattle.query.specs.Reading.{max_nodes}
use Rattle.query.proofs.free.free_set.Goals as goal

pub loop-i-init : goal.loop-i-init
loop-i-init c = (refl, sets-none c.args.nodes.now max_nodes)

pub loop-i-preserved : goal.loop-i-preserved
loop-i-preserved c =
    let l = c.loop-i in
    (search rules, sets_more c.args.nodes.now l.i l.sets c.set_in_node-here.result (omega arith) l.invariant.1 c.set_in_node-here.ensures)

pub returns : goal.returns
returns c = let l = c.loop-i in sets-whole c.args.nodes.now l.i l.sets (omega arith) c.requires.0 l.invariant.1
