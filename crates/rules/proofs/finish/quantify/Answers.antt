-- `rules::finish::quantify` meets its contract: the quantifiers that are left decide.
use Rattle.std.proofs.Common.{refl, ◌-◌}
use Rattle.rules.specs.Code.Draft.{head_from}
use Rattle.rules.specs.Code.Finish.{is_bound, bound_down, bind_all}
use Rattle.rules.proofs.Theory.Code.Finish.Testing.{bound-ends, bound-skips, bound-full, bound-goes}
use Rattle.rules.proofs.finish.quantify.Goals as goal

pub returns : goal.returns
returns c =
    let p = is_bound (head_from c.args.h) c.args.seen.now in let l = c.loop-x in
    bound-ends p (bind_all (bound_down p 16) c.args.n c.args.nodes.now) l.x l.end l.nodes l.invariant.2 c.loop-x-test.false l.invariant.1

pub returns-in_err-end : goal.returns-in_err-end
returns-in_err-end c =
    let p = is_bound (head_from c.args.h) c.args.seen.now in let l = c.loop-x in
    bound-full p (bind_all (bound_down p 16) c.args.n c.args.nodes.now) l.x l.end l.nodes l.invariant.2 (l.x - 1) c.loop-x-test.true refl c.needs_exists.result c.needs_exists.ensures c.if-needs_exists.true c.from.result c.existence.result c.from.ensures c.existence.ensures c.add.result c.add.new.nodes c.add.ensures c.in_err-end.was c.from_residual.result c.from_residual.ensures

pub loop-x-preserved-then-needs_exists : goal.loop-x-preserved-then-needs_exists
loop-x-preserved-then-needs_exists c =
    let p = is_bound (head_from c.args.h) c.args.seen.now in let l = c.loop-x in
    bound-goes p (bind_all (bound_down p 16) c.args.n c.args.nodes.now) l.x l.end l.nodes l.invariant.2 (l.x - 1) c.loop-x-test.true refl c.needs_exists.result c.needs_exists.ensures c.if-needs_exists.true c.from.result c.existence.result c.from.ensures c.existence.ensures c.add.result c.add.new.nodes c.add.ensures c.in_ok-end.end c.in_ok-end.was

pub loop-x-preserved : goal.loop-x-preserved
loop-x-preserved c =
    let p = is_bound (head_from c.args.h) c.args.seen.now in let l = c.loop-x in
    (l.invariant.0, l.invariant.1, bound-skips p (bind_all (bound_down p 16) c.args.n c.args.nodes.now) l.x l.end l.nodes l.invariant.2 (l.x - 1) c.loop-x-test.true refl c.needs_exists.result c.needs_exists.ensures c.if-needs_exists.false)
