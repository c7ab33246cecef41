-- `tables::layout::run_end` meets its contract: a turn tells whether the record at i goes on.
use Rattle.std.proofs.Common.{rules, ◌∙◌, ◌≡◌}
use Rattle.tables.specs.Store.{record_at}
use Rattle.tables.specs.Code.Layout.{goes_on}
use Rattle.tables.proofs.Runs.{tested-on, run-goes, run-stops}
use Rattle.tables.proofs.layout.run_end.Goals as goal
use Rattle.tables.proofs.layout.run_end.Goals.{After-continues}

-- Values are numbers of 32 bits.
goes-here : (c : After-continues) → goes_on c.args.relation c.args.width (record_at c.args.s.now.relations c.args.s.now.values) c.loop-i.i ≡ c.continues.result
goes-here c =
    tested-on
    c.args.relation
    c.args.width
    (record_at c.args.s.now.relations c.args.s.now.values)
    c.loop-i.i
    c.requires.0
    c.highest-limit.ensures
    c.read-last.ensures
    c.read.ensures
    (search rules)
    (search rules)
    (search rules)
    c.continues.ensures

pub returns-then-not-continues : goal.returns-then-not-continues
returns-then-not-continues c = run-stops _ _ _ c.loop-i.invariant (goes-here (goal.at.returns-then-not-continues c).After-continues ∙ c.if-not-continues.true)

pub loop-i-preserved : goal.loop-i-preserved
loop-i-preserved c = run-goes _ _ _ c.loop-i.invariant c.loop-i-test.true (goes-here (goal.at.loop-i-preserved c).After-continues ∙ c.if-not-continues.false)
