-- `tables::change::put` meets its contract: for a store in the layout the insertion, by place, is the put.
use Rattle.std.proofs.Common.{◌∙◌, sym}
use Rattle.tables.proofs.Theory.Store.Laws.{judged-layout}
use Rattle.tables.proofs.Theory.Change.Laws.{insertion-put}
use Rattle.tables.proofs.change.put.Goals as goal

pub returns : goal.returns
returns c = let l = judged-layout c.args.s (sym c.in_ok-judge.ensures) in c.insert.ensures ∙ insertion-put c.args.s c.args.r l.0 l.1
