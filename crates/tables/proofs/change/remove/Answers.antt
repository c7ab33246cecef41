-- `tables::change::remove` meets its contract: for a store in the layout the deletion, by place, is the removal.
use Rattle.std.proofs.Common.{◌∙◌, sym}
use Rattle.tables.proofs.Theory.Store.Laws.{judged-layout}
use Rattle.tables.proofs.Theory.Change.Laws.{deletion-removal}
use Rattle.tables.proofs.change.remove.Goals as goal

pub returns : goal.returns
returns c = let l = judged-layout c.args.s (sym c.in_ok-judge.ensures) in c.delete.ensures ∙ deletion-removal c.args.s c.args.r l.0 l.1
