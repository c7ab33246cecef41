-- `verdict::generate::Judged::plain` meets its contract: an and asks for its children's words, which are there.
use mathlib.Core.Logic.{inl}
use Rattle.query.specs.Nodes.{left, right}
use Rattle.query.proofs.Theory.Nodes.Laws.{both-children}
use Rattle.verdict.proofs.generate.Judged.plain.Goals as goal

pub bounds-self-right-in-Join-And-default-default : goal.bounds-self-right-in-Join-And-default-default
bounds-self-right-in-Join-And-default-default c =
    let j = c.in-Join-And-default-default in let e = j.ensures in let k = rw j.field-0-is at e.0 in
    rw e.3 (c.requires (right c.args.w) (both-children c.args.w (inl k)).1)

pub bounds-self-left-in-Join-And-default-default-2 : goal.bounds-self-left-in-Join-And-default-default-2
bounds-self-left-in-Join-And-default-default-2 c =
    let j = c.in-Join-And-default-default in let e = j.ensures in let k = rw j.field-0-is at e.0 in
    rw e.1 (c.requires (left c.args.w) (both-children c.args.w (inl k)).0)
