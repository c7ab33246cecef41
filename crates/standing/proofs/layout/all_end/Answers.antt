-- `standing::layout::all_end` meets its contract: a row decides, or leaves the answer to those after it.
use Rattle.std.specs.Prelude.{[], take}
use Rattle.std.proofs.Common.{arith, sym, ◌∙◌}
use Rattle.calculus.proofs.Theory.Lists.Laws.{tested, all-stops, all-goes}
use Rattle.standing.specs.View.{row_places, ends}
use Rattle.standing.proofs.Theory.View.Layout.{length-first, getD-first}
use Rattle.standing.proofs.layout.all_end.Goals as goal

pub returns-then-not-ends : goal.returns-then-not-ends
returns-then-not-ends c =
    let s = c.args in let vs = s.values.now in let i = c.loop-i.i in
    sym (c.loop-i.invariant ∙ all-stops (ends s.k) (take s.to (row_places vs)) i [] (omega (arith, length-first vs s.to c.requires))
    (tested (ends s.k) c.ends.ensures (c.read.ensures ∙ sym (getD-first vs s.to c.requires i c.loop-i-test.true)) ∙ c.if-not-ends.true))

pub loop-i-preserved : goal.loop-i-preserved
loop-i-preserved c =
    let s = c.args in let vs = s.values.now in let i = c.loop-i.i in
    c.loop-i.invariant ∙ all-goes (ends s.k) (take s.to (row_places vs)) i [] (omega (arith, length-first vs s.to c.requires))
    (tested (ends s.k) c.ends.ensures (c.read.ensures ∙ sym (getD-first vs s.to c.requires i c.loop-i-test.true)) ∙ c.if-not-ends.false)
