-- `standing::layout::all_ascend` meets its contract. The loop is the one of calculus' Order/Laws, over the rows at their places.
use Rattle.std.specs.Prelude.{take, refl, []}
use Rattle.std.proofs.Common.{arith, sym, ◌∙◌}
use Rattle.calculus.proofs.Theory.Order.Laws.{ascends-ends, ascends-stops, ascends-goes}
use Rattle.calculus.specs.Rows.{row_below}
use Rattle.standing.proofs.Comparing.{quad-le}
use Rattle.standing.specs.View.{row_at, row_places}
use Rattle.standing.proofs.Theory.View.Layout.{length-first, getD-first}
use Rattle.standing.proofs.layout.all_ascend.Goals as goal

pub returns-then-le : goal.returns-then-le
returns-then-le c =
    let s = c.args in let vs = s.rows.now.values in let n = s.rows.now.count in
    let x = c.read-in-loop-i in let y = c.read in
    ascends-stops row_below (take n (row_places vs)) n (length-first vs n c.requires) c.loop-i.i c.loop-i.invariant
    [] (row_at vs) (getD-first vs n c.requires) c.loop-i-test.true refl x.ensures y.ensures (sym (quad-le y.result x.result) ∙ sym c.le.ensures ∙ c.if-le.true)

pub loop-i-preserved : goal.loop-i-preserved
loop-i-preserved c =
    let s = c.args in let vs = s.rows.now.values in let n = s.rows.now.count in
    let x = c.read-in-loop-i in let y = c.read in
    ascends-goes row_below (take n (row_places vs)) n (length-first vs n c.requires) c.loop-i.i c.loop-i.invariant
    [] (row_at vs) (getD-first vs n c.requires) c.loop-i-test.true refl x.ensures y.ensures (sym (quad-le y.result x.result) ∙ sym c.le.ensures ∙ c.if-le.false)

pub returns : goal.returns
returns c =
    let s = c.args in
    ascends-ends row_below (take s.rows.now.count (row_places s.rows.now.values)) s.rows.now.count (length-first s.rows.now.values s.rows.now.count c.requires) c.loop-i.i c.loop-i.invariant (omega arith)
