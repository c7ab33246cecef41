use Rattle.calculus.specs.Rows.{row_below}
use Rattle.calculus.proofs.Theory.Order.Laws.{AscendsFrom}
use Rattle.standing.specs.View.{held_rows}
use Rattle.standing.proofs.layout.all_ascend.Given as goal

abbrev pub invariant-loop-i : goal.invariant-loop-i
invariant-loop-i l = AscendsFrom row_below (held_rows l.fn.rows) l.i
