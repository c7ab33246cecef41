-- `verdict::report::ungenerated` meets its contract: one column more is missing or not.
use mathlib.Core.Bool.{not}
use mathlib.Core.Path.{sym, ap, ◌∙◌}
use lib.ListN.{take}
use Rattle.verdict.proofs.Theory.Bits.Laws.{mask-nil}
use Rattle.verdict.proofs.Theory.Code.Generating.Reports.{missing-more, missing-still}
use Rattle.verdict.proofs.report.ungenerated.Goals as goal
use Rattle.verdict.proofs.report.ungenerated.Goals.{then-not-is_in, else-not-is_in}

pub loop-x-init : goal.loop-x-init
loop-x-init c = sym (mask-nil 16)

pub loop-x-preserved : goal.loop-x-preserved
loop-x-preserved c =
    let s = c.args in let l = c.loop-x in let says = ap not (sym c.is_in.ensures) in let xs = take s.columns.count s.columns.variables in
    elim c.if-not-is_in.branch [
      | then-not-is_in w ↦ w.missing-is ∙ missing-more s.set xs l.x-index c.from-x.result l.missing c.loop-x-test.true c.from-x.ensures l.invariant w.term_bit-missing.result w.term_bit-missing.ensures (says ∙ ap not w.if-not-is_in.true)
      | else-not-is_in w ↦ w.missing-is ∙ missing-still s.set xs l.x-index c.from-x.result l.missing c.loop-x-test.true c.from-x.ensures l.invariant (says ∙ ap not w.if-not-is_in.false)
    ]
