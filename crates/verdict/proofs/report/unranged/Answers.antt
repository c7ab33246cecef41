-- `verdict::report::unranged` meets its contract: one node more is an exists whose variable its child doesn't generate, or not.
use mathlib.Core.Bool.{true, false, not}
use mathlib.Core.Path.{sym, ap, ◌∙◌}
use lib.ListN.{get_or, length}
use Rattle.query.specs.Reading.{max_nodes}
use Rattle.verdict.specs.Code.Generating.{is_unranged}
use Rattle.verdict.proofs.Sets.{no-exists}
use Rattle.verdict.proofs.Theory.Code.Generating.Reports.{bits-start, bits-more, bits-still, unranged-found, unranged-other}
use Rattle.verdict.proofs.report.unranged.Goals as goal
use Rattle.verdict.proofs.report.unranged.Goals.{in-Exists+then-not-is_in, in-Exists+else-not-is_in, in_default}

pub loop-i-init : goal.loop-i-init
loop-i-init c = bits-start (is_unranged c.args.judged.now.nodes.now) max_nodes

pub loop-i-preserved : goal.loop-i-preserved
loop-i-preserved c =
    let s = c.args.judged.now in let ns = s.nodes.now in let l = c.loop-i in let p = is_unranged ns in let r = c.requires in
    elim c.match-of.branch [
      | in-Exists+then-not-is_in w ↦ let e = w.in-Exists.ensures in
          w.found-is ∙ bits-more p max_nodes l.i l.found l.invariant w.node_bit-found.result w.node_bit-found.ensures (unranged-found ns s.plains (length ns) l.i true r.form r.plains_are c.loop-i-test.true e.0 (ap not (sym (rw (e.1, e.3) at w.is_in.ensures) ∙ w.if-not-is_in.true)))
      | in-Exists+else-not-is_in w ↦ let e = w.in-Exists.ensures in
          w.found-is ∙ bits-still p max_nodes l.i l.found l.invariant (unranged-found ns s.plains (length ns) l.i false r.form r.plains_are c.loop-i-test.true e.0 (ap not (sym (rw (e.1, e.3) at w.is_in.ensures) ∙ w.if-not-is_in.false)))
      | in_default w ↦ w.found-is ∙ bits-still p max_nodes l.i l.found l.invariant (unranged-other ns l.i (no-exists (get_or ns l.i 0) c.of.result c.of.ensures w.in_default.not-Exists))
    ]
