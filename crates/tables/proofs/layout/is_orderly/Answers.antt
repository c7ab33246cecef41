-- `tables::layout::is_orderly` meets its contract.
use Rattle.std.proofs.Common.{◌∙◌, sym}
use Rattle.tables.specs.Store.{record_at, held}
use Rattle.tables.proofs.Theory.Store.Laws.{length-held}
use Rattle.tables.proofs.Theory.Store.Places.{getD-first}
use Rattle.tables.proofs.Runs.{entered-low, entered-unfit, entered-next, entered-end}
use Rattle.tables.proofs.layout.is_orderly.Goals as goal
use Rattle.tables.proofs.layout.is_orderly.Goals.{then-relation-least-via-then-relation-least, then-relation-least-via-else-relation-least+then-not-record_fits}

pub returns-then-relation-least : goal.returns-then-relation-least
returns-then-relation-least c =
    let s = c.args.s.now in let at = record_at s.relations s.values in
    let size = length-held s c.requires in let placed = getD-first s.relations s.values s.count c.requires in
    elim c.then-relation-least.branch [
      | then-relation-least-via-then-relation-least w ↦ entered-low s.widths (held s) s.count at size placed c.loop-i.invariant.1 c.loop-i-test.true c.read-r.ensures w.if-relation-least.true
      | then-relation-least-via-else-relation-least+then-not-record_fits w ↦ entered-unfit s.widths (held s) s.count at size placed c.loop-i.i c.loop-i-test.true c.read-r.ensures (sym w.record_fits.ensures ∙ w.if-not-record_fits.true)
    ]

pub loop-i-preserved : goal.loop-i-preserved
loop-i-preserved c =
    let s = c.args.s.now in (
      c.run_end-i.ensures.ends,
      entered-next s.widths (held s) s.count (record_at s.relations s.values) (length-held s c.requires) (getD-first s.relations s.values s.count c.requires) c.loop-i.invariant.1 c.loop-i-test.true c.read-r.ensures c.if-relation-least.false (sym c.record_fits.ensures ∙ c.if-not-record_fits.false) c.run_end-i.ensures,
    )

pub returns : goal.returns
returns c =
    let s = c.args.s.now in
    entered-end s.widths (held s) s.count (record_at s.relations s.values) (length-held s c.requires) (getD-first s.relations s.values s.count c.requires) c.loop-i.invariant.1 c.loop-i-test.false
