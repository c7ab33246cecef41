-- `packed::part::fill` meets its contract: a turn collects one record more.
use Rattle.std.proofs.Common.{◌∙◌, sym, ap, add-one}
use Rattle.calculus.specs.Lists.{tabulate}
use Rattle.calculus.proofs.Theory.Lists.Laws.{tabulate-next}
use Rattle.tables.specs.Code.Fill.{beginning, collected, collect_all}
use Rattle.tables.specs.Records.{record_of_parts}
use Rattle.tables.proofs.Theory.Fill.Laws.{collect-last, collected-told}
use Rattle.packed.specs.Packed.{record_at}
use Rattle.packed.proofs.part.fill.Goals as goal

pub loop-i-preserved : goal.loop-i-preserved
loop-i-preserved c =
    let f = beginning c.args.head.widths in let at = record_at c.args.bytes.now in let i = c.loop-i.i in let r = c.record-r.result in
    collected-told c.loop-i.f c.collect-f.result (record_of_parts r.relation r.first r.second r.third r.fourth) c.collect-f.ensures
    ∙ (λ j. collected (c.loop-i.invariant j) (c.record-r.ensures j))
    ∙ sym (collect-last f (tabulate at i) (at i))
    ∙ ap (collect_all f) (sym (tabulate-next at i))
    ∙ ap (λ k. collect_all f (tabulate at k)) (sym (add-one i))
