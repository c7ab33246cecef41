-- `tables::fill::fill` meets its contract: one record after the other, the collecting comes to the filling.
use Rattle.std.proofs.Common.{◌∙◌, ap}
use Rattle.tables.specs.Code.Fill.{collect_all}
use Rattle.tables.proofs.Theory.Fill.Laws.{fill-collects}
use Rattle.tables.proofs.fill.fill.Goals as goal

pub loop-r-init : goal.loop-r-init
loop-r-init c = ap (λ f. collect_all f c.args.records.now) c.begin-f.ensures ∙ fill-collects c.args.widths c.args.records.now
