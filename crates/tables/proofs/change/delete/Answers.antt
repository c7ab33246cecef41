-- `tables::change::delete` meets its contract: a record found stands at its place.
use Rattle.std.proofs.Common.{arith}
use Rattle.tables.specs.Store.{held}
use Rattle.tables.proofs.Theory.Store.Laws.{length-held}
use Rattle.tables.proofs.Theory.Change.Laws.{rank-found}
use Rattle.tables.proofs.Laws.{ok-found}
use Rattle.tables.proofs.change.delete.Goals as goal

pub lower-requires : goal.lower-requires
lower-requires c =
    let s = c.args.s in let r = c.args.r in
    let found = ok-found s r c.in-Ok.place c.in-Ok.ensures in
    omega (arith, found.1, rank-found r (held s) found.0, length-held s c.requires, c.requires)
