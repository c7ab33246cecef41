-- `tables::change::join` meets its contract.
use Rattle.std.proofs.Common.{◌∙◌, sym, arith, refl}
use Rattle.tables.specs.Store.{held}
use Rattle.tables.proofs.Theory.Store.Laws.{length-held}
use Rattle.tables.proofs.Theory.Change.Laws.{rank-le}
use Rattle.tables.proofs.Laws.{err-found, count-full, insertion-full}
use Rattle.tables.proofs.change.join.Goals as goal

pub raise-requires : goal.raise-requires
raise-requires c =
    let s = c.args.s.now in let r = c.args.r in
    let found = err-found s r c.in-Err.field-0 c.in-Err.ensures in
    (omega (arith, found.1, rank-le r (held s), length-held s c.requires), c.requires)

pub returns-in-Err : goal.returns-in-Err
returns-in-Err c =
    let s = c.args.s.now in let r = c.args.r in
    let found = err-found s r c.in-Err.field-0 c.in-Err.ensures in
    (insertion-full s r (sym c.record_fits.ensures ∙ c.if-not-record_fits.false) found.0 (count-full s r c.requires c.if-s-ge-PLACES.true), refl)
