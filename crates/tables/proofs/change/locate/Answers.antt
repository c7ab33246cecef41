-- `tables::change::locate` meets its contract: r is found where it stands at its place.
use Rattle.std.proofs.Common.{arith, ◌∙◌, sym, ◌≡◌, false}
use Rattle.tables.specs.Store.{held}
use Rattle.tables.specs.Code.Change.{found}
use Rattle.tables.proofs.Derived.{same-eq}
use Rattle.tables.proofs.Laws.{found_none, found-told, located-found, located-none}
use Rattle.tables.proofs.Theory.Store.Laws.{length-held}
use Rattle.tables.proofs.change.locate.Goals as goal
use Rattle.tables.proofs.change.locate.Goals.{else-place-s-via-then-place-s+else-eq, else-place-s-via-else-place-s}

pub returns-then-eq : goal.returns-then-eq
returns-then-eq c =
    let s = c.args.s.now in let r = c.args.r in let place = c.rank_of-place in
    located-found s r place.ensures (found-told s r c.read.result place.result c.requires place.ensures c.if-place-s.true (c.eq.ensures ∙ same-eq c.read.result r) c.read.ensures ∙ c.if-eq.true)

pub returns : goal.returns
returns c =
    let s = c.args.s.now in let r = c.args.r in let place = c.rank_of-place in
    let none : found r (held s) ≡ false = elim c.else-place-s.branch [
      | else-place-s-via-then-place-s+else-eq w ↦ found-told s r w.read.result place.result c.requires place.ensures w.if-place-s.true (w.eq.ensures ∙ same-eq w.read.result r) w.read.ensures ∙ w.if-eq.false
      | else-place-s-via-else-place-s w ↦ sym (found_none r (held s) (omega (arith, length-held s c.requires, place.ensures, w.if-place-s.false)))
    ] in
    located-none s r place.ensures none
