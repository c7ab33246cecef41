-- `tables::layout::judge` meets its contract: the records of a count in range have room.
use Rattle.std.proofs.Common.{◌∙◌, sym}
use Rattle.tables.proofs.Laws.{judged-done}
use Rattle.tables.proofs.layout.judge.Goals as goal

pub returns : goal.returns
returns c =
    judged-done
    c.args.s
    (sym c.widths_are_right.ensures ∙ c.if-not-widths_are_right.false)
    c.if-s-gt-PLACES.false
    (sym c.is_orderly.ensures ∙ c.if-not-is_orderly.false)
    (sym c.rest_blank.ensures ∙ c.if-not-rest_blank.false)
