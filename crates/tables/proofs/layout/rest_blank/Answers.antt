-- `tables::layout::rest_blank` meets its contract: a turn tells whether the record at i is blank.
use Rattle.std.proofs.Common.{arith, ◌∙◌, sym, ◌≡◌, get_or, ap, not}
use Rattle.std.proofs.lemmas.Bool.{not-true, not-false}
use Rattle.calculus.proofs.Theory.Lists.Laws.{tested, all-stops, all-goes, all-ends}
use Rattle.tables.specs.Records.{blank, is_blank}
use Rattle.tables.specs.Store.{places_of}
use Rattle.tables.proofs.Derived.{same-eq}
use Rattle.tables.proofs.Theory.Store.Laws.{length-places, getD-places}
use Rattle.tables.proofs.layout.rest_blank.Goals as goal
use Rattle.tables.proofs.layout.rest_blank.Goals.{After-ne}

differs-here : (c : After-ne) → not (is_blank (get_or (places_of c.args.s.now) c.loop-i.i blank)) ≡ c.ne.result
differs-here c =
    let s = c.args.s.now in
    tested
    (λ p. not (is_blank p))
    (c.ne.ensures ∙ ap not (same-eq c.read.result blank))
    (c.read.ensures ∙ sym (getD-places s.relations s.values c.loop-i.i c.loop-i-test.true))

pub returns-then-ne : goal.returns-then-ne
returns-then-ne c =
    let s = c.args.s.now in
    sym
    (c.loop-i.invariant
    ∙ all-stops is_blank (places_of s) c.loop-i.i blank (omega (arith, length-places s.relations s.values)) (not-true _ (differs-here (goal.at.returns-then-ne c).After-ne ∙ c.if-ne.true)))

pub loop-i-preserved : goal.loop-i-preserved
loop-i-preserved c =
    let s = c.args.s.now in
    c.loop-i.invariant
    ∙ all-goes is_blank (places_of s) c.loop-i.i blank (omega (arith, length-places s.relations s.values)) (not-false _ (differs-here (goal.at.loop-i-preserved c).After-ne ∙ c.if-ne.false))

pub returns : goal.returns
returns c =
    let s = c.args.s.now in
    sym (c.loop-i.invariant ∙ all-ends is_blank (places_of s) c.loop-i.i blank (omega (arith, length-places s.relations s.values)))
