-- `tables::change::rank_of` meets its contract: a turn tells whether the record at i is below r.
use borrow.Author.Tests.{lt-ltb}
use Rattle.std.proofs.Common.{arith, ◌∙◌, sym, ap, ◌≡◌, get_or, true}
use Rattle.calculus.proofs.Theory.Lists.Laws.{tested}
use Rattle.tables.specs.Records.{blank, record_below}
use Rattle.tables.specs.Store.{held, record_at}
use Rattle.tables.proofs.Derived.{below-lt}
use Rattle.tables.proofs.Laws.{below-relation, rank-stops, rank-goes, rank-ends}
use Rattle.tables.proofs.Theory.Store.Laws.{length-held}
use Rattle.tables.proofs.Theory.Store.Places.{getD-first}
use Rattle.tables.proofs.change.rank_of.Goals as goal
use Rattle.tables.proofs.change.rank_of.Goals.{After-lt, else-r-s-via-then-r-s+else-not-lt, else-r-s-via-else-r-s}

below-here : (c : After-lt) → record_below (get_or (held c.args.s.now) c.loop-i.i blank) c.args.r ≡ c.lt.result
below-here c =
    let s = c.args.s.now in
    tested
    (λ p. record_below p c.args.r)
    (c.lt.ensures ∙ below-lt c.read.result c.args.r)
    (c.read.ensures ∙ sym (getD-first s.relations s.values s.count c.requires c.loop-i.i c.loop-i-test.true))

pub returns-then-not-lt : goal.returns-then-not-lt
returns-then-not-lt c =
    let s = c.args.s.now in
    let stop = rank-stops c.args.r (held s) c.loop-i.i (omega (arith, length-held s c.requires)) (below-here (goal.at.returns-then-not-lt c).After-lt ∙ c.if-not-lt.true) in
    omega (arith, stop, c.loop-i.invariant)

pub loop-i-preserved : goal.loop-i-preserved
loop-i-preserved c =
    let s = c.args.s.now in let r = c.args.r in let i = c.loop-i.i in
    let here = sym (getD-first s.relations s.values s.count c.requires i c.loop-i-test.true) in
    let below : record_below (get_or (held s) i blank) r ≡ true = elim c.else-r-s.branch [
      | else-r-s-via-then-r-s+else-not-lt w ↦ tested (λ p. record_below p r) (w.lt.ensures ∙ below-lt w.read.result r) (w.read.ensures ∙ here) ∙ w.if-not-lt.false
      | else-r-s-via-else-r-s w ↦ ap (λ p. record_below p r) (sym here) ∙ sym (below-relation (record_at s.relations s.values i) r (λ e. omega (arith, e, w.if-r-s.false))) ∙ lt-ltb (get_or s.relations i 0) r.relation w.if-r-s.false
    ] in
    let go = rank-goes r (held s) i (omega (arith, length-held s c.requires)) below in
    omega (arith, go, c.loop-i.invariant)

pub returns : goal.returns
returns c =
    let s = c.args.s.now in
    let end = rank-ends c.args.r (held s) c.loop-i.i (omega (arith, length-held s c.requires)) in
    omega (arith, end, c.loop-i.invariant)
