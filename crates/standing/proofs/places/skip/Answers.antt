-- `standing::places::skip` meets its contract: a row passed is below x, and the first that isn't ends the walk.
use Rattle.std.specs.Prelude.{◌≡◌, not, T, [], take, get_or}
use Rattle.std.proofs.Common.{sym, subst, ap, ◌∙◌}
use Rattle.std.proofs.lemmas.Bool.{not-true, not-false}
use Rattle.calculus.specs.Rows.{row_below}
use Rattle.standing.specs.View.{row_places}
use Rattle.standing.specs.Code.View.{values_of}
use Rattle.standing.proofs.Theory.View.Layout.{getD-first}
use Rattle.standing.proofs.Comparing.{quad-le}
use Rattle.standing.proofs.Walking.{passed-next}
use Rattle.standing.proofs.places.skip.Goals as goal
use Rattle.standing.proofs.places.skip.Goals.{After-le}

-- The test of the row read is one of the row at place p.
told : (c : After-le) → let s = c.args in not (row_below (get_or (take s.m (row_places s.ys.now)) c.loop-p.p []) (values_of s.x)) ≡ c.le.result
told c =
    let s = c.args in
    ap (λ y. not (row_below y (values_of s.x))) (getD-first s.ys.now s.m c.requires.0 c.loop-p.p c.loop-p-test.true ∙ sym c.read.ensures)
    ∙ sym (c.le.ensures ∙ quad-le s.x c.read.result)

pub returns-then-le : goal.returns-then-le
returns-then-le c =
    let s = c.args in
    (c.loop-p.invariant, λ h. subst T (not-true (row_below (get_or (take s.m (row_places s.ys.now)) c.loop-p.p []) (values_of s.x)) (told c.before ∙ c.if-le.true)))

pub loop-p-preserved : goal.loop-p-preserved
loop-p-preserved c =
    let s = c.args in let rows = take s.m (row_places s.ys.now) in
    passed-next rows c.loop-p.p (values_of s.x) c.loop-p.invariant
    (not-false (row_below (get_or rows c.loop-p.p []) (values_of s.x)) (told c.before ∙ c.if-le.false))
