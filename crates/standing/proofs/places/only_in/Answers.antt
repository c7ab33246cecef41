-- `standing::places::only_in` meets its contract: a row that the second list has not is written after the others.
use Rattle.std.specs.Prelude.{◌+◌, ◌*◌, ◌<◌, ◌≡◌, take}
use Rattle.std.proofs.Common.{arith, ap, subst, sym, ◌∙◌}
use Rattle.std.proofs.Math.Path.{subst⁻¹}
use Rattle.calculus.specs.Sets.{any_of, same_list}
use Rattle.calculus.specs.Rows.{Row}
use Rattle.calculus.proofs.Theory.Lists.Laws.{tested}
use Rattle.standing.specs.View.{max_rows, row_places, stored}
use Rattle.standing.specs.Code.View.{rows_with, Passed}
use Rattle.standing.proofs.Carrying.{copied}
use Rattle.standing.proofs.Walking.{passed_on, found, found_none, found-sizes, found-without, found-written}
use Rattle.standing.proofs.places.only_in.Goals as goal
use Rattle.standing.proofs.places.only_in.Goals.{then-not-stands, else-not-stands}

pub loop-i-init : goal.loop-i-init
loop-i-init c = let s = c.args in (omega arith, λ h o l. absurd (omega arith), ap (λ vs. rows_with vs 0) c.requires.2 ∙ found_none s.xs.now (take s.m (row_places s.ys.now)))

pub skip-j-requires : goal.skip-j-requires
skip-j-requires c =
    let s = c.args in
    (c.requires.1.0, subst⁻¹ (Passed (take s.m (row_places s.ys.now)) c.loop-i.j) c.read-x.ensures (c.loop-i.invariant.1 c.loop-i-test.true))

pub loop-i-preserved : goal.loop-i-preserved
loop-i-preserved c =
    let s = c.args in let xs = s.xs.now in let n = s.n in let ys = take s.m (row_places s.ys.now) in
    let l = c.loop-i in let i = l.i in
    let few : i < max_rows = omega (arith, c.loop-i-test.true, c.requires.0.0) in
    let here = c.read-x.ensures in let p = c.skip-j in
    let told = tested (λ (x : Row). any_of (same_list x) ys) c.stands.ensures here in
    let e : rows_with c.if-not-stands.values c.if-not-stands.count ≡ stored (found xs (i + 1) ys) =
    elim c.if-not-stands.branch [
      | then-not-stands w ↦
          let part = copied l.values xs w.copy_from_slice.new.self (4 * l.count) (4 * i) 4 _ _ w.copy_from_slice.ensures.after (omega arith) (omega arith) (omega (arith, few, c.told-xs)) in
          (λ q. rows_with ((w.values-is ∙ part) q) (w.count-is q)) ∙ found-written xs ys i few l.values l.count c.told-xs l.invariant.2 (told ∙ w.if-not-stands.true)
      | else-not-stands w ↦ (λ q. rows_with (w.values-is q) (w.count-is q)) ∙ l.invariant.2 ∙ ap stored (sym (found-without xs ys i few (told ∙ w.if-not-stands.false)))
    ] in
    let z = found-sizes xs ys (i + 1) (omega (arith, few)) c.if-not-stands.values c.if-not-stands.count e in
    (z.0, λ m. passed_on xs n c.requires.0.0 c.requires.0.1 ys i p.result m (subst (Passed ys p.result) here p.ensures.0), e)
