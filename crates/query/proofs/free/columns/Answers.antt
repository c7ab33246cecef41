-- `query::free::columns` meets its contract.
use Rattle.std.proofs.Common.{ℕ, ◌+◌, ◌≤◌, ◌<◌, ◌≡◌, refl, Bool, true, false, List, set, arith, sym, ap, subst, ◌∙◌, ⊎_elim}
use Rattle.std.proofs.lemmas.Bool.{cases_lt}
use Rattle.calculus.specs.Sets.{member}
use Rattle.calculus.specs.Formula.{Fmla, fv}
use Rattle.query.specs.Decoding.{root}
use Rattle.query.specs.Code.Free.{in_set}
use Rattle.query.proofs.Theory.Code.Free.Laws.{Found, found_as, found-few, found-missed, found-put, found-past, found_all}
use Rattle.query.proofs.free.columns.Goals as goal

-- One variable more is looked at: it is found, and put where there is a place for it, or it is missed.
one-more : (φ : Fmla) (x : ℕ) (variables others : List ℕ) (count number : ℕ) (b : Bool) → x < 16 → Found φ x variables count → b ≡ member x (fv φ) → (b ≡ true → count < 4 → others ≡ set variables count x) → (b ≡ true → 4 ≤ count → others ≡ variables) → (b ≡ true → number ≡ count + 1) → (b ≡ false → others ≡ variables) → (b ≡ false → number ≡ count) → Found φ (x + 1) others number
one-more φ x variables others count number true h f m put past more missed same =
    ⊎_elim (λ l. found_as (found-put φ x variables count f (sym m) l) (put refl l) (more refl)) (λ l. found_as (found-past φ x variables count f (sym m) l) (past refl l) (more refl)) (cases_lt count 4)
one-more φ x variables others count number false h f m put past more missed same = found_as (found-missed φ x variables count f (sym m)) (missed refl) (same refl)

pub overflow_add-count : goal.overflow_add-count
overflow_add-count c =
    let l = c.loop-x in
    omega (arith, found-few (root c.args.nodes.now) l.x l.variables l.count l.invariant)

pub loop-x-preserved : goal.loop-x-preserved
loop-x-preserved c =
    let l = c.loop-x in let φ = root c.args.nodes.now in
    one-more φ l.x l.variables _ l.count _ c.has.result (omega arith) l.invariant (c.has.ensures ∙ ap (λ x. in_set x c.free_set-set.result) c.from.ensures ∙ c.free_set-set.ensures l.x (omega arith)) (λ e h. grind arith) (λ e h. grind arith) (λ e. grind arith) (λ n. grind arith) (λ n. grind arith)

pub returns : goal.returns
returns c =
    let l = c.loop-x in let ns = c.args.nodes.now in let e : l.x ≡ 16 = omega arith in
    found_all ns l.variables l.count (subst (λ k. Found (root ns) k l.variables l.count) e l.invariant)
