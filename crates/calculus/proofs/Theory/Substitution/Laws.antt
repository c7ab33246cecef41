-- Laws of substitution: 000's equations for Q[x → y], its fv_subst and its sat_subst.
-- Fuel beyond the height does not count; `Renaming` is the graph of the substitution, and the last two laws go along it, with no fuel in sight.
use Rattle.std.specs.Prelude.{ℕ, zero, suc, ◌≤◌, max, ◌≡◌, refl, ◌↔◌, ◌⊎◌, ◌≢◌, Bool, cond, List, [], ◌∷◌, ◌++◌, map, eqb}
use Rattle.std.proofs.Common.{arith, sym, ap, subst, ◌∙◌, inl, inr, ⊎_elim}
use Rattle.std.proofs.Math.Logic.{Ne-symm}
use Rattle.std.proofs.Math.Logic.Iff
use Rattle.calculus.specs.Sets.{In, here, there, remove}
use Rattle.calculus.proofs.Theory.Sets.Laws.{in-nil, in_one, in_left, in_right, in-append, in-append-map, in_remove, from-remove, fresh-out}
use Rattle.calculus.proofs.Theory.Reflects.Iff.{iff-path, iff-eq, iff-either, iff_some}
use Rattle.calculus.specs.Reflects.{Reflects, holds, fails}
use Rattle.calculus.proofs.Theory.Reflects.Laws.{reflects-map, reflects-eqb}
use Rattle.calculus.specs.Formula.{Term, var, con, Fmla, truth, rel, eq, neg, conj, disj, exists, fv, fv_term, fv_terms}
use Rattle.calculus.specs.Satisfaction.{fact, Database, Pool, Env, bind, value, values, Sat}
use Rattle.calculus.proofs.Theory.Satisfaction.Laws.{bind-same, bind-other, sat-agree}
use Rattle.calculus.specs.Substitution.{subst_term, fresh2, height, subst_exists, subst_upto, subst_for}

-- The three cases of 000's clause for an exists.
subst_exists-cases : (P : Fmla → Type 0) (s : Fmla → ℕ → ℕ → Fmla) (z : ℕ) (φ : Fmla) (x y : ℕ)
    → (x ≡ z → P (exists x φ))
    → (x ≢ z → z ≡ y → P (exists (fresh2 x y φ) (s (s φ z (fresh2 x y φ)) x y)))
    → (x ≢ z → z ≢ y → P (exists z (s φ x y)))
    → P (subst_exists s z φ x y)
subst_exists-cases P s z φ x y bound caught free = go (reflects-eqb x z) (reflects-eqb z y)
  where
    go : {b c : Bool} → Reflects (x ≡ z) b → Reflects (z ≡ y) c → P (cond b (exists x φ) (cond c (exists (fresh2 x y φ) (s (s φ z (fresh2 x y φ)) x y)) (exists z (s φ x y))))
    go (holds e) r = bound e
    go (fails n) (holds e) = caught n e
    go (fails n) (fails m) = free n m

-- ---- the fuel

height-positive : (φ : Fmla) → 1 ≤ height φ
height-positive (truth b) = omega arith
height-positive (rel r ts) = omega arith
height-positive (eq x t) = omega arith
height-positive (neg φ) = omega arith
height-positive (conj φ ψ) = omega arith
height-positive (disj φ ψ) = omega arith
height-positive (exists z φ) = omega arith

no_fuel : (φ : Fmla) → ¬ (height φ ≤ zero)
no_fuel φ h = omega (arith, height-positive φ)

-- A substitution keeps the height.
pub height-subst : (n : ℕ) (φ : Fmla) (x y : ℕ) → height (subst_upto n φ x y) ≡ height φ
height-subst zero φ x y = refl
height-subst (suc n) (truth b) x y = refl
height-subst (suc n) (rel r ts) x y = refl
height-subst (suc n) (eq z t) x y = refl
height-subst (suc n) (neg φ) x y = ap suc (height-subst n φ x y)
height-subst (suc n) (conj φ ψ) x y = λ i. suc (max (height-subst n φ x y i) (height-subst n ψ x y i))
height-subst (suc n) (disj φ ψ) x y = λ i. suc (max (height-subst n φ x y i) (height-subst n ψ x y i))
height-subst (suc n) (exists z φ) x y = go (height-subst n)
  where
    go : ((ψ : Fmla) (u v : ℕ) → height (subst_upto n ψ u v) ≡ height ψ) → height (subst_exists (subst_upto n) z φ x y) ≡ suc (height φ)
    go h = subst_exists-cases (λ ψ. height ψ ≡ suc (height φ)) (subst_upto n) z φ x y (λ e. refl) (λ p q. ap suc (h (subst_upto n φ z (fresh2 x y φ)) x y ∙ h φ z (fresh2 x y φ))) (λ p q. ap suc (h φ x y))

-- Two substitutions that agree up to φ's height agree at an exists over φ.
subst_exists-cong : (s t : Fmla → ℕ → ℕ → Fmla) (z : ℕ) (φ : Fmla) (x y : ℕ)
    → ((ψ : Fmla) (u v : ℕ) → height ψ ≤ height φ → s ψ u v ≡ t ψ u v)
    → ((u v : ℕ) → height (t φ u v) ≤ height φ)
    → subst_exists s z φ x y ≡ subst_exists t z φ x y
subst_exists-cong s t z φ x y h k = λ i. cond (eqb x z) (exists x φ) (cond (eqb z y) (exists (fresh2 x y φ) (twice i)) (exists z (once x y i)))
  where
    once : (u v : ℕ) → s φ u v ≡ t φ u v
    once u v = h φ u v (omega arith)

    twice : s (s φ z (fresh2 x y φ)) x y ≡ t (t φ z (fresh2 x y φ)) x y
    twice = ap (λ ψ. s ψ x y) (once z (fresh2 x y φ)) ∙ h (t φ z (fresh2 x y φ)) x y (k z (fresh2 x y φ))

-- Any two fuels that reach the height give the same.
fuel-irrelevant : (n m : ℕ) (φ : Fmla) (x y : ℕ) → height φ ≤ n → height φ ≤ m → subst_upto n φ x y ≡ subst_upto m φ x y
fuel-irrelevant zero m φ x y h k = absurd (no_fuel φ h)
fuel-irrelevant (suc n) zero φ x y h k = absurd (no_fuel φ k)
fuel-irrelevant (suc n) (suc m) (truth b) x y h k = refl
fuel-irrelevant (suc n) (suc m) (rel r ts) x y h k = refl
fuel-irrelevant (suc n) (suc m) (eq z t) x y h k = refl
fuel-irrelevant (suc n) (suc m) (neg φ) x y h k = ap neg (fuel-irrelevant n m φ x y (omega arith) (omega arith))
fuel-irrelevant (suc n) (suc m) (conj φ ψ) x y h k = λ i. conj (fuel-irrelevant n m φ x y (omega arith) (omega arith) i) (fuel-irrelevant n m ψ x y (omega arith) (omega arith) i)
fuel-irrelevant (suc n) (suc m) (disj φ ψ) x y h k = λ i. disj (fuel-irrelevant n m φ x y (omega arith) (omega arith) i) (fuel-irrelevant n m ψ x y (omega arith) (omega arith) i)
fuel-irrelevant (suc n) (suc m) (exists z φ) x y h k =
    subst_exists-cong (subst_upto n) (subst_upto m) z φ x y
    (λ ψ u v l. fuel-irrelevant n m ψ u v (omega arith) (omega arith))
    (λ u v. omega (arith, height-subst m φ u v))

-- Any fuel that reaches the height gives the substitution.
pub subst-fuel : (n : ℕ) (φ : Fmla) (x y : ℕ) → height φ ≤ n → subst_upto n φ x y ≡ subst_for φ x y
unfolding subst_for
subst-fuel n φ x y h = fuel-irrelevant n (height φ) φ x y h (omega arith)

-- ---- 000's equations

pub subst-truth : (b : Bool) (x y : ℕ) → subst_for (truth b) x y ≡ truth b
unfolding subst_for
subst-truth b x y = refl

pub subst-rel : (r : ℕ) (ts : List Term) (x y : ℕ) → subst_for (rel r ts) x y ≡ rel r (map (subst_term x y) ts)
unfolding subst_for
subst-rel r ts x y = refl

pub subst-eq : (z : ℕ) (t : Term) (x y : ℕ) → subst_for (eq z t) x y ≡ eq (cond (eqb z x) y z) (subst_term x y t)
unfolding subst_for
subst-eq z t x y = refl

pub subst-neg : (φ : Fmla) (x y : ℕ) → subst_for (neg φ) x y ≡ neg (subst_for φ x y)
unfolding subst_for
subst-neg φ x y = refl

pub subst-conj : (φ ψ : Fmla) (x y : ℕ) → subst_for (conj φ ψ) x y ≡ conj (subst_for φ x y) (subst_for ψ x y)
unfolding subst_for
subst-conj φ ψ x y = λ i. conj (subst-fuel (max (height φ) (height ψ)) φ x y (omega arith) i) (subst-fuel (max (height φ) (height ψ)) ψ x y (omega arith) i)

pub subst-disj : (φ ψ : Fmla) (x y : ℕ) → subst_for (disj φ ψ) x y ≡ disj (subst_for φ x y) (subst_for ψ x y)
unfolding subst_for
subst-disj φ ψ x y = λ i. disj (subst-fuel (max (height φ) (height ψ)) φ x y (omega arith) i) (subst-fuel (max (height φ) (height ψ)) ψ x y (omega arith) i)

pub subst-at_exists : (z : ℕ) (φ : Fmla) (x y : ℕ) → subst_for (exists z φ) x y ≡ subst_exists subst_for z φ x y
unfolding subst_for
subst-at_exists z φ x y = subst_exists-cong (subst_upto (height φ)) subst_for z φ x y (λ ψ u v h. subst-fuel (height φ) ψ u v h) (λ u v. omega (arith, height-subst (height φ) φ u v))

-- ---- the graph

-- `Renaming φ x y ψ`: ψ is φ[x → y]. One constructor for each of 000's clauses, and three for an exists: z is x, z is y, neither.
pub data Renaming : Fmla → ℕ → ℕ → Fmla → Type 0 where
  on_truth : {b : Bool} {x y : ℕ} → Renaming (truth b) x y (truth b)
  on_rel : {r : ℕ} {ts : List Term} {x y : ℕ} → Renaming (rel r ts) x y (rel r (map (subst_term x y) ts))
  on_eq : {z : ℕ} {t : Term} {x y : ℕ} → Renaming (eq z t) x y (eq (cond (eqb z x) y z) (subst_term x y t))
  on_neg : {φ φ' : Fmla} {x y : ℕ} → Renaming φ x y φ' → Renaming (neg φ) x y (neg φ')
  on_conj : {φ φ' ψ ψ' : Fmla} {x y : ℕ} → Renaming φ x y φ' → Renaming ψ x y ψ' → Renaming (conj φ ψ) x y (conj φ' ψ')
  on_disj : {φ φ' ψ ψ' : Fmla} {x y : ℕ} → Renaming φ x y φ' → Renaming ψ x y ψ' → Renaming (disj φ ψ) x y (disj φ' ψ')
  on_bound : {z : ℕ} {φ : Fmla} {x y : ℕ} → x ≡ z → Renaming (exists z φ) x y (exists x φ)
  on_caught : {z : ℕ} {φ χ φ' : Fmla} {x y : ℕ} → x ≢ z → z ≡ y → Renaming φ z (fresh2 x y φ) χ → Renaming χ x y φ' → Renaming (exists z φ) x y (exists (fresh2 x y φ) φ')
  on_free : {z : ℕ} {φ φ' : Fmla} {x y : ℕ} → x ≢ z → z ≢ y → Renaming φ x y φ' → Renaming (exists z φ) x y (exists z φ')

renaming-upto : (n : ℕ) (φ : Fmla) (x y : ℕ) → height φ ≤ n → Renaming φ x y (subst_upto n φ x y)
renaming-upto zero φ x y h = absurd (no_fuel φ h)
renaming-upto (suc n) (truth b) x y h = on_truth
renaming-upto (suc n) (rel r ts) x y h = on_rel
renaming-upto (suc n) (eq z t) x y h = on_eq
renaming-upto (suc n) (neg φ) x y h = on_neg (renaming-upto n φ x y (omega arith))
renaming-upto (suc n) (conj φ ψ) x y h = on_conj (renaming-upto n φ x y (omega arith)) (renaming-upto n ψ x y (omega arith))
renaming-upto (suc n) (disj φ ψ) x y h = on_disj (renaming-upto n φ x y (omega arith)) (renaming-upto n ψ x y (omega arith))
renaming-upto (suc n) (exists z φ) x y h = go (λ ψ u v k. renaming-upto n ψ u v k)
  where
    go : ((ψ : Fmla) (u v : ℕ) → height ψ ≤ n → Renaming ψ u v (subst_upto n ψ u v)) → Renaming (exists z φ) x y (subst_exists (subst_upto n) z φ x y)
    go r = subst_exists-cases (Renaming (exists z φ) x y) (subst_upto n) z φ x y
        on_bound
        (λ p q. on_caught p q (r φ z (fresh2 x y φ) (omega arith)) (r (subst_upto n φ z (fresh2 x y φ)) x y (omega (arith, height-subst n φ z (fresh2 x y φ)))))
        (λ p q. on_free p q (r φ x y (omega arith)))

-- The substitution is in its graph.
pub renaming : (φ : Fmla) (x y : ℕ) → Renaming φ x y (subst_for φ x y)
unfolding subst_for
renaming φ x y = renaming-upto (height φ) φ x y (omega arith)

-- ---- the free variables

-- u is a member of xs with y in the place of x.
abbrev pub Replaced : ℕ → ℕ → List ℕ → ℕ → Type 0
Replaced x y xs u = (In u xs × (u ≢ x)) ⊎ (In x xs × (u ≡ y))

-- ys is xs with y in the place of x.
abbrev pub Replaces : ℕ → ℕ → List ℕ → List ℕ → Type 0
Replaces x y xs ys = (u : ℕ) → In u ys ↔ Replaced x y xs u

-- Replacement carries over to every set that has the members.
replaced-map : {x y u : ℕ} (xs ys : List ℕ) → (In u xs → In u ys) → (In x xs → In x ys) → Replaced x y xs u → Replaced x y ys u
replaced-map xs ys f g (inl p) = inl (f p.0, p.1)
replaced-map xs ys f g (inr p) = inr (g p.0, p.1)

replaces-none : {x y : ℕ} (xs : List ℕ) → ¬ In x xs → Replaces x y xs xs
replaces-none {x} {y} xs n u = (λ i. inl (i, λ e. n (subst (λ w. In w xs) e i)), back)
  where
    back : Replaced x y xs u → In u xs
    back (inl p) = p.0
    back (inr p) = absurd (n p.0)

replaces-append : {x y : ℕ} (xs xs' ys ys' : List ℕ) → Replaces x y xs xs' → Replaces x y ys ys' → Replaces x y (xs ++ ys) (xs' ++ ys')
replaces-append {x} {y} xs xs' ys ys' r s u = (λ i. ⊎_elim (λ j. left ((r u).0 j)) (λ j. right ((s u).0 j)) (in-append xs' i), back)
  where
    left : Replaced x y xs u → Replaced x y (xs ++ ys) u
    left = replaced-map xs (xs ++ ys) (in_left ys) (in_left ys)

    right : Replaced x y ys u → Replaced x y (xs ++ ys) u
    right = replaced-map ys (xs ++ ys) (in_right xs) (in_right xs)

    back : Replaced x y (xs ++ ys) u → In u (xs' ++ ys')
    back (inl p) = in-append-map xs xs' (λ i. (r u).1 (inl (i, p.1))) (λ i. (s u).1 (inl (i, p.1))) p.0
    back (inr p) = in-append-map xs xs' (λ i. (r u).1 (inr (i, p.1))) (λ i. (s u).1 (inr (i, p.1))) p.0

replaces-one : {x y z : ℕ} {b : Bool} → Reflects (x ≡ z) b → Replaces x y (z ∷ []) (cond b y z ∷ [])
replaces-one {x} {y} {z} (holds e) = λ u. (λ i. inr (here e, in_one i), back u)
  where
    back : (u : ℕ) → Replaced x y (z ∷ []) u → In u (y ∷ [])
    back u (inl p) = absurd (p.1 (in_one p.0 ∙ sym e))
    back u (inr p) = here p.1
replaces-one {x} {y} {z} (fails n) = replaces-none (z ∷ []) (λ i. n (in_one i))

replaces-remove : {x y z : ℕ} (xs ys : List ℕ) → x ≢ z → z ≢ y → Replaces x y xs ys → Replaces x y (remove z xs) (remove z ys)
replaces-remove {x} {y} {z} xs ys n m r u = (λ i. forth (from-remove ys i), back)
  where
    forth : In u ys × (u ≢ z) → Replaced x y (remove z xs) u
    forth p = replaced-map xs (remove z xs) (λ i. in_remove i p.1) (λ i. in_remove i n) ((r u).0 p.0)

    back : Replaced x y (remove z xs) u → In u (remove z ys)
    back (inl p) = let q = from-remove xs p.0 in in_remove ((r u).1 (inl (q.0, p.1))) q.1
    back (inr p) = in_remove ((r u).1 (inr ((from-remove xs p.0).0, p.1))) (λ e. m (sym e ∙ p.1))

-- A bound variable may take any name w outside xs.
replaces-bound : {z w : ℕ} (xs ys : List ℕ) → ¬ In w xs → Replaces z w xs ys → (u : ℕ) → In u (remove z xs) ↔ In u (remove w ys)
replaces-bound {z} {w} xs ys n r u = (λ i. forth (from-remove xs i), λ i. let p = from-remove ys i in back p.1 ((r u).0 p.0))
  where
    forth : In u xs × (u ≢ z) → In u (remove w ys)
    forth p = in_remove ((r u).1 (inl p)) (λ e. n (subst (λ v. In v xs) e p.0))

    back : u ≢ w → Replaced z w xs u → In u (remove z xs)
    back m (inl p) = in_remove p.0 p.1
    back m (inr p) = absurd (m p.1)

replaces-same : {x y : ℕ} (xs zs ys : List ℕ) → ((u : ℕ) → In u xs ↔ In u zs) → Replaces x y zs ys → Replaces x y xs ys
replaces-same {x} xs zs ys s r u = (λ i. replaced-map zs xs (s u).1 (s x).1 ((r u).0 i), λ p. (r u).1 (replaced-map xs zs (s u).0 (s x).0 p))

replaces-term : (x y : ℕ) (t : Term) → Replaces x y (fv_term t) (fv_term (subst_term x y t))
replaces-term x y (var z) = replaces-one (reflects-eqb x z)
replaces-term x y (con p) = replaces-none [] in-nil

replaces-terms : (x y : ℕ) (ts : List Term) → Replaces x y (fv_terms ts) (fv_terms (map (subst_term x y) ts))
replaces-terms x y [] = replaces-none [] in-nil
replaces-terms x y (t ∷ ts) = replaces-append (fv_term t) (fv_term (subst_term x y t)) (fv_terms ts) (fv_terms (map (subst_term x y) ts)) (replaces-term x y t) (replaces-terms x y ts)

-- 000: fresh2, its three parts.
pub fresh2-not-first : (x y : ℕ) (φ : Fmla) → x ≢ fresh2 x y φ
fresh2-not-first x y φ e = fresh-out (x ∷ y ∷ fv φ) (here (sym e))

pub fresh2-not-second : (x y : ℕ) (φ : Fmla) → y ≢ fresh2 x y φ
fresh2-not-second x y φ e = fresh-out (x ∷ y ∷ fv φ) (there (here (sym e)))

pub fresh2-not-free : (x y : ℕ) (φ : Fmla) → ¬ In (fresh2 x y φ) (fv φ)
fresh2-not-free x y φ i = fresh-out (x ∷ y ∷ fv φ) (there (there i))

pub renaming-fv : {φ ψ : Fmla} {x y : ℕ} → Renaming φ x y ψ → Replaces x y (fv φ) (fv ψ)
renaming-fv on_truth = replaces-none [] in-nil
renaming-fv (on_rel {ts = ts} {x = x} {y = y}) = replaces-terms x y ts
renaming-fv (on_eq {z} {t} {x} {y}) = replaces-append (z ∷ []) (cond (eqb z x) y z ∷ []) (fv_term t) (fv_term (subst_term x y t)) (replaces-one (reflects-map sym sym (reflects-eqb z x))) (replaces-term x y t)
renaming-fv (on_neg r) = renaming-fv r
renaming-fv (on_conj {φ} {φ'} {ψ} {ψ'} r s) = replaces-append (fv φ) (fv φ') (fv ψ) (fv ψ') (renaming-fv r) (renaming-fv s)
renaming-fv (on_disj {φ} {φ'} {ψ} {ψ'} r s) = replaces-append (fv φ) (fv φ') (fv ψ) (fv ψ') (renaming-fv r) (renaming-fv s)
renaming-fv (on_bound {z} {φ} {x} {y} e) = subst (λ w. Replaces x y (remove w (fv φ)) (remove x (fv φ))) e (replaces-none (remove x (fv φ)) (λ i. (from-remove (fv φ) i).1 refl))
renaming-fv (on_caught {z} {φ} {χ} {φ'} {x} {y} n e r s) =
    replaces-same (remove z (fv φ)) (remove (fresh2 x y φ) (fv χ)) (remove (fresh2 x y φ) (fv φ'))
    (replaces-bound (fv φ) (fv χ) (fresh2-not-free x y φ) (renaming-fv r))
    (replaces-remove (fv χ) (fv φ') (fresh2-not-first x y φ) (Ne-symm (fresh2-not-second x y φ)) (renaming-fv s))
renaming-fv (on_free {z} {φ} {φ'} n m r) = replaces-remove (fv φ) (fv φ') n m (renaming-fv r)

-- 000: fv_subst, in both directions.
pub fv-subst : (φ : Fmla) (x y u : ℕ) → In u (fv (subst_for φ x y)) → (In u (fv φ) × (u ≢ x)) ⊎ (In x (fv φ) × (u ≡ y))
fv-subst φ x y u = (renaming-fv (renaming φ x y) u).0

pub in-fv-subst : (φ : Fmla) (x y u : ℕ) → (In u (fv φ) × (u ≢ x)) ⊎ (In x (fv φ) × (u ≡ y)) → In u (fv (subst_for φ x y))
in-fv-subst φ x y u = (renaming-fv (renaming φ x y) u).1

-- ---- satisfaction

-- A second value at one variable hides the first.
bind-hides : {x z : ℕ} (v w : ℕ) (σ : Env) → x ≡ z → (u : ℕ) → bind x v σ u ≡ bind z v (bind x w σ) u
bind-hides {x} {z} v w σ e u = go (reflects-eqb u x) (reflects-eqb u z)
  where
    go : {b c : Bool} → Reflects (u ≡ x) b → Reflects (u ≡ z) c → cond b v (σ u) ≡ cond c v (cond b w (σ u))
    go (holds p) (holds q) = refl
    go (holds p) (fails m) = absurd (m (p ∙ e))
    go (fails n) (holds q) = absurd (n (q ∙ sym e))
    go (fails n) (fails m) = refl

-- Values at two variables may be given in either order.
bind-swap : {x y z : ℕ} (v : ℕ) (σ : Env) → x ≢ z → z ≢ y → (u : ℕ) → bind x (bind z v σ y) (bind z v σ) u ≡ bind z v (bind x (σ y) σ) u
bind-swap {x} {y} {z} v σ n m u = go (reflects-eqb u x) (reflects-eqb u z)
  where
    go : {b c : Bool} → Reflects (u ≡ x) b → Reflects (u ≡ z) c → cond b (bind z v σ y) (cond c v (σ u)) ≡ cond c v (cond b (σ y) (σ u))
    go (holds p) (holds q) = absurd (n (sym p ∙ q))
    go (holds p) (fails k) = bind-other z v σ y (Ne-symm m)
    go (fails k) (holds q) = refl
    go (fails k) (fails l) = refl

-- A value that reaches z by way of w is z's value, off w.
bind-through : {u w : ℕ} (z v : ℕ) (σ : Env) → u ≢ w → bind z (bind w v σ w) (bind w v σ) u ≡ bind z v σ u
bind-through {u} {w} z v σ n = go (reflects-eqb u z)
  where
    go : {b : Bool} → Reflects (u ≡ z) b → cond b (bind w v σ w) (bind w v σ u) ≡ cond b v (σ u)
    go (holds e) = bind-same w v σ w refl
    go (fails m) = bind-other w v σ u n

-- The value of a variable after the substitution, whichever way round the two tests compare.
value-var : {x z : ℕ} {b c : Bool} (y : ℕ) (σ : Env) → Reflects (x ≡ z) b → Reflects (z ≡ x) c → σ (cond b y z) ≡ cond c (σ y) (σ z)
value-var y σ (holds e) (holds f) = refl
value-var y σ (holds e) (fails n) = absurd (n (sym e))
value-var y σ (fails n) (holds f) = absurd (n (sym f))
value-var y σ (fails n) (fails m) = refl

-- 000: eval_subst.
pub value-subst : (pool : Pool) (σ : Env) (x y : ℕ) (t : Term) → value pool σ (subst_term x y t) ≡ value pool (bind x (σ y) σ) t
value-subst pool σ x y (var z) = value-var y σ (reflects-eqb x z) (reflects-eqb z x)
value-subst pool σ x y (con p) = refl

pub values-subst : (pool : Pool) (σ : Env) (x y : ℕ) (ts : List Term) → values pool σ (map (subst_term x y) ts) ≡ values pool (bind x (σ y) σ) ts
values-subst pool σ x y [] = refl
values-subst pool σ x y (t ∷ ts) = λ i. value-subst pool σ x y t i ∷ values-subst pool σ x y ts i

module _ (pool : Pool) (D : Database) where
  -- ψ holds where φ holds with y's value at x.
  abbrev Means : Fmla → ℕ → ℕ → Fmla → Type 0
  Means φ x y ψ = (σ : Env) → Sat pool D ψ σ ↔ Sat pool D φ (bind x (σ y) σ)

  means-bound : (z : ℕ) (φ : Fmla) (x y : ℕ) → x ≡ z → Means (exists z φ) x y (exists x φ)
  means-bound z φ x y e σ = iff_some (λ v. sat-agree pool D φ (bind x v σ) (bind z v (bind x (σ y) σ)) (λ u i. bind-hides v (σ y) σ e u))

  means-free : (z : ℕ) (φ ψ : Fmla) (x y : ℕ) → x ≢ z → z ≢ y → Means φ x y ψ → Means (exists z φ) x y (exists z ψ)
  means-free z φ ψ x y n m r σ = iff_some (λ v. Iff.trans (r (bind z v σ)) (sat-agree pool D φ (bind x (bind z v σ y) (bind z v σ)) (bind z v (bind x (σ y) σ)) (λ u i. bind-swap v σ n m u)))

  -- A bound variable may take any name w that is not free below it.
  means-renamed : (z w : ℕ) (φ χ : Fmla) → ¬ In w (fv φ) → Means φ z w χ → (σ : Env) → Sat pool D (exists w χ) σ ↔ Sat pool D (exists z φ) σ
  means-renamed z w φ χ n r σ = iff_some (λ v. Iff.trans (r (bind w v σ)) (sat-agree pool D φ (bind z (bind w v σ w) (bind w v σ)) (bind z v σ) (λ u i. bind-through z v σ (λ e. n (subst (λ k. In k (fv φ)) e i)))))

  pub renaming-sat : {φ ψ : Fmla} {x y : ℕ} → Renaming φ x y ψ → (σ : Env) → Sat pool D ψ σ ↔ Sat pool D φ (bind x (σ y) σ)
  renaming-sat on_truth σ = Iff.rfl
  renaming-sat (on_rel {r} {ts} {x} {y}) σ = iff-path (λ vs. In (fact r vs) D) (values-subst pool σ x y ts)
  renaming-sat (on_eq {z} {t} {x} {y}) σ = iff-eq (value-var y σ (reflects-map sym sym (reflects-eqb z x)) (reflects-eqb z x)) (value-subst pool σ x y t)
  renaming-sat (on_neg r) σ = Iff.not (renaming-sat r σ)
  renaming-sat (on_conj r s) σ = Iff.and (renaming-sat r σ) (renaming-sat s σ)
  renaming-sat (on_disj r s) σ = iff-either (renaming-sat r σ) (renaming-sat s σ)
  renaming-sat (on_bound {z} {φ} {x} {y} e) σ = means-bound z φ x y e σ
  renaming-sat (on_caught {z} {φ} {χ} {φ'} {x} {y} n e r s) σ =
      Iff.trans
      (means-free (fresh2 x y φ) χ φ' x y (fresh2-not-first x y φ) (Ne-symm (fresh2-not-second x y φ)) (λ τ. renaming-sat s τ) σ)
      (means-renamed z (fresh2 x y φ) φ χ (fresh2-not-free x y φ) (λ τ. renaming-sat r τ) (bind x (σ y) σ))
  renaming-sat (on_free {z} {φ} {φ'} {x} {y} n m r) σ = means-free z φ φ' x y n m (λ τ. renaming-sat r τ) σ

  -- 000: sat_subst.
  pub subst-sat : (φ : Fmla) (x y : ℕ) (σ : Env) → Sat pool D (subst_for φ x y) σ ↔ Sat pool D φ (bind x (σ y) σ)
  subst-sat φ x y = renaming-sat (renaming φ x y)
