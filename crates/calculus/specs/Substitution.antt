-- Substitution of a variable for a variable: 000, 2.5. Definitions only; the laws are in Substitution/Laws.antt.
use Rattle.std.specs.Prelude.{ℕ, zero, suc, max, cond, ◌∷◌, map, eqb}
use Rattle.calculus.specs.Sets.{fresh}
use Rattle.calculus.specs.Formula.{Term, var, con, Fmla, truth, rel, eq, neg, conj, disj, exists, fv}

-- 000: subst_term.
abbrev pub subst_var : ℕ → ℕ → ℕ → ℕ
subst_var x y z = cond (eqb x z) y z

abbrev pub subst_term : ℕ → ℕ → Term → Term
subst_term x y (var z) = var (subst_var x y z)
subst_term x y (con p) = con p

-- 000: fresh2 x y Q, one more than the greatest of x, y and Q's free variables.
abbrev pub fresh2 : ℕ → ℕ → Fmla → ℕ
fresh2 x y φ = fresh (x ∷ y ∷ fv φ)

-- The height of a formula: it bounds how deep the renaming below goes.
abbrev pub height : Fmla → ℕ
height (truth b) = 1
height (rel r ts) = 1
height (eq x t) = 1
height (neg φ) = suc (height φ)
height (conj φ ψ) = suc (max (height φ) (height ψ))
height (disj φ ψ) = suc (max (height φ) (height ψ))
height (exists z φ) = suc (height φ)

-- 000's clause for an exists, with the substitution below it handed in:
-- (if x = z then Exists x Q else if z = y then let z' = fresh2 x y Q in Exists z' (Q[z → z'][x → y]) else Exists z (Q[x → y])).
abbrev pub subst_exists : (Fmla → ℕ → ℕ → Fmla) → ℕ → Fmla → ℕ → ℕ → Fmla
subst_exists s z φ x y =
    cond (eqb x z) (exists x φ)
    (cond (eqb z y) (exists (fresh2 x y φ) (s (s φ z (fresh2 x y φ)) x y))
    (exists z (s φ x y)))

-- The substitution, at most n deep: 000's equations, with a bound on the depth that lets them be a definition. The clause of 0 is never reached: a formula is
-- substituted into with its height as the bound, each clause below goes one less deep, and renaming a bound variable leaves the height (`subst-truth` to
-- `subst-at_exists` in the laws are 000's equations without a bound).
abbrev pub subst_upto : ℕ → Fmla → ℕ → ℕ → Fmla
subst_upto zero φ x y = φ
subst_upto (suc n) (truth b) x y = truth b
subst_upto (suc n) (rel r ts) x y = rel r (map (subst_term x y) ts)
subst_upto (suc n) (eq z t) x y = eq (cond (eqb z x) y z) (subst_term x y t)
subst_upto (suc n) (neg φ) x y = neg (subst_upto n φ x y)
subst_upto (suc n) (conj φ ψ) x y = conj (subst_upto n φ x y) (subst_upto n ψ x y)
subst_upto (suc n) (disj φ ψ) x y = disj (subst_upto n φ x y) (subst_upto n ψ x y)
subst_upto (suc n) (exists z φ) x y = subst_exists (λ ψ u v. subst_upto n ψ u v) z φ x y

-- 000: Q[x → y]. Its published equations are theorems in the laws.
unfoldable pub subst_for : Fmla → ℕ → ℕ → Fmla
subst_for φ x y = subst_upto (height φ) φ x y
