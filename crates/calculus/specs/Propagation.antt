-- Constant propagation: 000, 2.3. Definitions only; the laws are in Propagation/Laws.antt.
use Rattle.std.specs.Prelude.{ℕ, ◌≡◌, ◌⊎◌, Bool, true, false, not, cond, T, eqb}
use Rattle.calculus.specs.Sets.{In, member}
use Rattle.calculus.specs.Formula.{Term, var, con, Fmla, truth, rel, eq, neg, conj, disj, exists, fv}

-- 000: exists x Q, the exists that is dropped where its variable isn't free below it.
abbrev pub exists_if_free : ℕ → Fmla → Fmla
exists_if_free x φ = cond (member x (fv φ)) (exists x φ) φ

-- 000: is_Bool.
abbrev pub is_truth : Fmla → Bool
is_truth (truth b) = true
is_truth (rel r ts) = false
is_truth (eq x t) = false
is_truth (neg φ) = false
is_truth (conj φ ψ) = false
is_truth (disj φ ψ) = false
is_truth (exists z φ) = false

-- 000: un_Bool, asked only of a truth value.
abbrev pub truth_of : Fmla → Bool
truth_of (truth b) = b
truth_of (rel r ts) = false
truth_of (eq x t) = false
truth_of (neg φ) = false
truth_of (conj φ ψ) = false
truth_of (disj φ ψ) = false
truth_of (exists z φ) = false

-- The clauses of cp for an equality, a not, an and, an or, given the propagated children.
abbrev pub cp_eq : ℕ → Term → Fmla
cp_eq x (var y) = cond (eqb x y) (truth true) (eq x (var y))
cp_eq x (con p) = eq x (con p)

abbrev pub cp_neg : Fmla → Fmla
cp_neg φ = cond (is_truth φ) (truth (not (truth_of φ))) (neg φ)

abbrev pub cp_conj : Fmla → Fmla → Fmla
cp_conj φ ψ =
    cond (is_truth φ) (cond (truth_of φ) ψ (truth false))
    (cond (is_truth ψ) (cond (truth_of ψ) φ (truth false))
    (conj φ ψ))

abbrev pub cp_disj : Fmla → Fmla → Fmla
cp_disj φ ψ =
    cond (is_truth φ) (cond (truth_of φ) (truth true) ψ)
    (cond (is_truth ψ) (cond (truth_of ψ) (truth true) φ)
    (disj φ ψ))

-- 000: cp. Document 01's propagated form of a query.
abbrev pub cp : Fmla → Fmla
cp (truth b) = truth b
cp (rel r ts) = rel r ts
cp (eq x t) = cp_eq x t
cp (neg φ) = cp_neg (cp φ)
cp (conj φ ψ) = cp_conj (cp φ) (cp ψ)
cp (disj φ ψ) = cp_disj (cp φ) (cp ψ)
cp (exists x φ) = exists_if_free x (cp φ)

-- 000: nocp, nothing left to propagate. 000 prints "or" for a disjunction, under which its own lemma nocp_cp_triv fails at
-- 1(x) or false: read "and".
abbrev pub Nocp : Fmla → Type 0
Nocp (truth b) = ⊥
Nocp (rel r ts) = Unit {0}
Nocp (eq x t) = ¬ (t ≡ var x)
Nocp (neg φ) = Nocp φ
Nocp (conj φ ψ) = Nocp φ × Nocp ψ
Nocp (disj φ ψ) = Nocp φ × Nocp ψ
Nocp (exists x φ) = In x (fv φ) × Nocp φ

-- 000: cpropagated.
abbrev pub Propagated : Fmla → Type 0
Propagated φ = Nocp φ ⊎ T (is_truth φ)
