-- Generated variables in document 02's sense, Point 3, "Equality on either side": 000's rules (Generation.antt) plus one. Definitions only; the laws are in
-- Ranging/Laws.antt. 000's own relation stays as it is; the laws of Generation show that this one contains it, and what it adds.
use Rattle.std.specs.Prelude.{ℕ, ◌≡◌, ◌⊎◌, ◌≢◌, false, List, [], ◌∷◌, ◌++◌, map}
use Rattle.calculus.specs.Sets.{In}
use Rattle.calculus.specs.Formula.{var, Fmla, truth, rel, eq, neg, conj, disj, exists, fv}
use Rattle.calculus.specs.Propagation.{exists_if_free, cp}
use Rattle.calculus.specs.Substitution.{subst_for}
use Rattle.calculus.specs.Generation.{Ap}

-- φ is an equality of the variables x and y, whichever stands first.
abbrev pub Equates : Fmla → ℕ → ℕ → Type 0
Equates φ x y = (φ ≡ eq x (var y)) ⊎ (φ ≡ eq y (var x))

-- x is range-restricted in φ by the formulas of G: "generated", in document 02's sense. All rules but the last are those of `GenBy`, in its order; it has 000's
-- words beside them.
pub data RangedBy : ℕ → Fmla → List Fmla → Type 0 where
  ranged_false : {x : ℕ} → RangedBy x (truth false) []
  ranged_atom : {x : ℕ} {φ : Fmla} → Ap φ → In x (fv φ) → RangedBy x φ (φ ∷ [])
  ranged_neg_neg : {x : ℕ} {φ : Fmla} {G : List Fmla} → RangedBy x φ G → RangedBy x (neg (neg φ)) G
  ranged_neg_disj : {x : ℕ} {φ ψ : Fmla} {G : List Fmla} → RangedBy x (conj (neg φ) (neg ψ)) G → RangedBy x (neg (disj φ ψ)) G
  ranged_neg_conj : {x : ℕ} {φ ψ : Fmla} {G : List Fmla} → RangedBy x (disj (neg φ) (neg ψ)) G → RangedBy x (neg (conj φ ψ)) G
  ranged_disj : {x : ℕ} {φ ψ : Fmla} {G H : List Fmla} → RangedBy x φ G → RangedBy x ψ H → RangedBy x (disj φ ψ) (G ++ H)
  ranged_conj_left : {x : ℕ} {φ ψ : Fmla} {G : List Fmla} → RangedBy x φ G → RangedBy x (conj φ ψ) G
  ranged_conj_right : {x : ℕ} {φ ψ : Fmla} {G : List Fmla} → RangedBy x ψ G → RangedBy x (conj φ ψ) G
  ranged_conj_eq : {x y : ℕ} {φ : Fmla} {G : List Fmla} → RangedBy y φ G → RangedBy x (conj φ (eq x (var y))) (map (λ χ. cp (subst_for χ y x)) G)
  ranged_conj_eq' : {x y : ℕ} {φ : Fmla} {G : List Fmla} → RangedBy y φ G → RangedBy x (conj φ (eq y (var x))) (map (λ χ. cp (subst_for χ y x)) G)
  ranged_exists : {x y : ℕ} {φ : Fmla} {G : List Fmla} → x ≢ y → RangedBy x φ G → RangedBy x (exists y φ) (map (exists_if_free y) G)
  -- Document 02: "a plain and whose left child equates the variable with another generates it as the right child generates that other". The set is made of
  -- the right child's as 000 makes it of the left child's where the equality is on the right.
  ranged_eq_conj : {x y : ℕ} {φ ψ : Fmla} {G : List Fmla} → x ≢ y → Equates φ x y → RangedBy y ψ G → RangedBy x (conj φ ψ) (map (λ χ. cp (subst_for χ y x)) G)

-- x is generated in φ by some G, in document 02's sense.
abbrev pub Ranged : ℕ → Fmla → Type 0
Ranged x φ = (G : List Fmla) × RangedBy x φ G

-- No and of φ has an equality of two different variables as its left child: there the last rule has no use, and a verdict is as it was before document 02.
abbrev pub NoneOnLeft : Fmla → Type 0
NoneOnLeft (truth b) = Unit {0}
NoneOnLeft (rel r ts) = Unit {0}
NoneOnLeft (eq x t) = Unit {0}
NoneOnLeft (neg φ) = NoneOnLeft φ
NoneOnLeft (conj φ ψ) = ((x y : ℕ) → x ≢ y → ¬ Equates φ x y) × NoneOnLeft φ × NoneOnLeft ψ
NoneOnLeft (disj φ ψ) = NoneOnLeft φ × NoneOnLeft ψ
NoneOnLeft (exists z φ) = NoneOnLeft φ
