-- What the theorems on the generation order are stated with: the sets that the rules allow and the leaves that the order names side by side, and where a leaf's value
-- comes from.
-- No contract cites it. Definitions only; the laws are in Generators/Laws.antt.
use Rattle.std.specs.Prelude.{ℕ, ◌+◌, ◌≡◌, ◌≢◌, false, List, [], ◌∷◌, ◌++◌, map}
use Rattle.std.proofs.Math.Option.{none, some}
use Rattle.calculus.specs.Sets.{In}
use Rattle.calculus.specs.Formula.{var, con, Fmla, truth, rel, eq, neg, conj, disj, exists, fv, size, node, nodes}
use Rattle.calculus.specs.Satisfaction.{Pool, Database, constant, InRecord}
use Rattle.calculus.specs.Propagation.{exists_if_free, cp}
use Rattle.calculus.specs.Substitution.{subst_for}
use Rattle.calculus.specs.Generation.{Ap}
use Rattle.calculus.specs.Ranging.{Equates, Ranged}
use Rattle.calculus.specs.Generators.{Leaves}

-- The sets of generators and document 01's leaves side by side: "x is generated in φ, whose nodes are numbered from n, by the set G, from the leaf
-- nodes L". Each rule is one of `RangedBy` (at-neg-disj-.. and at_neg_conj: two in a row); substitution and quantifiers change G and leave L alone.
-- Without L it is `RangedBy`: laws ranged-at-ranged and ranged_ranged_at.
pub data RangedAt : ℕ → Fmla → ℕ → List Fmla → List ℕ → Type 0 where
  at_false : {x n : ℕ} → RangedAt x (truth false) n [] []
  at_atom : {x n : ℕ} {φ : Fmla} → Ap φ → In x (fv φ) → RangedAt x φ n (φ ∷ []) (n ∷ [])
  at_neg_neg : {x n : ℕ} {φ : Fmla} {G : List Fmla} {L : List ℕ} → RangedAt x φ n G L → RangedAt x (neg (neg φ)) n G L
  at_neg_disj_left : {x n : ℕ} {φ ψ : Fmla} {G : List Fmla} {L : List ℕ} → RangedAt x (neg φ) n G L → RangedAt x (neg (disj φ ψ)) n G L
  at_neg_disj_right : {x n : ℕ} {φ ψ : Fmla} {G : List Fmla} {L : List ℕ} → RangedAt x (neg ψ) (n + size φ) G L → RangedAt x (neg (disj φ ψ)) n G L
  at_neg_conj : {x n : ℕ} {φ ψ : Fmla} {G H : List Fmla} {L M : List ℕ} → RangedAt x (neg φ) n G L → RangedAt x (neg ψ) (n + size φ) H M → RangedAt x (neg (conj φ ψ)) n (G ++ H) (L ++ M)
  at_disj : {x n : ℕ} {φ ψ : Fmla} {G H : List Fmla} {L M : List ℕ} → RangedAt x φ n G L → RangedAt x ψ (n + size φ) H M → RangedAt x (disj φ ψ) n (G ++ H) (L ++ M)
  at_conj_left : {x n : ℕ} {φ ψ : Fmla} {G : List Fmla} {L : List ℕ} → RangedAt x φ n G L → RangedAt x (conj φ ψ) n G L
  at_conj_right : {x n : ℕ} {φ ψ : Fmla} {G : List Fmla} {L : List ℕ} → RangedAt x ψ (n + size φ) G L → RangedAt x (conj φ ψ) n G L
  at_conj_eq : {x y n : ℕ} {φ : Fmla} {G : List Fmla} {L : List ℕ} → RangedAt y φ n G L → RangedAt x (conj φ (eq x (var y))) n (map (λ χ. cp (subst_for χ y x)) G) L
  at_conj_eq' : {x y n : ℕ} {φ : Fmla} {G : List Fmla} {L : List ℕ} → RangedAt y φ n G L → RangedAt x (conj φ (eq y (var x))) n (map (λ χ. cp (subst_for χ y x)) G) L
  at_exists : {x y n : ℕ} {φ : Fmla} {G : List Fmla} {L : List ℕ} → x ≢ y → RangedAt x φ n G L → RangedAt x (exists y φ) n (map (exists_if_free y) G) L
  at_eq_conj : {x y n : ℕ} {φ ψ : Fmla} {G : List Fmla} {L : List ℕ} → x ≢ y → Equates φ x y → RangedAt y ψ (n + size φ) G L → RangedAt x (conj φ ψ) n (map (λ χ. cp (subst_for χ y x)) G) L

-- Some leaves go with the set G.
abbrev pub HasLeaves : ℕ → Fmla → ℕ → List Fmla → Type 0
HasLeaves x φ n G = (L : List ℕ) × RangedAt x φ n G L

-- The right answers to "is x generated in φ": the leaves beside a set that the rules allow, or "none" where they allow no set.
pub data LeavesRight (x : ℕ) (φ : Fmla) (n : ℕ) : Leaves → Type 0 where
  generated_by : {L : List ℕ} (G : List Fmla) → RangedAt x φ n G L → LeavesRight x φ n (some L)
  not_generated : ¬ Ranged x φ → LeavesRight x φ n none

-- v has its value from the leaf: it is in a record of the leaf's relation, or is the leaf's constant.
abbrev pub Source : Pool → Database → Fmla → ℕ → Type 0
Source pool D (truth b) v = ⊥
Source pool D (rel r ts) v = InRecord D r v
Source pool D (eq x (var y)) v = ⊥
Source pool D (eq x (con p)) v = v ≡ constant pool p
Source pool D (neg φ) v = ⊥
Source pool D (conj φ ψ) v = ⊥
Source pool D (disj φ ψ) v = ⊥
Source pool D (exists z φ) v = ⊥

-- The node p of φ, whose nodes are numbered from n, holds a formula with the property P.
abbrev pub AtNode : (Fmla → Type 0) → Fmla → ℕ → ℕ → Type 0
AtNode P φ n p = (χ : Fmla) × In (node p χ) (nodes φ n) × P χ

-- v has its value from one of the nodes L of φ.
abbrev pub SourceAmong : Pool → Database → Fmla → ℕ → List ℕ → ℕ → Type 0
SourceAmong pool D φ n L v = (p : ℕ) × In p L × AtNode (λ χ. Source pool D χ v) φ n p
