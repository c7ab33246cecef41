-- Generated variables: 000, 2.6. Definitions only; the laws are in Generation/Laws.antt.
use Rattle.std.specs.Prelude.{ℕ, ◌≢◌, false, List, [], ◌∷◌, ◌++◌, map}
use Rattle.calculus.specs.Sets.{In}
use Rattle.calculus.specs.Formula.{Term, var, con, Fmla, truth, rel, eq, neg, conj, disj, exists, fv}
use Rattle.calculus.specs.Propagation.{exists_if_free, cp}
use Rattle.calculus.specs.Substitution.{subst_for}

-- 000: ap, the atoms that generate: a record, and a variable that equals a constant.
pub data Ap : Fmla → Type 0 where
  ap_rel : {r : ℕ} {ts : List Term} → Ap (rel r ts)
  ap_eq : {x p : ℕ} → Ap (eq x (con p))

-- 000: gen x Q G, x is generated in Q by the formulas of G; above each rule is 000's. 000's rule for a conjunction, "in Q1 or in Q2", is two rules here.
-- 000's G is a set, and here a list: {} is [], {Q} is Q ∷ [], union is `◌++◌`, the image under a function is `map`. A list stands for the set of its members,
-- and what follows from a list (a satisfied formula satisfies a member, a variable is generated) doesn't ask for order or repeats.
pub data GenBy : ℕ → Fmla → List Fmla → Type 0 where
  -- gen x (Bool False) {}
  gen_false : {x : ℕ} → GenBy x (truth false) []
  -- ap Q ==> x ∈ fv Q ==> gen x Q {Q}
  gen_atom : {x : ℕ} {φ : Fmla} → Ap φ → In x (fv φ) → GenBy x φ (φ ∷ [])
  -- gen x Q G ==> gen x (Neg (Neg Q)) G
  gen_neg_neg : {x : ℕ} {φ : Fmla} {G : List Fmla} → GenBy x φ G → GenBy x (neg (neg φ)) G
  -- gen x (Conj (Neg Q1) (Neg Q2)) G ==> gen x (Neg (Disj Q1 Q2)) G
  gen_neg_disj : {x : ℕ} {φ ψ : Fmla} {G : List Fmla} → GenBy x (conj (neg φ) (neg ψ)) G → GenBy x (neg (disj φ ψ)) G
  -- gen x (Disj (Neg Q1) (Neg Q2)) G ==> gen x (Neg (Conj Q1 Q2)) G
  gen_neg_conj : {x : ℕ} {φ ψ : Fmla} {G : List Fmla} → GenBy x (disj (neg φ) (neg ψ)) G → GenBy x (neg (conj φ ψ)) G
  -- gen x Q1 G1 ==> gen x Q2 G2 ==> gen x (Disj Q1 Q2) (G1 ∪ G2)
  gen_disj : {x : ℕ} {φ ψ : Fmla} {G H : List Fmla} → GenBy x φ G → GenBy x ψ H → GenBy x (disj φ ψ) (G ++ H)
  -- gen x Q1 G ∨ gen x Q2 G ==> gen x (Conj Q1 Q2) G
  gen_conj_left : {x : ℕ} {φ ψ : Fmla} {G : List Fmla} → GenBy x φ G → GenBy x (conj φ ψ) G
  gen_conj_right : {x : ℕ} {φ ψ : Fmla} {G : List Fmla} → GenBy x ψ G → GenBy x (conj φ ψ) G
  -- gen y Q G ==> gen x (Conj Q (x ≈ y)) ((λQ. cp (Q[y → x])) ` G)
  gen_conj_eq : {x y : ℕ} {φ : Fmla} {G : List Fmla} → GenBy y φ G → GenBy x (conj φ (eq x (var y))) (map (λ χ. cp (subst_for χ y x)) G)
  -- gen y Q G ==> gen x (Conj Q (y ≈ x)) ((λQ. cp (Q[y → x])) ` G)
  gen_conj_eq' : {x y : ℕ} {φ : Fmla} {G : List Fmla} → GenBy y φ G → GenBy x (conj φ (eq y (var x))) (map (λ χ. cp (subst_for χ y x)) G)
  -- x ≠ y ==> gen x Q G ==> gen x (Exists y Q) (exists y ` G)
  gen_exists : {x y : ℕ} {φ : Fmla} {G : List Fmla} → x ≢ y → GenBy x φ G → GenBy x (exists y φ) (map (exists_if_free y) G)

-- 000: Gen x Q, x is generated in Q by some G.
abbrev pub Generated : ℕ → Fmla → Type 0
Generated x φ = (G : List Fmla) × GenBy x φ G
