-- 000's gen beside document 02's: whatever 000 generates is generated, by the same set; and a set that 000 doesn't allow needs an and with an equality of
-- two different variables on its left.
use Rattle.std.specs.Prelude.{ℕ, ◌+◌, ◌≢◌, false, List, [], ◌∷◌, ◌++◌, map}
use Rattle.std.proofs.Common.{ap, ⊎_elim}
use Rattle.std.proofs.Math.Path.{subst⁻¹}
use Rattle.calculus.specs.Sets.{Any, In}
use Rattle.calculus.proofs.Theory.Sets.Laws.{in_one, in-append}
use Rattle.calculus.specs.Formula.{var, Fmla, truth, rel, eq, neg, conj, disj, exists, fv, size, node, nodes}
use Rattle.calculus.proofs.Theory.Formula.Laws.{formula_of}
use Rattle.calculus.specs.Satisfaction.{Pool, Database, Env, Sat}
use Rattle.calculus.specs.Propagation.{exists_if_free, cp}
use Rattle.calculus.specs.Substitution.{subst_for}
use Rattle.calculus.specs.Generation.{Ap, GenBy, gen_false, gen_atom, gen_neg_neg, gen_neg_disj, gen_neg_conj, gen_disj, gen_conj_left, gen_conj_right, gen_conj_eq, gen_conj_eq', gen_exists, Generated}
use Rattle.calculus.specs.Ranging.{Equates, RangedBy, ranged_false, ranged_atom, ranged_neg_neg, ranged_neg_disj, ranged_neg_conj, ranged_disj, ranged_conj_left, ranged_conj_right, ranged_conj_eq, ranged_conj_eq', ranged_exists, ranged_eq_conj, Ranged, NoneOnLeft}
use Rattle.calculus.proofs.Theory.Ranging.Laws.{equates-var-eq, ranged-sat}

-- Whatever 000 generates is generated, by the same set: at every node, plain or, as the not of it, denied.
pub gen-ranged : {x : ℕ} {φ : Fmla} {G : List Fmla} → GenBy x φ G → RangedBy x φ G
gen-ranged gen_false = ranged_false
gen-ranged (gen_atom a i) = ranged_atom a i
gen-ranged (gen_neg_neg d) = ranged_neg_neg (gen-ranged d)
gen-ranged (gen_neg_disj d) = ranged_neg_disj (gen-ranged d)
gen-ranged (gen_neg_conj d) = ranged_neg_conj (gen-ranged d)
gen-ranged (gen_disj d e) = ranged_disj (gen-ranged d) (gen-ranged e)
gen-ranged (gen_conj_left d) = ranged_conj_left (gen-ranged d)
gen-ranged (gen_conj_right d) = ranged_conj_right (gen-ranged d)
gen-ranged (gen_conj_eq d) = ranged_conj_eq (gen-ranged d)
gen-ranged (gen_conj_eq' d) = ranged_conj_eq' (gen-ranged d)
gen-ranged (gen_exists n d) = ranged_exists n (gen-ranged d)

pub generated-ranged : {x : ℕ} {φ : Fmla} → Generated x φ → Ranged x φ
generated-ranged g = (g.0, gen-ranged g.1)

-- 000: gen_sat.
pub gen-sat : (pool : Pool) (D : Database) {x : ℕ} {φ : Fmla} {G : List Fmla} → GenBy x φ G → (σ : Env) → Sat pool D φ σ → Any (λ χ. Sat pool D χ σ) G
gen-sat pool D d = ranged-sat pool D (gen-ranged d)

-- ---- each is the least relation with its rules

-- 000's rules of a relation between variables and formulas, the sets left aside.
pub record Rules (Gen : ℕ → Fmla → Type 0) : Type 0 where
  pub by_false : (x : ℕ) → Gen x (truth false)
  pub by_atom : (x : ℕ) (φ : Fmla) → Ap φ → In x (fv φ) → Gen x φ
  pub by_neg_neg : (x : ℕ) (φ : Fmla) → Gen x φ → Gen x (neg (neg φ))
  pub by_neg_disj : (x : ℕ) (φ ψ : Fmla) → Gen x (conj (neg φ) (neg ψ)) → Gen x (neg (disj φ ψ))
  pub by_neg_conj : (x : ℕ) (φ ψ : Fmla) → Gen x (disj (neg φ) (neg ψ)) → Gen x (neg (conj φ ψ))
  pub by_disj : (x : ℕ) (φ ψ : Fmla) → Gen x φ → Gen x ψ → Gen x (disj φ ψ)
  pub by_conj_left : (x : ℕ) (φ ψ : Fmla) → Gen x φ → Gen x (conj φ ψ)
  pub by_conj_right : (x : ℕ) (φ ψ : Fmla) → Gen x ψ → Gen x (conj φ ψ)
  pub by_conj_eq : (x y : ℕ) (φ : Fmla) → Gen y φ → Gen x (conj φ (eq x (var y)))
  pub by_conj_eq' : (x y : ℕ) (φ : Fmla) → Gen y φ → Gen x (conj φ (eq y (var x)))
  pub by_exists : (x y : ℕ) (φ : Fmla) → x ≢ y → Gen x φ → Gen x (exists y φ)

-- Document 02's rule of such a relation.
abbrev pub LeftRule : (ℕ → Fmla → Type 0) → Type 0
LeftRule Gen = (x y : ℕ) (φ ψ : Fmla) → x ≢ y → Equates φ x y → Gen y ψ → Gen x (conj φ ψ)

-- 000's relation has its rules, and is in every relation that has them.
pub gen-rules : Rules Generated
gen-rules =
    record {
      by_false = λ x. ([], gen_false);
      by_atom = λ x φ a i. (φ ∷ [], gen_atom a i);
      by_neg_neg = λ x φ g. (g.0, gen_neg_neg g.1);
      by_neg_disj = λ x φ ψ g. (g.0, gen_neg_disj g.1);
      by_neg_conj = λ x φ ψ g. (g.0, gen_neg_conj g.1);
      by_disj = λ x φ ψ g h. (g.0 ++ h.0, gen_disj g.1 h.1);
      by_conj_left = λ x φ ψ g. (g.0, gen_conj_left g.1);
      by_conj_right = λ x φ ψ g. (g.0, gen_conj_right g.1);
      by_conj_eq = λ x y φ g. (map (λ χ. cp (subst_for χ y x)) g.0, gen_conj_eq g.1);
      by_conj_eq' = λ x y φ g. (map (λ χ. cp (subst_for χ y x)) g.0, gen_conj_eq' g.1);
      by_exists = λ x y φ n g. (map (exists_if_free y) g.0, gen_exists n g.1);
    }

pub gen-least : (Gen : ℕ → Fmla → Type 0) → Rules Gen → {x : ℕ} {φ : Fmla} {G : List Fmla} → GenBy x φ G → Gen x φ
gen-least Gen r (gen_false {x}) = r.by_false x
gen-least Gen r (gen_atom {x} {φ} a i) = r.by_atom x φ a i
gen-least Gen r (gen_neg_neg {x} {φ} d) = r.by_neg_neg x φ (gen-least Gen r d)
gen-least Gen r (gen_neg_disj {x} {φ} {ψ} d) = r.by_neg_disj x φ ψ (gen-least Gen r d)
gen-least Gen r (gen_neg_conj {x} {φ} {ψ} d) = r.by_neg_conj x φ ψ (gen-least Gen r d)
gen-least Gen r (gen_disj {x} {φ} {ψ} d e) = r.by_disj x φ ψ (gen-least Gen r d) (gen-least Gen r e)
gen-least Gen r (gen_conj_left {x} {φ} {ψ} d) = r.by_conj_left x φ ψ (gen-least Gen r d)
gen-least Gen r (gen_conj_right {x} {φ} {ψ} d) = r.by_conj_right x φ ψ (gen-least Gen r d)
gen-least Gen r (gen_conj_eq {x} {y} {φ} d) = r.by_conj_eq x y φ (gen-least Gen r d)
gen-least Gen r (gen_conj_eq' {x} {y} {φ} d) = r.by_conj_eq' x y φ (gen-least Gen r d)
gen-least Gen r (gen_exists {x} {y} {φ} n d) = r.by_exists x y φ n (gen-least Gen r d)

-- Document 02's has these rules and its own, and is in every relation that has them.
pub ranged-rules : Rules Ranged
ranged-rules =
    record {
      by_false = λ x. ([], ranged_false);
      by_atom = λ x φ a i. (φ ∷ [], ranged_atom a i);
      by_neg_neg = λ x φ g. (g.0, ranged_neg_neg g.1);
      by_neg_disj = λ x φ ψ g. (g.0, ranged_neg_disj g.1);
      by_neg_conj = λ x φ ψ g. (g.0, ranged_neg_conj g.1);
      by_disj = λ x φ ψ g h. (g.0 ++ h.0, ranged_disj g.1 h.1);
      by_conj_left = λ x φ ψ g. (g.0, ranged_conj_left g.1);
      by_conj_right = λ x φ ψ g. (g.0, ranged_conj_right g.1);
      by_conj_eq = λ x y φ g. (map (λ χ. cp (subst_for χ y x)) g.0, ranged_conj_eq g.1);
      by_conj_eq' = λ x y φ g. (map (λ χ. cp (subst_for χ y x)) g.0, ranged_conj_eq' g.1);
      by_exists = λ x y φ n g. (map (exists_if_free y) g.0, ranged_exists n g.1);
    }

pub ranged-left : LeftRule Ranged
ranged-left x y φ ψ n q g = (map (λ χ. cp (subst_for χ y x)) g.0, ranged_eq_conj n q g.1)

pub ranged-least : (Gen : ℕ → Fmla → Type 0) → Rules Gen → LeftRule Gen → {x : ℕ} {φ : Fmla} {G : List Fmla} → RangedBy x φ G → Gen x φ
ranged-least Gen r l (ranged_false {x}) = r.by_false x
ranged-least Gen r l (ranged_atom {x} {φ} a i) = r.by_atom x φ a i
ranged-least Gen r l (ranged_neg_neg {x} {φ} d) = r.by_neg_neg x φ (ranged-least Gen r l d)
ranged-least Gen r l (ranged_neg_disj {x} {φ} {ψ} d) = r.by_neg_disj x φ ψ (ranged-least Gen r l d)
ranged-least Gen r l (ranged_neg_conj {x} {φ} {ψ} d) = r.by_neg_conj x φ ψ (ranged-least Gen r l d)
ranged-least Gen r l (ranged_disj {x} {φ} {ψ} d e) = r.by_disj x φ ψ (ranged-least Gen r l d) (ranged-least Gen r l e)
ranged-least Gen r l (ranged_conj_left {x} {φ} {ψ} d) = r.by_conj_left x φ ψ (ranged-least Gen r l d)
ranged-least Gen r l (ranged_conj_right {x} {φ} {ψ} d) = r.by_conj_right x φ ψ (ranged-least Gen r l d)
ranged-least Gen r l (ranged_conj_eq {x} {y} {φ} d) = r.by_conj_eq x y φ (ranged-least Gen r l d)
ranged-least Gen r l (ranged_conj_eq' {x} {y} {φ} d) = r.by_conj_eq' x y φ (ranged-least Gen r l d)
ranged-least Gen r l (ranged_exists {x} {y} {φ} n d) = r.by_exists x y φ n (ranged-least Gen r l d)
ranged-least Gen r l (ranged_eq_conj {x} {y} {φ} {ψ} n q d) = l x y φ ψ n q (ranged-least Gen r l d)

-- ---- what the one rule more adds

-- Where no and has an equality of two different variables on its left, the sets are those that 000 allows.
pub ranged-gen : {x : ℕ} {φ : Fmla} {G : List Fmla} → NoneOnLeft φ → RangedBy x φ G → GenBy x φ G
ranged-gen n ranged_false = gen_false
ranged-gen n (ranged_atom a i) = gen_atom a i
ranged-gen n (ranged_neg_neg d) = gen_neg_neg (ranged-gen n d)
ranged-gen n (ranged_neg_disj {φ = φ} d) = gen_neg_disj (ranged-gen (λ x y m. equates-var-eq (neg φ) x y, n.0, n.1) d)
ranged-gen n (ranged_neg_conj d) = gen_neg_conj (ranged-gen (n.1, n.2) d)
ranged-gen n (ranged_disj d e) = gen_disj (ranged-gen n.0 d) (ranged-gen n.1 e)
ranged-gen n (ranged_conj_left d) = gen_conj_left (ranged-gen n.1 d)
ranged-gen n (ranged_conj_right d) = gen_conj_right (ranged-gen n.2 d)
ranged-gen n (ranged_conj_eq d) = gen_conj_eq (ranged-gen n.1 d)
ranged-gen n (ranged_conj_eq' d) = gen_conj_eq' (ranged-gen n.1 d)
ranged-gen n (ranged_exists m d) = gen_exists m (ranged-gen n d)
ranged-gen n (ranged_eq_conj {x} {y} m q d) = absurd (n.0 x y m q)

none-root : (φ : Fmla) (n p : ℕ) (χ : Fmla) → NoneOnLeft φ → In (node p χ) (node n φ ∷ []) → NoneOnLeft χ
none-root φ n p χ m i = subst⁻¹ NoneOnLeft (ap formula_of (in_one i)) m

-- It holds of every node of such a formula.
pub none_below : (φ : Fmla) (n p : ℕ) (χ : Fmla) → NoneOnLeft φ → In (node p χ) (nodes φ n) → NoneOnLeft χ
none_below (truth b) n p χ m i = none-root (truth b) n p χ m i
none_below (rel r ts) n p χ m i = none-root (rel r ts) n p χ m i
none_below (eq x t) n p χ m i = none-root (eq x t) n p χ m i
none_below (neg φ) n p χ m i = ⊎_elim (none_below φ n p χ m) (none-root (neg φ) (n + size φ) p χ m) (in-append (nodes φ n) i)
none_below (conj φ ψ) n p χ m i =
    ⊎_elim (λ j. ⊎_elim (none_below φ n p χ m.1) (none_below ψ (n + size φ) p χ m.2) (in-append (nodes φ n) j)) (none-root (conj φ ψ) (n + (size φ + size ψ)) p χ m) (in-append (nodes φ n ++ nodes ψ (n + size φ)) i)
none_below (disj φ ψ) n p χ m i =
    ⊎_elim (λ j. ⊎_elim (none_below φ n p χ m.0) (none_below ψ (n + size φ) p χ m.1) (in-append (nodes φ n) j)) (none-root (disj φ ψ) (n + (size φ + size ψ)) p χ m) (in-append (nodes φ n ++ nodes ψ (n + size φ)) i)
none_below (exists z φ) n p χ m i = ⊎_elim (none_below φ n p χ m) (none-root (exists z φ) (n + size φ) p χ m) (in-append (nodes φ n) i)
