-- Laws of generation in document 02's sense: what a derivation can have come from, and that a satisfied formula satisfies one of its generators (000: gen_sat).
use Rattle.std.specs.Prelude.{ℕ, ◌≡◌, refl, ◌⊎◌, ◌≢◌, true, false, List, [], ◌∷◌, ◌++◌, map}
use Rattle.std.proofs.Common.{sym, ap, subst, ◌∙◌, inl, inr, ⊎_elim}
use Rattle.std.proofs.Math.Path.{subst⁻¹}
use Rattle.calculus.specs.Sets.{Any, In, here}
use Rattle.calculus.proofs.Theory.Sets.Laws.{in_one, in_left, in_right, in_map}
use Rattle.calculus.specs.Formula.{var, con, Fmla, truth, rel, eq, neg, conj, disj, exists, fv, fv_terms}
use Rattle.calculus.specs.Satisfaction.{Pool, Database, Env, bind, Sat}
use Rattle.calculus.proofs.Theory.Satisfaction.Laws.{bind-cases, sat-cong}
use Rattle.calculus.specs.Propagation.{exists_if_free, cp}
use Rattle.calculus.proofs.Theory.Propagation.Laws.{cp-sat, exists-sat}
use Rattle.calculus.specs.Substitution.{subst_for}
use Rattle.calculus.proofs.Theory.Substitution.Laws.{subst-sat}
use Rattle.calculus.specs.Generation.{ap_rel, ap_eq}
use Rattle.calculus.specs.Ranging.{Equates, RangedBy, ranged_false, ranged_atom, ranged_neg_neg, ranged_neg_disj, ranged_neg_conj, ranged_disj, ranged_conj_left, ranged_conj_right, ranged_conj_eq, ranged_conj_eq', ranged_exists, ranged_eq_conj, Ranged}
use Rattle.calculus.proofs.Theory.Evaluation.Laws.{sat-decided}

-- ---- equalities

abbrev pub is_var_eq : Fmla → Type 0
is_var_eq (truth b) = ⊥
is_var_eq (rel r ts) = ⊥
is_var_eq (eq x (var y)) = Unit {0}
is_var_eq (eq x (con p)) = ⊥
is_var_eq (neg φ) = ⊥
is_var_eq (conj φ ψ) = ⊥
is_var_eq (disj φ ψ) = ⊥
is_var_eq (exists z φ) = ⊥

-- A formula that is no equality of variables equates nothing.
pub equates-var-eq : (ψ : Fmla) (x y : ℕ) → Equates ψ x y → is_var_eq ψ
equates-var-eq ψ x y (inl e) = subst⁻¹ is_var_eq e tt
equates-var-eq ψ x y (inr e) = subst⁻¹ is_var_eq e tt

-- ---- inversion

-- What a derivation can have come from, by the shape of φ.
abbrev pub Origin : ℕ → Fmla → List Fmla → Type 0
Origin x (truth true) G = ⊥
Origin x (truth false) G = G ≡ []
Origin x (rel r ts) G = In x (fv_terms ts) × (G ≡ rel r ts ∷ [])
Origin x (eq y (var z)) G = ⊥
Origin x (eq y (con p)) G = (x ≡ y) × (G ≡ eq y (con p) ∷ [])
Origin x (neg (truth b)) G = ⊥
Origin x (neg (rel r ts)) G = ⊥
Origin x (neg (eq y t)) G = ⊥
Origin x (neg (neg φ)) G = RangedBy x φ G
Origin x (neg (conj φ ψ)) G = RangedBy x (disj (neg φ) (neg ψ)) G
Origin x (neg (disj φ ψ)) G = RangedBy x (conj (neg φ) (neg ψ)) G
Origin x (neg (exists z φ)) G = ⊥
Origin x (conj φ ψ) G =
    RangedBy x φ G
    ⊎ (RangedBy x ψ G
    ⊎ (((y : ℕ) × Equates ψ x y × (g : Ranged y φ) × (G ≡ map (λ χ. cp (subst_for χ y x)) g.0))
    ⊎ ((y : ℕ) × (x ≢ y) × Equates φ x y × (g : Ranged y ψ) × (G ≡ map (λ χ. cp (subst_for χ y x)) g.0))))
Origin x (disj φ ψ) G = (g : Ranged x φ) × (h : Ranged x ψ) × (G ≡ g.0 ++ h.0)
Origin x (exists y φ) G = (x ≢ y) × (g : Ranged x φ) × (G ≡ map (exists_if_free y) g.0)

pub origin : {x : ℕ} {φ : Fmla} {G : List Fmla} → RangedBy x φ G → Origin x φ G
origin ranged_false = refl
origin (ranged_atom ap_rel i) = (i, refl)
origin (ranged_atom ap_eq i) = (in_one i, refl)
origin (ranged_neg_neg d) = d
origin (ranged_neg_disj d) = d
origin (ranged_neg_conj d) = d
origin (ranged_disj {G = G} {H = H} d e) = ((G, d), (H, e), refl)
origin (ranged_conj_left d) = inl d
origin (ranged_conj_right d) = inr (inl d)
origin (ranged_conj_eq {y = y} {G = G} d) = inr (inr (inl (y, inl refl, (G, d), refl)))
origin (ranged_conj_eq' {y = y} {G = G} d) = inr (inr (inl (y, inr refl, (G, d), refl)))
origin (ranged_exists {G = G} n d) = (n, (G, d), refl)
origin (ranged_eq_conj {y = y} {G = G} n q d) = inr (inr (inr (y, n, q, (G, d), refl)))

-- ---- a satisfied formula satisfies a generator

module _ (pool : Pool) (D : Database) where
  -- A denied conjunction has a denied side.
  pub sat-neg-conj : (φ ψ : Fmla) (σ : Env) → Sat pool D (neg (conj φ ψ)) σ → Sat pool D (disj (neg φ) (neg ψ)) σ
  sat-neg-conj φ ψ σ n = ⊎_elim (λ s. inr (λ t. n (s, t))) (λ m. inl m) (sat-decided pool D φ σ)

  pub sat-neg-neg : (φ : Fmla) (σ : Env) → Sat pool D (neg (neg φ)) σ → Sat pool D φ σ
  sat-neg-neg φ σ n = ⊎_elim (λ s. s) (λ m. absurd (n m)) (sat-decided pool D φ σ)

  -- Of a satisfied formula, with σ x ≡ σ y, the same with x for y is satisfied.
  moved-sat : (χ : Fmla) (x y : ℕ) (σ : Env) → σ x ≡ σ y → Sat pool D χ σ → Sat pool D (cp (subst_for χ y x)) σ
  moved-sat χ x y σ e s = (cp-sat pool D (subst_for χ y x) σ).1 ((subst-sat pool D χ y x σ).1 (sat-cong pool D χ σ (bind y (σ x) σ) same s))
    where
      same : (u : ℕ) → In u (fv χ) → σ u ≡ bind y (σ x) σ u
      same u i = bind-cases (λ v. σ u ≡ v) y (σ x) σ u (λ f. ap σ f ∙ sym e) (λ n. refl)

  -- Variables that a satisfied formula equates have one value.
  pub equates-sat : {φ : Fmla} {x y : ℕ} (σ : Env) → Equates φ x y → Sat pool D φ σ → σ x ≡ σ y
  equates-sat σ (inl e) s = subst (λ χ. Sat pool D χ σ) e s
  equates-sat σ (inr e) s = sym (subst (λ χ. Sat pool D χ σ) e s)

  image-sat : (f : Fmla → Fmla) (G : List Fmla) (σ τ : Env) → ((χ : Fmla) → Sat pool D χ σ → Sat pool D (f χ) τ) → Any (λ χ. Sat pool D χ σ) G → Any (λ χ. Sat pool D χ τ) (map f G)
  image-sat f G σ τ h s = (f s.0, in_map f s.1, h s.0 s.2)

  -- 000: gen_sat, over the wider relation.
  pub ranged-sat : {x : ℕ} {φ : Fmla} {G : List Fmla} → RangedBy x φ G → (σ : Env) → Sat pool D φ σ → Any (λ χ. Sat pool D χ σ) G
  ranged-sat ranged_false σ s = absurd s
  ranged-sat (ranged_atom {φ = φ} a i) σ s = (φ, here refl, s)
  ranged-sat (ranged_neg_neg {φ = φ} d) σ s = ranged-sat d σ (sat-neg-neg φ σ s)
  ranged-sat (ranged_neg_disj d) σ s = ranged-sat d σ (λ t. s (inl t), λ t. s (inr t))
  ranged-sat (ranged_neg_conj {φ = φ} {ψ = ψ} d) σ s = ranged-sat d σ (sat-neg-conj φ ψ σ s)
  ranged-sat (ranged_disj {G = G} {H = H} d e) σ (inl s) = let r = ranged-sat d σ s in (r.0, in_left H r.1, r.2)
  ranged-sat (ranged_disj {G = G} {H = H} d e) σ (inr s) = let r = ranged-sat e σ s in (r.0, in_right G r.1, r.2)
  ranged-sat (ranged_conj_left d) σ s = ranged-sat d σ s.0
  ranged-sat (ranged_conj_right d) σ s = ranged-sat d σ s.1
  ranged-sat (ranged_conj_eq {x} {y} {G = G} d) σ s = image-sat (λ χ. cp (subst_for χ y x)) G σ σ (λ χ. moved-sat χ x y σ s.1) (ranged-sat d σ s.0)
  ranged-sat (ranged_conj_eq' {x} {y} {G = G} d) σ s = image-sat (λ χ. cp (subst_for χ y x)) G σ σ (λ χ. moved-sat χ x y σ (sym s.1)) (ranged-sat d σ s.0)
  ranged-sat (ranged_exists {y = y} {G = G} n d) σ s = image-sat (exists_if_free y) G (bind y s.0 σ) σ (λ χ t. (exists-sat pool D y χ σ).1 (s.0, t)) (ranged-sat d (bind y s.0 σ) s.1)
  ranged-sat (ranged_eq_conj {x} {y} {G = G} n q d) σ s = image-sat (λ χ. cp (subst_for χ y x)) G σ σ (λ χ. moved-sat χ x y σ (equates-sat σ q s.0)) (ranged-sat d σ s.1)
