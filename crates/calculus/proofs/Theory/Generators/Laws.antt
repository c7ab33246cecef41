-- The generation order answers as the rules do: it finds leaves exactly where they allow some set of generators, and they are the leaves of such a set. So it
-- finds some wherever 000 allows a set. And a generated variable of a satisfied formula has its value from one of the leaves.
use Rattle.std.specs.Prelude.{ℕ, ◌+◌, ◌≡◌, refl, ◌⊎◌, ◌≢◌, Bool, true, false, cond, List, [], ◌∷◌, ◌++◌, map, length}
use Rattle.std.proofs.Common.{sym, ap, subst, ◌∙◌, inl, inr, ⊎_elim, length-append}
use Rattle.std.proofs.Math.Path.{subst⁻¹}
use Rattle.std.proofs.Math.Option.{Option, none, some}
use Rattle.std.proofs.lemmas.List.{length-map}
use Rattle.calculus.specs.Sets.{In, here, ◌⊆◌}
use Rattle.calculus.proofs.Theory.Sets.Laws.{in-nil, in_one, in_left, in_right, in-append, in_map, from-union, reflects-member}
use Rattle.calculus.specs.Reflects.{Reflects, holds, fails}
use Rattle.calculus.proofs.Theory.Reflects.Laws.{reflects-false, reflects-eqb, reflects-map, reflects-same, decided}
use Rattle.calculus.specs.Formula.{Term, var, con, Fmla, truth, rel, eq, neg, conj, disj, exists, fv, fv_term, fv_terms, size, node, nodes}
use Rattle.calculus.proofs.Theory.Formula.Laws.{formula_of, joined, left-node, right-node}
use Rattle.calculus.specs.Satisfaction.{Pool, Database, Env, bind, value, values, Sat, known}
use Rattle.calculus.proofs.Theory.Satisfaction.Laws.{bind-other, known-record, known_constant, known-conj-left, known-conj-right}
use Rattle.calculus.specs.Propagation.{exists_if_free, cp}
use Rattle.calculus.specs.Substitution.{subst_for}
use Rattle.calculus.specs.Generation.{Ap, ap_rel, ap_eq, Generated}
use Rattle.calculus.proofs.Theory.Generation.Laws.{generated-ranged}
use Rattle.calculus.specs.Ranging.{Equates, RangedBy, ranged_false, ranged_atom, ranged_neg_neg, ranged_neg_disj, ranged_neg_conj, ranged_disj, ranged_conj_left, ranged_conj_right, ranged_conj_eq, ranged_conj_eq', ranged_exists, ranged_eq_conj, Ranged}
use Rattle.calculus.proofs.Theory.Ranging.Laws.{is_var_eq, equates-var-eq, origin, sat-neg-conj, sat-neg-neg, equates-sat}
use Rattle.calculus.specs.Generators.{Leaves, leaf_where, first, both, equated, through, plain, denied, is_none}
use Rattle.calculus.specs.Sources.{RangedAt, at_false, at_atom, at_neg_neg, at_neg_disj_left, at_neg_disj_right, at_neg_conj, at_disj, at_conj_left, at_conj_right, at_conj_eq, at_conj_eq', at_exists, at_eq_conj, LeavesRight, generated_by, not_generated, AtNode, Source, SourceAmong, HasLeaves}

-- ---- without the leaves it is generation by the rules

pub ranged-at-ranged : {x n : ℕ} {φ : Fmla} {G : List Fmla} {L : List ℕ} → RangedAt x φ n G L → RangedBy x φ G
ranged-at-ranged at_false = ranged_false
ranged-at-ranged (at_atom a i) = ranged_atom a i
ranged-at-ranged (at_neg_neg d) = ranged_neg_neg (ranged-at-ranged d)
ranged-at-ranged (at_neg_disj_left d) = ranged_neg_disj (ranged_conj_left (ranged-at-ranged d))
ranged-at-ranged (at_neg_disj_right d) = ranged_neg_disj (ranged_conj_right (ranged-at-ranged d))
ranged-at-ranged (at_neg_conj d e) = ranged_neg_conj (ranged_disj (ranged-at-ranged d) (ranged-at-ranged e))
ranged-at-ranged (at_disj d e) = ranged_disj (ranged-at-ranged d) (ranged-at-ranged e)
ranged-at-ranged (at_conj_left d) = ranged_conj_left (ranged-at-ranged d)
ranged-at-ranged (at_conj_right d) = ranged_conj_right (ranged-at-ranged d)
ranged-at-ranged (at_conj_eq d) = ranged_conj_eq (ranged-at-ranged d)
ranged-at-ranged (at_conj_eq' d) = ranged_conj_eq' (ranged-at-ranged d)
ranged-at-ranged (at_exists n d) = ranged_exists n (ranged-at-ranged d)
ranged-at-ranged (at_eq_conj n q d) = ranged_eq_conj n q (ranged-at-ranged d)

-- ---- equalities

left-of : Fmla → ℕ
left-of (truth b) = 0
left-of (rel r ts) = 0
left-of (eq x t) = x
left-of (neg φ) = 0
left-of (conj φ ψ) = 0
left-of (disj φ ψ) = 0
left-of (exists z φ) = 0

right-term : Term → ℕ
right-term (var y) = y
right-term (con p) = 0

right_of : Fmla → ℕ
unfolding right-term
right_of (truth b) = 0
right_of (rel r ts) = 0
right_of (eq x t) = right-term t
right_of (neg φ) = 0
right_of (conj φ ψ) = 0
right_of (disj φ ψ) = 0
right_of (exists z φ) = 0

-- Two equal equalities of variables have equal sides.
eq-sides : {x y u v : ℕ} → eq x (var y) ≡ eq u (var v) → (x ≡ u) × (y ≡ v)
unfolding left-of right_of right-term
eq-sides e = (ap left-of e, ap right_of e)

-- Where x is equated with another, there is one other.
equates-one : {ψ : Fmla} {x y z : ℕ} → x ≢ y → Equates ψ x y → Equates ψ x z → y ≡ z
equates-one n (inl p) (inl q) = (eq-sides (sym p ∙ q)).1
equates-one n (inl p) (inr q) = absurd (n (sym (eq-sides (sym p ∙ q)).1))
equates-one n (inr p) (inl q) = absurd (n (sym (eq-sides (sym p ∙ q)).0))
equates-one n (inr p) (inr q) = (eq-sides (sym p ∙ q)).0

-- The answers of `equated`: the other variable, or none where there is none.
data EquatedView (ψ : Fmla) (x : ℕ) : Option ℕ → Type 0 where
  equates : {y : ℕ} → x ≢ y → Equates ψ x y → EquatedView ψ x (some y)
  equates_none : ((y : ℕ) → x ≢ y → ¬ Equates ψ x y) → EquatedView ψ x none

no-equality : (ψ : Fmla) (x : ℕ) → ¬ is_var_eq ψ → EquatedView ψ x none
no-equality ψ x n = equates_none (λ y m e. n (equates-var-eq ψ x y e))

equated-view : (ψ : Fmla) (x : ℕ) → EquatedView ψ x (equated ψ x)
equated-view (truth b) x = no-equality (truth b) x (λ t. t)
equated-view (rel r ts) x = no-equality (rel r ts) x (λ t. t)
equated-view (eq y (con p)) x = no-equality (eq y (con p)) x (λ t. t)
equated-view (neg φ) x = no-equality (neg φ) x (λ t. t)
equated-view (conj φ ψ) x = no-equality (conj φ ψ) x (λ t. t)
equated-view (disj φ ψ) x = no-equality (disj φ ψ) x (λ t. t)
equated-view (exists z φ) x = no-equality (exists z φ) x (λ t. t)
equated-view (eq y (var z)) x = go (reflects-eqb y z) (reflects-eqb x y) (reflects-eqb x z)
  where
    ψ : Fmla
    ψ = eq y (var z)

    sides : (u : ℕ) → Equates ψ x u → ((y ≡ x) × (z ≡ u)) ⊎ ((y ≡ u) × (z ≡ x))
    sides u (inl e) = inl (eq-sides e)
    sides u (inr e) = inr (eq-sides e)

    same : y ≡ z → (u : ℕ) → x ≢ u → ¬ Equates ψ x u
    same e u n q = ⊎_elim (λ s. n (sym s.0 ∙ e ∙ s.1)) (λ s. n (sym s.1 ∙ sym e ∙ s.0)) (sides u q)

    go : {a b c : Bool} → Reflects (y ≡ z) a → Reflects (x ≡ y) b → Reflects (x ≡ z) c → EquatedView ψ x (cond a none (cond b (some z) (cond c (some y) none)))
    go (holds e) r s = equates_none (same e)
    go (fails n) (holds e) s = equates (λ f. n (sym e ∙ f)) (inl (ap (λ u. eq u (var z)) (sym e)))
    go (fails n) (fails m) (holds e) = equates m (inr (ap (λ u. eq y (var u)) (sym e)))
    go (fails n) (fails m) (fails k) = equates_none (λ u l q. ⊎_elim (λ s. m (sym s.0)) (λ s. k (sym s.1)) (sides u q))

-- ---- every set has its leaves

-- By equality, whichever side x stands on.
at-equates : {x y n : ℕ} {φ ψ : Fmla} {G : List Fmla} {L : List ℕ} → Equates ψ x y → RangedAt y φ n G L → RangedAt x (conj φ ψ) n (map (λ χ. cp (subst_for χ y x)) G) L
at-equates {x} {y} {n} {φ} {ψ} {G} {L} (inl e) d = subst⁻¹ (λ u. RangedAt x (conj φ u) n (map (λ χ. cp (subst_for χ y x)) G) L) e (at_conj_eq d)
at-equates {x} {y} {n} {φ} {ψ} {G} {L} (inr e) d = subst⁻¹ (λ u. RangedAt x (conj φ u) n (map (λ χ. cp (subst_for χ y x)) G) L) e (at_conj_eq' d)

mutual
  pub ranged_ranged_at : (φ : Fmla) (n x : ℕ) (G : List Fmla) → RangedBy x φ G → HasLeaves x φ n G
  ranged_ranged_at (truth true) n x G d = absurd (origin d)
  ranged_ranged_at (truth false) n x G d = subst⁻¹ (HasLeaves x (truth false) n) (origin d) ([], at_false)
  ranged_ranged_at (rel r ts) n x G d = subst⁻¹ (HasLeaves x (rel r ts) n) (origin d).1 (n ∷ [], at_atom ap_rel (origin d).0)
  ranged_ranged_at (eq y (var z)) n x G d = absurd (origin d)
  ranged_ranged_at (eq y (con p)) n x G d = subst⁻¹ (HasLeaves x (eq y (con p)) n) (origin d).1 (n ∷ [], at_atom ap_eq (here (origin d).0))
  ranged_ranged_at (neg φ) n x G d = ranged_ranged_at_neg φ n x G d
  ranged_ranged_at (conj φ ψ) n x G d =
      ⊎_elim (λ e. let r = ranged_ranged_at φ n x G e in (r.0, at_conj_left r.1))
      (⊎_elim (λ e. let r = ranged_ranged_at ψ (n + size φ) x G e in (r.0, at_conj_right r.1))
      (⊎_elim (λ t. let r = ranged_ranged_at φ n t.0 t.2.0 t.2.1 in subst⁻¹ (HasLeaves x (conj φ ψ) n) t.3 (r.0, at-equates t.1 r.1))
      (λ t. let r = ranged_ranged_at ψ (n + size φ) t.0 t.3.0 t.3.1 in subst⁻¹ (HasLeaves x (conj φ ψ) n) t.4 (r.0, at_eq_conj t.1 t.2 r.1))))
      (origin d)
  ranged_ranged_at (disj φ ψ) n x G d =
      let o = origin d in
      let l = ranged_ranged_at φ n x o.0.0 o.0.1 in
      let r = ranged_ranged_at ψ (n + size φ) x o.1.0 o.1.1 in
      subst⁻¹ (HasLeaves x (disj φ ψ) n) o.2 (l.0 ++ r.0, at_disj l.1 r.1)
  ranged_ranged_at (exists z φ) n x G d =
      let o = origin d in
      let r = ranged_ranged_at φ n x o.1.0 o.1.1 in
      subst⁻¹ (HasLeaves x (exists z φ) n) o.2 (r.0, at_exists o.0 r.1)

  pub ranged_ranged_at_neg : (φ : Fmla) (n x : ℕ) (G : List Fmla) → RangedBy x (neg φ) G → HasLeaves x (neg φ) n G
  ranged_ranged_at_neg (truth b) n x G d = absurd (origin d)
  ranged_ranged_at_neg (rel r ts) n x G d = absurd (origin d)
  ranged_ranged_at_neg (eq y t) n x G d = absurd (origin d)
  ranged_ranged_at_neg (neg φ) n x G d = let r = ranged_ranged_at φ n x G (origin d) in (r.0, at_neg_neg r.1)
  ranged_ranged_at_neg (conj φ ψ) n x G d =
      let o = origin (origin d) in
      let l = ranged_ranged_at_neg φ n x o.0.0 o.0.1 in
      let r = ranged_ranged_at_neg ψ (n + size φ) x o.1.0 o.1.1 in
      subst⁻¹ (HasLeaves x (neg (conj φ ψ)) n) o.2 (l.0 ++ r.0, at_neg_conj l.1 r.1)
  ranged_ranged_at_neg (disj φ ψ) n x G d =
      ⊎_elim (λ e. let r = ranged_ranged_at_neg φ n x G e in (r.0, at_neg_disj_left r.1))
      (⊎_elim (λ e. let r = ranged_ranged_at_neg ψ (n + size φ) x G e in (r.0, at_neg_disj_right r.1))
      (⊎_elim (λ t. absurd (equates-var-eq (neg ψ) x t.0 t.1)) (λ t. absurd (equates-var-eq (neg φ) x t.0 t.2))))
      (origin (origin d))
  ranged_ranged_at_neg (exists z φ) n x G d = absurd (origin d)

-- ---- the order's answers are right

leaf-right : {x n : ℕ} {φ : Fmla} {b : Bool} → Ap φ → (Ranged x φ → In x (fv φ)) → Reflects (In x (fv φ)) b → LeavesRight x φ n (leaf_where b n)
leaf-right {φ = φ} a f (holds i) = generated_by (φ ∷ []) (at_atom a i)
leaf-right a f (fails m) = not_generated (λ g. m (f g))

-- The answers by an equality φ, as ψ, numbered from n, generates the other variable; for an x that ψ doesn't generate itself.
data Through (φ ψ : Fmla) (n x : ℕ) : Leaves → Type 0 where
  reached : {y : ℕ} {G : List Fmla} {L : List ℕ} → x ≢ y → Equates φ x y → RangedAt y ψ n G L → Through φ ψ n x (some L)
  not_reached : ((y : ℕ) → Equates φ x y → ¬ Ranged y ψ) → Through φ ψ n x none

through-view : {x n : ℕ} {φ ψ : Fmla} {o : Option ℕ} (f : ℕ → Leaves) → EquatedView φ x o → ((y : ℕ) → LeavesRight y ψ n (f y)) → ¬ Ranged x ψ → Through φ ψ n x (through o f)
through-view {x} {n} {φ} {ψ} f (equates {y} m q) a p = go (a y)
  where
    go : {l : Leaves} → LeavesRight y ψ n l → Through φ ψ n x l
    go (generated_by G d) = reached m q d
    go (not_generated k) = not_reached (λ z r g. k (subst⁻¹ (λ u. Ranged u ψ) (equates-one m q r) g))
through-view {x} {n} {φ} {ψ} f (equates_none m) a p = not_reached other
  where
    other : (y : ℕ) → Equates φ x y → ¬ Ranged y ψ
    other y q g = ⊎_elim (λ e. p (subst⁻¹ (λ u. Ranged u ψ) e g)) (λ k. m y k q) (decided (reflects-eqb x y))

conj-right : {x n : ℕ} {φ ψ : Fmla} {a b c d : Leaves} → LeavesRight x φ n a → LeavesRight x ψ (n + size φ) b → (¬ Ranged x φ → Through ψ φ n x c) → (¬ Ranged x ψ → Through φ ψ (n + size φ) x d) → LeavesRight x (conj φ ψ) n (first a (first b (first c d)))
conj-right (generated_by G d) r k l = generated_by G (at_conj_left d)
conj-right (not_generated p) (generated_by G d) k l = generated_by G (at_conj_right d)
conj-right {x} {n} {φ} {ψ} (not_generated p) (not_generated q) k l = go (k p) (l q)
  where
    go : {c d : Leaves} → Through ψ φ n x c → Through φ ψ (n + size φ) x d → LeavesRight x (conj φ ψ) n (first c d)
    go (reached {y} {G} m e r) u = generated_by (map (λ χ. cp (subst_for χ y x)) G) (at-equates e r)
    go (not_reached t) (reached {y} {G} m e r) = generated_by (map (λ χ. cp (subst_for χ y x)) G) (at_eq_conj m e r)
    go (not_reached t) (not_reached u) =
        not_generated (λ g. ⊎_elim (λ d. p (g.0, d)) (⊎_elim (λ d. q (g.0, d)) (⊎_elim (λ o. t o.0 o.1 o.2) (λ o. u o.0 o.2 o.3))) (origin g.1))

disj-right : {x n : ℕ} {φ ψ : Fmla} {a b : Leaves} → LeavesRight x φ n a → LeavesRight x ψ (n + size φ) b → LeavesRight x (disj φ ψ) n (both a b)
disj-right (generated_by G d) (generated_by H e) = generated_by (G ++ H) (at_disj d e)
disj-right (generated_by G d) (not_generated q) = not_generated (λ g. q (origin g.1).1)
disj-right (not_generated p) (generated_by H e) = not_generated (λ g. p (origin g.1).0)
disj-right (not_generated p) (not_generated q) = not_generated (λ g. p (origin g.1).0)

neg-conj-right : {x n : ℕ} {φ ψ : Fmla} {a b : Leaves} → LeavesRight x (neg φ) n a → LeavesRight x (neg ψ) (n + size φ) b → LeavesRight x (neg (conj φ ψ)) n (both a b)
neg-conj-right (generated_by G d) (generated_by H e) = generated_by (G ++ H) (at_neg_conj d e)
neg-conj-right (generated_by G d) (not_generated q) = not_generated (λ g. q (origin (origin g.1)).1)
neg-conj-right (not_generated p) (generated_by H e) = not_generated (λ g. p (origin (origin g.1)).0)
neg-conj-right (not_generated p) (not_generated q) = not_generated (λ g. p (origin (origin g.1)).0)

neg-disj-right : {x n : ℕ} {φ ψ : Fmla} {a b : Leaves} → LeavesRight x (neg φ) n a → LeavesRight x (neg ψ) (n + size φ) b → LeavesRight x (neg (disj φ ψ)) n (first a b)
neg-disj-right (generated_by G d) r = generated_by G (at_neg_disj_left d)
neg-disj-right (not_generated p) (generated_by G d) = generated_by G (at_neg_disj_right d)
neg-disj-right {x} {φ = φ} {ψ} (not_generated p) (not_generated q) =
    not_generated (λ g. ⊎_elim (λ d. p (g.0, d)) (⊎_elim (λ d. q (g.0, d)) (⊎_elim (λ t. equates-var-eq (neg ψ) x t.0 t.1) (λ t. equates-var-eq (neg φ) x t.0 t.2))) (origin (origin g.1)))

neg-neg-right : {x n : ℕ} {φ : Fmla} {a : Leaves} → LeavesRight x φ n a → LeavesRight x (neg (neg φ)) n a
neg-neg-right (generated_by G d) = generated_by G (at_neg_neg d)
neg-neg-right (not_generated p) = not_generated (λ g. p (g.0, origin g.1))

exists-right : {x z n : ℕ} {φ : Fmla} {a : Leaves} {b : Bool} → Reflects (x ≡ z) b → LeavesRight x φ n a → LeavesRight x (exists z φ) n (cond b none a)
exists-right (holds e) r = not_generated (λ g. (origin g.1).0 e)
exists-right {z = z} (fails m) (generated_by G d) = generated_by (map (exists_if_free z) G) (at_exists m d)
exists-right (fails m) (not_generated p) = not_generated (λ g. p (origin g.1).1)

-- The order is right at every node, judged plainly or as denied.
mutual
  pub plain_right : (φ : Fmla) (n x : ℕ) → LeavesRight x φ n (plain φ n x)
  plain_right (truth true) n x = not_generated (λ g. origin g.1)
  plain_right (truth false) n x = generated_by [] at_false
  plain_right (rel r ts) n x = leaf-right ap_rel (λ g. (origin g.1).0) (reflects-member x (fv_terms ts))
  plain_right (eq y (var z)) n x = not_generated (λ g. origin g.1)
  plain_right (eq y (con p)) n x = leaf-right ap_eq (λ g. here (origin g.1).0) (reflects-map here in_one (reflects-eqb x y))
  plain_right (neg φ) n x = denied_right φ n x
  plain_right (conj φ ψ) n x =
      conj-right (plain_right φ n x) (plain_right ψ (n + size φ) x)
      (through-view (λ y. plain φ n y) (equated-view ψ x) (λ y. plain_right φ n y))
      (through-view (λ y. plain ψ (n + size φ) y) (equated-view φ x) (λ y. plain_right ψ (n + size φ) y))
  plain_right (disj φ ψ) n x = disj-right (plain_right φ n x) (plain_right ψ (n + size φ) x)
  plain_right (exists z φ) n x = exists-right (reflects-eqb x z) (plain_right φ n x)

  pub denied_right : (φ : Fmla) (n x : ℕ) → LeavesRight x (neg φ) n (denied φ n x)
  denied_right (truth b) n x = not_generated (λ g. origin g.1)
  denied_right (rel r ts) n x = not_generated (λ g. origin g.1)
  denied_right (eq y t) n x = not_generated (λ g. origin g.1)
  denied_right (neg φ) n x = neg-neg-right (plain_right φ n x)
  denied_right (conj φ ψ) n x = neg-conj-right (denied_right φ n x) (denied_right ψ (n + size φ) x)
  denied_right (disj φ ψ) n x = neg-disj-right (denied_right φ n x) (denied_right ψ (n + size φ) x)
  denied_right (exists z φ) n x = not_generated (λ g. origin g.1)

-- "none" is answered exactly where the rules allow no set.
pub reflects-none : (φ : Fmla) (n x : ℕ) → Reflects (¬ Ranged x φ) (is_none (plain φ n x))
reflects-none φ n x = go (plain_right φ n x)
  where
    go : {l : Leaves} → LeavesRight x φ n l → Reflects (¬ Ranged x φ) (is_none l)
    go (generated_by G d) = fails (λ m. m (G, ranged-at-ranged d))
    go (not_generated p) = holds p

-- What 000 generates, the order finds: at every node, plainly and as denied.
pub plain-finds : (φ : Fmla) (n x : ℕ) → Generated x φ → is_none (plain φ n x) ≡ false
plain-finds φ n x g = reflects-false (reflects-none φ n x) (λ m. m (generated-ranged g))

pub denied-finds : (φ : Fmla) (n x : ℕ) → Generated x (neg φ) → is_none (denied φ n x) ≡ false
denied-finds φ n x g = plain-finds (neg φ) n x g

first-nothing : (a : Leaves) → first a none ≡ a
first-nothing none = refl
first-nothing (some l) = refl

-- Where the left child of an and equates x with no other variable, the order is document 01's.
pub plain-as-before : (φ ψ : Fmla) (n x : ℕ) → ((y : ℕ) → x ≢ y → ¬ Equates φ x y) → plain (conj φ ψ) n x ≡ first (plain φ n x) (first (plain ψ (n + size φ) x) (through (equated ψ x) (λ y. plain φ n y)))
plain-as-before φ ψ n x m = go (equated-view φ x)
  where
    go : {o : Option ℕ} → EquatedView φ x o → first (plain φ n x) (first (plain ψ (n + size φ) x) (first (through (equated ψ x) (λ y. plain φ n y)) (through o (λ y. plain ψ (n + size φ) y)))) ≡ first (plain φ n x) (first (plain ψ (n + size φ) x) (through (equated ψ x) (λ y. plain φ n y)))
    go (equates {y} k q) = absurd (m y k q)
    go (equates_none k) = ap (λ a. first (plain φ n x) (first (plain ψ (n + size φ) x) a)) (first-nothing (through (equated ψ x) (λ y. plain φ n y)))

-- Whether a variable is generated doesn't depend on where the numbering starts.
pub none-anywhere : (φ : Fmla) (m n x : ℕ) → is_none (plain φ m x) ≡ is_none (plain φ n x)
none-anywhere φ m n x = reflects-same (reflects-none φ m x) (reflects-none φ n x) (λ g. g) (λ g. g)

pub generated-decided : (x : ℕ) (φ : Fmla) → Ranged x φ ⊎ (¬ Ranged x φ)
generated-decided x φ = go (plain_right φ 0 x)
  where
    go : {l : Leaves} → LeavesRight x φ 0 l → Ranged x φ ⊎ (¬ Ranged x φ)
    go (generated_by G d) = inl (G, ranged-at-ranged d)
    go (not_generated p) = inr p

-- ---- the leaves are atoms of the formula

-- A node stays one when more nodes are numbered about it.
at-node-more : (P : Fmla → Type 0) (φ : Fmla) (n : ℕ) (ψ : Fmla) (m : ℕ) {p : ℕ} → nodes φ n ⊆ nodes ψ m → AtNode P φ n p → AtNode P ψ m p
at-node-more P φ n ψ m {p} h a = (a.0, h (node p a.0) a.1, a.2)

-- What no not has is found below it.
at-node-neg : (P : Fmla → Type 0) (φ : Fmla) (n : ℕ) {p : ℕ} → ¬ P (neg φ) → AtNode P (neg φ) n p → AtNode P φ n p
at-node-neg P φ n k a = (a.0, ⊎_elim (λ i. i) (λ i. absurd (k (subst P (ap formula_of (in_one i)) a.2))) (in-append (nodes φ n) a.1), a.2)

abbrev is_neg : Fmla → Type 0
is_neg (truth b) = ⊥
is_neg (rel r ts) = ⊥
is_neg (eq x t) = ⊥
is_neg (neg φ) = Unit {0}
is_neg (conj φ ψ) = ⊥
is_neg (disj φ ψ) = ⊥
is_neg (exists z φ) = ⊥

atom-no-neg : {φ : Fmla} → Ap φ → ¬ is_neg φ
atom-no-neg ap_rel t = t
atom-no-neg ap_eq t = t

-- Each leaf of the formula and where it stands, for an and, an or, or what is below a not.
atom-below : (φ : Fmla) (n : ℕ) {p : ℕ} → AtNode Ap φ n p → AtNode Ap (neg φ) n p
atom-below φ n a = at-node-more Ap φ n (neg φ) n (λ u i. in_left (node (n + size φ) (neg φ) ∷ []) i) a

atom-left : (ω φ ψ : Fmla) (n : ℕ) {p : ℕ} → joined ω φ ψ n ⊆ nodes ω n → AtNode Ap φ n p → AtNode Ap ω n p
atom-left ω φ ψ n h a = at-node-more Ap φ n ω n (λ u i. h u (left-node ω φ ψ n u i)) a

atom-right : (ω φ ψ : Fmla) (n : ℕ) {p : ℕ} → joined ω φ ψ n ⊆ nodes ω n → AtNode Ap ψ (n + size φ) p → AtNode Ap ω n p
atom-right ω φ ψ n h a = at-node-more Ap ψ (n + size φ) ω n (λ u i. h u (right-node ω φ ψ n u i)) a

atom-neg : (φ : Fmla) (n : ℕ) {p : ℕ} → AtNode Ap (neg φ) n p → AtNode Ap φ n p
atom-neg φ n a = at-node-neg Ap φ n (λ t. atom-no-neg t tt) a

-- Every leaf that is named is the number of an atom of the formula.
pub leaf-atom : {x n : ℕ} {φ : Fmla} {G : List Fmla} {L : List ℕ} → RangedAt x φ n G L → (p : ℕ) → In p L → AtNode Ap φ n p
leaf-atom at_false p i = absurd (in-nil i)
leaf-atom (at_atom {n = n} {φ} a j) p i = at-root a (in_one i)
  where
    at-root : {φ : Fmla} → Ap φ → p ≡ n → AtNode Ap φ n p
    at-root (ap_rel {r} {ts}) e = (rel r ts, here (ap (λ m. node m (rel r ts)) e), ap_rel)
    at-root (ap_eq {x = y} {p = q}) e = (eq y (con q), here (ap (λ m. node m (eq y (con q))) e), ap_eq)
leaf-atom (at_neg_neg {n = n} {φ} d) p i = atom-below (neg φ) n (atom-below φ n (leaf-atom d p i))
leaf-atom (at_neg_disj_left {n = n} {φ} {ψ} d) p i = atom-below (disj φ ψ) n (atom-left (disj φ ψ) φ ψ n (λ u j. j) (atom-neg φ n (leaf-atom d p i)))
leaf-atom (at_neg_disj_right {n = n} {φ} {ψ} d) p i = atom-below (disj φ ψ) n (atom-right (disj φ ψ) φ ψ n (λ u j. j) (atom-neg ψ (n + size φ) (leaf-atom d p i)))
leaf-atom (at_neg_conj {n = n} {φ} {ψ} {L = L} d e) p i =
    atom-below (conj φ ψ) n
    (⊎_elim
    (λ j. atom-left (conj φ ψ) φ ψ n (λ u k. k) (atom-neg φ n (leaf-atom d p j)))
    (λ j. atom-right (conj φ ψ) φ ψ n (λ u k. k) (atom-neg ψ (n + size φ) (leaf-atom e p j)))
    (in-append L i))
leaf-atom (at_disj {n = n} {φ} {ψ} {L = L} d e) p i =
    ⊎_elim
    (λ j. atom-left (disj φ ψ) φ ψ n (λ u k. k) (leaf-atom d p j))
    (λ j. atom-right (disj φ ψ) φ ψ n (λ u k. k) (leaf-atom e p j))
    (in-append L i)
leaf-atom (at_conj_left {n = n} {φ} {ψ} d) p i = atom-left (conj φ ψ) φ ψ n (λ u j. j) (leaf-atom d p i)
leaf-atom (at_conj_right {n = n} {φ} {ψ} d) p i = atom-right (conj φ ψ) φ ψ n (λ u j. j) (leaf-atom d p i)
leaf-atom (at_conj_eq {x} {y} {n} {φ} d) p i = atom-left (conj φ (eq x (var y))) φ (eq x (var y)) n (λ u j. j) (leaf-atom d p i)
leaf-atom (at_conj_eq' {x} {y} {n} {φ} d) p i = atom-left (conj φ (eq y (var x))) φ (eq y (var x)) n (λ u j. j) (leaf-atom d p i)
leaf-atom (at_exists {y = y} {n} {φ} m d) p i = at-node-more Ap φ n (exists y φ) n (λ u j. in_left (node (n + size φ) (exists y φ) ∷ []) j) (leaf-atom d p i)
leaf-atom (at_eq_conj {n = n} {φ} {ψ} m q d) p i = atom-right (conj φ ψ) φ ψ n (λ u j. j) (leaf-atom d p i)

append-lengths : {A B : Type 0} (xs ys : List A) (us vs : List B) → length xs ≡ length us → length ys ≡ length vs → length (xs ++ ys) ≡ length (us ++ vs)
append-lengths xs ys us vs e f = length-append xs ys ∙ (λ i. e i + f i) ∙ sym (length-append us vs)

-- There are as many leaves as generators: each generator is one leaf's atom, with 000's substitutions and quantifiers.
pub leaves-generators : {x n : ℕ} {φ : Fmla} {G : List Fmla} {L : List ℕ} → RangedAt x φ n G L → length G ≡ length L
leaves-generators at_false = refl
leaves-generators (at_atom a i) = refl
leaves-generators (at_neg_neg d) = leaves-generators d
leaves-generators (at_neg_disj_left d) = leaves-generators d
leaves-generators (at_neg_disj_right d) = leaves-generators d
leaves-generators (at_neg_conj {G = G} {H} {L} {M} d e) = append-lengths G H L M (leaves-generators d) (leaves-generators e)
leaves-generators (at_disj {G = G} {H} {L} {M} d e) = append-lengths G H L M (leaves-generators d) (leaves-generators e)
leaves-generators (at_conj_left d) = leaves-generators d
leaves-generators (at_conj_right d) = leaves-generators d
leaves-generators (at_conj_eq {x} {y} {G = G} d) = length-map G (λ χ. cp (subst_for χ y x)) ∙ leaves-generators d
leaves-generators (at_conj_eq' {x} {y} {G = G} d) = length-map G (λ χ. cp (subst_for χ y x)) ∙ leaves-generators d
leaves-generators (at_exists {y = y} {G = G} m d) = length-map G (exists_if_free y) ∙ leaves-generators d
leaves-generators (at_eq_conj {x} {y} {G = G} m q d) = length-map G (λ χ. cp (subst_for χ y x)) ∙ leaves-generators d

-- ---- where a generated variable has its value from

-- A variable of a record's terms has one of the record's values.
in-values : (pool : Pool) (σ : Env) (x : ℕ) (ts : List Term) → In x (fv_terms ts) → In (σ x) (values pool σ ts)
in-values pool σ x ts i = let s = from-union fv_term ts i in subst (λ u. In u (values pool σ ts)) (at-term s.0 s.2) (in_map (value pool σ) s.1)
  where
    at-term : (t : Term) → In x (fv_term t) → value pool σ t ≡ σ x
    at-term (var y) j = ap σ (sym (in_one j))
    at-term (con p) j = absurd (in-nil j)

module _ (pool : Pool) (D : Database) where
  among-more : (φ : Fmla) (n : ℕ) (ψ : Fmla) (m : ℕ) {L M : List ℕ} {v : ℕ} → L ⊆ M → nodes φ n ⊆ nodes ψ m → SourceAmong pool D φ n L v → SourceAmong pool D ψ m M v
  among-more φ n ψ m {v = v} l h s = (s.0, l s.0 s.1, at-node-more (λ χ. Source pool D χ v) φ n ψ m h s.2)

  among-neg : (φ : Fmla) (n : ℕ) {L : List ℕ} {v : ℕ} → SourceAmong pool D (neg φ) n L v → SourceAmong pool D φ n L v
  among-neg φ n {v = v} s = (s.0, s.1, at-node-neg (λ χ. Source pool D χ v) φ n (λ e. e) s.2)

  -- From below a not.
  from-below : (φ : Fmla) (n : ℕ) {L : List ℕ} {v : ℕ} → SourceAmong pool D φ n L v → SourceAmong pool D (neg φ) n L v
  from-below φ n s = among-more φ n (neg φ) n (λ u i. i) (λ u i. in_left (node (n + size φ) (neg φ) ∷ []) i) s

  -- A generated variable of a satisfied formula has its value from one of the leaves.
  pub leaf-value : {x n : ℕ} {φ : Fmla} {G : List Fmla} {L : List ℕ} → RangedAt x φ n G L → (σ : Env) → Sat pool D φ σ → SourceAmong pool D φ n L (σ x)
  leaf-value at_false σ s = absurd s
  leaf-value (at_atom {x} {n} (ap_rel {r} {ts}) i) σ s = (n, here refl, (rel r ts, here refl, (values pool σ ts, s, in-values pool σ x ts i)))
  leaf-value (at_atom {x} {n} (ap_eq {x = y} {p}) i) σ s = (n, here refl, (eq y (con p), here refl, ap σ (in_one i) ∙ s))
  leaf-value (at_neg_neg {n = n} {φ} d) σ s = from-below (neg φ) n (from-below φ n (leaf-value d σ (sat-neg-neg pool D φ σ s)))
  leaf-value (at_neg_disj_left {n = n} {φ} {ψ} d) σ s =
      from-below (disj φ ψ) n (among-more φ n (disj φ ψ) n (λ u i. i) (left-node (disj φ ψ) φ ψ n) (among-neg φ n (leaf-value d σ (λ t. s (inl t)))))
  leaf-value (at_neg_disj_right {n = n} {φ} {ψ} d) σ s =
      from-below (disj φ ψ) n (among-more ψ (n + size φ) (disj φ ψ) n (λ u i. i) (right-node (disj φ ψ) φ ψ n) (among-neg ψ (n + size φ) (leaf-value d σ (λ t. s (inr t)))))
  leaf-value (at_neg_conj {n = n} {φ} {ψ} {L = L} {M} d e) σ s =
      from-below (conj φ ψ) n
      (⊎_elim
      (λ t. among-more φ n (conj φ ψ) n (λ u i. in_left M i) (left-node (conj φ ψ) φ ψ n) (among-neg φ n (leaf-value d σ t)))
      (λ t. among-more ψ (n + size φ) (conj φ ψ) n (λ u i. in_right L i) (right-node (conj φ ψ) φ ψ n) (among-neg ψ (n + size φ) (leaf-value e σ t)))
      (sat-neg-conj pool D φ ψ σ s))
  leaf-value (at_disj {n = n} {φ} {ψ} {L = L} {M} d e) σ s =
      ⊎_elim
      (λ t. among-more φ n (disj φ ψ) n (λ u i. in_left M i) (left-node (disj φ ψ) φ ψ n) (leaf-value d σ t))
      (λ t. among-more ψ (n + size φ) (disj φ ψ) n (λ u i. in_right L i) (right-node (disj φ ψ) φ ψ n) (leaf-value e σ t))
      s
  leaf-value (at_conj_left {n = n} {φ} {ψ} d) σ s = among-more φ n (conj φ ψ) n (λ u i. i) (left-node (conj φ ψ) φ ψ n) (leaf-value d σ s.0)
  leaf-value (at_conj_right {n = n} {φ} {ψ} d) σ s = among-more ψ (n + size φ) (conj φ ψ) n (λ u i. i) (right-node (conj φ ψ) φ ψ n) (leaf-value d σ s.1)
  leaf-value (at_conj_eq {x} {y} {n} {φ} {L = L} d) σ s =
      among-more φ n (conj φ (eq x (var y))) n (λ u i. i) (left-node (conj φ (eq x (var y))) φ (eq x (var y)) n) (subst⁻¹ (λ v. SourceAmong pool D φ n L v) s.1 (leaf-value d σ s.0))
  leaf-value (at_conj_eq' {x} {y} {n} {φ} {L = L} d) σ s =
      among-more φ n (conj φ (eq y (var x))) n (λ u i. i) (left-node (conj φ (eq y (var x))) φ (eq y (var x)) n) (subst (λ v. SourceAmong pool D φ n L v) s.1 (leaf-value d σ s.0))
  leaf-value (at_exists {x} {y} {n} {φ} {L = L} m d) σ s =
      among-more φ n (exists y φ) n (λ u i. i) (λ u i. in_left (node (n + size φ) (exists y φ) ∷ []) i)
      (subst (λ v. SourceAmong pool D φ n L v) (bind-other y s.0 σ x m) (leaf-value d (bind y s.0 σ) s.1))
  leaf-value (at_eq_conj {x} {y} {n} {φ} {ψ} {L = L} m q d) σ s =
      among-more ψ (n + size φ) (conj φ ψ) n (λ u i. i) (right-node (conj φ ψ) φ ψ n) (subst⁻¹ (λ v. SourceAmong pool D ψ (n + size φ) L v) (equates-sat pool D σ q s.0) (leaf-value d σ s.1))

  -- The root is a node that knows as much.
  root : (φ : Fmla) (n p : ℕ) (χ : Fmla) → In (node p χ) (node n φ ∷ []) → known pool D χ ⊆ known pool D φ
  root φ n p χ i v j = subst (λ u. In v (known pool D u)) (ap formula_of (in_one i)) j

  -- What a node of an and or an or with the children φ and ψ knows, given what the nodes of each side know.
  inner : (φ ψ χ : Fmla) (k n p : ℕ) (ω : Fmla) → known pool D χ ≡ known pool D (conj φ ψ) → (In (node p ω) (nodes φ n) → known pool D ω ⊆ known pool D φ) → (In (node p ω) (nodes ψ (n + size φ)) → known pool D ω ⊆ known pool D ψ) → In (node p ω) (nodes φ n ++ nodes ψ (n + size φ) ++ (node k χ ∷ [])) → known pool D ω ⊆ known pool D χ
  inner φ ψ χ k n p ω e f g i =
      ⊎_elim
      (λ j. ⊎_elim
      (λ l v u. subst⁻¹ (In v) e (known-conj-left pool D φ ψ v (f l v u)))
      (λ l v u. subst⁻¹ (In v) e (known-conj-right pool D φ ψ v (g l v u)))
      (in-append (nodes φ n) j))
      (root χ k p ω)
      (in-append (nodes φ n ++ nodes ψ (n + size φ)) i)

  -- What a node knows, its formula knows.
  pub node-known : (φ : Fmla) (n p : ℕ) (χ : Fmla) → In (node p χ) (nodes φ n) → known pool D χ ⊆ known pool D φ
  node-known (truth b) n p χ i = root (truth b) n p χ i
  node-known (rel r ts) n p χ i = root (rel r ts) n p χ i
  node-known (eq x t) n p χ i = root (eq x t) n p χ i
  node-known (neg φ) n p χ i = ⊎_elim (node-known φ n p χ) (root (neg φ) (n + size φ) p χ) (in-append (nodes φ n) i)
  node-known (conj φ ψ) n p χ i = inner φ ψ (conj φ ψ) (n + (size φ + size ψ)) n p χ refl (node-known φ n p χ) (node-known ψ (n + size φ) p χ) i
  node-known (disj φ ψ) n p χ i = inner φ ψ (disj φ ψ) (n + (size φ + size ψ)) n p χ refl (node-known φ n p χ) (node-known ψ (n + size φ) p χ) i
  node-known (exists z φ) n p χ i = ⊎_elim (node-known φ n p χ) (root (exists z φ) (n + size φ) p χ) (in-append (nodes φ n) i)

  -- A value from a leaf is known to the leaf.
  source_known : (χ : Fmla) (v : ℕ) → Source pool D χ v → In v (known pool D χ)
  source_known (truth b) v s = absurd s
  source_known (rel r ts) v s = known-record pool D (rel r ts) (here refl) s
  source_known (eq x (var y)) v s = absurd s
  source_known (eq x (con p)) v s = subst⁻¹ (λ u. In u (known pool D (eq x (con p)))) s (known_constant pool D (eq x (con p)) (here refl))
  source_known (neg φ) v s = absurd s
  source_known (conj φ ψ) v s = absurd s
  source_known (disj φ ψ) v s = absurd s
  source_known (exists z φ) v s = absurd s

  -- A generated variable of a satisfied formula has a known value.
  pub generated-known : (x : ℕ) (φ : Fmla) → Ranged x φ → (σ : Env) → Sat pool D φ σ → In (σ x) (known pool D φ)
  generated-known x φ g σ s = go (plain_right φ 0 x)
    where
      go : {l : Leaves} → LeavesRight x φ 0 l → In (σ x) (known pool D φ)
      go (generated_by G d) = let a = leaf-value d σ s in node-known φ 0 a.0 a.2.0 a.2.1 (σ x) (source_known a.2.0 (σ x) a.2.2)
      go (not_generated n) = absurd (n g)
