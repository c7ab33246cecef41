-- Laws of constant propagation. Each clause of cp has a view, a data type of what it can come to; every law goes by the views.
use Rattle.std.specs.Prelude.{ℕ, ◌+◌, ◌≤◌, ◌≡◌, refl, ◌↔◌, Bool, true, false, not, cond, List, [], ◌∷◌, ◌++◌, T, eqb}
use Rattle.std.proofs.Common.{arith, sym, ap, subst, ◌∙◌, inl, inr, ⊎_elim}
use Rattle.std.proofs.Math.Path.{subst⁻¹}
use Rattle.std.proofs.Math.Logic.Iff
use Rattle.calculus.specs.Sets.{In, ◌⊆◌, union_of}
use Rattle.calculus.proofs.Theory.Sets.Laws.{in-nil, in_left, in_right, in-append-map, in_remove, from-remove, reflects-member}
use Rattle.calculus.proofs.Theory.Reflects.Iff.{iff-either, iff_some}
use Rattle.calculus.specs.Reflects.{Reflects, holds, fails}
use Rattle.calculus.proofs.Theory.Reflects.Laws.{reflects-true, reflects-false, reflects-eqb}
use Rattle.calculus.specs.Formula.{Term, var, con, Fmla, truth, rel, eq, neg, conj, disj, exists, fv, gather, relations, places, places_term, size}
use Rattle.calculus.specs.Satisfaction.{Pool, Database, Env, bind, Sat, known}
use Rattle.calculus.proofs.Theory.Satisfaction.Laws.{sat-agree, bind-other, known-mono}
use Rattle.calculus.specs.Propagation.{exists_if_free, is_truth, truth_of, cp_eq, cp_neg, cp_conj, cp_disj, cp, Nocp, Propagated}

-- ---- views

-- A formula is a truth value, or is none.
pub data TruthView : Fmla → Type 0 where
  a_truth : (b : Bool) → TruthView (truth b)
  no_truth : {φ : Fmla} → is_truth φ ≡ false → TruthView φ

pub truth-view : (φ : Fmla) → TruthView φ
truth-view (truth b) = a_truth b
truth-view (rel r ts) = no_truth refl
truth-view (eq x t) = no_truth refl
truth-view (neg φ) = no_truth refl
truth-view (conj φ ψ) = no_truth refl
truth-view (disj φ ψ) = no_truth refl
truth-view (exists z φ) = no_truth refl

pub data NegView : Fmla → Fmla → Type 0 where
  neg_truth : (b : Bool) → NegView (truth b) (truth (not b))
  neg_other : {φ : Fmla} → is_truth φ ≡ false → NegView φ (neg φ)

-- The and where u is true, the or where it is false: u is the truth value that they drop.
abbrev pub join : Bool → Fmla → Fmla → Fmla
join true φ ψ = conj φ ψ
join false φ ψ = disj φ ψ

-- What cp makes of them, given the propagated children.
abbrev pub cp_join : Bool → Fmla → Fmla → Fmla
cp_join true φ ψ = cp_conj φ ψ
cp_join false φ ψ = cp_disj φ ψ

pub data JoinView (u : Bool) : Fmla → Fmla → Fmla → Type 0 where
  left_unit : {ψ : Fmla} → JoinView u (truth u) ψ ψ
  left_zero : {ψ : Fmla} → JoinView u (truth (not u)) ψ (truth (not u))
  right_unit : {φ : Fmla} → is_truth φ ≡ false → JoinView u φ (truth u) φ
  right_zero : {φ : Fmla} → is_truth φ ≡ false → JoinView u φ (truth (not u)) (truth (not u))
  neither : {φ ψ : Fmla} → is_truth φ ≡ false → is_truth ψ ≡ false → JoinView u φ ψ (join u φ ψ)

pub data ExistsView (z : ℕ) (φ : Fmla) : Fmla → Type 0 where
  kept : In z (fv φ) → ExistsView z φ (exists z φ)
  dropped : ¬ In z (fv φ) → ExistsView z φ φ

cond-is : {A : Type 0} (x y : A) {b c : Bool} → b ≡ c → cond b x y ≡ cond c x y
cond-is x y e = ap (λ b. cond b x y) e

pub cp_neg-other : (φ : Fmla) → is_truth φ ≡ false → cp_neg φ ≡ neg φ
cp_neg-other φ e = cond-is (truth (not (truth_of φ))) (neg φ) e

-- A truth value beside a formula: the one that the and or the or drops, and the other, which decides it.
pub join-unit-left : (u : Bool) (ψ : Fmla) → cp_join u (truth u) ψ ≡ ψ
join-unit-left true ψ = refl
join-unit-left false ψ = refl

pub join-zero-left : (u : Bool) (ψ : Fmla) → cp_join u (truth (not u)) ψ ≡ truth (not u)
join-zero-left true ψ = refl
join-zero-left false ψ = refl

pub join-unit-right : (u : Bool) (φ : Fmla) → is_truth φ ≡ false → cp_join u φ (truth u) ≡ φ
join-unit-right true φ e = cond-is (cond (truth_of φ) (truth true) (truth false)) φ e
join-unit-right false φ e = cond-is (cond (truth_of φ) (truth true) (truth false)) φ e

pub join-zero-right : (u : Bool) (φ : Fmla) → is_truth φ ≡ false → cp_join u φ (truth (not u)) ≡ truth (not u)
join-zero-right true φ e = cond-is (cond (truth_of φ) (truth false) (truth false)) (truth false) e
join-zero-right false φ e = cond-is (cond (truth_of φ) (truth true) (truth true)) (truth true) e

-- An and or an or without a truth value stays.
pub join-neither : (u : Bool) (φ ψ : Fmla) → is_truth φ ≡ false → is_truth ψ ≡ false → cp_join u φ ψ ≡ join u φ ψ
join-neither true φ ψ e f = λ i. cond (e i) (cond (truth_of φ) ψ (truth false)) (cond (f i) (cond (truth_of ψ) φ (truth false)) (conj φ ψ))
join-neither false φ ψ e f = λ i. cond (e i) (cond (truth_of φ) (truth true) ψ) (cond (f i) (cond (truth_of ψ) (truth true) φ) (disj φ ψ))

pub exists-kept : (z : ℕ) (φ : Fmla) → In z (fv φ) → exists_if_free z φ ≡ exists z φ
exists-kept z φ i = cond-is (exists z φ) φ (reflects-true (reflects-member z (fv φ)) i)

pub neg-view : (φ : Fmla) → NegView φ (cp_neg φ)
neg-view φ = go (truth-view φ)
  where
    go : {φ : Fmla} → TruthView φ → NegView φ (cp_neg φ)
    go (a_truth b) = neg_truth b
    go {φ} (no_truth e) = subst⁻¹ (NegView φ) (cp_neg-other φ e) (neg_other e)

pub join-view : (u : Bool) (φ ψ : Fmla) → JoinView u φ ψ (cp_join u φ ψ)
join-view u φ ψ = go (truth-view φ) (truth-view ψ)
  where
    left : (u b : Bool) (ψ : Fmla) → JoinView u (truth b) ψ (cp_join u (truth b) ψ)
    left true true ψ = left_unit
    left true false ψ = left_zero
    left false true ψ = left_zero
    left false false ψ = left_unit

    unit : (u : Bool) {φ : Fmla} → is_truth φ ≡ false → JoinView u φ (truth u) (cp_join u φ (truth u))
    unit u {φ} e = subst⁻¹ (JoinView u φ (truth u)) (join-unit-right u φ e) (right_unit e)

    zero : (u : Bool) {φ : Fmla} → is_truth φ ≡ false → JoinView u φ (truth (not u)) (cp_join u φ (truth (not u)))
    zero u {φ} e = subst⁻¹ (JoinView u φ (truth (not u))) (join-zero-right u φ e) (right_zero e)

    right : (u b : Bool) {φ : Fmla} → is_truth φ ≡ false → JoinView u φ (truth b) (cp_join u φ (truth b))
    right true true e = unit true e
    right true false e = zero true e
    right false true e = zero false e
    right false false e = unit false e

    go : {φ ψ : Fmla} → TruthView φ → TruthView ψ → JoinView u φ ψ (cp_join u φ ψ)
    go {ψ = ψ} (a_truth b) v = left u b ψ
    go (no_truth e) (a_truth b) = right u b e
    go (no_truth {φ} e) (no_truth {φ = ψ} f) = subst⁻¹ (JoinView u φ ψ) (join-neither u φ ψ e f) (neither e f)

pub exists-view : (z : ℕ) (φ : Fmla) → ExistsView z φ (exists_if_free z φ)
exists-view z φ = go (reflects-member z (fv φ))
  where
    go : {b : Bool} → Reflects (In z (fv φ)) b → ExistsView z φ (cond b (exists z φ) φ)
    go (holds i) = kept i
    go (fails n) = dropped n

-- ---- satisfaction of the form is that of the query (000: sat_cp)

module _ (pool : Pool) (D : Database) where
  neg-sat : {φ χ : Fmla} (σ : Env) → NegView φ χ → Sat pool D χ σ ↔ (¬ Sat pool D φ σ)
  neg-sat σ (neg_truth true) = (λ t u. t, λ n. n tt)
  neg-sat σ (neg_truth false) = (λ t u. u, λ n. tt)
  neg-sat σ (neg_other e) = Iff.rfl

  join-sat : (u : Bool) {φ ψ χ : Fmla} (σ : Env) → JoinView u φ ψ χ → Sat pool D χ σ ↔ Sat pool D (join u φ ψ) σ
  join-sat true σ left_unit = (λ s. (tt, s), λ s. s.1)
  join-sat true σ left_zero = (λ s. absurd s, λ s. s.0)
  join-sat true σ (right_unit e) = (λ s. (s, tt), λ s. s.0)
  join-sat true σ (right_zero e) = (λ s. absurd s, λ s. s.1)
  join-sat true σ (neither e f) = Iff.rfl
  join-sat false σ left_unit = (inr, ⊎_elim (λ t. absurd t) (λ s. s))
  join-sat false σ left_zero = (inl, λ s. tt)
  join-sat false σ (right_unit e) = (inl, ⊎_elim (λ s. s) (λ t. absurd t))
  join-sat false σ (right_zero e) = (inr, λ s. tt)
  join-sat false σ (neither e f) = Iff.rfl

  -- An exists whose variable isn't free says nothing.
  pub exists-unused : (z : ℕ) (φ : Fmla) → ¬ In z (fv φ) → (σ : Env) → Sat pool D φ σ ↔ Sat pool D (exists z φ) σ
  exists-unused z φ n σ = (λ s. (0, (same 0).1 s), λ s. (same s.0).0 s.1)
    where
      same : (v : ℕ) → Sat pool D φ (bind z v σ) ↔ Sat pool D φ σ
      same v = sat-agree pool D φ (bind z v σ) σ (λ x i. bind-other z v σ x (λ e. n (subst (λ u. In u (fv φ)) e i)))

  -- 000: sat_exists.
  pub exists-sat : (z : ℕ) (φ : Fmla) (σ : Env) → Sat pool D (exists_if_free z φ) σ ↔ Sat pool D (exists z φ) σ
  exists-sat z φ σ = go (exists-view z φ)
    where
      go : {χ : Fmla} → ExistsView z φ χ → Sat pool D χ σ ↔ Sat pool D (exists z φ) σ
      go (kept i) = Iff.rfl
      go (dropped n) = exists-unused z φ n σ

  eq-sat : (x : ℕ) (t : Term) (σ : Env) → Sat pool D (cp_eq x t) σ ↔ Sat pool D (eq x t) σ
  eq-sat x (con p) σ = Iff.rfl
  eq-sat x (var y) σ = go (reflects-eqb x y)
    where
      go : {b : Bool} → Reflects (x ≡ y) b → Sat pool D (cond b (truth true) (eq x (var y))) σ ↔ (σ x ≡ σ y)
      go (holds e) = (λ t. ap σ e, λ s. tt)
      go (fails n) = Iff.rfl

  pub cp-sat : (φ : Fmla) (σ : Env) → Sat pool D (cp φ) σ ↔ Sat pool D φ σ
  cp-sat (truth b) σ = Iff.rfl
  cp-sat (rel r ts) σ = Iff.rfl
  cp-sat (eq x t) σ = eq-sat x t σ
  cp-sat (neg φ) σ = Iff.trans (neg-sat σ (neg-view (cp φ))) (Iff.not (cp-sat φ σ))
  cp-sat (conj φ ψ) σ = Iff.trans (join-sat true σ (join-view true (cp φ) (cp ψ))) (Iff.and (cp-sat φ σ) (cp-sat ψ σ))
  cp-sat (disj φ ψ) σ = Iff.trans (join-sat false σ (join-view false (cp φ) (cp ψ))) (iff-either (cp-sat φ σ) (cp-sat ψ σ))
  cp-sat (exists z φ) σ = Iff.trans (exists-sat z (cp φ) σ) (iff_some (λ v. cp-sat φ (bind z v σ)))

-- ---- what the form collects is among what the query does

-- A set of numbers gathered from a formula's leaves: its free variables, its relations, its constants.
pub record Gathered (f : Fmla → List ℕ) : Type 0 where
  pub at_truth : (b : Bool) (x : ℕ) → ¬ In x (f (truth b))
  pub at_eq : (x : ℕ) (t : Term) → f (cp_eq x t) ⊆ f (eq x t)
  pub at_neg : (φ : Fmla) → f (neg φ) ≡ f φ
  pub at_conj : (φ ψ : Fmla) → f (conj φ ψ) ≡ f φ ++ f ψ
  pub at_disj : (φ ψ : Fmla) → f (disj φ ψ) ≡ f φ ++ f ψ
  pub at_exists : (z : ℕ) (φ ψ : Fmla) → f φ ⊆ f ψ → f (exists z φ) ⊆ f (exists z ψ)
  pub at_dropped : (z : ℕ) (φ : Fmla) → ¬ In z (fv φ) → f φ ⊆ f (exists z φ)

module _ (f : Fmla → List ℕ) (g : Gathered f) where
  neg-gathered : {φ χ : Fmla} → NegView φ χ → f χ ⊆ f φ
  neg-gathered (neg_truth b) x i = absurd (g.at_truth (not b) x i)
  neg-gathered (neg_other {φ} e) x i = subst (In x) (g.at_neg φ) i

  join-gathered : (u : Bool) {φ ψ χ : Fmla} → JoinView u φ ψ χ → (x : ℕ) → In x (f χ) → In x (f φ ++ f ψ)
  join-gathered u left_unit x i = in_right (f (truth u)) i
  join-gathered u left_zero x i = absurd (g.at_truth (not u) x i)
  join-gathered u (right_unit e) x i = in_left (f (truth u)) i
  join-gathered u (right_zero e) x i = absurd (g.at_truth (not u) x i)
  join-gathered true (neither {φ} {ψ} e h) x i = subst (In x) (g.at_conj φ ψ) i
  join-gathered false (neither {φ} {ψ} e h) x i = subst (In x) (g.at_disj φ ψ) i

  exists-gathered : (z : ℕ) {φ χ : Fmla} → ExistsView z φ χ → f χ ⊆ f (exists z φ)
  exists-gathered z (kept i) x j = j
  exists-gathered z {φ} (dropped n) x j = g.at_dropped z φ n x j

  pub gathered-cp : (φ : Fmla) → f (cp φ) ⊆ f φ
  gathered-cp (truth b) x i = i
  gathered-cp (rel r ts) x i = i
  gathered-cp (eq y t) x i = g.at_eq y t x i
  gathered-cp (neg φ) x i = subst⁻¹ (In x) (g.at_neg φ) (gathered-cp φ x (neg-gathered (neg-view (cp φ)) x i))
  gathered-cp (conj φ ψ) x i = subst⁻¹ (In x) (g.at_conj φ ψ) (in-append-map (f (cp φ)) (f φ) (gathered-cp φ x) (gathered-cp ψ x) (join-gathered true (join-view true (cp φ) (cp ψ)) x i))
  gathered-cp (disj φ ψ) x i = subst⁻¹ (In x) (g.at_disj φ ψ) (in-append-map (f (cp φ)) (f φ) (gathered-cp φ x) (gathered-cp ψ x) (join-gathered false (join-view false (cp φ) (cp ψ)) x i))
  gathered-cp (exists z φ) x i = g.at_exists z (cp φ) φ (gathered-cp φ) x (exists-gathered z (exists-view z (cp φ)) x i)

-- An equality of a variable with itself becomes true, and any other stays.
eq-gathered : (f : Fmla → List ℕ) → ((x : ℕ) → ¬ In x (f (truth true))) → (y : ℕ) (t : Term) → f (cp_eq y t) ⊆ f (eq y t)
eq-gathered f n y (con p) x i = i
eq-gathered f n y (var z) x i = go (reflects-eqb y z) i
  where
    go : {b : Bool} → Reflects (y ≡ z) b → In x (f (cond b (truth true) (eq y (var z)))) → In x (f (eq y (var z)))
    go (holds e) j = absurd (n x j)
    go (fails m) j = j

pub fv-gathered : Gathered fv
fv-gathered =
    record {
      at_truth = λ b x i. in-nil i;
      at_eq = eq-gathered fv (λ x i. in-nil i);
      at_neg = λ φ. refl;
      at_conj = λ φ ψ. refl;
      at_disj = λ φ ψ. refl;
      at_exists = λ z φ ψ h x i. in_remove (h x (from-remove (fv φ) i).0) (from-remove (fv φ) i).1;
      at_dropped = λ z φ n x i. in_remove i (λ e. n (subst (λ u. In u (fv φ)) e i));
    }

pub gather-gathered : (f : ℕ → List Term → List ℕ) (g : ℕ → Term → List ℕ) → Gathered (gather f g)
gather-gathered f g =
    record {
      at_truth = λ b x i. in-nil i;
      at_eq = eq-gathered (gather f g) (λ x i. in-nil i);
      at_neg = λ φ. refl;
      at_conj = λ φ ψ. refl;
      at_disj = λ φ ψ. refl;
      at_exists = λ z φ ψ h. h;
      at_dropped = λ z φ n x i. i;
    }

-- 000: fv_cp.
pub fv-cp : (φ : Fmla) → fv (cp φ) ⊆ fv φ
fv-cp = gathered-cp fv fv-gathered

pub relations-cp : (φ : Fmla) → relations (cp φ) ⊆ relations φ
relations-cp = gathered-cp relations (gather-gathered (λ r ts. r ∷ []) (λ x t. []))

pub places-cp : (φ : Fmla) → places (cp φ) ⊆ places φ
places-cp = gathered-cp places (gather-gathered (λ r ts. union_of places_term ts) (λ x t. places_term t))

pub known-cp : (pool : Pool) (D : Database) (φ : Fmla) → known pool D (cp φ) ⊆ known pool D φ
known-cp pool D φ = known-mono pool D (cp φ) φ (relations-cp φ) (places-cp φ)

-- ---- the form is propagated, and propagation leaves it alone (000: nocp_cp_triv, nocp_cp_or_is_Bool, cp_idem)

nocp-no-truth : (φ : Fmla) → Nocp φ → is_truth φ ≡ false
nocp-no-truth φ h = go (truth-view φ) h
  where
    go : {φ : Fmla} → TruthView φ → Nocp φ → is_truth φ ≡ false
    go (a_truth b) n = absurd n
    go (no_truth e) n = e

-- 000: nocp_cp_triv.
pub nocp-cp : (φ : Fmla) → Nocp φ → cp φ ≡ φ
nocp-cp (truth b) n = absurd n
nocp-cp (rel r ts) n = refl
nocp-cp (eq x (con p)) n = refl
nocp-cp (eq x (var y)) n = cond-is (truth true) (eq x (var y)) (reflects-false (reflects-eqb x y) (λ e. n (ap var (sym e))))
nocp-cp (neg φ) n = ap cp_neg (nocp-cp φ n) ∙ cp_neg-other φ (nocp-no-truth φ n)
nocp-cp (conj φ ψ) n = (λ i. cp_conj (nocp-cp φ n.0 i) (nocp-cp ψ n.1 i)) ∙ join-neither true φ ψ (nocp-no-truth φ n.0) (nocp-no-truth ψ n.1)
nocp-cp (disj φ ψ) n = (λ i. cp_disj (nocp-cp φ n.0 i) (nocp-cp ψ n.1 i)) ∙ join-neither false φ ψ (nocp-no-truth φ n.0) (nocp-no-truth ψ n.1)
nocp-cp (exists z φ) n = ap (exists_if_free z) (nocp-cp φ n.1) ∙ exists-kept z φ n.0

-- The number of a term.
abbrev number : Term → ℕ
number (var x) = x
number (con p) = p

abbrev is_con : Term → Type 0
is_con (con q) = Unit {0}
is_con (var y) = ⊥

-- A propagated formula that is no truth value has nothing left to propagate.
propagated-nocp : (φ : Fmla) → is_truth φ ≡ false → Propagated φ → Nocp φ
propagated-nocp φ e (inl n) = n
propagated-nocp φ e (inr t) = absurd (subst T e t)

neg-propagated : {φ χ : Fmla} → NegView φ χ → Propagated φ → Propagated χ
neg-propagated (neg_truth b) p = inr tt
neg-propagated (neg_other {φ} e) p = inl (propagated-nocp φ e p)

join-propagated : (u : Bool) {φ ψ χ : Fmla} → JoinView u φ ψ χ → Propagated φ → Propagated ψ → Propagated χ
join-propagated u left_unit p q = q
join-propagated u left_zero p q = inr tt
join-propagated u (right_unit e) p q = p
join-propagated u (right_zero e) p q = inr tt
join-propagated true (neither {φ} {ψ} e f) p q = inl (propagated-nocp φ e p, propagated-nocp ψ f q)
join-propagated false (neither {φ} {ψ} e f) p q = inl (propagated-nocp φ e p, propagated-nocp ψ f q)

exists-propagated : (z : ℕ) {φ χ : Fmla} → ExistsView z φ χ → Propagated φ → Propagated χ
exists-propagated z {φ} (kept i) p = inl (i, go (truth-view φ) i p)
  where
    go : {φ : Fmla} → TruthView φ → In z (fv φ) → Propagated φ → Nocp φ
    go (a_truth b) j q = absurd (in-nil j)
    go (no_truth {φ} e) j q = propagated-nocp φ e q
exists-propagated z (dropped n) p = p

a_truth-stays : (φ : Fmla) → T (is_truth φ) → cp φ ≡ φ
a_truth-stays φ t = go (truth-view φ) t
  where
    go : {φ : Fmla} → TruthView φ → T (is_truth φ) → cp φ ≡ φ
    go (a_truth b) t = refl
    go (no_truth e) t = absurd (subst T e t)

-- 000: nocp_cp_or_is_Bool, cpropagated_cp.
pub propagated-cp : (φ : Fmla) → Propagated (cp φ)
propagated-cp (truth b) = inr tt
propagated-cp (rel r ts) = inl tt
propagated-cp (eq x (con p)) = inl (λ e. subst is_con e tt)
propagated-cp (eq x (var y)) = go (reflects-eqb x y)
  where
    go : {b : Bool} → Reflects (x ≡ y) b → Propagated (cond b (truth true) (eq x (var y)))
    go (holds e) = inr tt
    go (fails n) = inl (λ e. n (sym (ap number e)))
propagated-cp (neg φ) = neg-propagated (neg-view (cp φ)) (propagated-cp φ)
propagated-cp (conj φ ψ) = join-propagated true (join-view true (cp φ) (cp ψ)) (propagated-cp φ) (propagated-cp ψ)
propagated-cp (disj φ ψ) = join-propagated false (join-view false (cp φ) (cp ψ)) (propagated-cp φ) (propagated-cp ψ)
propagated-cp (exists z φ) = exists-propagated z (exists-view z (cp φ)) (propagated-cp φ)

-- 000: cp_idem.
pub cp-idempotent : (φ : Fmla) → cp (cp φ) ≡ cp φ
cp-idempotent φ = ⊎_elim (nocp-cp (cp φ)) (λ t. a_truth-stays (cp φ) t) (propagated-cp φ)

-- ---- the form has no more nodes than the query

neg-size : {φ χ : Fmla} → NegView φ χ → size χ ≤ size φ + 1
neg-size (neg_truth b) = omega arith
neg-size (neg_other e) = omega arith

size-join : (u : Bool) (φ ψ : Fmla) → size (join u φ ψ) ≡ size φ + size ψ + 1
size-join true φ ψ = refl
size-join false φ ψ = refl

join-size : (u : Bool) {φ ψ χ : Fmla} → JoinView u φ ψ χ → size χ ≤ size φ + size ψ + 1
join-size u left_unit = omega arith
join-size u left_zero = omega arith
join-size u (right_unit e) = omega arith
join-size u (right_zero e) = omega arith
join-size u (neither {φ} {ψ} e f) = omega (arith, size-join u φ ψ)

exists-size : (z : ℕ) {φ χ : Fmla} → ExistsView z φ χ → size χ ≤ size φ + 1
exists-size z (kept i) = omega arith
exists-size z (dropped n) = omega arith

eq-size : (x : ℕ) (t : Term) → size (cp_eq x t) ≡ 1
eq-size x (con p) = refl
eq-size x (var y) = go (eqb x y)
  where
    go : (b : Bool) → size (cond b (truth true) (eq x (var y))) ≡ 1
    go true = refl
    go false = refl

pub size-cp : (φ : Fmla) → size (cp φ) ≤ size φ
size-cp (truth b) = omega arith
size-cp (rel r ts) = omega arith
size-cp (eq x t) = omega (arith, eq-size x t)
size-cp (neg φ) = omega (arith, neg-size (neg-view (cp φ)), size-cp φ)
size-cp (conj φ ψ) = omega (arith, join-size true (join-view true (cp φ) (cp ψ)), size-cp φ, size-cp ψ)
size-cp (disj φ ψ) = omega (arith, join-size false (join-view false (cp φ) (cp ψ)), size-cp φ, size-cp ψ)
size-cp (exists z φ) = omega (arith, exists-size z (exists-view z (cp φ)), size-cp φ)
