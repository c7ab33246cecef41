-- Laws of safe-range: propagation keeps generation and the range of the bound variables (000: gen_Gen_cp, rrb_cp, sr_cp), by 000's
-- rules and by document 02's; so what 000 judges safe-range is safe-range, and so is what was before document 02. What both relations need is said once, of any
-- relation with the rules. Each clause goes by the view of a clause of cp; the range of the bound variables, a claim about all nodes, is first taken apart by
-- the shape of the formula.
use Rattle.std.specs.Prelude.{ℕ, ◌+◌, ◌≡◌, refl, ◌↔◌, ◌≢◌, Bool, true, false, not, cond, List, [], ◌∷◌, ◌++◌, eqb}
use Rattle.std.proofs.Common.{sym, ap, subst, ◌∙◌, inl, inr, ⊎_elim}
use Rattle.std.proofs.Math.Path.{subst⁻¹}
use Rattle.calculus.specs.Sets.{In, here}
use Rattle.calculus.specs.Reflects.{Reflects, holds, fails}
use Rattle.calculus.proofs.Theory.Reflects.Laws.{reflects-false, reflects-eqb}
use Rattle.calculus.specs.Formula.{Term, var, con, Fmla, truth, rel, eq, neg, conj, disj, exists, fv, size, Node, node, nodes}
use Rattle.calculus.proofs.Theory.Formula.Laws.{Has, has_left, has_right, from_one, from-append, joined, node-shift}
use Rattle.calculus.specs.Propagation.{is_truth, cp_eq, cp_neg, cp_conj, cp}
use Rattle.calculus.proofs.Theory.Propagation.Laws.{TruthView, a_truth, no_truth, truth-view, NegView, neg_truth, neg_other, join, JoinView, left_unit, left_zero, right_unit, right_zero, neither, ExistsView, kept, dropped, cp_neg-other, cp_join, join-unit-left, join-zero-left, join-unit-right, join-zero-right, join-neither, neg-view, join-view, exists-view, fv-cp}
use Rattle.calculus.specs.Generation.{Ap, ap_rel, ap_eq, GenBy, Generated}
use Rattle.calculus.proofs.Theory.Generation.Laws.{generated-ranged, Rules, LeftRule, gen-rules, gen-least, ranged-rules, ranged-left, ranged-least, ranged-gen, none_below}
use Rattle.calculus.specs.Ranging.{Equates, RangedBy, Ranged, NoneOnLeft}
use Rattle.calculus.proofs.Theory.Ranging.Laws.{origin}
use Rattle.calculus.proofs.Theory.Generators.Laws.{generated-decided}
use Rattle.calculus.specs.SafeRange.{HasNode, Nongen, Rrb, Sr, BoundRanged, SafeRange, SafeBefore}

-- ---- a variable generated in a query is generated in its form (000: gen_Gen_cp)

-- What holds of the not of a formula that is no truth value holds of its propagated not.
at-cp_neg : (P : Fmla → Type 0) (φ : Fmla) → is_truth φ ≡ false → P (neg φ) → P (cp_neg φ)
at-cp_neg P φ e p = subst⁻¹ P (cp_neg-other φ e) p

neg-no-truth : (φ : Fmla) → is_truth φ ≡ false → is_truth (cp_neg φ) ≡ false
neg-no-truth φ e = ap is_truth (cp_neg-other φ e)

join-no-truth : (u : Bool) (φ ψ : Fmla) → is_truth (join u φ ψ) ≡ false
join-no-truth true φ ψ = refl
join-no-truth false φ ψ = refl

module _ (Gen : ℕ → Fmla → Type 0) (rules : Rules Gen) (never : (x : ℕ) → ¬ Gen x (truth true)) where
  neg-neg-generated : (x : ℕ) (φ : Fmla) → Gen x φ → Gen x (cp_neg (cp_neg φ))
  neg-neg-generated x φ = go (truth-view φ)
    where
      go : {φ : Fmla} → TruthView φ → Gen x φ → Gen x (cp_neg (cp_neg φ))
      go (a_truth true) g = g
      go (a_truth false) g = g
      go (no_truth {φ} e) g = at-cp_neg (λ α. Gen x (cp_neg α)) φ e (rules.by_neg_neg x φ g)

  -- De Morgan's laws, which are two rules of gen: a truth value among the sides goes the same way on either side.
  neg-join : (x : ℕ) (u : Bool) (φ ψ : Fmla) → Gen x (join (not u) (neg φ) (neg ψ)) → Gen x (neg (join u φ ψ))
  neg-join x true φ ψ g = rules.by_neg_conj x φ ψ g
  neg-join x false φ ψ g = rules.by_neg_disj x φ ψ g

  neg-join-generated : (x : ℕ) (u : Bool) {φ ψ χ : Fmla} → JoinView u φ ψ χ → Gen x (cp_join (not u) (cp_neg φ) (cp_neg ψ)) → Gen x (cp_neg χ)
  neg-join-generated x u (left_unit {ψ}) g = subst (Gen x) (join-unit-left (not u) (cp_neg ψ)) g
  neg-join-generated x u (left_zero {ψ}) g = subst (Gen x) (join-zero-left (not u) (cp_neg ψ)) g
  neg-join-generated x u (right_unit {φ} e) g = subst (Gen x) (join-unit-right (not u) (cp_neg φ) (neg-no-truth φ e)) g
  neg-join-generated x u (right_zero {φ} e) g = subst (Gen x) (join-zero-right (not u) (cp_neg φ) (neg-no-truth φ e)) g
  neg-join-generated x u (neither {φ} {ψ} e f) g =
      at-cp_neg (Gen x) (join u φ ψ) (join-no-truth u φ ψ)
      (neg-join x u φ ψ (subst (Gen x) ((λ i. cp_join (not u) (cp_neg-other φ e i) (cp_neg-other ψ f i)) ∙ join-neither (not u) (neg φ) (neg ψ) refl refl) g))

  disj-generated : (x : ℕ) {φ ψ χ : Fmla} → JoinView false φ ψ χ → Gen x φ → Gen x ψ → Gen x χ
  disj-generated x left_unit g h = h
  disj-generated x left_zero g h = g
  disj-generated x (right_unit e) g h = g
  disj-generated x (right_zero e) g h = h
  disj-generated x (neither {φ} {ψ} e f) g h = rules.by_disj x φ ψ g h

  conj-left-generated : (x : ℕ) {φ ψ χ : Fmla} → JoinView true φ ψ χ → Gen x φ → Gen x χ
  conj-left-generated x left_unit g = absurd (never x g)
  conj-left-generated x left_zero g = rules.by_false x
  conj-left-generated x (right_unit e) g = g
  conj-left-generated x (right_zero e) g = rules.by_false x
  conj-left-generated x (neither {φ} {ψ} e f) g = rules.by_conj_left x φ ψ g

  conj-right-generated : (x : ℕ) {φ ψ χ : Fmla} → JoinView true φ ψ χ → Gen x ψ → Gen x χ
  conj-right-generated x left_unit g = g
  conj-right-generated x left_zero g = rules.by_false x
  conj-right-generated x (right_unit e) g = absurd (never x g)
  conj-right-generated x (right_zero e) g = rules.by_false x
  conj-right-generated x (neither {φ} {ψ} e f) g = rules.by_conj_right x φ ψ g

  exists-generated : (x : ℕ) {z : ℕ} {φ χ : Fmla} → ExistsView z φ χ → x ≢ z → Gen x φ → Gen x χ
  exists-generated x {z} {φ} (kept i) n g = rules.by_exists x z φ n g
  exists-generated x (dropped m) n g = g

  -- With a side χ that is no truth value, a rule that gives x in the and where y is in its left side holds of the propagated and.
  conj-other-generated : (x y : ℕ) (χ φ : Fmla) → is_truth χ ≡ false → ((α : Fmla) → Gen y α → Gen x (conj α χ)) → Gen y φ → Gen x (cp_conj φ χ)
  conj-other-generated x y χ φ f rule = go (truth-view φ)
    where
      go : {φ : Fmla} → TruthView φ → Gen y φ → Gen x (cp_conj φ χ)
      go (a_truth true) g = absurd (never y g)
      go (a_truth false) g = rules.by_false x
      go (no_truth {φ} e) g = subst⁻¹ (Gen x) (join-neither true φ χ e f) (rule φ g)

  -- The same where y is in its right side.
  other-conj-generated : (x y : ℕ) (χ φ : Fmla) → is_truth χ ≡ false → ((α : Fmla) → Gen y α → Gen x (conj χ α)) → Gen y φ → Gen x (cp_conj χ φ)
  other-conj-generated x y χ φ f rule = go (truth-view φ)
    where
      go : {φ : Fmla} → TruthView φ → Gen y φ → Gen x (cp_conj χ φ)
      go (a_truth true) g = absurd (never y g)
      go (a_truth false) g = subst⁻¹ (Gen x) (join-zero-right true χ f) (rules.by_false x)
      go (no_truth {φ} e) g = subst⁻¹ (Gen x) (join-neither true χ φ f e) (rule φ g)

  -- An equality of a variable with itself becomes true, and leaves the other side, which generates that variable.
  conj-self-generated : (x y : ℕ) (φ : Fmla) → x ≡ y → Gen y φ → Gen x (cp_conj φ (truth true))
  conj-self-generated x y φ e g = conj-left-generated x (join-view true φ (truth true)) (subst⁻¹ (λ u. Gen u φ) e g)

  conj-eq-generated : (x y : ℕ) (φ : Fmla) → Gen y φ → Gen x (cp_conj φ (cp_eq x (var y)))
  conj-eq-generated x y φ g = go (reflects-eqb x y)
    where
      go : {b : Bool} → Reflects (x ≡ y) b → Gen x (cp_conj φ (cond b (truth true) (eq x (var y))))
      go (holds e) = conj-self-generated x y φ e g
      go (fails n) = conj-other-generated x y (eq x (var y)) φ refl (rules.by_conj_eq x y) g

  conj-eq'-generated : (x y : ℕ) (φ : Fmla) → Gen y φ → Gen x (cp_conj φ (cp_eq y (var x)))
  conj-eq'-generated x y φ g = go (reflects-eqb y x)
    where
      go : {b : Bool} → Reflects (y ≡ x) b → Gen x (cp_conj φ (cond b (truth true) (eq y (var x))))
      go (holds e) = conj-self-generated x y φ (sym e) g
      go (fails n) = conj-other-generated x y (eq y (var x)) φ refl (rules.by_conj_eq' x y) g

  atom-generated : (x : ℕ) {φ : Fmla} → Ap φ → In x (fv φ) → Gen x (cp φ)
  atom-generated x (ap_rel {r} {ts}) i = rules.by_atom x (rel r ts) ap_rel i
  atom-generated x (ap_eq {x = y} {p}) i = rules.by_atom x (eq y (con p)) ap_eq i

  -- Generation in the form has the rules too.
  rules-cp : Rules (λ x φ. Gen x (cp φ))
  rules-cp =
      record {
        by_false = λ x. rules.by_false x;
        by_atom = λ x φ a i. atom-generated x a i;
        by_neg_neg = λ x φ g. neg-neg-generated x (cp φ) g;
        by_neg_disj = λ x φ ψ g. neg-join-generated x false (join-view false (cp φ) (cp ψ)) g;
        by_neg_conj = λ x φ ψ g. neg-join-generated x true (join-view true (cp φ) (cp ψ)) g;
        by_disj = λ x φ ψ g h. disj-generated x (join-view false (cp φ) (cp ψ)) g h;
        by_conj_left = λ x φ ψ g. conj-left-generated x (join-view true (cp φ) (cp ψ)) g;
        by_conj_right = λ x φ ψ g. conj-right-generated x (join-view true (cp φ) (cp ψ)) g;
        by_conj_eq = λ x y φ g. conj-eq-generated x y (cp φ) g;
        by_conj_eq' = λ x y φ g. conj-eq'-generated x y (cp φ) g;
        by_exists = λ x y φ n g. exists-generated x (exists-view y (cp φ)) n g;
      }

  -- And document 02's, where it is there: an equality of two different variables stays one in the form.
  left-cp : LeftRule Gen → LeftRule (λ x φ. Gen x (cp φ))
  left-cp rule x y φ ψ n q g =
      subst⁻¹ (λ χ. Gen x (cp_conj χ (cp ψ))) (same q) (other-conj-generated x y φ (cp ψ) (no-truth-value q) (λ α h. rule x y φ α n q h) g)
    where
      same : {φ : Fmla} → Equates φ x y → cp φ ≡ φ
      same (inl e) = subst⁻¹ (λ χ. cp χ ≡ χ) e (ap (λ b. cond b (truth true) (eq x (var y))) (reflects-false (reflects-eqb x y) n))
      same (inr e) = subst⁻¹ (λ χ. cp χ ≡ χ) e (ap (λ b. cond b (truth true) (eq y (var x))) (reflects-false (reflects-eqb y x) (λ f. n (sym f))))

      no-truth-value : {φ : Fmla} → Equates φ x y → is_truth φ ≡ false
      no-truth-value (inl e) = ap is_truth e
      no-truth-value (inr e) = ap is_truth e

ranged-never : (x : ℕ) → ¬ Ranged x (truth true)
ranged-never x g = origin g.1

-- 000: gen_Gen_cp; and the same of the wider relation.
pub generated-cp : {x : ℕ} {φ : Fmla} {G : List Fmla} → GenBy x φ G → Generated x (cp φ)
generated-cp d = gen-least (λ x φ. Generated x (cp φ)) (rules-cp Generated gen-rules (λ x g. ranged-never x (generated-ranged g))) d

pub ranged-cp : {x : ℕ} {φ : Fmla} {G : List Fmla} → RangedBy x φ G → Ranged x (cp φ)
ranged-cp d = ranged-least (λ x φ. Ranged x (cp φ)) (rules-cp Ranged ranged-rules ranged-never) (left-cp Ranged ranged-rules ranged-never ranged-left) d

-- ---- the range of the bound variables, by the shape of the formula (000: rrb_simps), and that it passes to the form (000: rrb_cp)

module _ (Gen : ℕ → Fmla → Type 0) where
  -- The variable of each exists of φ is generated in its child: 000's rrb, and BoundRanged. And the same of a list of nodes, so that Bound φ is
  -- Bounded (nodes φ 0).
  abbrev Bound : Fmla → Type 0
  Bound φ = (y : ℕ) (ψ : Fmla) → HasNode φ (exists y ψ) → Gen y ψ

  abbrev Bounded : List Node → Type 0
  Bounded ns = (y : ℕ) (ψ : Fmla) → Has (exists y ψ) ns → Gen y ψ

  -- What it asks of a formula's own root.
  abbrev Root : Fmla → Type 0
  Root (truth b) = Unit {0}
  Root (rel r ts) = Unit {0}
  Root (eq x t) = Unit {0}
  Root (neg φ) = Unit {0}
  Root (conj φ ψ) = Unit {0}
  Root (disj φ ψ) = Unit {0}
  Root (exists y φ) = Gen y φ

  bounded-one : {n : ℕ} (φ : Fmla) → Root φ → Bounded (node n φ ∷ [])
  bounded-one φ r y ψ h = subst⁻¹ Root (from_one h) r

  bounded-append : {ns ms : List Node} → Bounded ns → Bounded ms → Bounded (ns ++ ms)
  bounded-append {ns} p q y ψ h = ⊎_elim (p y ψ) (q y ψ) (from-append ns h)

  bounded-left : {ns : List Node} (ms : List Node) → Bounded (ns ++ ms) → Bounded ns
  bounded-left ms p y ψ h = p y ψ (has_left ms h)

  bounded-right : (ns : List Node) {ms : List Node} → Bounded (ns ++ ms) → Bounded ms
  bounded-right ns p y ψ h = p y ψ (has_right ns h)

  bounded-shift : (φ : Fmla) (n m : ℕ) → Bounded (nodes φ n) → Bounded (nodes φ m)
  bounded-shift φ n m p y ψ h = p y ψ (node-shift φ m n (exists y ψ) h)

  bounded-joined : (ω φ ψ : Fmla) → Root ω → Bounded (joined ω φ ψ 0) ↔ (Bound φ × Bound ψ)
  bounded-joined ω φ ψ r = (λ p. apart (bounded-left (node (0 + (size φ + size ψ)) ω ∷ []) p), λ q. bounded-append (together q) (bounded-one ω r))
    where
      apart : Bounded (nodes φ 0 ++ nodes ψ (0 + size φ)) → Bound φ × Bound ψ
      apart p = (bounded-left (nodes ψ (0 + size φ)) p, bounded-shift ψ (0 + size φ) 0 (bounded-right (nodes φ 0) p))

      together : Bound φ × Bound ψ → Bounded (nodes φ 0 ++ nodes ψ (0 + size φ))
      together q = bounded-append q.0 (bounded-shift ψ 0 (0 + size φ) q.1)

  bound-truth : (b : Bool) → Bound (truth b)
  bound-truth b = bounded-one (truth b) tt

  bound-rel : (r : ℕ) (ts : List Term) → Bound (rel r ts)
  bound-rel r ts = bounded-one (rel r ts) tt

  bound-eq : (x : ℕ) (t : Term) → Bound (eq x t)
  bound-eq x t = bounded-one (eq x t) tt

  bound-neg : (φ : Fmla) → Bound (neg φ) ↔ Bound φ
  bound-neg φ = (λ p. bounded-left (node (0 + size φ) (neg φ) ∷ []) p, λ p. bounded-append p (bounded-one (neg φ) tt))

  bound-join : (u : Bool) (φ ψ : Fmla) → Bound (join u φ ψ) ↔ (Bound φ × Bound ψ)
  bound-join true φ ψ = bounded-joined (conj φ ψ) φ ψ tt
  bound-join false φ ψ = bounded-joined (disj φ ψ) φ ψ tt

  bound-exists : (y : ℕ) (φ : Fmla) → Bound (exists y φ) ↔ (Gen y φ × Bound φ)
  bound-exists y φ = (λ p. (p y φ root, bounded-left (node (0 + size φ) (exists y φ) ∷ []) p), λ q. bounded-append q.1 (bounded-one (exists y φ) q.0))
    where
      root : HasNode (exists y φ) (exists y φ)
      root = has_right (nodes φ 0) (0 + size φ, here refl)

  eq-bound : (x : ℕ) (t : Term) → Bound (cp_eq x t)
  eq-bound x (con p) = bound-eq x (con p)
  eq-bound x (var y) = go (eqb x y)
    where
      go : (b : Bool) → Bound (cond b (truth true) (eq x (var y)))
      go true = bound-truth true
      go false = bound-eq x (var y)

  neg-bound : {φ χ : Fmla} → NegView φ χ → Bound φ → Bound χ
  neg-bound (neg_truth b) p = bound-truth (not b)
  neg-bound (neg_other {φ} e) p = (bound-neg φ).1 p

  join-bound : (u : Bool) {φ ψ χ : Fmla} → JoinView u φ ψ χ → Bound φ × Bound ψ → Bound χ
  join-bound u left_unit p = p.1
  join-bound u left_zero p = bound-truth (not u)
  join-bound u (right_unit e) p = p.0
  join-bound u (right_zero e) p = bound-truth (not u)
  join-bound u (neither {φ} {ψ} e f) p = (bound-join u φ ψ).1 p

  exists-bound : {z : ℕ} {φ χ : Fmla} → ExistsView z φ χ → Gen z φ × Bound φ → Bound χ
  exists-bound {z} {φ} (kept i) p = (bound-exists z φ).1 p
  exists-bound (dropped n) p = p.1

  -- Where generation passes to the form, so does the range of the bound variables.
  bound-passes : ((x : ℕ) (φ : Fmla) → Gen x φ → Gen x (cp φ)) → (φ : Fmla) → Bound φ → Bound (cp φ)
  bound-passes m (truth b) p = p
  bound-passes m (rel r ts) p = p
  bound-passes m (eq x t) p = eq-bound x t
  bound-passes m (neg φ) p = neg-bound (neg-view (cp φ)) (bound-passes m φ ((bound-neg φ).0 p))
  bound-passes m (conj φ ψ) p = let q = (bound-join true φ ψ).0 p in join-bound true (join-view true (cp φ) (cp ψ)) (bound-passes m φ q.0, bound-passes m ψ q.1)
  bound-passes m (disj φ ψ) p = let q = (bound-join false φ ψ).0 p in join-bound false (join-view false (cp φ) (cp ψ)) (bound-passes m φ q.0, bound-passes m ψ q.1)
  bound-passes m (exists z φ) p = let q = (bound-exists z φ).0 p in exists-bound (exists-view z (cp φ)) (m z φ q.0, bound-passes m φ q.1)

-- 000: rrb_cp; and the same of the wider relation.
pub rrb-cp : (φ : Fmla) → Rrb φ → Rrb (cp φ)
rrb-cp φ p = bound-passes Generated (λ x ψ g. generated-cp g.1) φ p

pub bound-cp : (φ : Fmla) → BoundRanged φ → BoundRanged (cp φ)
bound-cp φ p = bound-passes Ranged (λ x ψ g. ranged-cp g.1) φ p

-- ---- 000's verdict, the one before document 02, and the verdict now

-- 000: nongens_cp.
pub nongen-cp : (φ : Fmla) (x : ℕ) → Nongen (cp φ) x → Nongen φ x
nongen-cp φ x n = (fv-cp φ x n.0, λ g. n.1 (generated-cp g.1))

-- 000: sr_cp.
pub sr-cp : (φ : Fmla) → Sr φ → Sr (cp φ)
sr-cp φ s = (λ x n. s.0 x (nongen-cp φ x n), rrb-cp φ s.1)

-- A query is safe-range where its variables, free and bound, are generated in it as it stands; so it was before document 02, by 000's generation.
pub ranged-safe : (φ : Fmla) → ((x : ℕ) → In x (fv φ) → Ranged x φ) → BoundRanged φ → SafeRange φ
ranged-safe φ f b = (λ x i. ranged-cp (f x i).1, bound-cp φ b)

pub generated-safe-before : (φ : Fmla) → ((x : ℕ) → In x (fv φ) → Generated x φ) → Rrb φ → SafeBefore φ
generated-safe-before φ f b = (λ x i. generated-cp (f x i).1, rrb-cp φ b)

-- What 000 judges safe-range as it stands is safe-range.
pub sr-safe-range : (φ : Fmla) → Sr φ → SafeRange φ
sr-safe-range φ s =
    ranged-safe φ
    (λ x i. ⊎_elim (λ g. g) (λ n. absurd (s.0 x (i, λ g. n (generated-ranged g)))) (generated-decided x φ))
    (λ y ψ h. generated-ranged (s.1 y ψ h))

-- A query that was safe-range before document 02 is so now.
pub safe-before : (φ : Fmla) → SafeBefore φ → SafeRange φ
safe-before φ s = (λ x i. generated-ranged (s.0 x i), λ y ψ h. generated-ranged (s.1 y ψ h))

-- Its form was so by 000's own definition.
pub before-sr : (φ : Fmla) → SafeBefore φ → Sr (cp φ)
before-sr φ s = (λ x n. n.1 (s.0 x (fv-cp φ x n.0)), s.1)

-- Where no and of the form has an equality of two different variables on its left, what is safe-range now was so before.
pub safe-as-before : (φ : Fmla) → NoneOnLeft (cp φ) → SafeRange φ → SafeBefore φ
safe-as-before φ n s = (
  λ x i. let g = s.0 x i in (g.0, ranged-gen n g.1),
  λ y ψ h. let g = s.1 y ψ h in (g.0, ranged-gen (none_below (cp φ) 0 h.0 (exists y ψ) n h.1) g.1),
)
