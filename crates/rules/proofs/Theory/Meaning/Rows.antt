-- The rows of a rule's query are the rule's: satisfaction of the packed formula is that some numbers for the quantified variables make every goal true.
use Rattle.std.specs.Prelude.{ℕ, ◌≡◌, refl, ◌↔◌, false, List, [], ◌∷◌, map, length, ltb}
use Rattle.std.proofs.Math.Nat.{suc_inj}
use Rattle.std.proofs.Common.{suc-ne-zero, sym, ap, subst, ◌∙◌, ⊎_elim}
use Rattle.std.proofs.Math.Path.{subst⁻¹}
use Rattle.std.proofs.Math.Logic.Iff
use Rattle.std.proofs.lemmas.List.{length-map}
use Rattle.calculus.specs.Sets.{In, here, there, ◌⊆◌, union_of}
use Rattle.calculus.proofs.Theory.Sets.Laws.{in-nil, in-cons, in_left, in_right, in-union}
use Rattle.calculus.proofs.Theory.Reflects.Iff.{iff-path, iff-eq}
use Rattle.calculus.specs.Order.{Ascending, before}
use Rattle.calculus.proofs.Theory.Order.Laws.{ltb-order, below-differs}
use Rattle.calculus.specs.Formula.{Fmla, conj, fv}
use Rattle.calculus.specs.Satisfaction.{Pool, fact, Database, Env, bind, Sat, values, value as value_of_lem}
use Rattle.calculus.proofs.Theory.Satisfaction.Laws.{bind-same, bind-other, bind-cases, sat-cong}
use Rattle.calculus.specs.Rows.{Row, row_env, RowSat, Right, listed}
use Rattle.calculus.proofs.Theory.Rows.Laws.{map_same, row_env-of}
use Rattle.rules.specs.Grammar.{Several, several, all, Term, variable, value, Goal, holds, fails, equal, Rule, rule}
use Rattle.rules.specs.Meaning.{head, goals, term_values, goal_values, values_in, term_value, GoalTrue, RuleRow, pool_of, term_in, goal_formula, conjoined, matrix, bound, quantified, formula_of, overstepped}
use Rattle.rules.proofs.Theory.Meaning.Constants.{in-pool_of, place-holds}
use Rattle.rules.proofs.Theory.Meaning.Limits.{Within, within}
use Rattle.rules.proofs.Theory.Meaning.Variables.{matrix-free, unbound-head, head-unbound}

-- ---- the goals

module _ (pool : Pool) (D : Database) (σ : Env) where
  term-means : (t : Term) → term_values t ⊆ pool → value_of_lem pool σ (term_in pool t) ≡ term_value σ t
  term-means (variable x) h = refl
  term-means (value v) h = place-holds pool v (h v (here refl))

  terms-mean : (ts : List Term) → ((t : Term) → In t ts → term_values t ⊆ pool) → values pool σ (map (term_in pool) ts) ≡ map (term_value σ) ts
  terms-mean [] h = refl
  terms-mean (t ∷ ts) h = λ i. term-means t (h t (here refl)) i ∷ terms-mean ts (λ u j. h u (there j)) i

  relation-means : (r : ℕ) (ts : Several Term) → union_of term_values (all ts) ⊆ pool → In (fact r (values pool σ (map (term_in pool) (all ts)))) D ↔ In (fact r (map (term_value σ) (all ts))) D
  relation-means r ts h = iff-path (λ vs. In (fact r vs) D) (terms-mean (all ts) (λ t i v j. h v (in-union term_values i j)))

  -- A goal's formula is satisfied where the goal is true.
  pub goal-means : (g : Goal) → goal_values g ⊆ pool → Sat pool D (goal_formula pool g) σ ↔ GoalTrue D σ g
  goal-means (holds r ts) h = relation-means r ts h
  goal-means (fails r ts) h = Iff.not (relation-means r ts h)
  goal-means (equal x t) h = iff-eq refl (term-means t (λ v i. h v (in_left [] i)))

  first-and-rest : (g : Goal) (gs : List Goal) → goal_values g ⊆ pool → (Sat pool D (goal_formula pool g) σ × ((f : Goal) → In f gs → GoalTrue D σ f)) ↔ ((f : Goal) → In f (g ∷ gs) → GoalTrue D σ f)
  first-and-rest g gs h = (λ s. each ((goal-means g h).0 s.0) s.1, λ s. ((goal-means g h).1 (s g (here refl)), λ f i. s f (there i)))
    where
      each : GoalTrue D σ g → ((f : Goal) → In f gs → GoalTrue D σ f) → (f : Goal) → In f (g ∷ gs) → GoalTrue D σ f
      each t s f (here e) = subst⁻¹ (GoalTrue D σ) e t
      each t s f (there i) = s f i

  joined-means : (φ : Fmla) (gs : List Goal) → values_in gs ⊆ pool → Sat pool D (conjoined pool φ gs) σ ↔ (Sat pool D φ σ × ((g : Goal) → In g gs → GoalTrue D σ g))
  joined-means φ [] h = (λ s. (s, λ g i. absurd (in-nil i)), λ s. s.0)
  joined-means φ (g ∷ gs) h =
      let rest = joined-means (conj φ (goal_formula pool g)) gs (λ v i. h v (in_right (goal_values g) i)) in
      let regroup = first-and-rest g gs (λ v i. h v (in_left (values_in gs) i)) in
      Iff.trans rest (λ s. (s.0.0, regroup.0 (s.0.1, s.1)), λ s. let r = regroup.1 s.1 in ((s.0, r.0), r.1))

  -- The goals' formula is satisfied where every goal is true.
  pub matrix-means : (gs : Several Goal) → values_in (all gs) ⊆ pool → Sat pool D (matrix pool gs) σ ↔ ((g : Goal) → In g (all gs) → GoalTrue D σ g)
  matrix-means (several g gs) h =
      Iff.trans (joined-means (goal_formula pool g) gs (λ v i. h v (in_right (goal_values g) i))) (first-and-rest g gs (λ v i. h v (in_left (values_in gs) i)))

-- ---- the quantifiers

-- τ is σ up to the variables xs, as far as φ looks.
abbrev pub Varies : List ℕ → Fmla → Env → Env → Type 0
Varies xs φ σ τ = (x : ℕ) → In x (fv φ) → ¬ In x xs → τ x ≡ σ x

module _ (pool : Pool) (D : Database) where
  from-quantified : (xs : List ℕ) (φ : Fmla) (σ : Env) → Sat pool D (quantified xs φ) σ → (τ : Env) × Varies xs φ σ τ × Sat pool D φ τ
  from-quantified [] φ σ s = (σ, λ x i n. refl, s)
  from-quantified (y ∷ xs) φ σ s =
      let r = from-quantified xs φ (bind y s.0 σ) s.1 in
      (r.0, λ x i n. r.1 x i (λ j. n (there j)) ∙ bind-other y s.0 σ x (λ e. n (here e)), r.2)

  to-quantified : (xs : List ℕ) (φ : Fmla) (σ τ : Env) → Varies xs φ σ τ → Sat pool D φ τ → Sat pool D (quantified xs φ) σ
  to-quantified [] φ σ τ h s = sat-cong pool D φ τ σ (λ x i. h x i in-nil) s
  to-quantified (y ∷ xs) φ σ τ h s = (τ y, to-quantified xs φ (bind y (τ y) σ) τ rest s)
    where
      rest : Varies xs φ (bind y (τ y) σ) τ
      rest x i n = bind-cases (λ u. τ x ≡ u) y (τ y) σ x (λ e. ap τ e) (λ m. h x i (λ j. ⊎_elim m n (in-cons j)))

  -- Quantifiers let the variables that they bind vary.
  pub quantified-means : (xs : List ℕ) (φ : Fmla) (σ : Env) → Sat pool D (quantified xs φ) σ ↔ ((τ : Env) × Varies xs φ σ τ × Sat pool D φ τ)
  quantified-means xs φ σ = (from-quantified xs φ σ, λ h. to-quantified xs φ σ h.0 h.1 h.2)

-- ---- rows

-- A row is the row of the assignment that gives the columns its values.
row_env-own : (cols : List ℕ) (w : Row) → Ascending ltb cols → length w ≡ length cols → map (row_env cols w) cols ≡ w
row_env-own [] [] a e = refl
row_env-own [] (v ∷ w) a e = absurd (suc-ne-zero (length w) e)
row_env-own (c ∷ cols) [] a e = absurd (suc-ne-zero (length cols) (sym e))
row_env-own (c ∷ cols) (v ∷ w) (before h a) e = λ i. bind-same c v (row_env cols w) c refl i ∷ (map_same (row_env (c ∷ cols) (v ∷ w)) (row_env cols w) cols apart ∙ row_env-own cols w a (suc_inj e)) i
  where
    apart : (x : ℕ) → In x cols → row_env (c ∷ cols) (v ∷ w) x ≡ row_env cols w x
    apart x j = bind-other c v (row_env cols w) x (λ f. below-differs ltb ltb-order c x (h x j) (sym f))

-- ---- the rows of a rule

module _ (xs : List ℕ) (gs : Several Goal) (D : Database) (w : Row) where
  abbrev whole : Rule
  whole = rule xs gs

  abbrev φ : Fmla
  φ = matrix (pool_of (all gs)) gs

  satisfied : Within whole → length w ≡ length xs → (τ : Env) × Varies (bound whole) φ (row_env xs w) τ × Sat (pool_of (all gs)) D φ τ → RuleRow D whole w
  satisfied k e (τ, h, s) = (τ, map_same τ (row_env xs w) xs column ∙ row_env-own xs w k.ascends e, (matrix-means (pool_of (all gs)) D τ gs (in-pool_of (all gs))).0 s)
    where
      column : (x : ℕ) → In x xs → τ x ≡ row_env xs w x
      column x i = h x (subst⁻¹ (In x) (matrix-free (pool_of (all gs)) gs) (k.stands x i)) (head-unbound whole x i)

  satisfies : RuleRow D whole w → (length w ≡ length xs) × ((τ : Env) × Varies (bound whole) φ (row_env xs w) τ × Sat (pool_of (all gs)) D φ τ)
  satisfies (σ, e, t) = (ap length (sym e) ∙ length-map xs σ, (σ, column, (matrix-means (pool_of (all gs)) D σ gs (in-pool_of (all gs))).1 t))
    where
      column : Varies (bound whole) φ (row_env xs w) σ
      column x i n = sym (row_env-of σ xs x (unbound-head whole x (subst (In x) (matrix-free (pool_of (all gs)) gs) i) n)) ∙ ap (λ u. row_env xs u x) e

-- The rows that satisfy a rule's query are the rows of the rule.
pub rule-row : (R : Rule) → overstepped R ≡ false → (D : Database) (w : Row) → RowSat (pool_of (goals R)) D (formula_of R) (head R) w ↔ RuleRow D R w
rule-row (rule xs gs) e D w = (
  λ s. satisfied xs gs D w (within (rule xs gs) e) s.0 (means.0 s.1),
  λ r. let s = satisfies xs gs D w r in (s.0, means.1 s.1),
)
  where
    means : Sat (pool_of (all gs)) D (formula_of (rule xs gs)) (row_env xs w) ↔ ((τ : Env) × Varies (bound (rule xs gs)) (matrix (pool_of (all gs)) gs) (row_env xs w) τ × Sat (pool_of (all gs)) D (matrix (pool_of (all gs)) gs) τ)
    means = quantified-means (pool_of (all gs)) D (bound (rule xs gs)) (matrix (pool_of (all gs)) gs) (row_env xs w)

-- A right listing of a rule's query has exactly the rows of the rule.
pub rule-rows : (R : Rule) → overstepped R ≡ false → (D : Database) (rows : List Row) → Right (pool_of (goals R)) D (formula_of R) (head R) (listed rows) → (w : Row) → In w rows ↔ RuleRow D R w
rule-rows R e D rows right w = Iff.trans (right.1 w) (rule-row R e D w)
