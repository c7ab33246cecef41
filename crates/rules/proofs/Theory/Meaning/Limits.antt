-- The limits of a rule as propositions: `Within R` says with names what `overstepped R` tests.
use Rattle.std.specs.Prelude.{ℕ, ◌≤◌, ◌<◌, ◌≡◌, refl, Bool, true, false, not, ◌||◌, List, [], ◌∷◌, ◌++◌, length, ltb}
use Rattle.std.proofs.Common.{arith, subst, ⊎_elim}
use Rattle.std.proofs.Math.Path.{subst⁻¹}
use Rattle.calculus.specs.Sets.{In, here, there, any_of, member}
use Rattle.calculus.proofs.Theory.Sets.Laws.{in-nil, in_right, in-append, reflects-all, reflects-member}
use Rattle.calculus.specs.Reflects.{Reflects, holds as met, fails as missed}
use Rattle.calculus.proofs.Theory.Reflects.Laws.{reflects-ltb}
use Rattle.calculus.specs.Order.{Ascending}
use Rattle.calculus.proofs.Theory.Order.Laws.{ltb-order, reflects-ascending}
use Rattle.calculus.specs.Formula.{size}
use Rattle.query.specs.Reading.{max_nodes, max_constants}
use Rattle.rules.specs.Grammar.{all, Goal, holds, fails, equal, Rule}
use Rattle.rules.specs.Meaning.{head, goals, goal_terms, relations_in, variables_in, values_in, pool_of, formula_of, max_terms, max_number, max_value, crowded, overstepped}

-- The rule keeps every limit of document 02's cause 20.
pub record Within (R : Rule) : Type 0 where
  pub ascends : Ascending ltb (head R)
  pub stands : (x : ℕ) → In x (head R) → In x (variables_in (goals R))
  pub few_columns : length (head R) ≤ max_terms
  pub few_terms : (g : Goal) → In g (goals R) → length (goal_terms g) ≤ max_terms
  pub few_nodes : size (formula_of R) ≤ max_nodes
  pub few_constants : length (pool_of (goals R)) ≤ max_constants
  pub relations_fit : (r : ℕ) → In r (relations_in (goals R)) → r ≤ max_number
  pub variables_fit : (x : ℕ) → In x (variables_in (goals R)) → x ≤ max_number
  pub values_fit : (v : ℕ) → In v (values_in (goals R)) → v ≤ max_value

-- ---- tests for a limit that is broken

-- `Breach A b`: the test b answers whether the limit A is broken.
data Breach (A : Type 0) : Bool → Type 0 where
  broken : ¬ A → Breach A true
  kept : A → Breach A false

breach-map : {A B : Type 0} {b : Bool} → (A → B) → (B → A) → Breach A b → Breach B b
breach-map f g (broken n) = broken (λ y. n (g y))
breach-map f g (kept a) = kept (f a)

breach-not : {A : Type 0} {b : Bool} → Reflects A b → Breach A (not b)
breach-not (met a) = kept a
breach-not (missed n) = broken n

breach-or : {A B : Type 0} {a b : Bool} → Breach A a → Breach B b → Breach (A × B) (a || b)
breach-or (broken n) s = broken (λ p. n p.0)
breach-or (kept a) (broken n) = broken (λ p. n p.1)
breach-or (kept a) (kept b) = kept (a, b)

breach-any : {A : Type 0} {P : A → Type 0} (p : A → Bool) (xs : List A) → ((x : A) → Breach (P x) (p x)) → Breach ((x : A) → In x xs → P x) (any_of p xs)
breach-any p [] r = kept (λ x i. absurd (in-nil i))
breach-any {A} {P} p (x ∷ xs) r = breach-map join (λ h. (h x (here refl), λ y i. h y (there i))) (breach-or (r x) (breach-any p xs r))
  where
    join : P x × ((y : A) → In y xs → P y) → (y : A) → In y (x ∷ xs) → P y
    join h y (here e) = subst⁻¹ P e h.0
    join h y (there i) = h.1 y i

breach-over : (limit n : ℕ) → Breach (n ≤ limit) (ltb limit n)
breach-over limit n = go (reflects-ltb limit n)
  where
    go : {b : Bool} → Reflects (limit < n) b → Breach (n ≤ limit) b
    go (met h) = broken (λ k. omega arith)
    go (missed h) = kept (omega arith)

breach-crowded : (g : Goal) → Breach (length (goal_terms g) ≤ max_terms) (crowded g)
breach-crowded (holds r ts) = breach-over max_terms (length (all ts))
breach-crowded (fails r ts) = breach-over max_terms (length (all ts))
breach-crowded (equal x t) = kept (omega arith)

-- ---- the limits of a rule

module _ (R : Rule) where
  breach-overstepped : Breach (Within R) (overstepped R)
  breach-overstepped = breach-map make unmake tests
    where
      Limits : Type 0
      Limits =
          (((((((Ascending ltb (head R) × ((x : ℕ) → In x (head R) → In x (variables_in (goals R))))
          × (length (head R) ≤ max_terms))
          × ((g : Goal) → In g (goals R) → length (goal_terms g) ≤ max_terms))
          × (size (formula_of R) ≤ max_nodes))
          × (length (pool_of (goals R)) ≤ max_constants))
          × ((r : ℕ) → In r (relations_in (goals R)) → r ≤ max_number))
          × ((x : ℕ) → In x (head R ++ variables_in (goals R)) → x ≤ max_number))
          × ((v : ℕ) → In v (values_in (goals R)) → v ≤ max_value)

      tests : Breach Limits (overstepped R)
      tests =
          breach-or (breach-or (breach-or (breach-or (breach-or (breach-or (breach-or (breach-or
          (breach-not (reflects-ascending ltb ltb-order (head R)))
          (breach-not (reflects-all (λ x. member x (variables_in (goals R))) (head R) (λ x. reflects-member x (variables_in (goals R))))))
          (breach-over max_terms (length (head R))))
          (breach-any crowded (goals R) breach-crowded))
          (breach-over max_nodes (size (formula_of R))))
          (breach-over max_constants (length (pool_of (goals R)))))
          (breach-any (ltb max_number) (relations_in (goals R)) (breach-over max_number)))
          (breach-any (ltb max_number) (head R ++ variables_in (goals R)) (breach-over max_number)))
          (breach-any (ltb max_value) (values_in (goals R)) (breach-over max_value))

      make : Limits → Within R
      make p =
          record {
            ascends = p.0.0.0.0.0.0.0.0;
            stands = p.0.0.0.0.0.0.0.1;
            few_columns = p.0.0.0.0.0.0.1;
            few_terms = p.0.0.0.0.0.1;
            few_nodes = p.0.0.0.0.1;
            few_constants = p.0.0.0.1;
            relations_fit = p.0.0.1;
            variables_fit = λ x i. p.0.1 x (in_right (head R) i);
            values_fit = p.1;
          }

      all_fit : Within R → (x : ℕ) → In x (head R ++ variables_in (goals R)) → x ≤ max_number
      all_fit w x i = w.variables_fit x (⊎_elim (w.stands x) (λ j. j) (in-append (head R) i))

      unmake : Within R → Limits
      unmake w = ((((((((w.ascends, w.stands), w.few_columns), w.few_terms), w.few_nodes), w.few_constants), w.relations_fit), all_fit w), w.values_fit)

  -- A rule that isn't overstepped keeps the limits.
  pub within : overstepped R ≡ false → Within R
  within e = go (subst (Breach (Within R)) e breach-overstepped)
    where
      go : Breach (Within R) false → Within R
      go (kept w) = w

  -- A rule that keeps the limits isn't overstepped.
  pub not-overstepped : Within R → overstepped R ≡ false
  not-overstepped w = go breach-overstepped
    where
      go : {b : Bool} → Breach (Within R) b → b ≡ false
      go (broken n) = absurd (n w)
      go (kept v) = refl
