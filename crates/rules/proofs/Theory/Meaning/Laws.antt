-- Laws of a rule's formula: how it grows goal by goal, and its induction principle.
use Rattle.std.specs.Prelude.{ℕ, ◌≡◌, refl, List, [], ◌∷◌, ◌++◌}
use Rattle.calculus.specs.Sets.{In, here, there}
use Rattle.calculus.specs.Formula.{Fmla, conj, exists}
use Rattle.calculus.specs.Satisfaction.{Pool}
use Rattle.rules.specs.Grammar.{Several, several, all, Goal, Rule, rule}
use Rattle.rules.specs.Meaning.{goals, pool_of, goal_formula, conjoined, matrix, bound, quantified, formula_of}

-- Further goals are conjoined to the formula of those before them.
pub conjoined-append : (pool : Pool) (φ : Fmla) (gs hs : List Goal) → conjoined pool φ (gs ++ hs) ≡ conjoined pool (conjoined pool φ gs) hs
conjoined-append pool φ [] hs = refl
conjoined-append pool φ (g ∷ gs) hs = conjoined-append pool (conj φ (goal_formula pool g)) gs hs

-- ---- a property that every part keeps

module _ (P : Fmla → Type 0) where
  module _ (joins : (φ ψ : Fmla) → P φ → P ψ → P (conj φ ψ)) (pool : Pool) where
    joined-induction : (φ : Fmla) (gs : List Goal) → P φ → ((g : Goal) → In g gs → P (goal_formula pool g)) → P (conjoined pool φ gs)
    joined-induction φ [] p h = p
    joined-induction φ (g ∷ gs) p h = joined-induction (conj φ (goal_formula pool g)) gs (joins φ (goal_formula pool g) p (h g (here refl))) (λ f i. h f (there i))

    -- A property of each goal's formula that an and keeps holds of the goals' formula.
    pub matrix-induction : (gs : Several Goal) → ((g : Goal) → In g (all gs) → P (goal_formula pool g)) → P (matrix pool gs)
    matrix-induction (several g gs) h = joined-induction (goal_formula pool g) gs (h g (here refl)) (λ f i. h f (there i))

  quantified-induction : (xs : List ℕ) → ((x : ℕ) (φ : Fmla) → In x xs → P φ → P (exists x φ)) → (φ : Fmla) → P φ → P (quantified xs φ)
  quantified-induction [] h φ p = p
  quantified-induction (x ∷ xs) h φ p = h x (quantified xs φ) (here refl) (quantified-induction xs (λ y ψ i. h y ψ (there i)) φ p)

  -- A property of each goal's formula that an and keeps, and an exists of a quantified variable, holds of the rule's formula.
  pub rule-induction : (R : Rule) → ((φ ψ : Fmla) → P φ → P ψ → P (conj φ ψ)) → ((x : ℕ) (φ : Fmla) → In x (bound R) → P φ → P (exists x φ))
      → ((g : Goal) → In g (goals R) → P (goal_formula (pool_of (goals R)) g)) → P (formula_of R)
  rule-induction (rule xs gs) joins quantifies each = quantified-induction (bound (rule xs gs)) quantifies (matrix (pool_of (all gs)) gs) (matrix-induction joins (pool_of (all gs)) gs each)
