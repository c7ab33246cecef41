-- The free variables of a rule's formula: those of its goals without the quantified ones, so the columns of its query are the variables of its head.
use Rattle.std.specs.Prelude.{ℕ, ◌≡◌, refl, ◌↔◌, false, not, List, [], ◌∷◌, ◌++◌, map, ltb}
use Rattle.std.proofs.Common.{sym, ap, subst, ◌∙◌, ⊎_elim, append-nil, append_assoc}
use Rattle.std.proofs.Math.Logic.Iff
use Rattle.calculus.specs.Sets.{In, here, there, union_of, member, remove}
use Rattle.calculus.proofs.Theory.Sets.Laws.{in-nil, in-cons, in_remove, from-remove, in-select, from-select, reflects-member}
use Rattle.calculus.proofs.Theory.Reflects.Laws.{reflects, reflected, reflects-not, decided}
use Rattle.calculus.specs.Order.{sort}
use Rattle.calculus.proofs.Theory.Order.Laws.{ltb-order, sort-members, sort-ascending, ascending-unique}
use Rattle.calculus.specs.Formula.{Fmla, conj, fv_term, fv_terms, fv}
use Rattle.calculus.specs.Satisfaction.{Pool}
use Rattle.calculus.specs.Generators.{columns}
use Rattle.rules.specs.Grammar.{Several, several, all, Term, variable, value, Goal, holds, fails, equal, Rule, rule}
use Rattle.rules.specs.Meaning.{head, goals, term_variables, goal_variables, variables_in, pool_of, term_in, goal_formula, conjoined, matrix, bound, quantified, formula_of, overstepped}
use Rattle.rules.proofs.Theory.Meaning.Limits.{Within, within}

-- ---- of the goals

module _ (pool : Pool) where
  term-free : (t : Term) → fv_term (term_in pool t) ≡ term_variables t
  term-free (variable x) = refl
  term-free (value v) = refl

  terms-free : (ts : List Term) → fv_terms (map (term_in pool) ts) ≡ union_of term_variables ts
  terms-free [] = refl
  terms-free (t ∷ ts) = λ i. term-free t i ++ terms-free ts i

  -- The free variables of a goal's formula are the goal's, in their order.
  pub goal-free : (g : Goal) → fv (goal_formula pool g) ≡ goal_variables g
  goal-free (holds r ts) = terms-free (all ts)
  goal-free (fails r ts) = terms-free (all ts)
  goal-free (equal x t) = ap (λ xs. x ∷ xs) (term-free t ∙ sym (append-nil (term_variables t)))

  joined_free : (φ : Fmla) (gs : List Goal) → fv (conjoined pool φ gs) ≡ fv φ ++ variables_in gs
  joined_free φ [] = sym (append-nil (fv φ))
  joined_free φ (g ∷ gs) =
      joined_free (conj φ (goal_formula pool g)) gs
      ∙ append_assoc (fv φ) (fv (goal_formula pool g)) (variables_in gs)
      ∙ ap (λ xs. fv φ ++ (xs ++ variables_in gs)) (goal-free g)

  -- The free variables of the goals' formula are the goals', in their order.
  pub matrix-free : (gs : Several Goal) → fv (matrix pool gs) ≡ variables_in (all gs)
  matrix-free (several g gs) = joined_free (goal_formula pool g) gs ∙ ap (λ xs. xs ++ variables_in gs) (goal-free g)

-- ---- under the quantifiers

-- Quantifying takes the quantified variables away.
pub quantified-free : (xs : List ℕ) (φ : Fmla) (x : ℕ) → In x (fv (quantified xs φ)) ↔ (In x (fv φ) × ¬ In x xs)
quantified-free [] φ x = (λ i. (i, in-nil), λ h. h.0)
quantified-free (y ∷ xs) φ x = (split (quantified-free xs φ x).0, join (quantified-free xs φ x).1)
  where
    split : (In x (fv (quantified xs φ)) → In x (fv φ) × ¬ In x xs) → In x (remove y (fv (quantified xs φ))) → In x (fv φ) × ¬ In x (y ∷ xs)
    split r i =
        let s = from-remove (fv (quantified xs φ)) i in
        let t = r s.0 in
        (t.0, λ j. ⊎_elim s.1 t.1 (in-cons j))

    join : (In x (fv φ) × ¬ In x xs → In x (fv (quantified xs φ))) → In x (fv φ) × ¬ In x (y ∷ xs) → In x (remove y (fv (quantified xs φ)))
    join r h = in_remove (r (h.0, λ i. h.1 (there i))) (λ e. h.1 (here e))

-- The quantified variables are those of the goals that the head lacks.
pub bound-members : (R : Rule) (x : ℕ) → In x (bound R) ↔ (In x (variables_in (goals R)) × ¬ In x (head R))
bound-members R x = (split, join)
  where
    split : In x (bound R) → In x (variables_in (goals R)) × ¬ In x (head R)
    split i =
        let r = from-select (λ y. not (member y (head R))) (sort ltb (variables_in (goals R))) i in
        ((sort-members ltb ltb-order (variables_in (goals R)) x).0 r.0, reflected (reflects-not (reflects-member x (head R))) r.1)

    join : In x (variables_in (goals R)) × ¬ In x (head R) → In x (bound R)
    join h = in-select (λ y. not (member y (head R))) ((sort-members ltb ltb-order (variables_in (goals R)) x).1 h.0) (reflects (reflects-not (reflects-member x (head R))) h.1)

-- A variable of the goals that isn't quantified is one of the head.
pub unbound-head : (R : Rule) (x : ℕ) → In x (variables_in (goals R)) → ¬ In x (bound R) → In x (head R)
unbound-head R x i n = ⊎_elim (λ j. j) (λ m. absurd (n ((bound-members R x).1 (i, m)))) (decided (reflects-member x (head R)))

-- A variable of the head isn't quantified.
pub head-unbound : (R : Rule) (x : ℕ) → In x (head R) → ¬ In x (bound R)
head-unbound R x i j = ((bound-members R x).0 j).1 i

-- ---- the columns

formula-free : (R : Rule) → Within R → (x : ℕ) → In x (fv (formula_of R)) ↔ In x (head R)
formula-free (rule xs gs) w x = Iff.trans (quantified-free (bound (rule xs gs)) (matrix (pool_of (all gs)) gs) x) (unquantified, quantifies)
  where
    unquantified : In x (fv (matrix (pool_of (all gs)) gs)) × ¬ In x (bound (rule xs gs)) → In x xs
    unquantified h = unbound-head (rule xs gs) x (subst (In x) (matrix-free (pool_of (all gs)) gs) h.0) h.1

    quantifies : In x xs → In x (fv (matrix (pool_of (all gs)) gs)) × ¬ In x (bound (rule xs gs))
    quantifies i = (subst (In x) (sym (matrix-free (pool_of (all gs)) gs)) (w.stands x i), head-unbound (rule xs gs) x i)

-- The columns of a rule's query are the variables of its head.
pub rule-columns : (R : Rule) → overstepped R ≡ false → columns (formula_of R) ≡ head R
rule-columns R e =
    ascending-unique ltb ltb-order (sort-ascending ltb ltb-order (fv (formula_of R))) (within R e).ascends
    (λ x. Iff.trans (sort-members ltb ltb-order (fv (formula_of R)) x) (formula-free R (within R e) x))
