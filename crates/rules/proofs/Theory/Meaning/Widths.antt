-- The widths decide whether the packed query of a rule within its limits is accepted: it is refused where one is above 4, or where they don't allow the rule.
use Rattle.std.specs.Prelude.{ℕ, ◌≡◌, refl, ◌⊎◌, Bool, true, false, List, [], ◌∷◌, length, get_or, T, ltb}
use Rattle.std.proofs.Common.{arith, sym, ap, subst, ◌∙◌, inl, inr}
use Rattle.std.proofs.Math.Path.{subst⁻¹}
use Rattle.std.proofs.lemmas.List.{length-map}
use Rattle.calculus.specs.Sets.{In, here, there}
use Rattle.calculus.proofs.Theory.Reflects.Laws.{reflects-T, reflects-false}
use Rattle.calculus.specs.Formula.{Fmla, conj}
use Rattle.calculus.specs.Satisfaction.{Pool}
use Rattle.calculus.specs.Generators.{columns}
use Rattle.causes.specs.Causes.{Finding, clear, met, check, when, lowest, first_cause, number, widths_fit, Done}
use Rattle.causes.proofs.Theory.Causes.Laws.{numbered-done}
use Rattle.query.specs.Reading.{max_columns, column_checks, read_checks, read_reply, read_of, formula, pool as pool-in}
use Rattle.query.specs.Nodes.{mismatched}
use Rattle.query.specs.Decoding.{root}
use Rattle.query.specs.Packing.{words, Fits, rel_fits, neg_fits, conj_fits, exists_fits}
use Rattle.query.proofs.Theory.Packing.Bytes.{bytes-at}
use Rattle.query.proofs.Theory.Packing.Trees.{width_check}
use Rattle.query.proofs.Theory.Packing.Laws.{packed-checks, packed-reply}
use Rattle.query.proofs.Theory.Accepted.Laws.{read-cause, read-accepted}
use Rattle.rules.specs.Grammar.{all, several, Goal, holds, fails, equal, Rule, rule}
use Rattle.rules.specs.Meaning.{goals, pool_of, term_in, goal_formula, conjoined, bound, quantified, matrix, formula_of, overstepped, goal_allowed, Allowed}
use Rattle.rules.proofs.Theory.Meaning.Limits.{within}
use Rattle.rules.proofs.Theory.Meaning.Packing.{rule-room, query-formula, rule-causes, bytes_small}
use Rattle.rules.specs.Reply.{bytes_of}

-- ---- where a rule's formula fits, the widths allow its goals

module _ (ws : List ℕ) (k : ℕ) where
  left_fits : {φ ψ : Fmla} → Fits ws k (conj φ ψ) → Fits ws k φ
  left_fits (conj_fits f g) = f

  right_fits : {φ ψ : Fmla} → Fits ws k (conj φ ψ) → Fits ws k ψ
  right_fits (conj_fits f g) = g

  quantified-fits : (xs : List ℕ) (φ : Fmla) → Fits ws k (quantified xs φ) → Fits ws k φ
  quantified-fits [] φ f = f
  quantified-fits (x ∷ xs) φ (exists_fits h f) = quantified-fits xs φ f

  module _ (pool : Pool) where
    goal-fits : (g : Goal) → Fits ws k (goal_formula pool g) → goal_allowed ws g
    goal-fits (holds r ts) (rel_fits h some wide f) = sym (length-map (all ts) (term_in pool)) ∙ wide
    goal-fits (fails r ts) (neg_fits (rel_fits h some wide f)) = sym (length-map (all ts) (term_in pool)) ∙ wide
    goal-fits (equal x t) f = tt

    first_fits : (φ : Fmla) (gs : List Goal) → Fits ws k (conjoined pool φ gs) → Fits ws k φ
    first_fits φ [] f = f
    first_fits φ (g ∷ gs) f = left_fits (first_fits (conj φ (goal_formula pool g)) gs f)

    later-fits : (φ : Fmla) (gs : List Goal) → Fits ws k (conjoined pool φ gs) → (g : Goal) → In g gs → Fits ws k (goal_formula pool g)
    later-fits φ (h ∷ gs) f g (here e) = subst⁻¹ (λ d. Fits ws k (goal_formula pool d)) e (right_fits (first_fits (conj φ (goal_formula pool h)) gs f))
    later-fits φ (h ∷ gs) f g (there i) = later-fits (conj φ (goal_formula pool h)) gs f g i
    later-fits φ [] f g x'' = elim x'' [ ]

    matrix-fits : (h : Goal) (gs : List Goal) → Fits ws k (conjoined pool (goal_formula pool h) gs) → (g : Goal) → In g (h ∷ gs) → Fits ws k (goal_formula pool g)
    matrix-fits h gs f g (here e) = subst⁻¹ (λ d. Fits ws k (goal_formula pool d)) e (first_fits (goal_formula pool h) gs f)
    matrix-fits h gs f g (there i) = later-fits (goal_formula pool h) gs f g i

  formula-allowed : (R : Rule) → Fits ws k (formula_of R) → Allowed ws R
  formula-allowed (rule xs (several h gs)) f g i =
      let pool : Pool = pool_of (h ∷ gs) in
      goal-fits pool g (matrix-fits pool h gs (quantified-fits (bound (rule xs (several h gs))) (matrix pool (several h gs)) f) g i)

-- ---- what reading its bytes answers

-- The checks of the relations and of the columns have other numbers than 1.
never-one : (ws ns : List ℕ) → ¬ (number (first_cause (width_check ws ns ∷ column_checks ns)) ≡ 1)
never-one ws ns = go (lowest (λ i. mismatched ws (get_or ns i 0)) (length ns)) (ltb max_columns (length (columns (root ns))))
  where
    go : (f : Finding) (b : Bool) → ¬ (number (first_cause (check 9 f ∷ check 10 (when b) ∷ [])) ≡ 1)
    go clear true z = omega arith
    go clear false z = omega arith
    go (met i) b z = omega arith

module _ (R : Rule) (e : overstepped R ≡ false) (ws : List ℕ) where
  -- The formula of the query read is the rule's.
  read-rule : (read_of ws (bytes_of R)).answer ≡ Done → formula (read_of ws (bytes_of R)).query ≡ formula_of R
  read-rule h =
      let w = within R e in
      ap (λ r. formula r.query) (packed-reply (pool_of (goals R)) (formula_of R) (rule-room R w) w.few_nodes w.few_constants ws)
      ∙ ap (λ a. formula (read_reply a (pool_of (goals R)) (words (formula_of R) 0)).query) (read-cause ws (bytes_of R) Done h)
      ∙ query-formula R e

  answered : first_cause (read_checks ws (bytes_of R)) ≡ (read_of ws (bytes_of R)).answer
  answered = read-cause ws (bytes_of R) (read_of ws (bytes_of R)).answer refl

  -- The answer 0 means that the bytes are accepted.
  read-zero : number (read_of ws (bytes_of R)).answer ≡ 0 → (read_of ws (bytes_of R)).answer ≡ Done
  read-zero z = sym answered ∙ numbered-done (read_checks ws (bytes_of R)) tt (ap number answered ∙ z)

  -- Widths of at most 4 aren't refused with 1.
  read-fit : T (widths_fit ws) → ¬ (number (read_of ws (bytes_of R)).answer ≡ 1)
  read-fit t z =
      let w = within R e in
      let p = packed-checks (pool_of (goals R)) (formula_of R) (rule-room R w) w.few_nodes w.few_constants ws t in
      never-one ws (words (formula_of R) 0) (ap number (sym p ∙ answered) ∙ z)

-- Widths for which a rule's bytes are accepted allow the rule.
pub rule-allowed : (R : Rule) → overstepped R ≡ false → (ws : List ℕ) → (read_of ws (bytes_of R)).answer ≡ Done → Allowed ws R
rule-allowed R e ws h =
    let a = read-accepted ws (bytes_of R) (bytes-at (bytes_of R) (bytes_small R e)) h in
    let k : ℕ = length (pool-in (read_of ws (bytes_of R)).query) in
    formula-allowed ws k R (subst (Fits ws k) (read-rule R e ws h) a.packable.fits)

-- Widths of at most 4 that don't allow the rule are refused with 9.
pub rule-unallowed : (R : Rule) → overstepped R ≡ false → (ws : List ℕ) → T (widths_fit ws) → ¬ Allowed ws R → number (read_of ws (bytes_of R)).answer ≡ 9
rule-unallowed R e ws t n = go (rule-causes R e ws)
  where
    go : (number (read_of ws (bytes_of R)).answer ≡ 0) ⊎ (number (read_of ws (bytes_of R)).answer ≡ 1) ⊎ (number (read_of ws (bytes_of R)).answer ≡ 9) → number (read_of ws (bytes_of R)).answer ≡ 9
    go (inl z) = absurd (n (rule-allowed R e ws (read-zero R e ws z)))
    go (inr (inl z)) = absurd (read-fit R e ws t z)
    go (inr (inr z)) = z

-- A width above 4 is refused with 1.
pub rule-unfit : (R : Rule) → overstepped R ≡ false → (ws : List ℕ) → ¬ T (widths_fit ws) → number (read_of ws (bytes_of R)).answer ≡ 1
rule-unfit R e ws n = rw (reflects-false (reflects-T (widths_fit ws)) n)
