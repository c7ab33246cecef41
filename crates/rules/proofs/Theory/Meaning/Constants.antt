-- Laws of the pool of constants: it only grows, each value that was put in is found, and a value keeps its place. So terms, goals and formulas that were
-- made with a pool stay the same with a grown one.
use Rattle.std.specs.Prelude.{ℕ, zero, suc, ◌<◌, ◌≡◌, refl, ◌⊎◌, Bool, true, false, cond, List, [], ◌∷◌, ◌++◌, map, length, get_or}
use Rattle.std.proofs.Common.{suc-le-suc, arith, sym, ap, ◌∙◌, inl, inr, ⊎_elim, append-nil, append_assoc}
use Rattle.std.proofs.Math.Path.{subst⁻¹}
use Rattle.calculus.specs.Sets.{In, here, there, ◌⊆◌, union_of, member}
use Rattle.calculus.proofs.Theory.Sets.Laws.{in-nil, in_one, in-cons, in_left, in_right, in-append, reflects-member}
use Rattle.calculus.specs.Reflects.{Reflects, holds as met, fails as missed}
use Rattle.calculus.proofs.Theory.Reflects.Laws.{reflects-eqb}
use Rattle.calculus.specs.Formula.{con, Fmla, rel, eq, neg, conj}
use Rattle.calculus.specs.Satisfaction.{Pool}
use Rattle.rules.specs.Grammar.{Several, several, all, Term, variable, value, Goal, holds, fails, equal}
use Rattle.rules.specs.Meaning.{term_values, goal_values, values_in, added, pooled, pool_of, place_in, term_in, goal_formula, conjoined, matrix}

-- ---- how the pool grows

-- Values are put in one after the other.
pub pooled-append : (pool : Pool) (vs ws : List ℕ) → pooled pool (vs ++ ws) ≡ pooled (pooled pool vs) ws
pooled-append pool [] ws = refl
pooled-append pool (v ∷ vs) ws = pooled-append (added pool v) vs ws

-- A value that is in the pool already adds nothing.
pub added-known : (pool : Pool) (v : ℕ) → In v pool → added pool v ≡ pool
added-known pool v i = go (reflects-member v pool)
  where
    go : {b : Bool} → Reflects (In v pool) b → cond b pool (pool ++ (v ∷ [])) ≡ pool
    go (met j) = refl
    go (missed n) = absurd (n i)

-- Another value goes to the end.
pub added_new : (pool : Pool) (v : ℕ) → ¬ In v pool → added pool v ≡ pool ++ (v ∷ [])
added_new pool v n = go (reflects-member v pool)
  where
    go : {b : Bool} → Reflects (In v pool) b → cond b pool (pool ++ (v ∷ [])) ≡ pool ++ (v ∷ [])
    go (met j) = absurd (n j)
    go (missed m) = refl

-- A pool to which a value is added starts with what it was.
pub added-extends : (pool : Pool) (v : ℕ) → (more : List ℕ) × (added pool v ≡ pool ++ more)
added-extends pool v = go (member v pool)
  where
    go : (b : Bool) → (more : List ℕ) × (cond b pool (pool ++ (v ∷ [])) ≡ pool ++ more)
    go true = ([], sym (append-nil pool))
    go false = (v ∷ [], refl)

-- So does a pool to which several are added.
pub pooled-extends : (pool : Pool) (vs : List ℕ) → (more : List ℕ) × (pooled pool vs ≡ pool ++ more)
pooled-extends pool [] = ([], sym (append-nil pool))
pooled-extends pool (v ∷ vs) =
    let first = added-extends pool v in
    let later = pooled-extends (added pool v) vs in
    (first.0 ++ later.0, later.1 ∙ ap (λ p. p ++ later.0) first.1 ∙ append_assoc pool first.0 later.0)

-- ---- the members of the pool

-- A member stays one.
pub pooled-keeps : (pool : Pool) (vs : List ℕ) → pool ⊆ pooled pool vs
pooled-keeps pool vs v i = let r = pooled-extends pool vs in subst⁻¹ (In v) r.1 (in_left r.0 i)

in-added : (pool : Pool) (v : ℕ) → In v (added pool v)
in-added pool v = go (reflects-member v pool)
  where
    go : {b : Bool} → Reflects (In v pool) b → In v (cond b pool (pool ++ (v ∷ [])))
    go (met i) = i
    go (missed n) = in_right pool (here refl)

-- A value that was put in is a member.
pub in-pooled : (pool : Pool) (vs : List ℕ) → vs ⊆ pooled pool vs
in-pooled pool (v ∷ vs) w (here e) = subst⁻¹ (λ u. In u (pooled (added pool v) vs)) e (pooled-keeps (added pool v) vs v (in-added pool v))
in-pooled pool (v ∷ vs) w (there i) = in-pooled (added pool v) vs w i
in-pooled pool [] w x'' = elim x'' [ ]

from-added : (pool : Pool) (v w : ℕ) → In w (added pool v) → In w pool ⊎ (w ≡ v)
from-added pool v w = go (member v pool)
  where
    go : (b : Bool) → In w (cond b pool (pool ++ (v ∷ []))) → In w pool ⊎ (w ≡ v)
    go true i = inl i
    go false i = ⊎_elim (λ j. inl j) (λ j. inr (in_one j)) (in-append pool i)

-- A member was one before, or was put in.
pub from-pooled : (pool : Pool) (vs : List ℕ) (w : ℕ) → In w (pooled pool vs) → In w pool ⊎ In w vs
from-pooled pool [] w i = inl i
from-pooled pool (v ∷ vs) w i =
    ⊎_elim (λ j. ⊎_elim (λ k. inl k) (λ e. inr (here e)) (from-added pool v w j)) (λ j. inr (there j)) (from-pooled (added pool v) vs w i)

-- Every value of the goals is a constant of the rule.
pub in-pool_of : (gs : List Goal) → values_in gs ⊆ pool_of gs
in-pool_of gs = in-pooled [] (values_in gs)

-- A rule has no other constants.
pub from-pool_of : (gs : List Goal) → pool_of gs ⊆ values_in gs
from-pool_of gs v i = ⊎_elim (λ j. absurd (in-nil j)) (λ j. j) (from-pooled [] (values_in gs) v i)

-- ---- the place of a value

-- A member's place is one of the pool.
pub place-below : (pool : Pool) (v : ℕ) → In v pool → place_in pool v < length pool
place-below (c ∷ cs) v i = go (reflects-eqb v c) (place-below cs v)
  where
    go : {b : Bool} → Reflects (v ≡ c) b → (In v cs → place_in cs v < length cs) → cond b zero (suc (place_in cs v)) < suc (length cs)
    go (met e) r = omega arith
    go (missed n) r = suc-le-suc (r (⊎_elim (λ e. absurd (n e)) (λ j. j) (in-cons i)))
place-below [] v i = elim i [ ]

-- A member's place holds it.
pub place-holds : (pool : Pool) (v : ℕ) → In v pool → get_or pool (place_in pool v) 0 ≡ v
place-holds (c ∷ cs) v i = go (reflects-eqb v c) (place-holds cs v)
  where
    go : {b : Bool} → Reflects (v ≡ c) b → (In v cs → get_or cs (place_in cs v) 0 ≡ v) → get_or (c ∷ cs) (cond b zero (suc (place_in cs v))) 0 ≡ v
    go (met e) r = sym e
    go (missed n) r = r (⊎_elim (λ e. absurd (n e)) (λ j. j) (in-cons i))
place-holds [] v i = elim i [ ]

-- A member keeps its place where the pool grows.
pub place-grows : (pool more : List ℕ) (v : ℕ) → In v pool → place_in (pool ++ more) v ≡ place_in pool v
place-grows (c ∷ cs) more v i = go (reflects-eqb v c) (place-grows cs more v)
  where
    go : {b : Bool} → Reflects (v ≡ c) b → (In v cs → place_in (cs ++ more) v ≡ place_in cs v) → cond b zero (suc (place_in (cs ++ more) v)) ≡ cond b zero (suc (place_in cs v))
    go (met e) r = refl
    go (missed n) r = ap suc (r (⊎_elim (λ e. absurd (n e)) (λ j. j) (in-cons i)))
place-grows [] more v i = elim i [ ]

-- A value that the pool lacks would stand at its end.
pub place-missing : (pool : Pool) (v : ℕ) → ¬ In v pool → place_in pool v ≡ length pool
place-missing [] v n = refl
place-missing (c ∷ cs) v n = go (reflects-eqb v c) (place-missing cs v (λ i. n (there i)))
  where
    go : {b : Bool} → Reflects (v ≡ c) b → place_in cs v ≡ length cs → cond b zero (suc (place_in cs v)) ≡ suc (length cs)
    go (met e) r = absurd (n (here e))
    go (missed m) r = ap suc r

-- ---- what was made with a pool stays the same with a grown one

module _ (pool : Pool) (vs : List ℕ) where
  -- A member keeps its place where values are added.
  pub place-stable : (v : ℕ) → In v pool → place_in (pooled pool vs) v ≡ place_in pool v
  place-stable v i = let r = pooled-extends pool vs in ap (λ p. place_in p v) r.1 ∙ place-grows pool r.0 v i

  -- A term whose value is in the pool stays the same.
  pub term_stable : (t : Term) → term_values t ⊆ pool → term_in (pooled pool vs) t ≡ term_in pool t
  term_stable (variable x) h = refl
  term_stable (value v) h = ap con (place-stable v (h v (here refl)))

  -- So do terms whose values are in the pool.
  pub terms-stable : (ts : List Term) → union_of term_values ts ⊆ pool → map (term_in (pooled pool vs)) ts ≡ map (term_in pool) ts
  terms-stable [] h = refl
  terms-stable (t ∷ ts) h =
      λ i. term_stable t (λ v j. h v (in_left (union_of term_values ts) j)) i ∷ terms-stable ts (λ v j. h v (in_right (term_values t) j)) i

  -- A goal whose values are in the pool keeps its formula.
  pub goal-stable : (g : Goal) → goal_values g ⊆ pool → goal_formula (pooled pool vs) g ≡ goal_formula pool g
  goal-stable (holds r ts) h = ap (rel r) (terms-stable (all ts) h)
  goal-stable (fails r ts) h = ap (λ us. neg (rel r us)) (terms-stable (all ts) h)
  goal-stable (equal x t) h = ap (eq x) (term_stable t (λ v i. h v (in_left [] i)))

  -- Goals whose values are in the pool are conjoined to the same formula.
  pub conjoined-stable : (φ ψ : Fmla) → φ ≡ ψ → (gs : List Goal) → values_in gs ⊆ pool → conjoined (pooled pool vs) φ gs ≡ conjoined pool ψ gs
  conjoined-stable φ ψ e [] h = e
  conjoined-stable φ ψ e (g ∷ gs) h =
      conjoined-stable (conj φ (goal_formula (pooled pool vs) g)) (conj ψ (goal_formula pool g))
      (λ i. conj (e i) (goal-stable g (λ v j. h v (in_left (values_in gs) j)) i)) gs (λ v j. h v (in_right (goal_values g) j))

  -- Goals whose values are in the pool keep their formula.
  pub matrix-stable : (gs : Several Goal) → values_in (all gs) ⊆ pool → matrix (pooled pool vs) gs ≡ matrix pool gs
  matrix-stable (several g gs) h =
      conjoined-stable (goal_formula (pooled pool vs) g) (goal_formula pool g) (goal-stable g (λ v j. h v (in_left (values_in gs) j))) gs (λ v j. h v (in_right (goal_values g) j))
