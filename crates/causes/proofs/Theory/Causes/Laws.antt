-- Laws of checks: the lowest faulty node is where a search upward first finds the fault, and a call that is worked on has every check clear.
use Rattle.std.specs.Prelude.{ℕ, zero, suc, ◌+◌, ◌<◌, ◌≤◌, ◌≡◌, refl, ◌⊎◌, Bool, true, false, cond, not, get_or, T, leb, ltb, List, [], ◌∷◌, ◌++◌}
use Rattle.std.proofs.Common.{add-one, arith, subst, ap, ◌∙◌, sym, inl, inr, leb→le}
use Rattle.std.proofs.Math.Decide.{dec_lt}
use Rattle.causes.specs.Causes.{place, widths_fit, Finding, clear, met, or_else, lowest, is_done, number, Check, check, first_cause, when, AllClear, numbered, Answer, Done, Refused}
use Rattle.calculus.proofs.Theory.Lists.Laws.{and-holds, all-of-getD}
use Rattle.calculus.specs.Reflects.{Reflects, holds, fails}
use Rattle.calculus.proofs.Theory.Reflects.Laws.{reflected, reflects-ltb}

before-or-last : (i n : ℕ) → i < suc n → (i < n) ⊎ (n ≡ i)
before-or-last i n h = go (dec_lt i n)
  where
    go : Dec (i < n) → (i < n) ⊎ (n ≡ i)
    go (yes l) = inl l
    go (no l) = inr (omega arith)

pub lowest-next : (faulty : ℕ → Bool) (i : ℕ) → lowest faulty i ≡ clear → faulty i ≡ false → lowest faulty (i + 1) ≡ clear
lowest-next faulty i c f = rw (add-one, c, f)

pub lowest-met : (faulty : ℕ → Bool) (i n : ℕ) → lowest faulty i ≡ clear → faulty i ≡ true → i < n → lowest faulty n ≡ met i
lowest-met faulty i zero c f h = absurd (omega arith)
lowest-met faulty i (suc n) c f h = go (lowest-met faulty i n c f) (before-or-last i n h)
  where
    go : (i < n → lowest faulty n ≡ met i) → (i < n) ⊎ (n ≡ i) → lowest faulty (suc n) ≡ met i
    go r (inl l) = rw (r l)
    go r (inr e) = rw (e, c, f)

-- A cause that is met is not clear.
never-clear : {p : ℕ} → met p ≡ clear → ⊥
never-clear e = let z : ◌≡◌ {A = ℕ} 0 1 = cc in omega arith

-- A search that is clear found no node below n with the fault.
pub lowest-clear : (faulty : ℕ → Bool) (n : ℕ) → lowest faulty n ≡ clear → (i : ℕ) → i < n → faulty i ≡ false
lowest-clear faulty zero c i h = absurd (omega arith)
lowest-clear faulty (suc n) c i h = go (lowest faulty n) (faulty n) refl refl (λ p l. lowest-clear faulty n p i l) c (before-or-last i n h)
  where
    go : (l : Finding) (b : Bool) → lowest faulty n ≡ l → faulty n ≡ b → (lowest faulty n ≡ clear → i < n → faulty i ≡ false) → or_else l (cond b (met n) clear) ≡ clear → (i < n) ⊎ (n ≡ i) → faulty i ≡ false
    go clear true p q r e w = absurd (never-clear e)
    go clear false p q r e (inl l) = r p l
    go clear false p q r e (inr f) = subst (λ k. faulty k ≡ false) f q
    go (met k) b p q r e w = absurd (never-clear e)

pub reflects-done : (a : Answer) → Reflects (a ≡ Done) (is_done a)
reflects-done Done = holds refl
reflects-done (Refused n p) = fails (λ e. subst (λ a. T (not (is_done a))) e tt)

-- A search that meets the fault at no node is clear.
pub lowest-all-clear : (faulty : ℕ → Bool) (n : ℕ) → ((i : ℕ) → i < n → faulty i ≡ false) → lowest faulty n ≡ clear
lowest-all-clear faulty zero h = refl
lowest-all-clear faulty (suc n) h = rw (lowest-all-clear faulty n (λ i l. h i (omega arith)), h n (omega arith))

-- The place that a search names is faulty, and no node below it is.
pub lowest-least : (faulty : ℕ → Bool) (n i : ℕ) → lowest faulty n ≡ met i → (i < n) × (faulty i ≡ true) × ((j : ℕ) → j < i → faulty j ≡ false)
lowest-least faulty zero i e = let z : ◌≡◌ {A = ℕ} 0 1 = cc in absurd (omega arith)
lowest-least faulty (suc n) i e = go (lowest faulty n) (faulty n) refl refl (λ p. lowest-least faulty n i p) e
  where
    Least : ℕ → Type 0
    Least m = (i < m) × (faulty i ≡ true) × ((j : ℕ) → j < i → faulty j ≡ false)

    same : (p : ℕ) → met p ≡ met i → p ≡ i
    same p e = cc

    here : n ≡ i → lowest faulty n ≡ clear → faulty n ≡ true → Least (suc n)
    here f c t = (omega arith, subst (λ k. faulty k ≡ true) f t, λ j l. lowest-clear faulty n c j (omega arith))

    go : (l : Finding) (b : Bool) → lowest faulty n ≡ l → faulty n ≡ b → (lowest faulty n ≡ met i → Least n) → or_else l (cond b (met n) clear) ≡ met i → Least (suc n)
    go clear true p q r e = here (same n e) p q
    go clear false p q r e = let z : ◌≡◌ {A = ℕ} 0 1 = cc in absurd (omega arith)
    go (met k) b p q r e = let h = r (p ∙ ap met (same k e)) in (omega arith, h.1, h.2)

-- ---- an answer of Done

pub first_cause-done : (cs : List Check) → first_cause cs ≡ Done → AllClear cs
first_cause-done [] e = tt
first_cause-done (check n clear ∷ cs) e = (refl, first_cause-done cs e)
first_cause-done (check n (met p) ∷ cs) e = absurd never
  where
    never : ⊥
    never = let z : ◌≡◌ {A = ℕ} 0 1 = cc in omega arith

pub when-clear : (b : Bool) → when b ≡ clear → b ≡ false
when-clear true e = cc
when-clear false e = refl

-- ---- the first cause of checks, and of others after them

never_done : {n p : ℕ} → Refused n p ≡ Done → ⊥
never_done e = let z : ◌≡◌ {A = ℕ} 0 1 = cc in omega arith

pub then-done : (cs ds : List Check) → first_cause cs ≡ Done → first_cause (cs ++ ds) ≡ first_cause ds
then-done [] ds e = refl
then-done (check n clear ∷ cs) ds e = then-done cs ds e
then-done (check n (met p) ∷ cs) ds e = absurd (never_done e)

pub then-refused : (cs ds : List Check) (n p : ℕ) → first_cause cs ≡ Refused n p → first_cause (cs ++ ds) ≡ Refused n p
then-refused [] ds n p e = absurd (never_done (sym e))
then-refused (check m clear ∷ cs) ds n p e = then-refused cs ds n p e
then-refused (check m (met q) ∷ cs) ds n p e = e

-- Checks that meet no cause meet none before others either.
pub first_done : (cs ds : List Check) → first_cause (cs ++ ds) ≡ Done → first_cause cs ≡ Done
first_done [] ds e = refl
first_done (check n clear ∷ cs) ds e = first_done cs ds e
first_done (check n (met p) ∷ cs) ds e = absurd (never_done e)

pub later-done : (cs ds : List Check) → first_cause (cs ++ ds) ≡ Done → first_cause ds ≡ Done
later-done cs ds e = sym (then-done cs ds (first_done cs ds e)) ∙ e

-- Where no cause is met, the first check's test failed, or the test that it denies held.
pub first-clear : (n : ℕ) (b : Bool) (cs : List Check) → first_cause (check n (when b) ∷ cs) ≡ Done → (b ≡ false) × (first_cause cs ≡ Done)
first-clear n true cs e = absurd (never_done e)
first-clear n false cs e = (refl, e)

pub first-passed : (n : ℕ) (b : Bool) (cs : List Check) → first_cause (check n (when (not b)) ∷ cs) ≡ Done → T b × (first_cause cs ≡ Done)
first-passed n true cs e = (tt, e)
first-passed n false cs e = absurd (never_done e)

-- ---- numbers

-- A refusal has the number and place of the first cause met; and where none is met, the call is worked on.
pub first-met : (cs : List Check) → AllClear cs → (n p : ℕ) (ds : List Check) → (number (first_cause (cs ++ (check n (met p) ∷ ds))) ≡ n) × (place (first_cause (cs ++ (check n (met p) ∷ ds))) ≡ p)
first-met [] c n p ds = (refl, refl)
first-met (check m clear ∷ cs) c n p ds = first-met cs c.1 n p ds
first-met (check m (met q) ∷ cs) c n p ds = absurd (never-clear c.0)

pub all-clear-done : (cs : List Check) → AllClear cs → first_cause cs ≡ Done
all-clear-done [] c = refl
all-clear-done (check m clear ∷ cs) c = all-clear-done cs c.1
all-clear-done (check m (met q) ∷ cs) c = absurd (never-clear c.0)

-- A refusal by checks whose numbers are above 0 has a number above 0.
pub numbered-refused : (cs : List Check) → T (numbered cs) → (n p : ℕ) → first_cause cs ≡ Refused n p → 0 < n
numbered-refused [] t n p e = absurd (never_done (sym e))
numbered-refused (check m clear ∷ cs) t n p e = numbered-refused cs (and-holds (ltb 0 m) (numbered cs) t).1 n p e
numbered-refused (check m (met q) ∷ cs) t n p e = subst (λ k. 0 < k) (ap number e) (reflected (reflects-ltb 0 m) (and-holds (ltb 0 m) (numbered cs) t).0)

-- Of checks whose numbers are above 0 the answer 0 means that the call was worked on.
pub numbered-done : (cs : List Check) → T (numbered cs) → number (first_cause cs) ≡ 0 → first_cause cs ≡ Done
numbered-done cs t z = go (first_cause cs) refl z
  where
    go : (a : Answer) → first_cause cs ≡ a → number a ≡ 0 → a ≡ Done
    go Done e f = refl
    go (Refused n p) e f = absurd (omega (arith, numbered-refused cs t n p e))

-- ---- places

-- The place that checks name is below a bound where each of them keeps below it; a cause without a place is met at 0.
pub place-then : {m : ℕ} (cs ds : List Check) → place (first_cause cs) < m → place (first_cause ds) < m → place (first_cause (cs ++ ds)) < m
place-then [] ds h l = l
place-then (check n clear ∷ cs) ds h l = place-then cs ds h l
place-then (check n (met p) ∷ cs) ds h l = h

pub place-when : {m : ℕ} (n : ℕ) (b : Bool) (cs : List Check) → place (first_cause cs) < m → place (first_cause (check n (when b) ∷ cs)) < m
place-when n true cs h = omega arith
place-when n false cs h = h

-- The place of a refusal is its answer's.
pub refused-place : {m : ℕ} (a : Answer) (n p : ℕ) → a ≡ Refused n p → place a < m → p < m
refused-place {m} a n p e h = subst (λ b. place b < m) e h

-- A cause of nodes is met at one of them.
pub place-lowest : {m : ℕ} (n : ℕ) (faulty : ℕ → Bool) (k : ℕ) (cs : List Check) → k ≤ m → place (first_cause cs) < m → place (first_cause (check n (lowest faulty k) ∷ cs)) < m
place-lowest {m} n faulty k cs h l = go (lowest faulty k) refl
  where
    go : (f : Finding) → lowest faulty k ≡ f → place (first_cause (check n f ∷ cs)) < m
    go clear e = l
    go (met p) e = omega (arith, (lowest-least faulty k p e).0)

-- ---- cause 1

pub width_fits : (ws : List ℕ) → T (widths_fit ws) → (r : ℕ) → get_or ws r 0 ≤ 4
width_fits ws t r = leb→le (get_or ws r 0) 4 (all-of-getD (λ w. leb w 4) ws 0 t tt r)
