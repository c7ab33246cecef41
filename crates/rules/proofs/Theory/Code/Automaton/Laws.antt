-- Laws of running the automaton: one text after another, how a byte passes over moves or meets a digit's, and how a number is read.
use Rattle.std.specs.Prelude.{ℕ, zero, suc, ◌+◌, ◌*◌, ◌≤◌, ◌<◌, ◌≡◌, refl, Bool, cond, List, [], ◌∷◌, ◌++◌, map}
use Rattle.std.proofs.Common.{ap, ◌∙◌, arith}
use Rattle.std.proofs.Math.Option.{Option, none, some}
use Rattle.calculus.specs.Reflects.{Reflects, holds, fails}
use Rattle.calculus.proofs.Theory.Reflects.Laws.{reflects-eqb}
use Rattle.calculus.specs.Lists.{run as from}
use Rattle.calculus.specs.Decimal.{numeral}
use Rattle.calculus.proofs.Theory.Decimal.Laws.{numeral-digit, numeral-more, numeral-induction}
use Rattle.rules.specs.Grammar.{Term, Goal, rule}
use Rattle.rules.specs.Code.Automaton.{State, column_due, closed, goal_due, term_due, ended, done, Move, ◌to◌, digit_moves, and_last, relation_goal, moves, chosen, stepped, run}

-- ---- one text after another

-- A text after another is read from the state to which the first leads.
pub run-append : (o : Option State) (xs ys : List ℕ) → run o (xs ++ ys) ≡ run (run o xs) ys
run-append o [] ys = refl
run-append o (x ∷ xs) ys = run-append (stepped o x) xs ys

-- Once the reading has stopped, no text goes on.
pub run_none : (xs : List ℕ) → run none xs ≡ none
run_none [] = refl
run_none (x ∷ xs) = run_none xs

-- No state is none.
pub none-not-some : {s : State} → ¬ (◌≡◌ {A = Option State} none (some s))
none-not-some e = let z : ◌≡◌ {A = ℕ} 0 1 = cc in absurd (omega arith)

-- A text leads from one state to another, and a second text on from there.
pub run-then : (s : State) {t u : State} (xs ys : List ℕ) → run (some s) xs ≡ some t → run (some t) ys ≡ some u → run (some s) (xs ++ ys) ≡ some u
run-then s xs ys e f = run-append (some s) xs ys ∙ ap (λ o. run o ys) e ∙ f

-- ---- what can follow a variable of the head, a term of a relation, and a goal

abbrev pub after_column : List ℕ → ℕ → List Move
after_column xs x = (44 to column_due (xs ++ (x ∷ []))) ∷ (41 to closed (xs ++ (x ∷ []))) ∷ []

abbrev pub after_term : List ℕ → List Goal → Bool → ℕ → List Term → Term → List Move
after_term xs gs d r ts t = (44 to term_due xs gs d r (ts ++ (t ∷ []))) ∷ (41 to ended xs gs (relation_goal d r (and_last ts t))) ∷ []

abbrev pub after_goal : List ℕ → List Goal → Goal → List Move
after_goal xs gs g = (44 to goal_due xs (gs ++ (g ∷ []))) ∷ (46 to done (rule xs (and_last gs g))) ∷ []

-- ---- digits

-- The moves of the n digits from k on.
abbrev digits_to : (ℕ → State) → ℕ → ℕ → List Move
digits_to next k n = map (λ d. (48 + d) to next d) (from k n)

-- No digit is this byte.
abbrev pub NoDigit : ℕ → Type 0
NoDigit b = (d : ℕ) → d < 10 → ¬ (b ≡ 48 + d)

-- The bytes below the digits are none.
pub no_digit : (b : ℕ) → b < 48 → NoDigit b
no_digit b h d l = omega arith

module _ (next : ℕ → State) (ms : List Move) where
  passed_over : (b : ℕ) → NoDigit b → (k n : ℕ) → k + n ≤ 10 → chosen b (digits_to next k n ++ ms) ≡ chosen b ms
  passed_over b h k zero l = refl
  passed_over b h k (suc n) l = go (reflects-eqb b (48 + k)) (passed_over b h (suc k) n (omega arith))
    where
      go : {t : Bool} → Reflects (b ≡ 48 + k) t → chosen b (digits_to next (suc k) n ++ ms) ≡ chosen b ms → cond t (some (next k)) (chosen b (digits_to next (suc k) n ++ ms)) ≡ chosen b ms
      go (holds e) r = absurd (h k (omega arith) e)
      go (fails g) r = r

  met-among : (d k n : ℕ) → k ≤ d → d < k + n → chosen (48 + d) (digits_to next k n ++ ms) ≡ some (next d)
  met-among d k zero h l = absurd (omega arith)
  met-among d k (suc n) h l = go (reflects-eqb (48 + d) (48 + k)) (met-among d (suc k) n)
    where
      go : {t : Bool} → Reflects (48 + d ≡ 48 + k) t → (suc k ≤ d → d < suc k + n → chosen (48 + d) (digits_to next (suc k) n ++ ms) ≡ some (next d)) → cond t (some (next k)) (chosen (48 + d) (digits_to next (suc k) n ++ ms)) ≡ some (next d)
      go (holds e) r = let q : k ≡ d = omega arith in ap (λ m. some (next m)) q
      go (fails g) r = r (omega arith) (omega arith)

module _ (at : Option ℕ → State) (ms : List Move) where
  -- A byte that is no digit passes over the moves of digits.
  pub chosen-passed : (b : ℕ) → NoDigit b → (n : Option ℕ) → chosen b (digit_moves at n ++ ms) ≡ chosen b ms
  chosen-passed b h none = passed_over (λ d. at (some d)) ms b h 0 10 (omega arith)
  chosen-passed b h (some zero) = refl
  chosen-passed b h (some (suc n)) = passed_over (λ d. at (some (suc n * 10 + d))) ms b h 0 10 (omega arith)

  -- Any digit can be the first of a number.
  pub chosen-first : (d : ℕ) → d < 10 → chosen (48 + d) (digit_moves at none ++ ms) ≡ some (at (some d))
  chosen-first d h = met-among (λ e. at (some e)) ms d 0 10 (omega arith) h

  -- Any digit can follow a number other than 0.
  pub chosen_more : (n d : ℕ) → 0 < n → d < 10 → chosen (48 + d) (digit_moves at (some n) ++ ms) ≡ some (at (some (n * 10 + d)))
  chosen_more zero d p h = absurd (omega arith)
  chosen_more (suc n) d p h = met-among (λ e. at (some (suc n * 10 + e))) ms d 0 10 (omega arith) h

-- `at` are the states of a number being read, and at s its first digit can follow.
module _ (at : Option ℕ → State) (later : ℕ → List Move) (reads : (n : ℕ) → moves (at (some n)) ≡ digit_moves at (some n) ++ later n)
    (s : State) (others : List Move) (starts : moves s ≡ digit_moves at none ++ others) where
  -- The text of a number leads to the number.
  pub run-numeral : (n : ℕ) → run (some s) (numeral n) ≡ some (at (some n))
  run-numeral = numeral-induction (λ n. run (some s) (numeral n) ≡ some (at (some n))) digit more
    where
      digit : (d : ℕ) → d < 10 → run (some s) (numeral d) ≡ some (at (some d))
      digit d h = ap (run (some s)) (numeral-digit d h) ∙ ap (chosen (48 + d)) starts ∙ chosen-first at others d h

      more : (n d : ℕ) → 0 < n → d < 10 → run (some s) (numeral n) ≡ some (at (some n)) → run (some s) (numeral (n * 10 + d)) ≡ some (at (some (n * 10 + d)))
      more n d p h e =
          ap (run (some s)) (numeral-more n d p h)
          ∙ run-then s (numeral n) ((48 + d) ∷ []) e (ap (chosen (48 + d)) (reads n) ∙ chosen_more at (later n) n d p h)
