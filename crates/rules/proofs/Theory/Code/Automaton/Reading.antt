-- The automaton reads every rule: its text leads from the start to the rule, part by part.
use Rattle.std.specs.Prelude.{ℕ, ◌<◌, ◌≡◌, refl, Bool, true, false, List, [], ◌∷◌, ◌++◌}
use Rattle.std.proofs.Common.{sym, ap, ◌∙◌, append_assoc, append-nil, arith}
use Rattle.std.proofs.Math.Option.{Option, none, some}
use Rattle.std.proofs.Math.Seq.{append_snoc}
use Rattle.calculus.specs.Decimal.{numeral}
use Rattle.rules.specs.Grammar.{Several, several, all, Term, variable, value, Goal, holds, fails, equal, Rule, rule, parted, bracketed, variable_text, term_text, relation_text, goal_text, head_text, written}
use Rattle.rules.specs.Code.Automaton.{State, start, column_due, column, closed, colon, goal_due, relation, term_due, term, ended, subject, spaced, other_due, other, done, Move, ◌to◌, digit_moves, and_last, relation_goal, moves, chosen, run}
use Rattle.rules.proofs.Theory.Code.Automaton.Laws.{run-then, after_column, after_term, after_goal, no_digit, chosen-passed, run-numeral}

-- ---- several things

-- Those read before, the one after them, and the rest.
abbrev with_rest : {A : Type 0} → List A → A → List A → Several A
with_rest xs y [] = and_last xs y
with_rest xs y (z ∷ zs) = with_rest (xs ++ (y ∷ [])) z zs

module _ {A : Type 0} where
  with-rest-first : (x : A) (xs : List A) (y : A) (ys : List A) → with_rest (x ∷ xs) y ys ≡ several x (xs ++ (y ∷ ys))
  with-rest-first x xs y [] = refl
  with-rest-first x xs y (z ∷ zs) = with-rest-first x (xs ++ (y ∷ [])) z zs ∙ ap (several x) (append_snoc xs y (z ∷ zs))

  with-rest-all : (x : A) (xs : List A) → with_rest [] x xs ≡ several x xs
  with-rest-all x [] = refl
  with-rest-all x (y ∷ ys) = with-rest-first x [] y ys

  all-last : (xs : List A) (x : A) → all (and_last xs x) ≡ xs ++ (x ∷ [])
  all-last [] x = refl
  all-last (y ∷ ys) x = refl

-- `due` are the states at which a thing is due: a comma leads to the next, the byte `close` to the state `end`.
module _ {A : Type 0} (text : A → List ℕ) (due : List A → State) (close : ℕ) (end : Several A → State)
    (next : (xs : List A) (x : A) → run (some (due xs)) (text x ++ (44 ∷ [])) ≡ some (due (xs ++ (x ∷ []))))
    (last : (xs : List A) (x : A) → run (some (due xs)) (text x ++ (close ∷ [])) ≡ some (end (and_last xs x))) where
  run-rest : (xs : List A) (y : A) (ys : List A) → run (some (due xs)) (parted text (several y ys) ++ (close ∷ [])) ≡ some (end (with_rest xs y ys))
  run-rest xs y [] = ap (λ bs. run (some (due xs)) (bs ++ (close ∷ []))) (append-nil (text y)) ∙ last xs y
  run-rest xs y (z ∷ zs) =
      ap (run (some (due xs))) (comma-first (text y) (parted text (several z zs)) (close ∷ []))
      ∙ run-then (due xs) (text y ++ (44 ∷ [])) (parted text (several z zs) ++ (close ∷ [])) (next xs y) (run-rest (xs ++ (y ∷ [])) z zs)
    where
      comma-first : (a b c : List ℕ) → a ++ (44 ∷ b) ++ c ≡ a ++ (44 ∷ []) ++ (b ++ c)
      comma-first a b c = simp append_assoc

  -- The text of several things, and the byte that closes them.
  run-several : (xs : Several A) → run (some (due [])) (parted text xs ++ (close ∷ [])) ≡ some (end xs)
  run-several (several x xs) = run-rest [] x xs ∙ ap (λ ys. some (end ys)) (with-rest-all x xs)

-- ---- a number, and the byte after it

module _ (at : Option ℕ → State) (later : ℕ → List Move) (reads : (n : ℕ) → moves (at (some n)) ≡ digit_moves at (some n) ++ later n)
    (s : State) (others : List Move) (starts : moves s ≡ digit_moves at none ++ others) where
  run-number : (n b : ℕ) {u : State} → b < 48 → chosen b (later n) ≡ some u → run (some s) (numeral n ++ (b ∷ [])) ≡ some u
  run-number n b h e =
      run-then s (numeral n) (b ∷ []) (run-numeral at later reads s others starts n)
      (ap (chosen b) (reads n) ∙ chosen-passed at (later n) b (no_digit b h) (some n) ∙ e)

-- ---- the head

column-ends : (xs : List ℕ) (x b : ℕ) {u : State} → b < 48 → chosen b (after_column xs x) ≡ some u → run (some (column_due xs)) (variable_text x ++ (b ∷ [])) ≡ some u
column-ends xs x b h e = run-number (column xs) (after_column xs) (λ n. refl) (column xs none) [] refl x b h e

run-head : (xs : List ℕ) → run (some start) (head_text xs ++ (58 ∷ [])) ≡ some (colon xs)
run-head [] = refl
run-head (x ∷ xs) =
    run-then (column_due []) (parted variable_text (several x xs) ++ (41 ∷ [])) (58 ∷ [])
    (run-several variable_text column_due 41 (λ ys. closed (all ys))
    (λ ys y. column-ends ys y 44 (omega arith) refl)
    (λ ys y. column-ends ys y 41 (omega arith) (ap (λ zs. some (closed zs)) (sym (all-last ys y))))
    (several x xs))
    refl

-- ---- terms

module _ (xs : List ℕ) (gs : List Goal) (d : Bool) (r : ℕ) where
  term-ends : (ts : List Term) (t : Term) (b : ℕ) {u : State} → b < 48 → chosen b (after_term xs gs d r ts t) ≡ some u → run (some (term_due xs gs d r ts)) (term_text t ++ (b ∷ [])) ≡ some u
  term-ends ts (variable x) b h e = run-number (term xs gs d r ts true) (λ m. after_term xs gs d r ts (variable m)) (λ n. refl) (term xs gs d r ts true none) [] refl x b h e
  term-ends ts (value v) b h e = run-number (term xs gs d r ts false) (λ m. after_term xs gs d r ts (value m)) (λ n. refl) (term_due xs gs d r ts) ((88 to term xs gs d r ts true none) ∷ []) refl v b h e

  run-relation : (ts : Several Term) → run (some (relation xs gs d none)) (numeral r ++ bracketed (parted term_text ts)) ≡ some (ended xs gs (relation_goal d r ts))
  run-relation ts =
      ap (run (some (relation xs gs d none))) (sym (append_snoc (numeral r) 40 (parted term_text ts ++ (41 ∷ []))))
      ∙ run-then (relation xs gs d none) (numeral r ++ (40 ∷ [])) (parted term_text ts ++ (41 ∷ []))
      (run-number (relation xs gs d) (λ m. (40 to term_due xs gs d m []) ∷ []) (λ n. refl) (relation xs gs d none) [] refl r 40 (omega arith) refl)
      (run-several term_text (term_due xs gs d r) 41 (λ us. ended xs gs (relation_goal d r us))
      (λ us t. term-ends us t 44 (omega arith) refl)
      (λ us t. term-ends us t 41 (omega arith) refl)
      ts)

-- ---- goals

module _ (xs : List ℕ) (gs : List Goal) where
  other-ends : (x : ℕ) (t : Term) (b : ℕ) {u : State} → b < 48 → chosen b (after_goal xs gs (equal x t)) ≡ some u → run (some (other_due xs gs x)) (term_text t ++ (b ∷ [])) ≡ some u
  other-ends x (variable y) b h e = run-number (other xs gs x true) (λ m. after_goal xs gs (equal x (variable m))) (λ n. refl) (other xs gs x true none) [] refl y b h e
  other-ends x (value v) b h e = run-number (other xs gs x false) (λ m. after_goal xs gs (equal x (value m))) (λ n. refl) (other_due xs gs x) ((88 to other xs gs x true none) ∷ []) refl v b h e

  equality-parts : (n t c : List ℕ) → n ++ (32 ∷ 61 ∷ 32 ∷ t) ++ c ≡ n ++ (32 ∷ []) ++ (61 ∷ 32 ∷ (t ++ c))
  equality-parts n t c = simp append_assoc

  goal-ends : (g : Goal) (b : ℕ) {u : State} → b < 48 → chosen b (after_goal xs gs g) ≡ some u → run (some (goal_due xs gs)) (goal_text g ++ (b ∷ [])) ≡ some u
  goal-ends (holds r ts) b h e = run-then (goal_due xs gs) (relation_text r ts) (b ∷ []) (run-relation xs gs false r ts) e
  goal-ends (fails r ts) b h e = run-then (goal_due xs gs) (goal_text (fails r ts)) (b ∷ []) (run-relation xs gs true r ts) e
  goal-ends (equal x t) b h e =
      ap (run (some (subject xs gs none))) (equality-parts (numeral x) (term_text t) (b ∷ []))
      ∙ run-then (subject xs gs none) (numeral x ++ (32 ∷ [])) (61 ∷ 32 ∷ (term_text t ++ (b ∷ [])))
      (run-number (subject xs gs) (λ m. (32 to spaced xs gs m) ∷ []) (λ n. refl) (subject xs gs none) [] refl x 32 (omega arith) refl)
      (other-ends x t b h e)

-- ---- rules

-- The text of a rule leads from the start to the rule.
pub run-written : (R : Rule) → run (some start) (written R) ≡ some (done R)
run-written (rule xs gs) =
    ap (run (some start)) (sym (append_snoc (head_text xs) 58 (45 ∷ (parted goal_text gs ++ (46 ∷ [])))))
    ∙ run-then start (head_text xs ++ (58 ∷ [])) (45 ∷ (parted goal_text gs ++ (46 ∷ []))) (run-head xs)
    (run-several goal_text (goal_due xs) 46 (λ hs. done (rule xs hs))
    (λ hs g. goal-ends xs hs g 44 (omega arith) refl)
    (λ hs g. goal-ends xs hs g 46 (omega arith) refl)
    gs)
