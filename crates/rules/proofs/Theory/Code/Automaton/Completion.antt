-- Every state can be completed: some text leads from it to a rule.
use Rattle.std.specs.Prelude.{ℕ, ◌<◌, ◌≡◌, refl, ◌⊎◌, Bool, true, false, List, [], ◌∷◌, ◌++◌}
use Rattle.std.proofs.Common.{sym, ap, ◌∙◌, inl, inr, arith}
use Rattle.std.proofs.Math.Option.{Option, none, some}
use Rattle.rules.specs.Grammar.{Term, Goal, Rule, rule, equal}
use Rattle.rules.specs.Code.Automaton.{State, start, letter, column_due, column, closed, colon, goal_due, denial_n, denial_no, denial_not, denial, relation, term_due, term, ended, subject, spaced, equals, other_due, other, done, Move, ◌to◌, digit_moves, after, and_last, term_of, relation_goal, moves, chosen, step, run}
use Rattle.rules.proofs.Theory.Code.Automaton.Laws.{run_none, none-not-some, after_column, after_term, after_goal, no_digit, chosen-passed, chosen-first}

-- Some text leads from the state to a rule.
abbrev pub Completed : State → Type 0
Completed s = (rest : List ℕ) × (R : Rule) × (run (some s) rest ≡ some (done R))

-- A step to a state that can be completed.
by-step : (s : State) (b : ℕ) {t : State} → step s b ≡ some t → Completed t → Completed s
by-step s b e c = (b ∷ c.0, c.1, ap (λ o. run o c.0) e ∙ c.2)

-- `at` are the states of a number being read, and the byte b, no digit, ends the number.
module _ (at : Option ℕ → State) (later : ℕ → List Move) (reads : (n : Option ℕ) → moves (at n) ≡ digit_moves at n ++ after n later)
    (b : ℕ) (h : b < 48) (next : ℕ → State) (ends : (n : ℕ) → chosen b (later n) ≡ some (next n)) (completes : (n : ℕ) → Completed (next n)) where
  by_end : (n : ℕ) → Completed (at (some n))
  by_end n = by-step (at (some n)) b (ap (chosen b) (reads (some n)) ∙ chosen-passed at (later n) b (no_digit b h) (some n) ∙ ends n) (completes n)

  by_number : (n : Option ℕ) → Completed (at n)
  by_number none = by-step (at none) 48 (ap (chosen 48) (reads none) ∙ chosen-first at [] 0 (omega arith)) (by_end 0)
  by_number (some n) = by_end n

-- ---- from the last states to the first

module _ (xs : List ℕ) (gs : List Goal) where
  from-ended : (g : Goal) → Completed (ended xs gs g)
  from-ended g = by-step (ended xs gs g) 46 refl ([], rule xs (and_last gs g), refl)

  module _ (d : Bool) (r : ℕ) (ts : List Term) where
    from-term : (v : Bool) (n : Option ℕ) → Completed (term xs gs d r ts v n)
    from-term v =
        by_number (term xs gs d r ts v)
        (λ m. after_term xs gs d r ts (term_of v m))
        (λ n. refl)
        41
        (omega arith)
        (λ m. ended xs gs (relation_goal d r (and_last ts (term_of v m))))
        (λ m. refl)
        (λ m. from-ended (relation_goal d r (and_last ts (term_of v m))))

    from-term-due : Completed (term_due xs gs d r ts)
    from-term-due = by-step (term_due xs gs d r ts) 48 refl (from-term false (some 0))

  from-relation : (d : Bool) (n : Option ℕ) → Completed (relation xs gs d n)
  from-relation d = by_number (relation xs gs d) (λ r. (40 to term_due xs gs d r []) ∷ []) (λ n. refl) 40 (omega arith) (λ r. term_due xs gs d r []) (λ r. refl) (λ r. from-term-due d r [])

  from-denial : Completed (denial xs gs)
  from-denial = by-step (denial xs gs) 114 refl (from-relation true none)

  from-denial-not : Completed (denial_not xs gs)
  from-denial-not = by-step (denial_not xs gs) 32 refl from-denial

  from-denial-no : Completed (denial_no xs gs)
  from-denial-no = by-step (denial_no xs gs) 116 refl from-denial-not

  from-denial-n : Completed (denial_n xs gs)
  from-denial-n = by-step (denial_n xs gs) 111 refl from-denial-no

  from-goal-due : Completed (goal_due xs gs)
  from-goal-due = by-step (goal_due xs gs) 114 refl (from-relation false none)

  module _ (x : ℕ) where
    from-other : (v : Bool) (n : Option ℕ) → Completed (other xs gs x v n)
    from-other v =
        by_number (other xs gs x v)
        (λ m. after_goal xs gs (equal x (term_of v m)))
        (λ n. refl)
        46
        (omega arith)
        (λ m. done (rule xs (and_last gs (equal x (term_of v m)))))
        (λ m. refl)
        (λ m. ([], rule xs (and_last gs (equal x (term_of v m))), refl))

    from-other-due : Completed (other_due xs gs x)
    from-other-due = by-step (other_due xs gs x) 48 refl (from-other false (some 0))

    from-equals : Completed (equals xs gs x)
    from-equals = by-step (equals xs gs x) 32 refl from-other-due

    from-spaced : Completed (spaced xs gs x)
    from-spaced = by-step (spaced xs gs x) 61 refl from-equals

  from-subject : (n : Option ℕ) → Completed (subject xs gs n)
  from-subject = by_number (subject xs gs) (λ x. (32 to spaced xs gs x) ∷ []) (λ n. refl) 32 (omega arith) (spaced xs gs) (λ x. refl) from-spaced

from-colon : (xs : List ℕ) → Completed (colon xs)
from-colon xs = by-step (colon xs) 45 refl (from-goal-due xs [])

from-closed : (xs : List ℕ) → Completed (closed xs)
from-closed xs = by-step (closed xs) 58 refl (from-colon xs)

from-column : (xs : List ℕ) (n : Option ℕ) → Completed (column xs n)
from-column xs = by_number (column xs) (after_column xs) (λ n. refl) 41 (omega arith) (λ x. closed (xs ++ (x ∷ []))) (λ x. refl) (λ x. from-closed (xs ++ (x ∷ [])))

from-letter : Completed letter
from-letter = by-step letter 58 refl (from-colon [])

-- Every state can be completed.
pub completed : (s : State) → (rest : List ℕ) × (R : Rule) × (run (some s) rest ≡ some (done R))
completed start = by-step start 113 refl from-letter
completed letter = from-letter
completed (column_due xs) = by-step (column_due xs) 88 refl (from-column xs none)
completed (column xs n) = from-column xs n
completed (closed xs) = from-closed xs
completed (colon xs) = from-colon xs
completed (goal_due xs gs) = from-goal-due xs gs
completed (denial_n xs gs) = from-denial-n xs gs
completed (denial_no xs gs) = from-denial-no xs gs
completed (denial_not xs gs) = from-denial-not xs gs
completed (denial xs gs) = from-denial xs gs
completed (relation xs gs d n) = from-relation xs gs d n
completed (term_due xs gs d r ts) = from-term-due xs gs d r ts
completed (term xs gs d r ts v n) = from-term xs gs d r ts v n
completed (ended xs gs g) = from-ended xs gs g
completed (subject xs gs n) = from-subject xs gs n
completed (spaced xs gs x) = from-spaced xs gs x
completed (equals xs gs x) = from-equals xs gs x
completed (other_due xs gs x) = from-other-due xs gs x
completed (other xs gs x v n) = from-other xs gs x v n
completed (done R) = ([], R, refl)

-- A state is a rule's last one or no rule's: one that can be completed by nothing is the last one, and after that nothing can follow.
pub done-or-not : (s : State) → ((R : Rule) × (s ≡ done R)) ⊎ ((R : Rule) → ¬ (s ≡ done R))
done-or-not s = go (completed s).0 (completed s).1 (completed s).2
  where
    go : (rest : List ℕ) (R : Rule) → run (some s) rest ≡ some (done R) → ((S : Rule) × (s ≡ done S)) ⊎ ((S : Rule) → ¬ (s ≡ done S))
    go [] R e = inl (R, cc)
    go (b ∷ bs) R e = inr (λ S f. none-not-some (sym (run_none bs) ∙ sym (ap (λ t. run (some t) (b ∷ bs)) f) ∙ e))
