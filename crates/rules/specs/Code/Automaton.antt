-- The automaton that reads a rule. A state holds what has been read of the rule, so the text read so far can be told from it (`spelled`). Definitions only; the
-- laws are in Code/Automaton/.
use Rattle.std.specs.Prelude.{ℕ, zero, suc, ◌+◌, ◌*◌, Bool, true, false, cond, List, [], ◌∷◌, ◌++◌, map, eqb}
use Rattle.std.proofs.Math.Option.{Option, none, some}
use Rattle.calculus.specs.Lists.{run as from}
use Rattle.calculus.specs.Decimal.{numeral}
use Rattle.rules.specs.Grammar.{Several, several, Term, variable, value, Goal, holds, fails, equal, Rule, rule, parted, variable_text, term_text, goal_text, head_text, written}

-- Where the reader stands, and what it has read: the head's variables, the goals that are complete, and of the goal being read whether it is denied, its
-- relation or variable, its complete terms, whether an X stood before the number, and the number, where a digit of it has been read.
pub data State : Type 0 where
  -- before the q
  start : State
  -- q
  letter : State
  -- q( or q(X0, : an X is due
  column_due : List ℕ → State
  column : List ℕ → Option ℕ → State
  -- q(X0)
  closed : List ℕ → State
  -- :
  colon : List ℕ → State
  -- :- or :-r0(X0), : a goal is due
  goal_due : List ℕ → List Goal → State
  -- n no not and "not "
  denial_n : List ℕ → List Goal → State
  denial_no : List ℕ → List Goal → State
  denial_not : List ℕ → List Goal → State
  denial : List ℕ → List Goal → State
  -- r
  relation : List ℕ → List Goal → Bool → Option ℕ → State
  -- r0( or r0(X0, : a term is due
  term_due : List ℕ → List Goal → Bool → ℕ → List Term → State
  term : List ℕ → List Goal → Bool → ℕ → List Term → Bool → Option ℕ → State
  -- r0(X0)
  ended : List ℕ → List Goal → Goal → State
  -- X
  subject : List ℕ → List Goal → Option ℕ → State
  -- the space, the =, the space of an equality; then a term is due
  spaced : List ℕ → List Goal → ℕ → State
  equals : List ℕ → List Goal → ℕ → State
  other_due : List ℕ → List Goal → ℕ → State
  other : List ℕ → List Goal → ℕ → Bool → Option ℕ → State
  -- the full stop
  done : Rule → State

-- ---- the steps

infix 20 ◌to◌
-- A byte, and the state that it leads to.
pub data Move : Type 0 where
  ◌to◌ : ℕ → State → Move

-- The digits that can follow: any as the first, none after a first 0.
abbrev pub digit_moves : (Option ℕ → State) → Option ℕ → List Move
digit_moves at none = map (λ d. (48 + d) to at (some d)) (from 0 10)
digit_moves at (some zero) = []
digit_moves at (some (suc n)) = map (λ d. (48 + d) to at (some (suc n * 10 + d))) (from 0 10)

-- What can follow once a digit has been read.
abbrev pub after : Option ℕ → (ℕ → List Move) → List Move
after none f = []
after (some n) f = f n

-- xs and x, one thing or more.
abbrev pub and_last : {A : Type 0} → List A → A → Several A
and_last [] x = several x []
and_last (y ∷ ys) x = several y (ys ++ (x ∷ []))

abbrev pub term_of : Bool → ℕ → Term
term_of v n = cond v (variable n) (value n)

abbrev pub relation_goal : Bool → ℕ → Several Term → Goal
relation_goal denied r ts = cond denied (fails r ts) (holds r ts)

abbrev pub moves : State → List Move
moves start = (113 to letter) ∷ []
moves letter = (40 to column_due []) ∷ (58 to colon []) ∷ []
moves (column_due xs) = (88 to column xs none) ∷ []
moves (column xs n) = digit_moves (column xs) n ++ after n (λ x. (44 to column_due (xs ++ (x ∷ []))) ∷ (41 to closed (xs ++ (x ∷ []))) ∷ [])
moves (closed xs) = (58 to colon xs) ∷ []
moves (colon xs) = (45 to goal_due xs []) ∷ []
moves (goal_due xs gs) = (114 to relation xs gs false none) ∷ (110 to denial_n xs gs) ∷ (88 to subject xs gs none) ∷ []
moves (denial_n xs gs) = (111 to denial_no xs gs) ∷ []
moves (denial_no xs gs) = (116 to denial_not xs gs) ∷ []
moves (denial_not xs gs) = (32 to denial xs gs) ∷ []
moves (denial xs gs) = (114 to relation xs gs true none) ∷ []
moves (relation xs gs d n) = digit_moves (relation xs gs d) n ++ after n (λ r. (40 to term_due xs gs d r []) ∷ [])
moves (term_due xs gs d r ts) = digit_moves (term xs gs d r ts false) none ++ ((88 to term xs gs d r ts true none) ∷ [])
moves (term xs gs d r ts v n) =
    digit_moves (term xs gs d r ts v) n
    ++ after n (λ m. (44 to term_due xs gs d r (ts ++ (term_of v m ∷ []))) ∷ (41 to ended xs gs (relation_goal d r (and_last ts (term_of v m)))) ∷ [])
moves (ended xs gs g) = (44 to goal_due xs (gs ++ (g ∷ []))) ∷ (46 to done (rule xs (and_last gs g))) ∷ []
moves (subject xs gs n) = digit_moves (subject xs gs) n ++ after n (λ x. (32 to spaced xs gs x) ∷ [])
moves (spaced xs gs x) = (61 to equals xs gs x) ∷ []
moves (equals xs gs x) = (32 to other_due xs gs x) ∷ []
moves (other_due xs gs x) = digit_moves (other xs gs x false) none ++ ((88 to other xs gs x true none) ∷ [])
moves (other xs gs x v n) =
    digit_moves (other xs gs x v) n
    ++ after n (λ m. (44 to goal_due xs (gs ++ (equal x (term_of v m) ∷ []))) ∷ (46 to done (rule xs (and_last gs (equal x (term_of v m))))) ∷ [])
moves (done R) = []

-- The first move with this byte.
abbrev pub chosen : ℕ → List Move → Option State
chosen b [] = none
chosen b ((c to s) ∷ ms) = cond (eqb b c) (some s) (chosen b ms)

abbrev pub step : State → ℕ → Option State
step s b = chosen b (moves s)

abbrev pub stepped : Option State → ℕ → Option State
stepped none b = none
stepped (some s) b = step s b

abbrev pub run : Option State → List ℕ → Option State
run o [] = o
run o (b ∷ bs) = run (stepped o b) bs

-- ---- the text that leads to a state

-- Things that a comma follows each.
abbrev pub due : {A : Type 0} → (A → List ℕ) → List A → List ℕ
due text [] = []
due text (x ∷ xs) = parted text (several x xs) ++ (44 ∷ [])

-- The digits read of a number.
abbrev pub begun : Option ℕ → List ℕ
begun none = []
begun (some n) = numeral n

-- X where it has been read.
abbrev pub name : Bool → List ℕ
name v = cond v (88 ∷ []) []

-- "not " where it has been read.
abbrev pub not_text : Bool → List ℕ
not_text d = cond d (110 ∷ 111 ∷ 116 ∷ 32 ∷ []) []

-- The text up to a goal, up to the number of its relation, up to a term of it, and up to the term of an equality.
abbrev pub to_goal : List ℕ → List Goal → List ℕ
to_goal xs gs = head_text xs ++ (58 ∷ 45 ∷ due goal_text gs)

abbrev pub to_relation : List ℕ → List Goal → Bool → List ℕ
to_relation xs gs d = to_goal xs gs ++ (not_text d ++ (114 ∷ []))

abbrev pub to_term : List ℕ → List Goal → Bool → ℕ → List Term → List ℕ
to_term xs gs d r ts = to_relation xs gs d ++ (numeral r ++ (40 ∷ due term_text ts))

abbrev pub spelled : State → List ℕ
spelled start = []
spelled letter = 113 ∷ []
spelled (column_due xs) = 113 ∷ 40 ∷ due variable_text xs
spelled (column xs n) = (113 ∷ 40 ∷ due variable_text xs) ++ (88 ∷ begun n)
spelled (closed xs) = head_text xs
spelled (colon xs) = head_text xs ++ (58 ∷ [])
spelled (goal_due xs gs) = to_goal xs gs
spelled (denial_n xs gs) = to_goal xs gs ++ (110 ∷ [])
spelled (denial_no xs gs) = to_goal xs gs ++ (110 ∷ 111 ∷ [])
spelled (denial_not xs gs) = to_goal xs gs ++ (110 ∷ 111 ∷ 116 ∷ [])
spelled (denial xs gs) = to_goal xs gs ++ (110 ∷ 111 ∷ 116 ∷ 32 ∷ [])
spelled (relation xs gs d n) = to_relation xs gs d ++ begun n
spelled (term_due xs gs d r ts) = to_term xs gs d r ts
spelled (term xs gs d r ts v n) = to_term xs gs d r ts ++ (name v ++ begun n)
spelled (ended xs gs g) = to_goal xs gs ++ goal_text g
spelled (subject xs gs n) = to_goal xs gs ++ (88 ∷ begun n)
spelled (spaced xs gs x) = to_goal xs gs ++ (variable_text x ++ (32 ∷ []))
spelled (equals xs gs x) = to_goal xs gs ++ (variable_text x ++ (32 ∷ 61 ∷ []))
spelled (other_due xs gs x) = to_goal xs gs ++ (variable_text x ++ (32 ∷ 61 ∷ 32 ∷ []))
spelled (other xs gs x v n) = to_goal xs gs ++ (variable_text x ++ (32 ∷ 61 ∷ 32 ∷ (name v ++ begun n)))
spelled (done R) = written R
