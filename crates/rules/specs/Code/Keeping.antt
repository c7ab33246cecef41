-- What the code keeps of the rule read so far. A state of the automaton is held against a draft: `Kept`. Definitions only; the laws are in Code/Keeping/.
use Rattle.std.specs.Prelude.{ℕ, ◌+◌, ◌≤◌, ◌<◌, ◌≡◌, ◌⊎◌, Bool, true, false, List, [], ◌∷◌, ◌++◌, map, length, get_or, ltb}
use Rattle.std.proofs.Math.Option.{Option, none, some}
use Rattle.calculus.specs.Sets.{In, union_of, member}
use Rattle.calculus.specs.Lists.{padded}
use Rattle.calculus.specs.Order.{Ascending}
use Rattle.calculus.specs.Satisfaction.{Pool}
use Rattle.query.specs.Reading.{max_nodes, max_constants}
use Rattle.query.specs.Packing.{term_code, words}
use Rattle.rules.specs.declared.mode.Mode.{Mode}
use Rattle.rules.specs.declared.mode.Mode.TheVariants.{Out, Start, Letter, ColumnDue, Column, Closed, Colon, GoalDue, DenialN, DenialNo, DenialNot, Denial, Relation, TermDue, Ended, Subject, Spaced, Equals, OtherDue, Other, Done, Term as TermMode}
use Rattle.rules.specs.Grammar.{several, Term, Goal}
use Rattle.rules.specs.Meaning.{head, goals, term_variables, term_values, relations_in, variables_in, values_in, pooled, term_in, matrix, max_terms, max_number, max_value, crowded}
use Rattle.rules.specs.Code.Automaton.{State, start, letter, column_due, column, closed, colon, goal_due, denial_n, denial_no, denial_not, denial, relation, term_due, term, ended, subject, spaced, equals, other_due, other, done}
use Rattle.rules.specs.Code.Draft.{Head, Body, capped, Small}
use Rattle.rules.specs.Code.Scan.{Draft, Goals}

-- ---- the head

-- The variables read are as a head's must be.
pub record HeadFine (xs : List ℕ) : Type 0 where
  pub ascending : Ascending ltb xs
  pub few : length xs ≤ max_terms
  pub small : (x : ℕ) → In x xs → x ≤ max_number

pub record HeadStored (xs : List ℕ) (h : Head) : Type 0 where
  pub variables_are : h.variables ≡ padded max_terms 0 xs
  pub count_is : h.count ≡ length xs
  pub below_least : (x : ℕ) → In x xs → x < h.least
  pub least_is : (h.least ≡ 0) ⊎ ((x : ℕ) × In x xs × (h.least ≡ x + 1))

pub record HeadKeeps (xs : List ℕ) (h : Head) : Type 0 where
  pub head_small : (i : ℕ) → get_or h.variables i 0 ≤ max_number
  pub head_judged : h.over ≡ true → ¬ HeadFine xs
  pub head_stored : h.over ≡ false → HeadFine xs × HeadStored xs h

-- ---- the goals

-- The goals that are complete, and of the goal being read what stands in `Body`.
pub record Account : Type 0 where
  pub goals : List Goal
  pub denied : Bool
  pub named : Bool
  pub subject : ℕ
  pub terms : List Term

abbrev pub account_of : List Goal → Bool → Bool → ℕ → List Term → Account
account_of gs d v s ts = record { goals = gs; denied = d; named = v; subject = s; terms = ts }

-- No goal is being read.
abbrev pub idle : List Goal → Account
idle gs = account_of gs false false 0 []

abbrev pub values_of : Account → List ℕ
values_of a = values_in a.goals ++ union_of term_values a.terms

abbrev pub variables_of : Account → List ℕ
variables_of a = variables_in a.goals ++ union_of term_variables a.terms

abbrev pub pool : Account → Pool
pool a = pooled [] (values_of a)

-- The nodes of goals.
abbrev pub goal_nodes : Pool → List Goal → List ℕ
goal_nodes pool [] = []
goal_nodes pool (g ∷ gs) = words (matrix pool (several g gs)) 0

-- A term's 5 bits.
abbrev pub code_of : Pool → Term → ℕ
code_of pool t = term_code (term_in pool t)

-- No limit is passed. The relation or variable of the goal being read is judged when it is complete.
pub record Fine (a : Account) : Type 0 where
  pub few_terms : length a.terms ≤ max_terms
  pub few_goal_terms : (g : Goal) → In g a.goals → crowded g ≡ false
  pub small_relations : (r : ℕ) → In r (relations_in a.goals) → r ≤ max_number
  pub small_variables : (x : ℕ) → In x (variables_of a) → x ≤ max_number
  pub small_values : (v : ℕ) → In v (values_of a) → v ≤ max_value
  pub few_constants : length (pool a) ≤ max_constants
  pub few_nodes : length (goal_nodes (pool a) a.goals) ≤ max_nodes

pub record Stored (a : Account) (b : Body) (cs ns : List ℕ) : Type 0 where
  pub denied_is : b.denied ≡ a.denied
  pub named_is : b.named ≡ a.named
  pub subject_is : b.subject ≡ capped a.subject
  pub terms_are : b.terms ≡ padded max_terms 0 (map (code_of (pool a)) a.terms)
  pub count_is : b.count ≡ length a.terms
  pub seen_length : length b.seen ≡ 16
  pub seen_is : (x : ℕ) → x < 16 → get_or b.seen x false ≡ member x (variables_of a)
  pub constants_is : b.constants ≡ length (pool a)
  pub pool_is : cs ≡ padded max_constants 0 (pool a)
  pub nodes_is : b.nodes ≡ length (goal_nodes (pool a) a.goals)
  pub nodes_are : ns ≡ padded max_nodes 0 (goal_nodes (pool a) a.goals)

-- The code's goals, its constants cs and its nodes ns keep the account: `over` says whether a limit is passed, and if not, everything is stored.
pub record Keeps (a : Account) (b : Body) (cs ns : List ℕ) : Type 0 where
  pub bounds : Small b
  pub judged : b.over ≡ true → ¬ Fine a
  pub stored : b.over ≡ false → Fine a × Stored a b cs ns

-- Goals, constants and nodes, as a step gives them, keep the account.
abbrev pub KeepsAll : Account → Goals → Type 0
KeepsAll a g = Keeps a g.0 g.1.0 g.1.1

-- ---- the states

-- What is held of a state: its mode, the digits read of a number, the head's variables, and the goals.
pub record Held : Type 0 where
  pub mode : Mode
  pub numeral : Option ℕ
  pub columns : List ℕ
  pub account : Account

abbrev pub held_as : Mode → Option ℕ → List ℕ → Account → Held
held_as m n xs a = record { mode = m; numeral = n; columns = xs; account = a }

abbrev pub held : State → Held
held start = held_as Start none [] (idle [])
held letter = held_as Letter none [] (idle [])
held (column_due xs) = held_as ColumnDue none xs (idle [])
held (column xs n) = held_as Column n xs (idle [])
held (closed xs) = held_as Closed none xs (idle [])
held (colon xs) = held_as Colon none xs (idle [])
held (goal_due xs gs) = held_as GoalDue none xs (idle gs)
held (denial_n xs gs) = held_as DenialN none xs (idle gs)
held (denial_no xs gs) = held_as DenialNo none xs (idle gs)
held (denial_not xs gs) = held_as DenialNot none xs (idle gs)
held (denial xs gs) = held_as Denial none xs (idle gs)
held (relation xs gs d n) = held_as Relation n xs (account_of gs d false 0 [])
held (term_due xs gs d r ts) = held_as TermDue none xs (account_of gs d false r ts)
held (term xs gs d r ts v n) = held_as TermMode n xs (account_of gs d v r ts)
held (ended xs gs g) = held_as Ended none xs (idle (gs ++ (g ∷ [])))
held (subject xs gs n) = held_as Subject n xs (idle gs)
held (spaced xs gs x) = held_as Spaced none xs (account_of gs false false x [])
held (equals xs gs x) = held_as Equals none xs (account_of gs false false x [])
held (other_due xs gs x) = held_as OtherDue none xs (account_of gs false false x [])
held (other xs gs x v n) = held_as Other n xs (account_of gs false v x [])
held (done R) = held_as Done none (head R) (idle (goals R))

abbrev pub mode_of : State → Mode
mode_of s = (held s).mode

abbrev pub numeral_of : State → Option ℕ
numeral_of s = (held s).numeral

abbrev pub columns_of : State → List ℕ
columns_of s = (held s).columns

abbrev pub account : State → Account
account s = (held s).account

-- The number being read, as the code has it.
pub data Counts : Option ℕ → ℕ → Bool → Type 0 where
  not_begun : Counts none 0 false
  counts : (n : ℕ) → Counts (some n) (capped n) true

-- The draft keeps the state.
pub record Kept (s : State) (d : Draft) (cs ns : List ℕ) : Type 0 where
  pub mode_is : d.mode ≡ mode_of s
  pub number_is : Counts (numeral_of s) d.number d.started
  pub head_keeps : HeadKeeps (columns_of s) d.head
  pub body_keeps : Keeps (account s) d.body cs ns

-- The same after a byte: where no rule goes on so, the mode says it.
abbrev pub KeptAfter : Option State → Draft → List ℕ → List ℕ → Type 0
KeptAfter none d cs ns = d.mode ≡ Out
KeptAfter (some s) d cs ns = Kept s d cs ns
