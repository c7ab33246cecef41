-- How the code makes the form: what its parts ask for, and what a node does to the words so far. Definitions only; the laws are in Form/Laws.antt.
use Rattle.std.specs.Prelude.{ℕ, ◌-◌, ◌≤◌, ◌<◌, ◌≡◌, true, false, cond, List, [], ◌∷◌, ◌++◌, length, get_or, take, eqb}
use Rattle.calculus.specs.Sets.{member}
use Rattle.calculus.specs.Lists.{padded}
use Rattle.calculus.specs.Formula.{fv}
use Rattle.query.specs.declared.Query.{Query}
use Rattle.query.specs.Nodes.{kind, variable, equal_term, children, malformed, truth_word, not_word, join_word, exists_word}
use Rattle.query.specs.Decoding.{root}
use Rattle.query.specs.Reading.{max_nodes}
use Rattle.query.specs.Packing.{Ordered}
use Rattle.query.specs.Accepted.{Accepted}
use Rattle.verdict.specs.declared.form.Words.{Words}

-- ---- what the parts of the verdict ask for

-- A query that the reader accepts, for some widths.
abbrev pub IsAccepted : Query → Type 0
IsAccepted q = (ws : List ℕ) × Accepted ws q

-- A node of an accepted query.
pub record InQuery (nodes : List ℕ) (i : ℕ) : Type 0 where
  pub widths : List ℕ
  pub query : Query
  pub accepted : Accepted widths query
  pub nodes_are : nodes ≡ query.nodes
  pub within : i < query.node_count

-- The nodes of a form: n of them, without a fault, in packing's order.
pub record IsForm (nodes : List ℕ) (n : ℕ) : Type 0 where
  pub some_node : 1 ≤ n
  pub few_nodes : n ≤ max_nodes
  pub places : length nodes ≡ max_nodes
  pub formed : (i : ℕ) → i < n → malformed (get_or nodes i 0) ≡ false
  pub ordered : (i : ℕ) → i < n → Ordered nodes i (children (get_or nodes i 0))

-- The same of a list of any length that has them.
pub record IsFormIn (nodes : List ℕ) (n : ℕ) : Type 0 where
  pub some_node : 1 ≤ n
  pub few_nodes : n ≤ max_nodes
  pub places : n ≤ length nodes
  pub formed : (i : ℕ) → i < n → malformed (get_or nodes i 0) ≡ false
  pub ordered : (i : ℕ) → i < n → Ordered nodes i (children (get_or nodes i 0))

-- ---- the words so far, and what a node does to them

-- The words so far: their number, and the array that holds them, with zeros after them.
abbrev pub written : List ℕ → ℕ × List ℕ
written xs = (length xs, padded max_nodes 0 xs)

-- As the code has them.
abbrev pub held : List ℕ → Words
held xs = record { nodes = padded max_nodes 0 xs; count = length xs }

abbrev pub words_in : Words → List ℕ
words_in w = take w.count w.nodes

-- Nothing but zeros stands after them.
abbrev pub IsHeld : Words → Type 0
IsHeld w = w ≡ held (words_in w)

-- There is one at least, and room for one more.
pub record HasRoom (w : Words) : Type 0 where
  pub some_word : 1 ≤ w.count
  pub room : w.count < max_nodes
  pub zeros : IsHeld w

abbrev pub last : List ℕ → ℕ
last xs = get_or xs (length xs - 1) 0

abbrev pub true_word : ℕ
true_word = truth_word true

-- An equality of a variable with itself is true.
abbrev pub settled : ℕ → ℕ
settled w = cond (eqb (variable w) (equal_term w)) true_word w

-- A not turns a truth value over.
abbrev pub negated : List ℕ → List ℕ
negated xs =
    cond (eqb (last xs) 0) (take (length xs - 1) xs ++ (true_word ∷ []))
    (cond (eqb (last xs) true_word) (take (length xs - 1) xs ++ (0 ∷ []))
    (xs ++ (not_word (length xs - 1) ∷ [])))

-- The truth value that an and (kind 4) or an or (kind 5) drops.
abbrev pub unit_word : ℕ → ℕ
unit_word k = cond (eqb k 4) true_word 0

-- An and or an or whose first subtree, from `at` on, is no truth value; the second starts at `middle`.
abbrev pub joined : ℕ → ℕ → ℕ → List ℕ → List ℕ
joined k at middle xs =
    cond (eqb (kind (last xs)) 0)
    (cond (eqb (last xs) (unit_word k)) (take middle xs) (take at xs ++ (last xs ∷ [])))
    (xs ++ (join_word k (middle - 1) (length xs - 1) ∷ []))

-- An exists is kept where its variable is free.
abbrev pub quantified : ℕ → List ℕ → List ℕ
quantified x xs = cond (member x (fv (root xs))) (xs ++ (exists_word x (length xs - 1) ∷ [])) xs
