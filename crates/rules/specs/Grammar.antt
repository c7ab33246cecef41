-- Rules and their text: document 02, Point 1. A rule is data, and `written` is its text, in ASCII. Definitions only; the laws are in Grammar/.
use Rattle.std.specs.Prelude.{ℕ, suc, ◌≤◌, ◌<◌, ◌≡◌, List, [], ◌∷◌, ◌++◌, length, take}
use Rattle.calculus.specs.Sets.{union_of}
use Rattle.calculus.specs.Decimal.{numeral}

-- ---- rules

-- One thing or more: the first, and those after it.
pub data Several (A : Type 0) : Type 0 where
  several : A → List A → Several A

abbrev pub all : {A : Type 0} → Several A → List A
all (several x xs) = x ∷ xs

-- A variable by its number, or a value.
pub data Term : Type 0 where
  variable : ℕ → Term
  value : ℕ → Term

-- A relation by its number, and terms; the same after not; or a variable and a term that are equal.
pub data Goal : Type 0 where
  holds : ℕ → Several Term → Goal
  fails : ℕ → Several Term → Goal
  equal : ℕ → Term → Goal

-- The variables of the head, and the goals.
pub data Rule : Type 0 where
  rule : List ℕ → Several Goal → Rule

-- ---- their text

-- The texts of several things, parted by commas.
abbrev pub parted : {A : Type 0} → (A → List ℕ) → Several A → List ℕ
parted text (several x xs) = text x ++ union_of (λ y. 44 ∷ text y) xs

-- (..)
abbrev pub bracketed : List ℕ → List ℕ
bracketed bs = 40 ∷ (bs ++ (41 ∷ []))

-- X3
abbrev pub variable_text : ℕ → List ℕ
variable_text x = 88 ∷ numeral x

-- X3 or 17
abbrev pub term_text : Term → List ℕ
term_text (variable x) = variable_text x
term_text (value v) = numeral v

-- r3(X0,17)
abbrev pub relation_text : ℕ → Several Term → List ℕ
relation_text r ts = 114 ∷ (numeral r ++ bracketed (parted term_text ts))

-- r3(X0,17), or not r3(X0,17), or X0 = 17
abbrev pub goal_text : Goal → List ℕ
goal_text (holds r ts) = relation_text r ts
goal_text (fails r ts) = 110 ∷ 111 ∷ 116 ∷ 32 ∷ relation_text r ts
goal_text (equal x t) = variable_text x ++ (32 ∷ 61 ∷ 32 ∷ term_text t)

-- q, or q(X0,X2)
abbrev pub head_text : List ℕ → List ℕ
head_text [] = 113 ∷ []
head_text (x ∷ xs) = 113 ∷ bracketed (parted variable_text (several x xs))

-- Head, :-, goals, full stop.
abbrev pub written : Rule → List ℕ
written (rule xs gs) = head_text xs ++ (58 ∷ 45 ∷ (parted goal_text gs ++ (46 ∷ [])))

-- ---- the text of a rule, and the place at which other text leaves the grammar

-- Some rule's text goes on from these bytes.
abbrev pub Begins : List ℕ → Type 0
Begins bs = (R : Rule) × (rest : List ℕ) × (written R ≡ bs ++ rest)

-- No rule has this text.
abbrev pub NoRule : List ℕ → Type 0
NoRule bs = (R : Rule) → ¬ (written R ≡ bs)

-- Document 02's place in text outside the grammar: "the first byte offset at which no rule can continue, or the text's length if it ends early". A rule
-- can go on up to the place, and no longer with the byte there. The whole text of a rule meets this at its length, so `outside` says that it is no rule's.
pub record Leaves (bs : List ℕ) (place : ℕ) : Type 0 where
  pub within : place ≤ length bs
  pub goes_on : Begins (take place bs)
  pub no_longer : place < length bs → ¬ Begins (take (suc place) bs)

-- What a text is: a rule's, or outside the grammar, with the place.
pub data Parse (bs : List ℕ) : Type 0 where
  parsed : (R : Rule) → written R ≡ bs → Parse bs
  outside : (place : ℕ) → NoRule bs → Leaves bs place → Parse bs
