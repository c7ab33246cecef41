-- The packing of a formula: document 01, "The packed query", with nodes left subtree first, then right, then the parent. Definitions only; the laws are
-- in Packing/Laws.antt.
use Rattle.std.specs.Prelude.{ℕ, ◌+◌, ◌*◌, ◌-◌, ◌/◌, ◌%◌, ◌≤◌, ◌<◌, ◌^◌, ◌≡◌, Bool, List, [], ◌∷◌, ◌++◌, map, length, get_or}
use Rattle.calculus.specs.Sets.{In, union_of}
use Rattle.calculus.specs.Formula.{Term, var, con, Fmla, truth, rel, eq, neg, conj, disj, exists, size}
use Rattle.calculus.specs.Satisfaction.{Pool}
use Rattle.calculus.specs.Generators.{columns}
use Rattle.query.specs.Nodes.{children, truth_word, record_word, equality_word, not_word, join_word, exists_word}
use Rattle.query.specs.Decoding.{formula_at}
use Rattle.query.specs.Reading.{max_nodes, max_constants, max_columns}

-- ---- words

-- A term's 5 bits.
abbrev pub term_code : Term → ℕ
term_code (var x) = x
term_code (con p) = 16 + p

-- The four terms of a record; those past its own are zero.
abbrev pub code_at : List Term → ℕ → ℕ
code_at ts i = get_or (map term_code ts) i 0

-- The nodes of a formula, numbered from n.
abbrev pub words : Fmla → ℕ → List ℕ
words (truth b) n = truth_word b ∷ []
words (rel r ts) n = record_word r (length ts) (code_at ts 0) (code_at ts 1) (code_at ts 2) (code_at ts 3) ∷ []
words (eq x t) n = equality_word x (term_code t) ∷ []
words (neg φ) n = words φ n ++ (not_word (n + size φ - 1) ∷ [])
words (conj φ ψ) n = words φ n ++ (words ψ (n + size φ) ++ (join_word 4 (n + size φ - 1) (n + size φ + size ψ - 1) ∷ []))
words (disj φ ψ) n = words φ n ++ (words ψ (n + size φ) ++ (join_word 5 (n + size φ - 1) (n + size φ + size ψ - 1) ∷ []))
words (exists x φ) n = words φ n ++ (exists_word x (n + size φ - 1) ∷ [])

-- ---- bytes, high byte first

abbrev pub word_bytes : ℕ → List ℕ
word_bytes w = w / 16777216 ∷ w / 65536 % 256 ∷ w / 256 % 256 ∷ w % 256 ∷ []

-- Version 1, the node count and the constant count.
abbrev pub header_bytes : ℕ → ℕ → List ℕ
header_bytes n k = (16 + n / 8) ∷ (n % 8 * 32 + k) ∷ []

abbrev pub packed_bytes : List ℕ → List ℕ → List ℕ
packed_bytes cs ns = header_bytes (length ns) (length cs) ++ (union_of word_bytes cs ++ union_of word_bytes ns)

abbrev pub pack : Pool → Fmla → List ℕ
pack pool φ = packed_bytes pool (words φ 0)

-- ---- what can be packed, for relations of the widths ws

-- A term of a variable below 16, or of a constant of the pool.
pub data TermFits (k : ℕ) : Term → Type 0 where
  var_fits : {x : ℕ} → x < 16 → TermFits k (var x)
  con_fits : {p : ℕ} → p < k → TermFits k (con p)

pub data Fits (ws : List ℕ) (k : ℕ) : Fmla → Type 0 where
  truth_fits : {b : Bool} → Fits ws k (truth b)
  rel_fits : {r : ℕ} {ts : List Term} → r < 16 → 0 < length ts → length ts ≡ get_or ws r 0 → ((t : Term) → In t ts → TermFits k t) → Fits ws k (rel r ts)
  eq_fits : {x : ℕ} {t : Term} → x < 16 → TermFits k t → Fits ws k (eq x t)
  neg_fits : {φ : Fmla} → Fits ws k φ → Fits ws k (neg φ)
  conj_fits : {φ ψ : Fmla} → Fits ws k φ → Fits ws k ψ → Fits ws k (conj φ ψ)
  disj_fits : {φ ψ : Fmla} → Fits ws k φ → Fits ws k ψ → Fits ws k (disj φ ψ)
  exists_fits : {x : ℕ} {φ : Fmla} → x < 16 → Fits ws k φ → Fits ws k (exists x φ)

pub record Packable (ws : List ℕ) (pool : Pool) (φ : Fmla) : Type 0 where
  pub fits : Fits ws (length pool) φ
  pub few_nodes : size φ ≤ max_nodes
  pub few_constants : length pool ≤ max_constants
  pub constants_fit : (v : ℕ) → In v pool → v < 2 ^ 32
  pub few_columns : length (columns φ) ≤ max_columns

-- ---- nodes in the order that packing writes

-- Node i, with these children, stands in packing's order: its last child is the node before it, and its left child ends where the right subtree starts.
pub data Ordered (ns : List ℕ) (i : ℕ) : List ℕ → Type 0 where
  childless : Ordered ns i []
  after_child : {c : ℕ} → c + 1 ≡ i → Ordered ns i (c ∷ [])
  after_both : {l r : ℕ} → l + size (formula_at ns r) ≡ r → r + 1 ≡ i → Ordered ns i (l ∷ r ∷ [])

abbrev pub InOrder : List ℕ → Type 0
InOrder ns = (i : ℕ) → i < length ns → Ordered ns i (children (get_or ns i 0))
