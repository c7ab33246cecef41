-- The reader's reply: document 01, "The packed query" and causes 1 and 3 to 10. Definitions only; the laws are in Reading/Laws.antt.
use Rattle.std.specs.Prelude.{ℕ, ◌+◌, ◌*◌, ◌/◌, ◌%◌, ◌<◌, not, ◌||◌, List, [], ◌∷◌, ◌++◌, length, get_or, take, eqb, ltb, Result, Ok, Err}
use Rattle.calculus.specs.Sets.{In}
use Rattle.calculus.specs.Lists.{tabulate, padded}
use Rattle.calculus.specs.Formula.{Fmla}
use Rattle.calculus.specs.Satisfaction.{Pool}
use Rattle.calculus.specs.Generators.{columns}
use Rattle.causes.specs.Causes.{Answer, Done, Refused, Check, check, first_cause, when, lowest, widths_fit, number_of, place_of}
use Rattle.query.specs.declared.Query.{Query}
use Rattle.query.specs.declared.Columns.{Columns}
use Rattle.query.specs.Nodes.{malformed, misplaced, strays, mismatched}
use Rattle.query.specs.Decoding.{root}
use Rattle.causes.specs.declared.Refusal.{Refusal}
use Rattle.query.specs.declared.Parsed.{Parsed}

-- ---- limits

abbrev pub max_nodes : ℕ
max_nodes = 64

abbrev pub max_constants : ℕ
max_constants = 16

abbrev pub max_columns : ℕ
max_columns = 4

-- ---- the bytes

-- The numbers of a list are bytes.
abbrev pub Bytes : List ℕ → Type 0
Bytes bs = (b : ℕ) → In b bs → b < 256

-- Header, 16 bits: version 4, node count 7, constant count 5.
abbrev pub byte_at : List ℕ → ℕ → ℕ
byte_at bs i = get_or bs i 0

abbrev pub version : List ℕ → ℕ
version bs = byte_at bs 0 / 16

abbrev pub count_of_nodes : List ℕ → ℕ
count_of_nodes bs = byte_at bs 0 % 16 * 8 + byte_at bs 1 / 32

abbrev pub count_of_constants : List ℕ → ℕ
count_of_constants bs = byte_at bs 1 % 32

-- The 32-bit number that starts at a byte, high byte first.
abbrev pub word_at : List ℕ → ℕ → ℕ
word_at bs i = ((byte_at bs i * 256 + byte_at bs (i + 1)) * 256 + byte_at bs (i + 2)) * 256 + byte_at bs (i + 3)

-- The constants, then the nodes.
abbrev pub constants_of : List ℕ → List ℕ
constants_of bs = tabulate (λ i. word_at bs (2 + 4 * i)) (count_of_constants bs)

abbrev pub nodes_of : List ℕ → List ℕ
nodes_of bs = tabulate (λ i. word_at bs (2 + 4 * count_of_constants bs + 4 * i)) (count_of_nodes bs)

-- ---- the checks

abbrev pub header_checks : List ℕ → List ℕ → List Check
header_checks ws bs =
    check 1 (when (not (widths_fit ws)))
    ∷ check 3 (when (ltb (length bs) 2 || not (eqb (version bs) 1)))
    ∷ check 4 (when (eqb (count_of_nodes bs) 0 || ltb max_nodes (count_of_nodes bs) || ltb max_constants (count_of_constants bs)))
    ∷ check 5 (when (not (eqb (length bs) (2 + 4 * count_of_constants bs + 4 * count_of_nodes bs))))
    ∷ []

-- Causes 6 to 9 of the nodes ns, with k constants and relations of the widths ws.
abbrev pub tree_checks : List ℕ → ℕ → List ℕ → List Check
tree_checks ws k ns =
    check 6 (lowest (λ i. malformed (get_or ns i 0)) (length ns))
    ∷ check 7 (lowest (misplaced ns) (length ns))
    ∷ check 8 (lowest (λ i. strays k (get_or ns i 0)) (length ns))
    ∷ check 9 (lowest (λ i. mismatched ws (get_or ns i 0)) (length ns))
    ∷ []

abbrev pub column_checks : List ℕ → List Check
column_checks ns = check 10 (when (ltb max_columns (length (columns (root ns))))) ∷ []

abbrev pub read_checks : List ℕ → List ℕ → List Check
read_checks ws bs = header_checks ws bs ++ (tree_checks ws (count_of_constants bs) (nodes_of bs) ++ column_checks (nodes_of bs))

-- ---- the reply

-- What reading answers: the query and its columns beside the answer.
pub record Reading : Type 0 where
  pub answer : Answer
  pub query : Query
  pub columns : Columns

abbrev pub query_of : List ℕ → List ℕ → Query
query_of cs ns = record { constants = padded max_constants 0 cs; constant_count = length cs; nodes = padded max_nodes 0 ns; node_count = length ns }

abbrev pub columns_of : List ℕ → Columns
columns_of xs = record { variables = padded max_columns 0 xs; count = length xs }

-- The columns in their places.
abbrev pub variables_in : Columns → List ℕ
variables_in c = take c.count c.variables

abbrev pub refusal : ℕ → ℕ → Reading
refusal n p = record { answer = Refused n p; query = query_of [] []; columns = columns_of [] }

-- What reading comes to by what it hands back. A refusal comes with no nodes and no columns.
abbrev pub reading_of : Result Parsed Refusal → Reading
reading_of (Ok p) = record { answer = Done; query = p.query; columns = p.columns }
reading_of (Err r) = refusal (number_of r) (place_of r)

abbrev pub accepted : List ℕ → List ℕ → Reading
accepted cs ns = record { answer = Done; query = query_of cs ns; columns = columns_of (columns (root ns)) }

abbrev pub read_reply : Answer → List ℕ → List ℕ → Reading
read_reply Done cs ns = accepted cs ns
read_reply (Refused n p) cs ns = refusal n p

abbrev pub read_of : List ℕ → List ℕ → Reading
read_of ws bs = read_reply (first_cause (read_checks ws bs)) (constants_of bs) (nodes_of bs)

-- ---- the meaning of a query

abbrev pub pool : Query → Pool
pool q = take q.constant_count q.constants

abbrev pub nodes_in : Query → List ℕ
nodes_in q = take q.node_count q.nodes

abbrev pub formula : Query → Fmla
formula q = root (nodes_in q)
