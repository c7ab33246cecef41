-- What the list program prints: document 01, "The list program and the host". Bytes are ASCII. Definitions only; the laws are in Text/.
use Rattle.std.specs.Prelude.{ℕ, ◌+◌, ◌*◌, ◌-◌, Bool, cond, List, [], ◌∷◌, ◌++◌, length, drop, replicate}
use Rattle.calculus.specs.Sets.{union_of}
use Rattle.calculus.specs.Decimal.{digits}
use Rattle.calculus.specs.Generators.{columns, verdict, safe}
use Rattle.calculus.specs.Rows.{Result, endless, listed}
use Rattle.causes.specs.Causes.{Answer, Done, Refused, first_cause, number, place}
use Rattle.query.specs.declared.Query.{Query}
use Rattle.query.specs.Reading.{formula}
use Rattle.packed.specs.Packed.{query_read, result_in, list_checks}

-- The room of the list program: 4,096 numbers.
abbrev pub room : ℕ
room = 4096

-- ---- numbers

-- A number of at most ten digits: every value, number, place and count has no more.
unfoldable pub decimal : ℕ → List ℕ
decimal n = digits 10 n

-- The number that digits stand for.
abbrev pub reading_from : ℕ → List ℕ → ℕ
reading_from n [] = n
reading_from n (d ∷ ds) = reading_from (n * 10 + (d - 48)) ds

-- ---- lines

-- Numbers, a single space before each.
abbrev pub spaced : List ℕ → List ℕ
spaced [] = []
spaced (n ∷ ns) = 32 ∷ (decimal n ++ spaced ns)

-- A word and numbers, and one line feed.
abbrev pub line : List ℕ → List ℕ → List ℕ
line word ns = word ++ (spaced ns ++ (10 ∷ []))

-- ---- the words, in ASCII

-- refused
abbrev pub word_refused : List ℕ
word_refused = 114 ∷ 101 ∷ 102 ∷ 117 ∷ 115 ∷ 101 ∷ 100 ∷ []

-- safe
abbrev pub word_safe : List ℕ
word_safe = 115 ∷ 97 ∷ 102 ∷ 101 ∷ []

-- unsafe
abbrev pub word_unsafe : List ℕ
word_unsafe = 117 ∷ 110 ∷ 115 ∷ 97 ∷ 102 ∷ 101 ∷ []

-- columns
abbrev pub word_columns : List ℕ
word_columns = 99 ∷ 111 ∷ 108 ∷ 117 ∷ 109 ∷ 110 ∷ 115 ∷ []

-- row
abbrev pub word_row : List ℕ
word_row = 114 ∷ 111 ∷ 119 ∷ []

-- rows
abbrev pub word_rows : List ℕ
word_rows = 114 ∷ 111 ∷ 119 ∷ 115 ∷ []

-- endless
abbrev pub word_endless : List ℕ
word_endless = 101 ∷ 110 ∷ 100 ∷ 108 ∷ 101 ∷ 115 ∷ 115 ∷ []

-- ---- the output

-- A row line of values each, then the number of rows; or `endless` in place of both.
abbrev pub answer_text : Result → List ℕ
answer_text endless = line word_endless []
answer_text (listed rows) = union_of (line word_row) rows ++ line word_rows (length rows ∷ [])

-- The verdict and the columns.
abbrev pub head_text : Bool → List ℕ → List ℕ
head_text safe cols = line (cond safe word_safe word_unsafe) [] ++ line word_columns cols

-- A refusal prints only its own line, with document 01's number and place.
abbrev pub reply_text : Answer → Query → Result → List ℕ
reply_text Done q found = head_text (safe (verdict (formula q))) (columns (formula q)) ++ answer_text found
reply_text (Refused n p) q found = line word_refused (number (Refused n p) ∷ place (Refused n p) ∷ [])

-- The whole output for the input bs.
abbrev pub text_of : List ℕ → List ℕ
text_of bs = reply_text (first_cause (list_checks bs room)) (query_read bs) (result_in bs)

-- What `print` hands back and leaves: the length of the output, and the buffer with it at the front.
abbrev pub printed : List ℕ → List ℕ → ℕ × List ℕ
printed bs out = (length (text_of bs), text_of bs ++ drop (length (text_of bs)) out)

-- ---- document 01's worked input

-- Relation 0 of width 2 and relation 1 of width 1; records 0(7,3), 0(9,3), 1(7); the query 0(x,y) and not 1(x).
abbrev pub first_input : List ℕ
first_input =
    (2 ∷ 1 ∷ replicate 14 0)
    ++ ((0 ∷ 3 ∷ [])
    ++ ((0 ∷ 0 ∷ 0 ∷ 0 ∷ 7 ∷ 0 ∷ 0 ∷ 0 ∷ 3 ∷ replicate 8 0)
    ++ ((0 ∷ 0 ∷ 0 ∷ 0 ∷ 9 ∷ 0 ∷ 0 ∷ 0 ∷ 3 ∷ replicate 8 0)
    ++ ((1 ∷ 0 ∷ 0 ∷ 0 ∷ 7 ∷ replicate 12 0)
    ++ (0x10 ∷ 0x80 ∷ 0x20 ∷ 0x80 ∷ 0x10 ∷ 0x00 ∷ 0x22 ∷ 0x40 ∷ 0x00 ∷ 0x00 ∷ 0x60 ∷ 0x80 ∷ 0x00 ∷ 0x00 ∷ 0x80 ∷ 0x04 ∷ 0x00 ∷ 0x00 ∷ [])))))
