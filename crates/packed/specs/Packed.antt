-- The packed input: document 01, "The list program and the host", and what the calls over it reply. Definitions only; the laws are in Packed/.
use Rattle.std.specs.Prelude.{ℕ, ◌+◌, ◌*◌, ◌/◌, ◌≡◌, Bool, false, not, ◌&&◌, List, [], ◌∷◌, ◌++◌, length, take, drop, leb, Result as Returned, Ok, Err}
use Rattle.calculus.specs.Lists.{tabulate}
use Rattle.calculus.specs.Order.{insert}
use Rattle.calculus.specs.Generators.{columns, verdict, safe}
use Rattle.calculus.specs.Rows.{Result, Row, listed}
use Rattle.calculus.specs.Sets.{In}
use Rattle.causes.specs.Causes.{Answer, Done, Refused, Check, check, first_cause, when, number_of, place_of}
use Rattle.tables.specs.declared.Record.{Record}
use Rattle.tables.specs.declared.Store.{Store}
use Rattle.tables.specs.Records.{record_below}
use Rattle.tables.specs.Fill.{fill_checks, fill_reply}
use Rattle.query.specs.declared.Query.{Query}
use Rattle.query.specs.declared.Columns.{Columns}
use Rattle.query.specs.Reading.{byte_at, word_at, read_of, read_checks, columns_of, formula}
use Rattle.verdict.specs.Verdict.{Verdict, judged, refusal as verdict_refusal}
use Rattle.answer.specs.Reply.{Found, result_of, row_checks, Writing, front, front_bytes, worked_by, RightOver, KnownTo, rows_found}
use Rattle.packed.specs.declared.part.Head.{Head}
use Rattle.causes.specs.declared.Refusal.{Refusal}
use Rattle.packed.specs.declared.Listing.{Listing as Listed_in}

-- ---- the parts, all high byte first

-- The head of an input, before its records, and its length in bytes: sixteen width bytes, and a record count of 2 bytes.
abbrev pub head_length : ℕ
head_length = 18

abbrev pub head_in : List ℕ → Head
head_in bs = record { widths = take 16 bs; count = byte_at bs 16 * 256 + byte_at bs 17 }

abbrev pub widths_in : List ℕ → List ℕ
widths_in bs = (head_in bs).widths

abbrev pub count_in : List ℕ → ℕ
count_in bs = (head_in bs).count

-- The length of a record in bytes: a relation, and four values of 4 bytes.
abbrev pub record_length : ℕ
record_length = 17

-- The record that starts at a byte.
abbrev pub record_from : List ℕ → ℕ → Record
record_from bs i =
    record {
      relation = byte_at bs i;
      first = word_at bs (i + 1);
      second = word_at bs (i + 5);
      third = word_at bs (i + 9);
      fourth = word_at bs (i + 13);
    }

-- The byte at which record i starts; the query starts where the records end.
abbrev pub start : ℕ → ℕ
start i = head_length + record_length * i

abbrev pub record_at : List ℕ → ℕ → Record
record_at bs i = record_from bs (start i)

abbrev pub records_in : List ℕ → List Record
records_in bs = tabulate (record_at bs) (count_in bs)

-- The query of the input: the rest.
abbrev pub query_in : List ℕ → List ℕ
query_in bs = drop (start (count_in bs)) bs

-- ---- the checks

-- Cause 2: an input that ends early, before its query, or is over 8,192 bytes.
abbrev pub is_whole : List ℕ → Bool
is_whole bs = leb (length bs) 8192 && leb head_length (length bs) && leb (start (count_in bs)) (length bs)

-- Each record in turn meets 13, then 15, with the records ps held before it.
abbrev pub record_checks : List ℕ → List Record → List Record → List Check
record_checks ws ps [] = []
record_checks ws ps (r ∷ rs) =
    fill_checks ws ps r ++ record_checks ws (insert record_below r ps) rs

-- The checks of an input: 2 before 1; then the causes by number, the query's before the records'.
abbrev pub input_checks : List ℕ → List Check
input_checks bs =
    check 2 (when (not (is_whole bs)))
    ∷ (read_checks (widths_in bs) (query_in bs) ++ record_checks (widths_in bs) [] (records_in bs))

-- ---- what an input holds

-- The store of its records, in any order, repeats kept once.
abbrev pub store_in : List ℕ → Store
store_in bs = (fill_reply (widths_in bs) (records_in bs)).store

-- The query as read.
abbrev pub query_read : List ℕ → Query
query_read bs = (read_of (widths_in bs) (query_in bs)).query

-- ---- the verdict on its query

abbrev pub judged_reply : Answer → Query → Verdict
judged_reply Done q = judged q
judged_reply (Refused n p) q = verdict_refusal n p

abbrev pub judged_of : List ℕ → Verdict
judged_of bs = judged_reply (first_cause (input_checks bs)) (query_read bs)

-- ---- its list

-- What the query answers over the records.
abbrev pub result_in : List ℕ → Result
result_in bs = result_of (store_in bs) (query_read bs)

-- Cause 18 comes last: rows × columns over the room.
abbrev pub list_checks : List ℕ → ℕ → List Check
list_checks bs room = input_checks bs ++ row_checks (store_in bs) (query_read bs) room

-- What the list of an input is: whether its query is safe-range, its columns, and whether infinitely many rows satisfy it, or how many do.
pub record Listing : Type 0 where
  pub answer : Answer
  pub safe : Bool
  pub columns : Columns
  pub endless : Bool
  pub rows : ℕ

abbrev pub declined : ℕ → ℕ → Listing
declined n p = record { answer = Refused n p; safe = false; columns = columns_of []; endless = false; rows = 0 }

-- What was found, with the verdict and the columns of the query beside it.
abbrev pub beside : Found → Bool → Columns → Listing
beside f safe cols = record { answer = Done; safe = safe; columns = cols; endless = f.endless; rows = f.rows }

-- What a listing comes to by what the code hands back (here `Listed_in`).
abbrev pub listing_found : Returned Listed_in Refusal → Listing
listing_found (Ok l) = beside (rows_found l.found) l.safe l.columns
listing_found (Err r) = declined (number_of r) (place_of r)

-- Endless or rows as the answers call has them, with the rows in the buffer; or the refusal, and the buffer as it was.
abbrev pub listing_reply : Writing (List ℕ) → Answer → Query → Result → List ℕ → Listing × List ℕ
listing_reply write Done q found buffer =
    (beside (worked_by write found buffer).0 (safe (verdict (formula q))) (columns_of (columns (formula q))), (worked_by write found buffer).1)
listing_reply write (Refused n p) q found buffer = (declined n p, buffer)

-- The list, with room for so many numbers.
abbrev pub listing_in : Writing (List ℕ) → ℕ → List ℕ → List ℕ → Listing × List ℕ
listing_in write room bs buffer = listing_reply write (first_cause (list_checks bs room)) (query_read bs) (result_in bs) buffer

-- The list of an input, its rows at the front of a list of numbers, with room for as many numbers.
abbrev pub listing_of : List ℕ → List ℕ → Listing × List ℕ
listing_of bs buffer = listing_in front (length buffer) bs buffer

-- The list of an input, its rows at the front of bytes, four to a number, with room for a quarter of the bytes.
abbrev pub byte_listing_of : List ℕ → List ℕ → Listing × List ℕ
byte_listing_of bs buffer = listing_in front_bytes (length buffer / 4) bs buffer

-- ---- what a list promises

-- Rows are listed, they are all that satisfy the query, and each value is in a record of a relation that it names or is a constant of it.
abbrev pub Listed : List ℕ → Result → Type 0
Listed bs a =
    (rows : List Row)
    × (a ≡ listed rows)
    × RightOver (store_in bs) (query_read bs) (listed rows)
    × ((w : Row) → In w rows → (v : ℕ) → In v w → KnownTo (store_in bs) (query_read bs) v)
