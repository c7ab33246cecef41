-- How the code takes an input apart and puts a listing together. Definitions only; the laws are in Packed/.
use Rattle.std.specs.Prelude.{ℕ, Bool, true, false, List, [], replicate, Option, Some, None, Result, Ok, Err}
use Rattle.calculus.specs.Generators.{columns}
use Rattle.causes.specs.Causes.{Answer, Done, Refused, first_cause, number_of, place_of}
use Rattle.causes.specs.declared.Refusal.{Refusal}
use Rattle.tables.specs.declared.Store.{Store}
use Rattle.tables.specs.Store.{no_store}
use Rattle.query.specs.declared.Columns.{Columns}
use Rattle.query.specs.Reading.{query_of, columns_of, formula}
use Rattle.verdict.specs.Verdict.{Verdict, verdict_in, refusal as verdict_refusal}
use Rattle.answer.specs.Reply.{Found}
use Rattle.packed.specs.declared.part.Head.{Head}
use Rattle.packed.specs.declared.Input.{Input as Held}
use Rattle.packed.specs.declared.Assessment.{Assessment as Judged}
use Rattle.packed.specs.Packed.{Listing, head_in, is_whole, store_in, query_read, input_checks, judged_of, beside, declined}
use Rattle.query.specs.declared.Query.{Query}

-- What an input holds: the store of its records, and its query with the columns.
pub record Input : Type 0 where
  pub answer : Answer
  pub store : Store
  pub query : Query
  pub columns : Columns

-- An input as judged.
pub record Assessment : Type 0 where
  pub store : Store
  pub verdict : Verdict

-- ---- how far an input reaches: whether it is whole, and then its head

pub record Extent : Type 0 where
  pub whole : Bool
  pub head : Head

abbrev pub no_extent : Extent
no_extent = record { whole = false; head = record { widths = replicate 16 0; count = 0 } }

abbrev pub extent_by : Bool → Head → Extent
extent_by true h = record { whole = true; head = h }
extent_by false h = no_extent

abbrev pub extent_of : List ℕ → Extent
extent_of bs = extent_by (is_whole bs) (head_in bs)

-- What the code hands back: the head of an input that is whole.
abbrev pub extent_in : Option Head → Extent
extent_in (Some h) = record { whole = true; head = h }
extent_in None = no_extent

-- ---- what an input holds; a refusal comes with nothing

abbrev pub refusal : ℕ → ℕ → Input
refusal n p = record { answer = Refused n p; store = no_store; query = query_of [] []; columns = columns_of [] }

abbrev pub input_reply : Answer → List ℕ → Input
input_reply Done bs = record { answer = Done; store = store_in bs; query = query_read bs; columns = columns_of (columns (formula (query_read bs))) }
input_reply (Refused n p) bs = refusal n p

abbrev pub input_of : List ℕ → Input
input_of bs = input_reply (first_cause (input_checks bs)) bs

-- What the code hands back (here `Held`).
abbrev pub input_in : Result Held Refusal → Input
input_in (Ok h) = record { answer = Done; store = h.store; query = h.query; columns = h.columns }
input_in (Err r) = refusal (number_of r) (place_of r)

-- ---- an input as judged

abbrev pub with_verdict : Store → Verdict → Assessment
with_verdict s v = record { store = s; verdict = v }

-- The store of its records, and the verdict on its query.
abbrev pub assessed : List ℕ → Assessment
assessed bs = with_verdict (input_of bs).store (judged_of bs)

-- What the code hands back (here `Judged`).
abbrev pub assessment_in : Result Judged Refusal → Assessment
assessment_in (Ok a) = with_verdict a.store (verdict_in a.verdict)
assessment_in (Err r) = with_verdict no_store (verdict_refusal (number_of r) (place_of r))

-- ---- a listing from what was found

abbrev pub listing_by : Answer → Found → Bool → Columns → Listing
listing_by Done f safe cols = beside f safe cols
listing_by (Refused n p) f safe cols = declined n p

abbrev pub listing_with : Found → Bool → Columns → Listing
listing_with f safe cols = listing_by f.answer f safe cols
