-- How the code opens and changes a list, part by part. Definitions only; the laws are in Change/.
use Rattle.std.specs.Prelude.{ℕ, ◌≡◌, Bool, true, false, cond, List, [], length, T, Option, Some, None, Result as Returned}
use Rattle.calculus.specs.Generators.{columns}
use Rattle.calculus.specs.Rows.{Result}
use Rattle.causes.specs.Causes.{first_cause}
use Rattle.tables.specs.declared.Store.{Store}
use Rattle.tables.specs.Change.{Changed, changed_of}
use Rattle.tables.specs.Code.Change.{insertion, deletion}
use Rattle.query.specs.declared.Query.{Query}
use Rattle.query.specs.Reading.{Reading, constants_of, nodes_of, formula, read_reply}
use Rattle.answer.specs.Reply.{result_of}
use Rattle.answer.specs.declared.Found.{Found}
use Rattle.answer.specs.declared.Found.TheVariants as found
use Rattle.causes.specs.declared.Refusal.{Refusal}
use Rattle.standing.specs.declared.Rows.{Rows}
use Rattle.standing.specs.declared.View.{View}
use Rattle.standing.specs.Change.{Change, begin_checks, ready_checks, turn_checks, turn_reply}
use Rattle.standing.specs.View.{stored, kept, mark, suits}
use Rattle.standing.specs.Code.View.{rows_with}
use Rattle.standing.specs.Checks.{Action, put, removal, is_over}

-- Rows found anew: whether they are over `max_rows`, and else the mark and the rows.
pub record Current : Type 0 where
  pub over : Bool
  pub endless : Bool
  pub rows : Rows

-- The endless mark and the number of rows of a list that holds what is found.
abbrev pub kept_of : Found → Bool × ℕ
kept_of found.Endless = (true, 0)
kept_of (found.Rows n) = (false, n)

-- They as the code has them: what is told of them, and the values in their places.
abbrev pub told : Option Found → List ℕ → Current
told (Some f) values = record { over = false; endless = (kept_of f).0; rows = rows_with values (kept_of f).1 }
told None values = record { over = true; endless = false; rows = rows_with values 0 }

-- They as the query answers.
abbrev pub current : Result → Current
current found =
    cond
    (is_over (length (kept found)))
    (record { over = true; endless = false; rows = stored [] })
    (record { over = false; endless = mark found; rows = stored (kept found) })

-- The query as read, or a refusal by the first of the causes 1 to 10.
abbrev pub begun : Store → List ℕ → Reading
begun s bs = read_reply (first_cause (begin_checks s bs)) (constants_of bs) (nodes_of bs)

-- The query as read, or a refusal by the first of the causes 1 to 10 and 12.
abbrev pub readied : Store → View → List ℕ → Reading
readied s v bs = read_reply (first_cause (ready_checks s v bs)) (constants_of bs) (nodes_of bs)

-- The list suits the columns of an accepted query.
abbrev pub Suits : View → Query → Type 0
Suits v q = T (suits v (columns (formula q)))

-- What the call of `tables` for an action ensures.
abbrev pub altered : Action → Store → Changed
altered (put r) s = insertion s r
altered (removal r) s = deletion s r

-- Whatever a step comes to of a store is what the call of `tables` for an action ensures.
abbrev pub Alters : (Returned Store Refusal → Type 0) → Action → Store → Type 0
Alters comes action s = (r : Returned Store Refusal) → comes r → changed_of s r ≡ altered action s

-- The reply to a change that came to the store t.
abbrev pub maintained : Store → Store → View → Query → List ℕ → List ℕ → Change × (List ℕ × List ℕ)
maintained s t v q first second =
    let found : Result = result_of t q in
    turn_reply (first_cause (turn_checks v (columns (formula q)) found (length first) (length second))) s t v (columns (formula q)) found first second
