-- The materialized view of a query, document 01's *standing list* ("Rows, endless and listed"), and its layout, cause 12. Definitions only; the laws are in
-- View/Laws.antt, View/Difference.antt and View/Layout.antt.
use Rattle.std.specs.Prelude.{ℕ, ◌+◌, ◌*◌, ◌≤◌, ◌<◌, ◌≡◌, Bool, true, false, not, ◌&&◌, List, [], ◌∷◌, map, length, get_or, take, drop, eqb, ltb, leb}
use Rattle.calculus.specs.Sets.{all_of, union_of, same_list, In}
use Rattle.calculus.specs.Lists.{tabulate, padded}
use Rattle.calculus.specs.Order.{is-ascending, Ascending}
use Rattle.calculus.specs.Rows.{Row, row_below, Result, endless, listed}
use Rattle.query.specs.declared.Columns.{Columns}
use Rattle.query.specs.Reading.{max_columns, columns_of, variables_in}
use Rattle.standing.specs.declared.Rows.{Rows}
use Rattle.standing.specs.declared.View.{View}

-- The number of row places.
abbrev pub max_rows : ℕ
max_rows = 512

-- ---- rows in their places

-- The four values at row place i.
abbrev pub row_at : List ℕ → ℕ → Row
row_at vs i = get_or vs (4 * i) 0 ∷ get_or vs (4 * i + 1) 0 ∷ get_or vs (4 * i + 2) 0 ∷ get_or vs (4 * i + 3) 0 ∷ []

-- All row places, in order.
unfoldable pub row_places : List ℕ → List Row
row_places vs = tabulate (row_at vs) max_rows

-- The rows held, each in its four places.
abbrev pub held_rows : Rows → List Row
held_rows r = take r.count (row_places r.values)

-- The row places past the count.
abbrev pub unused_places : Rows → List Row
unused_places r = drop r.count (row_places r.values)

-- Whether a list is zero from place k on.
abbrev pub ends : ℕ → List ℕ → Bool
ends k xs = all_of (eqb 0) (drop k xs)

-- Rows as they are stored: each in four places, those past its values zero, and every place past the last row zero.
abbrev pub stored : List Row → Rows
stored rows = record { values = union_of (padded max_columns 0) (padded max_rows [] rows); count = length rows }

-- ---- a standing list

-- The columns of a list.
abbrev pub columns_in : View → List ℕ
columns_in v = variables_in v.columns

-- The rows that a list holds.
abbrev pub rows_in : View → List Row
rows_in v = map (take v.columns.count) (held_rows v.rows)

-- The layout of a list's columns: at most four, each below 16, ascending, and unused places zero.
abbrev pub columns_fit : View → Bool
columns_fit v = leb v.columns.count max_columns && all_of (λ c. ltb c 16) (columns_in v) && is-ascending ltb (columns_in v) && ends v.columns.count v.columns.variables

-- The layout of a list's rows: at most `max_rows`, strictly ascending, and unused places of rows and values zero.
abbrev pub rows_fit : View → Bool
rows_fit v =
    leb v.rows.count max_rows
    && is-ascending row_below (rows_in v)
    && all_of (ends v.columns.count) (held_rows v.rows)
    && all_of (ends 0) (unused_places v.rows)

-- The layout of a list's mark and counts: an endless list has no rows; rows at opening plus joined are left plus rows held, as whole numbers.
abbrev pub counts_fit : View → Bool
counts_fit v = not (v.endless && ltb 0 v.rows.count) && eqb (v.opening + v.joined) (v.left + v.rows.count)

abbrev pub view_fits : View → Bool
view_fits v = columns_fit v && rows_fit v && counts_fit v

-- A list is in the layout and has the columns of the query. Where not, cause 12 is met.
abbrev pub suits : View → List ℕ → Bool
suits v cols = view_fits v && same_list (columns_in v) cols

-- ---- the list of what a query answers

-- The rows that a list keeps of a result: none of an endless one.
abbrev pub kept : Result → List Row
kept endless = []
kept (listed rows) = rows

-- The endless mark of the list of a result.
abbrev pub mark : Result → Bool
mark endless = true
mark (listed rows) = false

-- The list of these columns and answers, with its counts of rows at opening, joined and left.
abbrev pub view_of : List ℕ → Result → ℕ → ℕ → ℕ → View
view_of cols found opening joined left =
    record { columns = columns_of cols; rows = stored (kept found); endless = mark found; opening = opening; joined = joined; left = left }

-- The columns of an accepted query: at most four variables, ascending, with zeros in the places past them.
pub record QueryColumns (c : Columns) : Type 0 where
  pub few : length (variables_in c) ≤ max_columns
  pub small : (x : ℕ) → In x (variables_in c) → x < 16
  pub ascending : Ascending ltb (variables_in c)
  pub whole : c ≡ columns_of (variables_in c)
