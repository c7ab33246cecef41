-- How the code goes over rows in their places. Definitions only; the laws are in View/.
use Rattle.std.specs.Prelude.{ℕ, ◌+◌, ◌≤◌, ◌<◌, Bool, not, ◌&&◌, List, [], ◌∷◌, length, get_or, T, eqb, ltb}
use Rattle.calculus.specs.Sets.{all_of}
use Rattle.calculus.specs.Order.{Ascending, is-ascending}
use Rattle.calculus.specs.Rows.{Row, row_below}
use Rattle.standing.specs.declared.Quad.{Quad}
use Rattle.standing.specs.declared.Rows.{Rows}
use Rattle.standing.specs.declared.View.{View}
use Rattle.standing.specs.View.{max_rows, held_rows, unused_places, ends}

-- Values and a count, as rows.
abbrev pub rows_with : List ℕ → ℕ → Rows
rows_with values count = record { values = values; count = count }

-- At most `max_rows` rows, strictly ascending in their places.
abbrev pub InOrder : Rows → Type 0
InOrder r = (r.count ≤ max_rows) × Ascending row_below (held_rows r)

-- The four values of a row that was read.
abbrev pub values_of : Quad → Row
values_of x = x.first ∷ x.second ∷ x.third ∷ x.fourth ∷ []

-- Every row before place j is below x.
abbrev pub Passed : List Row → ℕ → Row → Type 0
Passed ys j x = (o : ℕ) → o < j → T (row_below (get_or ys o []) x)

-- Every row before place j is below x, and the one at j, if any, is not: among ascending rows x can stand only at j.
abbrev pub Parted : List Row → ℕ → Row → Type 0
Parted ys j x = Passed ys j x × (j < length ys → ¬ T (row_below (get_or ys j []) x))

-- At most `max_rows` rows of k columns are in the layout, as the code tests it.
abbrev pub places_fit : Rows → ℕ → Bool
places_fit r k = all_of (ends k) (held_rows r) && is-ascending row_below (held_rows r) && all_of (ends 0) (unused_places r)

-- The tests that are left of a list with the k columns of a query and at most `max_rows` rows.
abbrev pub tests_of : View → ℕ → Bool
tests_of v k = places_fit v.rows k && not (v.endless && ltb 0 v.rows.count) && eqb (v.opening + v.joined) (v.left + v.rows.count)
