-- Laws of rows in their places: the flattened values as one list of row places, and rows written and read back.
-- The values of stored rows are the numbers at the row places, four at each, and the rows at all places are got back from their numbers.
use Rattle.std.specs.Prelude.{ℕ, zero, suc, ◌+◌, ◌*◌, ◌-◌, ◌≤◌, ◌<◌, ◌≡◌, refl, List, [], ◌∷◌, ◌++◌, map, length, get_or, take, drop, replicate}
use Rattle.std.proofs.Common.{arith, sym, ap, ◌∙◌, ⊎_elim, append_assoc, append-nil, length-append, length-take-le, drop-cons, drop-drop, get_or-append-add, take_at, drop_at}
use Rattle.std.proofs.lemmas.List.{map-append, length-map, length-replicate, drop-append-le}
use Rattle.std.proofs.Math.Seq.{append_snoc}
use Rattle.calculus.specs.Sets.{here, there, union_of}
use Rattle.calculus.proofs.Theory.Sets.Laws.{in-append, from-map, union-append}
use Rattle.calculus.specs.Lists.{tabulate, padded}
use Rattle.calculus.proofs.Theory.Lists.Laws.{length-tabulate, get_d_tabulate, length-padded, from-tabulate, from-take, tabulate-same, drop-replicate, from-replicate}
use Rattle.calculus.specs.Rows.{Row, numbers, Width}
use Rattle.answer.proofs.Theory.Code.Listing.Rows.{numbers-width}
use Rattle.standing.specs.View.{max_rows, row_at, row_places, held_rows, unused_places, stored}

-- ---- the places of the values

-- There are `max_rows` row places.
pub length-row_places : (vs : List ℕ) → length (row_places vs) ≡ max_rows
unfolding row_places
length-row_places vs = length-tabulate (row_at vs) max_rows

-- Row place i is read off the values from 4 i on.
pub getD-row_places : (vs : List ℕ) (i : ℕ) → i < max_rows → get_or (row_places vs) i [] ≡ row_at vs i
unfolding row_places
getD-row_places vs i h = get_d_tabulate (row_at vs) max_rows i [] h

-- The numbers from place a on, one at a time.
one-taken : (vs : List ℕ) (a b m : ℕ) → b ≡ suc a → a < length vs → take (suc m) (drop a vs) ≡ get_or vs a 0 ∷ take m (drop b vs)
one-taken vs a b m e h = ap (take (suc m)) (drop-cons vs a 0 h) ∙ ap (λ j. get_or vs a 0 ∷ take m (drop j vs)) (sym e)

four-taken : (vs : List ℕ) (a : ℕ) → a + 4 ≤ length vs → take 4 (drop a vs) ≡ get_or vs a 0 ∷ get_or vs (a + 1) 0 ∷ get_or vs (a + 2) 0 ∷ get_or vs (a + 3) 0 ∷ []
four-taken vs a h =
    one-taken vs a (a + 1) 3 (omega arith) (omega arith)
    ∙ ap (λ r. get_or vs a 0 ∷ r) (one-taken vs (a + 1) (a + 2) 2 (omega arith) (omega arith))
    ∙ ap (λ r. get_or vs a 0 ∷ get_or vs (a + 1) 0 ∷ r) (one-taken vs (a + 2) (a + 3) 1 (omega arith) (omega arith))
    ∙ ap (λ r. get_or vs a 0 ∷ get_or vs (a + 1) 0 ∷ get_or vs (a + 2) 0 ∷ r) (one-taken vs (a + 3) (a + 4) 0 (omega arith) (omega arith))

-- A row place has the next four values.
pub row-at-taken : (vs : List ℕ) (i : ℕ) → 4 * i + 4 ≤ length vs → take 4 (drop (4 * i) vs) ≡ row_at vs i
row-at-taken vs i h = four-taken vs (4 * i) h

-- Every row place has four values, also of the first n.
pub width-first : (n : ℕ) (vs : List ℕ) → Width 4 (take n (row_places vs))
unfolding row_places
width-first n vs w i = ap length (from-tabulate (row_at vs) max_rows (from-take n (row_places vs) i)).2

-- Cut to k values, each has k of them.
pub width-rows : (k n : ℕ) (vs : List ℕ) → k ≤ 4 → Width k (map (take k) (take n (row_places vs)))
width-rows k n vs few w i =
    let r = from-map (take k) (take n (row_places vs)) i in
    ap length r.2 ∙ length-take-le k r.0 (omega (arith, width-first n vs r.0 r.1))

-- ---- the numbers at row places

row-at-first : (q : Row) (rest : List ℕ) → length q ≡ 4 → row_at (q ++ rest) 0 ≡ q
row-at-first q rest e = sym (row-at-taken (q ++ rest) 0 (omega (arith, length-append q rest))) ∙ take_at q rest 4 e

row-at-later : (q : Row) (rest : List ℕ) (i : ℕ) → length q ≡ 4 → row_at (q ++ rest) (suc i) ≡ row_at rest i
row-at-later q rest i e = λ j. at (4 * suc i) (4 * i) (omega arith) j ∷ at (4 * suc i + 1) (4 * i + 1) (omega arith) j ∷ at (4 * suc i + 2) (4 * i + 2) (omega arith) j ∷ at (4 * suc i + 3) (4 * i + 3) (omega arith) j ∷ []
  where
    at : (m n : ℕ) → m ≡ length q + n → get_or (q ++ rest) m 0 ≡ get_or rest n 0
    at m n f = ap (λ (p : ℕ). get_or (q ++ rest) p 0) f ∙ get_or-append-add q rest n 0

tabulated-numbers : (qs : List Row) → Width 4 qs → tabulate (row_at (numbers qs)) (length qs) ≡ qs
tabulated-numbers [] w = refl
tabulated-numbers (q ∷ qs) w =
    let e : length q ≡ 4 = w q (here refl) in
    λ j. row-at-first q (numbers qs) e j ∷ (tabulate-same (λ i. row_at (q ++ numbers qs) (suc i)) (row_at (numbers qs)) (length qs) (λ i. row-at-later q (numbers qs) i e) ∙ tabulated-numbers qs (λ u i. w u (there i))) j

-- Rows of four values, one for each place, are got back from their numbers.
pub row_places-numbers : (qs : List Row) → Width 4 qs → length qs ≡ max_rows → row_places (numbers qs) ≡ qs
unfolding row_places
row_places-numbers qs w e = ap (tabulate (row_at (numbers qs))) (sym e) ∙ tabulated-numbers qs w

-- ---- rows as they are stored

-- An unused row place: zeros.
abbrev unused_place : Row
unused_place = 0 ∷ 0 ∷ 0 ∷ 0 ∷ []

-- The row places of stored rows: each row filled up with zeros, and unused places after them.
abbrev filled : List Row → List Row
filled rows = map (padded 4 0) rows ++ replicate (max_rows - length rows) unused_place

numbers-map : (f : Row → Row) (rows : List Row) → union_of f rows ≡ numbers (map f rows)
numbers-map f [] = refl
numbers-map f (r ∷ rows) = ap (λ ns. f r ++ ns) (numbers-map f rows)

map-replicate : (f : Row → Row) (n : ℕ) (r : Row) → map f (replicate n r) ≡ replicate n (f r)
map-replicate f zero r = refl
map-replicate f (suc n) r = ap (λ rs. f r ∷ rs) (map-replicate f n r)

values-filled : (rows : List Row) → (stored rows).values ≡ numbers (filled rows)
values-filled rows =
    numbers-map (padded 4 0) (padded max_rows [] rows)
    ∙ ap numbers (map-append (padded 4 0) rows (replicate (max_rows - length rows) []) ∙ ap (λ rs. map (padded 4 0) rows ++ rs) (map-replicate (padded 4 0) (max_rows - length rows) []))

-- No rows are stored as zeros.
pub stored-none : (stored []).values ≡ replicate (4 * max_rows) 0
stored-none = refl

-- Numbers written over the first of those in the middle.
middle-written : (before middle after r : List ℕ) (a k : ℕ) → length before ≡ a → k ≤ length middle → take a (before ++ (middle ++ after)) ++ r ++ drop (a + k) (before ++ (middle ++ after)) ≡ before ++ (r ++ drop k middle ++ after)
middle-written before middle after r a k e h =
    (λ j. take_at before (middle ++ after) a e j ++ r ++ (sym (drop-drop k a (before ++ (middle ++ after))) ∙ ap (drop k) (drop_at before (middle ++ after) a e) ∙ drop-append-le k middle after h) j)
    ∙ append_assoc before r (drop k middle ++ after)
    ∙ ap (λ ns. before ++ ns) (sym (append_assoc r (drop k middle) after))

-- A row filled up is not filled up further.
padded-padded : (r : Row) → length r ≤ 4 → padded 4 0 (padded 4 0 r) ≡ padded 4 0 r
padded-padded r h = ap (λ n. padded 4 0 r ++ replicate (4 - n) 0) (length-padded 4 0 r h) ∙ append-nil (padded 4 0 r)

-- Rows filled up are cut back.
rows-read : (k : ℕ) (rows : List Row) → Width k rows → map (take k) (map (padded 4 0) rows) ≡ rows
rows-read k [] wide = refl
rows-read k (r ∷ rows) wide = λ j. take_at r (replicate (4 - length r) 0) k (wide r (here refl)) j ∷ rows-read k rows (λ u i. wide u (there i)) j

module _ (k : ℕ) (few : k ≤ 4) where
  width-filled : (rows : List Row) → Width k rows → Width 4 (map (padded 4 0) rows)
  width-filled rows wide w i =
      let r = from-map (padded 4 0) rows i in
      ap length r.2 ∙ length-padded 4 0 r.0 (omega (arith, wide r.0 r.1))

  rows-padded : (rows : List Row) → Width k rows → map (padded 4 0) (map (padded 4 0) rows) ≡ map (padded 4 0) rows
  rows-padded [] wide = refl
  rows-padded (r ∷ rows) wide = λ j. padded-padded r (omega (arith, wide r (here refl))) j ∷ rows-padded rows (λ u i. wide u (there i)) j

module _ (k : ℕ) (few : k ≤ 4) (rows : List Row) (h : length rows ≤ max_rows) (wide : Width k rows) where
  abbrev mine : List Row
  mine = map (padded 4 0) rows

  abbrev others : List Row
  others = replicate (max_rows - length rows) unused_place

  length-mine : length mine ≡ length rows
  length-mine = length-map rows (padded 4 0)

  width-all : Width 4 (filled rows)
  width-all w i = ⊎_elim (λ j. width-filled k few rows wide w j) (λ j. ap length (from-replicate (max_rows - length rows) unused_place j)) (in-append mine i)

  length-filled : length (filled rows) ≡ max_rows
  length-filled = length-append mine others ∙ omega (arith, length-mine, length-replicate (max_rows - length rows) unused_place)

  -- Stored rows take all places.
  pub length-stored : length (stored rows).values ≡ 4 * max_rows
  length-stored = ap length (values-filled rows) ∙ numbers-width 4 (filled rows) width-all ∙ ap (λ n. n * 4) length-filled

  row-places-filled : row_places (stored rows).values ≡ filled rows
  row-places-filled = ap row_places (values-filled rows) ∙ row_places-numbers (filled rows) width-all length-filled

  -- The rows held of stored rows are these rows, filled up with zeros.
  pub held-rows-stored : held_rows (stored rows) ≡ map (padded 4 0) rows
  held-rows-stored = ap (take (length rows)) row-places-filled ∙ take_at mine others (length rows) length-mine

  -- The row places past stored rows are zero.
  pub unused-stored : unused_places (stored rows) ≡ replicate (max_rows - length rows) (0 ∷ 0 ∷ 0 ∷ 0 ∷ [])
  unused-stored = ap (drop (length rows)) row-places-filled ∙ drop_at mine others (length rows) length-mine

  -- Stored rows are read back.
  pub rows_stored : map (take k) (held_rows (stored rows)) ≡ rows
  rows_stored = ap (map (take k)) held-rows-stored ∙ rows-read k rows wide

  -- Filled up with zeros they are stored alike.
  pub stored-padded : stored (map (padded 4 0) rows) ≡ stored rows
  stored-padded = λ j. record { values = same j; count = length-mine j }
    where
      same : (stored mine).values ≡ (stored rows).values
      same = values-filled mine ∙ (λ j. numbers (rows-padded k few rows wide j ++ replicate (max_rows - length-mine j) unused_place)) ∙ sym (values-filled rows)

  -- One row more, written after them.
  pub stored_next : (r : Row) → length r ≡ k → length rows < max_rows → take (4 * length rows) (stored rows).values ++ r ++ drop (4 * length rows + k) (stored rows).values ≡ (stored (rows ++ (r ∷ []))).values
  stored_next r e l =
      (λ j. take (4 * length rows) (values-are j) ++ r ++ drop (4 * length rows + k) (values-are j))
      ∙ middle-written (numbers mine) unused_place after r (4 * length rows) k length_before few
      ∙ ap (λ q. numbers mine ++ (q ++ after)) (ap (λ ns. r ++ ns) (drop-replicate 4 k 0) ∙ ap (λ n. r ++ replicate (4 - n) 0) (sym e))
      ∙ sym values-come
    where
      left : ℕ
      left = max_rows - length (rows ++ (r ∷ []))

      after : List ℕ
      after = numbers (replicate left unused_place)

      length_before : length (numbers mine) ≡ 4 * length rows
      length_before = numbers-width 4 mine (width-filled k few rows wide) ∙ omega (arith, length-mine)

      values-are : (stored rows).values ≡ numbers mine ++ (unused_place ++ after)
      values-are =
          let f : max_rows - length rows ≡ suc left = omega (arith, length-append rows (r ∷ [])) in
          values-filled rows ∙ union-append (λ w. w) mine others ∙ ap (λ n. numbers mine ++ numbers (replicate n unused_place)) f

      values-come : (stored (rows ++ (r ∷ []))).values ≡ numbers mine ++ (padded 4 0 r ++ after)
      values-come =
          values-filled (rows ++ (r ∷ []))
          ∙ ap (λ rs. numbers (rs ++ replicate left unused_place)) (map-append (padded 4 0) rows (r ∷ []))
          ∙ ap numbers (append_snoc mine (padded 4 0 r) (replicate left unused_place))
          ∙ union-append (λ w. w) mine (padded 4 0 r ∷ replicate left unused_place)
