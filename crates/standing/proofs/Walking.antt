-- The walk up two lists of rows, in their places: the rows passed are below the one looked for, and it can stand only where they end.
-- What was written are the rows of the first list, up to its place, that the second has not.
use Prim.Native.Nat.{ℕ, ◌+◌, ◌*◌, ◌≤◌, ◌<◌}
use native.Mathlib.Omega.{arith}
use mathlib.Core.Path.{◌≡◌, refl, ap, subst, subst⁻¹, ◌∙◌, sym}
use mathlib.Core.Logic.{◌⊎◌, inl, inr}
use mathlib.Core.Bool.{Bool, true, false, ◌&&◌}
use mathlib.Core.List.{List, [], ◌∷◌, ◌++◌}
use lib.ListN.{length, get_or, take, drop, replicate, length-append}
use lib.Dec.{T, ltb}
use borrow.Author.Tests.{lt-ltb, le-ltb}
use Rattle.calculus.proofs.Theory.Reflects.Laws.{decided, reflects-ltb}
use Rattle.calculus.specs.Sets.{any_of, same_list}
use Rattle.calculus.specs.Order.{Ascending}
use Rattle.calculus.proofs.Theory.Order.Laws.{ascending-at}
use Rattle.calculus.specs.Rows.{Row, row_below, only_in, Width}
use Rattle.calculus.proofs.Theory.Rows.Laws.{row-order}
use Rattle.standing.specs.View.{max_rows, row_at, row_places, stored}
use Rattle.standing.specs.Code.View.{rows_with, Passed, Parted}
use Rattle.standing.proofs.Theory.View.Laws.{length-row_places, getD-row_places, row-at-taken, width-first, stored-none, length-stored, stored_next}
use Rattle.standing.proofs.Theory.View.Layout.{length-first, getD-first}
use Rattle.standing.proofs.Theory.View.Difference.{parted-in, only_in-width, only_in-fewer, only-in-also, only-in-without}

-- ---- rows passed

-- One row more.
pub passed-next : (ys : List Row) (p : ℕ) (x : Row) → Passed ys p x → row_below (get_or ys p []) x ≡ true → Passed ys (p + 1) x
passed-next ys p x f e o h = go (decided (reflects-ltb o p))
  where
    go : (o < p) ⊎ (¬ (o < p)) → T (row_below (get_or ys o []) x)
    go (inl k) = f o k
    go (inr n) = let q : o ≡ p = omega arith in subst⁻¹ T (ap (λ k. row_below (get_or ys k []) x) q ∙ e) tt

-- The rows passed are below the next of ascending rows too.
pub passed_on : (vs : List ℕ) (n : ℕ) → n ≤ max_rows → Ascending row_below (take n (row_places vs)) → (ys : List Row) (i p : ℕ) → i + 1 < n → Passed ys p (row_at vs i) → Passed ys p (row_at vs (i + 1))
passed_on vs n few a ys i p l f o h = row-order.transitive (get_or ys o []) (row_at vs i) (row_at vs (i + 1)) (f o h) above
  where
    above : T (row_below (row_at vs i) (row_at vs (i + 1)))
    above =
        subst T (λ q. row_below (getD-first vs n few i (omega arith) q) (getD-first vs n few (i + 1) l q))
        (ascending-at row_below [] a i (i + 1) (omega arith) (omega (arith, length-first vs n few)))

module _ (vs : List ℕ) (m : ℕ) (few : m ≤ max_rows) (a : Ascending row_below (take m (row_places vs))) (j : ℕ) (x : Row) (p : Parted (take m (row_places vs)) j x) where
  stands : any_of (same_list x) (take m (row_places vs)) ≡ ltb j m && same_list x (get_or (take m (row_places vs)) j [])
  stands = parted-in (take m (row_places vs)) j x a p ∙ ap (λ n. ltb j n && same_list x (get_or (take m (row_places vs)) j [])) (length-first vs m few)

  -- Past the last row none stands; before it the row at the place decides.
  pub stands-past : m ≤ j → false ≡ any_of (same_list x) (take m (row_places vs))
  stands-past h = sym (stands ∙ ap (λ b. b && same_list x (get_or (take m (row_places vs)) j [])) (le-ltb j m h))

  pub stands_at : j < m → same_list x (row_at vs j) ≡ any_of (same_list x) (take m (row_places vs))
  stands_at h = sym (stands ∙ (λ q. lt-ltb j m h q && same_list x (getD-first vs m few j h q)))

-- ---- rows found

-- The first i rows of a list that are not among those of another.
abbrev pub found : List ℕ → ℕ → List Row → List Row
found xs i ys = only_in (take i (row_places xs)) ys

module _ (xs : List ℕ) (ys : List Row) where
  -- At first nothing is written.
  pub found_none : rows_with (replicate (4 * max_rows) 0) 0 ≡ stored (found xs 0 ys)
  found_none = λ q. rows_with (sym stored-none q) 0

  module _ (i : ℕ) (few : i ≤ max_rows) where
    found-width : Width 4 (found xs i ys)
    found-width = only_in-width 4 (take i (row_places xs)) ys (width-first i xs)

    found-fewer : length (found xs i ys) ≤ i
    found-fewer = omega (arith, only_in-fewer (take i (row_places xs)) ys, length-first xs i few)

    -- The sizes of what was written.
    pub found-sizes : (values : List ℕ) (count : ℕ) → rows_with values count ≡ stored (found xs i ys) → (count ≤ i) × (length values ≡ 4 * max_rows)
    found-sizes values count e =
        (subst⁻¹ (λ k. k ≤ i) (λ q. (e q).count) found-fewer, (λ q. length (e q).values) ∙ length-stored 4 (omega arith) (found xs i ys) (omega (arith, found-fewer)) found-width)

  module _ (i : ℕ) (few : i < max_rows) where
    within : i < length (row_places xs)
    within = omega (arith, few, length-row_places xs)

    told : {b : Bool} → any_of (same_list (row_at xs i)) ys ≡ b → any_of (same_list (get_or (row_places xs) i [])) ys ≡ b
    told e = ap (λ r. any_of (same_list r) ys) (getD-row_places xs i few) ∙ e

    -- A row that the second list has is left out.
    pub found-without : any_of (same_list (row_at xs i)) ys ≡ true → found xs (i + 1) ys ≡ found xs i ys
    found-without e = only-in-without (row_places xs) ys i within (told e)

    found-also : any_of (same_list (row_at xs i)) ys ≡ false → found xs (i + 1) ys ≡ found xs i ys ++ (row_at xs i ∷ [])
    found-also e = only-in-also (row_places xs) ys i within (told e) ∙ ap (λ r. found xs i ys ++ (r ∷ [])) (getD-row_places xs i few)

    -- One that it has not is written after the others.
    pub found-written : (values : List ℕ) (count : ℕ) → length xs ≡ 4 * max_rows → rows_with values count ≡ stored (found xs i ys) → any_of (same_list (row_at xs i)) ys ≡ false → rows_with (take (4 * count) values ++ take 4 (drop (4 * i) xs) ++ drop (4 * count + 4) values) (count + 1) ≡ stored (found xs (i + 1) ys)
    found-written values count w e t =
        (λ q. rows_with (take (4 * (e q).count) (e q).values ++ row-at-taken xs i (omega (arith, few)) q ++ drop (4 * (e q).count + 4) (e q).values) ((e q).count + 1))
        ∙ (λ q. rows_with (next q) (sym (length-append (found xs i ys) (row_at xs i ∷ [])) q))
        ∙ ap stored (sym (found-also t))
      where
        fewer : length (found xs i ys) < max_rows
        fewer = omega (arith, few, found-fewer i (omega arith))

        next : take (4 * length (found xs i ys)) (stored (found xs i ys)).values ++ row_at xs i ++ drop (4 * length (found xs i ys) + 4) (stored (found xs i ys)).values ≡ (stored (found xs i ys ++ (row_at xs i ∷ []))).values
        next = stored_next 4 (omega arith) (found xs i ys) (omega (arith, fewer)) (found-width i (omega arith)) (row_at xs i) refl fewer
