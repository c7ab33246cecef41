-- Laws of the rows that one list has and another has not: rows filled up with zeros have their order, and a walk up two ascending lists finds them.
-- The walk stops at the first row that is not below the one looked for; that is the only place where it can stand.
use Rattle.std.specs.Prelude.{ℕ, ◌+◌, ◌≤◌, ◌<◌, ◌-◌, ◌≡◌, refl, ◌⊎◌, true, false, not, cond, ◌&&◌, ◌||◌, List, [], ◌∷◌, ◌++◌, map, length, get_or, take, replicate, T, eqb, ltb}
use Rattle.std.proofs.Math.Nat.{suc_inj}
use Rattle.std.proofs.Common.{suc-ne-zero, add-one, arith, sym, ap, subst, ◌∙◌, inl, inr, append-nil, take-suc}
use Rattle.std.proofs.Math.Path.{subst⁻¹}
use Rattle.std.proofs.Math.Seq.{take-length, take-append_seam}
use Rattle.calculus.proofs.Theory.Reflects.Laws.{reflected, reflects, reflects-T, reflects-false, reflects-same, reflects-and, reflects-ltb, decided}
use Rattle.calculus.specs.Sets.{In, here, there, any_of, same_list}
use Rattle.calculus.proofs.Theory.Sets.Laws.{in_map, from-map, from-select, reflects-same_list}
use Rattle.calculus.specs.Lists.{padded}
use Rattle.calculus.proofs.Theory.Lists.Laws.{select-same, select-append, place_of, in_take, select-map}
use Rattle.calculus.specs.Order.{Ascending, is-ascending, leads}
use Rattle.calculus.proofs.Theory.Order.Laws.{below-differs, reflects-ascending, ascending-at, select-length}
use Rattle.calculus.specs.Rows.{Row, row_below, only_in, Width}
use Rattle.calculus.proofs.Theory.Rows.Laws.{row-order, reflects-in-rows}
use Rattle.standing.specs.Code.View.{Parted}

-- ---- rows filled up with zeros

-- What follows two rows of one length alike does not decide their order.
append-below : (v w z : Row) → length v ≡ length w → row_below (v ++ z) (w ++ z) ≡ row_below v w
append-below [] [] z e = reflects-false (reflects-T (row_below z z)) (row-order.irreflexive z)
append-below [] (y ∷ w) z e = absurd (suc-ne-zero (length w) (sym e))
append-below (x ∷ v) [] z e = absurd (suc-ne-zero (length v) e)
append-below (x ∷ v) (y ∷ w) z e = ap (λ b. ltb x y || (eqb x y && b)) (append-below v w z (suc_inj e))

-- Filled up with zeros they have the order that they had.
pub padded-below : (v w : Row) → length v ≡ length w → row_below (padded 4 0 v) (padded 4 0 w) ≡ row_below v w
padded-below v w e = ap (λ k. row_below (padded 4 0 v) (w ++ replicate (4 - k) 0)) (sym e) ∙ append-below v w (replicate (4 - length v) 0) e

-- Rows of one length that are filled up to the same are the same.
padded-same : (v w : Row) → length v ≡ length w → padded 4 0 v ≡ padded 4 0 w → v ≡ w
padded-same v w e p =
    sym (take-append_seam v (replicate (4 - length v) 0))
    ∙ ap (take (length v)) p
    ∙ ap (λ k. take k (padded 4 0 w)) e
    ∙ take-append_seam w (replicate (4 - length w) 0)

-- Rows of one width, filled up.
module _ (k : ℕ) where
  -- Rows filled up with zeros ascend where the rows do.
  pub padded-ascends : (rows : List Row) → Width k rows → is-ascending row_below (map (padded 4 0) rows) ≡ is-ascending row_below rows
  padded-ascends [] w = refl
  padded-ascends (r ∷ rows) w = λ i. first rows w i && padded-ascends rows (λ v j. w v (there j)) i
    where
      first : (rows : List Row) → Width k (r ∷ rows) → leads row_below (padded 4 0 r) (map (padded 4 0) rows) ≡ leads row_below r rows
      first [] w = refl
      first (s ∷ rows) w = padded-below r s (w r (here refl) ∙ sym (w s (there (here refl))))

  pub padded-ascending : {rows : List Row} → Width k rows → Ascending row_below rows → Ascending row_below (map (padded 4 0) rows)
  padded-ascending {rows} w a =
      reflected (reflects-ascending row_below row-order (map (padded 4 0) rows)) (subst⁻¹ T (padded-ascends rows w) (reflects (reflects-ascending row_below row-order rows) a))

  -- A row filled up is one of the rows filled up where it is one of the rows.
  padded-in : (v : Row) (ys : List Row) → length v ≡ k → Width k ys → any_of (same_list (padded 4 0 v)) (map (padded 4 0) ys) ≡ any_of (same_list v) ys
  padded-in v ys e w = reflects-same (reflects-in-rows (padded 4 0 v) (map (padded 4 0) ys)) (reflects-in-rows v ys) back (in_map (padded 4 0))
    where
      back : In (padded 4 0 v) (map (padded 4 0) ys) → In v ys
      back i = let r = from-map (padded 4 0) ys i in subst⁻¹ (λ u. In u ys) (padded-same v r.0 (e ∙ sym (w r.0 r.1)) r.2) r.1

  -- The rows of one list only, filled up before or after.
  pub only-in-padded : (xs ys : List Row) → Width k xs → Width k ys → only_in (map (padded 4 0) xs) (map (padded 4 0) ys) ≡ map (padded 4 0) (only_in xs ys)
  only-in-padded xs ys v w =
      select-map (λ u. not (any_of (same_list u) (map (padded 4 0) ys))) (padded 4 0) xs
      ∙ ap (map (padded 4 0)) (select-same (λ u. not (any_of (same_list (padded 4 0 u)) (map (padded 4 0) ys))) (λ u. not (any_of (same_list u) ys)) xs (λ u i. ap not (padded-in u ys (v u i) w)))

-- ---- the rows of one list only

-- The rows of one list only have the width of the first list, and are no more than its rows.
pub only_in-width : (k : ℕ) (xs ys : List Row) → Width k xs → Width k (only_in xs ys)
only_in-width k xs ys w = λ v i. w v (from-select (λ u. not (any_of (same_list u) ys)) xs i).0

pub only_in-fewer : (xs ys : List Row) → length (only_in xs ys) ≤ length xs
only_in-fewer xs ys = omega (arith, select-length (λ u. not (any_of (same_list u) ys)) xs)

-- ---- a walk up two ascending lists

-- A row is among ascending rows where it stands at the place that parts those below it from the others.
pub parted-in : (ys : List Row) (j : ℕ) (x : Row) → Ascending row_below ys → Parted ys j x → any_of (same_list x) ys ≡ ltb j (length ys) && same_list x (get_or ys j [])
parted-in ys j x a p = reflects-same (reflects-in-rows x ys) (reflects-and (reflects-ltb j (length ys)) (reflects-same_list x (get_or ys j []))) there-only stands
  where
    Stands : Type 0
    Stands = (j < length ys) × (x ≡ get_or ys j [])

    stands : Stands → In x ys
    stands h = subst⁻¹ (λ u. In u ys) h.1 (subst (In (get_or ys j [])) (take-length ys) (in_take [] ys (length ys) j h.0 h.0))

    -- Before it all are below, after it all are above.
    at_place : (o : ℕ) → o < length ys → x ≡ get_or ys o [] → (o < j) ⊎ (¬ (o < j)) → (j < o) ⊎ (¬ (j < o)) → Stands
    at_place o l e (inl h) r = absurd (below-differs row_below row-order (get_or ys o []) x (p.0 o h) (sym e))
    at_place o l e (inr n) (inl h) = absurd (p.1 (omega arith) (subst⁻¹ (λ u. T (row_below (get_or ys j []) u)) e (ascending-at row_below [] a j o h l)))
    at_place o l e (inr n) (inr m) = let q : o ≡ j = omega arith in (omega arith, e ∙ ap (λ k. get_or ys k []) q)

    there-only : In x ys → Stands
    there-only i = let r = place_of [] ys i in at_place r.0 r.1 r.2 (decided (reflects-ltb r.0 j)) (decided (reflects-ltb j r.0))

-- One row more: it is left out where the other list has it.
module _ (xs ys : List Row) (i : ℕ) (h : i < length xs) where
  only-in-next : only_in (take (i + 1) xs) ys ≡ only_in (take i xs) ys ++ only_in (get_or xs i [] ∷ []) ys
  only-in-next = ap (λ r. only_in r ys) (ap (λ k. take k xs) (add-one i) ∙ take-suc xs i [] h) ∙ select-append (λ u. not (any_of (same_list u) ys)) (take i xs) (get_or xs i [] ∷ [])

  pub only-in-also : any_of (same_list (get_or xs i [])) ys ≡ false → only_in (take (i + 1) xs) ys ≡ only_in (take i xs) ys ++ (get_or xs i [] ∷ [])
  only-in-also e = only-in-next ∙ ap (λ b. only_in (take i xs) ys ++ cond (not b) (get_or xs i [] ∷ []) []) e

  pub only-in-without : any_of (same_list (get_or xs i [])) ys ≡ true → only_in (take (i + 1) xs) ys ≡ only_in (take i xs) ys
  only-in-without e = only-in-next ∙ ap (λ b. only_in (take i xs) ys ++ cond (not b) (get_or xs i [] ∷ []) []) e ∙ append-nil (only_in (take i xs) ys)
