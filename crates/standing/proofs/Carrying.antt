-- The steps of spread and gather on values: one row more in its place, one row more at the front of a buffer.
use Prim.Native.Nat.{ℕ, ◌+◌, ◌*◌, ◌≤◌, ◌<◌}
use native.Mathlib.Omega.{arith}
use borrow.Rule.Slice.PartMut.{put_mid}
use native.Mathlib.Numerals.{add-one}
use mathlib.Core.Path.{◌≡◌, refl, sym, ap, ◌∙◌}
use mathlib.Core.List.{List, [], ◌∷◌, ◌++◌, map, map-append, append-nil}
use lib.ListN.{length, get_or, take, drop, length-append, length-drop, length-map}
use lib.Seq.{take-suc, take-take, drop-drop, take_at, drop_at, length-take-le, paste}
use Rattle.std.proofs.lemmas.Slice.{put_mid-paste}
use Rattle.calculus.proofs.Theory.Sets.Laws.{union-append}
use Rattle.calculus.specs.Rows.{Row, numbers}
use Rattle.answer.specs.Code.Listing.{cut}
use Rattle.answer.proofs.Theory.Code.Listing.Cut.{length_cut, cut-width, cut-next, position-within}
use Rattle.standing.specs.View.{max_rows, row_places, stored}
use Rattle.answer.proofs.Theory.Code.Listing.Rows.{numbers-width}
use Rattle.standing.proofs.Theory.View.Laws.{length-row_places, getD-row_places, row-at-taken, width-rows, stored_next}
use Rattle.standing.specs.Change.{fronted}

-- ---- numbers from one list to another

-- A part of a list copied over k places of another.
pub copied : (before from part : List ℕ) (at start k m n : ℕ) → part ≡ take m (drop start from) → m ≡ k → n ≡ k → start + k ≤ length from → put_mid at n before part ≡ paste before at (drop start from) k
copied before from part at start k m n e f g l =
    put_mid-paste at n before part (take k (drop start from)) k (e ∙ ap (λ j. take j (drop start from)) f) (sym g) (sym (length-take-le k (drop start from) (omega (arith, length-drop start from))))
    ∙ ap (λ xs. take at before ++ xs ++ drop (at + k) before) (take-take k k (drop start from) (omega arith))

-- ---- rows of k numbers

-- One row more in its place.
pub spread-next : (k i n at : ℕ) (given values : List ℕ) → k ≤ 4 → n ≤ max_rows → n * k ≤ length given → i < n → at ≡ i * k → values ≡ (stored (cut k i given)).values → paste values (4 * i) (drop at given) k ≡ (stored (cut k (i + 1) given)).values
spread-next k i n at given values few h l t e f =
    let within : i * k + k ≤ length given = position-within k i n (i * k) (length given) t refl l in
    let size : length (cut k i given) ≡ i = length_cut k i given in
    (λ j. paste (f j) (4 * sym size j) (drop (e j) given) k)
    ∙ stored_next k few (cut k i given) (omega arith) (cut-width k i given (omega arith)) (take k (drop (i * k) given)) (length-take-le k (drop (i * k) given) (omega (arith, length-drop (i * k) given))) (omega arith)
    ∙ ap (λ rows. (stored rows).values) (sym (cut-next k i given) ∙ ap (λ m. cut k m given) (sym (add-one i)))

-- ---- rows at the front of a buffer

fronted-next : (rows : List Row) (r : Row) (buffer : List ℕ) (at k : ℕ) → length (numbers rows) ≡ at → length r ≡ k → take at (fronted rows buffer) ++ r ++ drop (at + k) (fronted rows buffer) ≡ fronted (rows ++ (r ∷ [])) buffer
fronted-next rows r buffer at k e f =
    (λ j. take_at front rest at e j ++ r ++ (sym (drop-drop k at (fronted rows buffer)) ∙ ap (drop k) (drop_at front rest at e) ∙ drop-drop k (length front) buffer) j)
    ∙ ap (λ m. front ++ r ++ drop m buffer) (ap (λ m. length front + m) (sym f) ∙ sym (length-append front r))
    ∙ ap (λ ns. ns ++ drop (length ns) buffer) (sym (union-append (λ w. w) rows (r ∷ []) ∙ ap (λ ns. front ++ ns) (append-nil r)))
  where
    front : List ℕ
    front = numbers rows

    rest : List ℕ
    rest = drop (length front) buffer

-- The first k values at each of the first i row places.
abbrev pub first_rows : ℕ → ℕ → List ℕ → List Row
first_rows k i values = map (take k) (take i (row_places values))

first_next : (k i : ℕ) (values : List ℕ) → k ≤ 4 → i < max_rows → length values ≡ 4 * max_rows → first_rows k (i + 1) values ≡ first_rows k i values ++ (take k (drop (4 * i) values) ∷ [])
first_next k i values few h e =
    ap (λ m. first_rows k m values) (add-one i)
    ∙ ap (map (take k)) (take-suc (row_places values) i [] (omega (arith, length-row_places values)))
    ∙ map-append (take k) (take i (row_places values)) (get_or (row_places values) i [] ∷ [])
    ∙ ap (λ r. first_rows k i values ++ (r ∷ [])) (ap (take k) (getD-row_places values i h ∙ sym (row-at-taken values i (omega arith))) ∙ take-take k 4 (drop (4 * i) values) few)

-- One row more at the front of a buffer.
pub gather-next : (k i at : ℕ) (values before out : List ℕ) → k ≤ 4 → i < max_rows → length values ≡ 4 * max_rows → at ≡ i * k → out ≡ fronted (first_rows k i values) before → paste out at (drop (4 * i) values) k ≡ fronted (first_rows k (i + 1) values) before
gather-next k i at values before out few h e f g =
    ap (λ ns. paste ns at (drop (4 * i) values) k) g
    ∙ fronted-next (first_rows k i values) (take k (drop (4 * i) values)) before at k
    (numbers-width k (first_rows k i values) (width-rows k i values few) ∙ ap (λ m. m * k) size ∙ sym f)
    (length-take-le k (drop (4 * i) values) (omega (arith, length-drop (4 * i) values)))
    ∙ ap (λ rows. fronted rows before) (sym (first_next k i values few h e))
  where
    size : length (first_rows k i values) ≡ i
    size = length-map (take i (row_places values)) (take k) ∙ length-take-le i (row_places values) (omega (arith, length-row_places values))
