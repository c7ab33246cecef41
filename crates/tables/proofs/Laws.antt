-- Laws of values that the proofs hand their facts to: the tests as the code makes them, what the records from place i on decide, the loops of raise
-- and lower, and the answers of each way out.
use Prim.Native.Nat.{ℕ, zero, suc, ◌+◌, ◌-◌, ◌<◌, ◌≤◌}
use native.Mathlib.Omega.{arith}
use native.Mathlib.Numerals.{add-one}
use mathlib.Core.Path.{◌≡◌, refl, sym, ap, subst⁻¹, ◌∙◌}
use mathlib.Core.Logic.{◌≢◌}
use mathlib.Core.Bool.{Bool, true, false, not, ◌&&◌, cond, and-false}
use mathlib.Core.List.{List, [], ◌∷◌, ◌++◌}
use Rattle.std.proofs.Common.{Result, Ok, Err}
use lib.ListN.{length, get_or, set, take, drop, drop_of_length-le, length-set}
use lib.Seq.{drop-cons}
use lib.Dec.{eqb, ltb}
use borrow.Author.Tests.{lt-ltb, le-ltb, le-leb, eq-eqb, ne_eqb, eqb-true, eqb-false, not-true, not-false}
use Rattle.calculus.specs.Sets.{all_of}
use Rattle.calculus.proofs.Theory.Order.Laws.{below-differ}
use Rattle.calculus.proofs.Theory.Reflects.Laws.{reflects-true, reflects-T}
use Rattle.causes.specs.Causes.{Answer, Done, Refused, check, first_cause, when, widths_fit}
use Rattle.tables.specs.declared.Record.{Record}
use Rattle.tables.specs.declared.Store.{Store}
use Rattle.tables.specs.Change.{Changed, reply, rank}
use Rattle.tables.specs.Records.{record_below, same_record, width, fits, values_of, is_blank, blank}
use Rattle.tables.specs.Store.{capacity, places, places_of, record_at, held, unused, has_room, have_room, judgement, of_places, no_store}
use Rattle.tables.specs.Code.Store.{set_values}
use Rattle.tables.specs.Code.Layout.{orderly}
use Rattle.tables.proofs.Theory.Store.Room.{few-room}
use Rattle.tables.proofs.Theory.Store.Laws.{length-places, length-held}
use Rattle.calculus.proofs.Theory.Lists.Laws.{tested}
use Rattle.tables.proofs.Theory.Store.Places.{getD-first, length_set_values, places-set, insert-at, remove-at, insert-at-next, insert-at-end, insert-at-split, remove-at-next, remove-at-end, remove-at-split, store-placed}
use Rattle.tables.specs.Code.Change.{located, found, raised, lowered, insertion, deletion}
use Rattle.tables.specs.Code.Fill.{collected_into, collected}

-- ---- the order of records, from the front

pub below-relation : (a b : Record) → a.relation ≢ b.relation → ltb a.relation b.relation ≡ record_below a b
below-relation a b n = below-differ a.relation b.relation (values_of a) (values_of b) n

-- ---- a record that fits, as the code tests it

-- Past the width w every value is zero, where those that the code looks at are.
past-zero : (w a b c d : ℕ) → 0 < w → (w ≤ 1 → b ≡ 0) → (w ≤ 2 → c ≡ 0) → (w ≤ 3 → d ≡ 0) → true ≡ all_of (eqb 0) (drop w (a ∷ b ∷ c ∷ d ∷ []))
past-zero zero a b c d h p q r = absurd (omega arith)
past-zero (suc zero) a b c d h p q r = rw (eq-eqb 0 b (sym (p (omega arith))), eq-eqb 0 c (sym (q (omega arith))), eq-eqb 0 d (sym (r (omega arith))))
past-zero (suc (suc zero)) a b c d h p q r = rw (eq-eqb 0 c (sym (q (omega arith))), eq-eqb 0 d (sym (r (omega arith))))
past-zero (suc (suc (suc zero))) a b c d h p q r = rw (eq-eqb 0 d (sym (r (omega arith))))
past-zero (suc (suc (suc (suc zero)))) a b c d h p q r = refl
past-zero (suc (suc (suc (suc (suc w))))) a b c d h p q r = refl

second_past : (w a b c d : ℕ) → 0 < w → w ≤ 1 → (b ≡ 0 → ⊥) → false ≡ all_of (eqb 0) (drop w (a ∷ b ∷ c ∷ d ∷ []))
second_past zero a b c d h l n = absurd (omega arith)
second_past (suc zero) a b c d h l n = rw (ne_eqb 0 b (λ e. n (sym e)))
second_past (suc (suc w)) a b c d h l n = absurd (omega arith)

third-past : (w a b c d : ℕ) → 0 < w → w ≤ 2 → (c ≡ 0 → ⊥) → false ≡ all_of (eqb 0) (drop w (a ∷ b ∷ c ∷ d ∷ []))
third-past zero a b c d h l n = absurd (omega arith)
third-past (suc zero) a b c d h l n = rw (ne_eqb 0 c (λ e. n (sym e))) (sym (and-false (eqb 0 b)))
third-past (suc (suc zero)) a b c d h l n = rw (ne_eqb 0 c (λ e. n (sym e)))
third-past (suc (suc (suc w))) a b c d h l n = absurd (omega arith)

fourth-past : (w a b c d : ℕ) → 0 < w → w ≤ 3 → (d ≡ 0 → ⊥) → false ≡ all_of (eqb 0) (drop w (a ∷ b ∷ c ∷ d ∷ []))
fourth-past zero a b c d h l n = absurd (omega arith)
fourth-past (suc zero) a b c d h l n = rw (ne_eqb 0 d (λ e. n (sym e))) (sym (ap (λ (t : Bool). eqb 0 b && t) (and-false (eqb 0 c)) ∙ and-false (eqb 0 b)))
fourth-past (suc (suc zero)) a b c d h l n = rw (ne_eqb 0 d (λ e. n (sym e))) (sym (and-false (eqb 0 c)))
fourth-past (suc (suc (suc zero))) a b c d h l n = rw (ne_eqb 0 d (λ e. n (sym e)))
fourth-past (suc (suc (suc (suc w)))) a b c d h l n = absurd (omega arith)

module _ (ws : List ℕ) (r : Record) where
  pub fits-none : 16 ≤ r.relation → false ≡ fits ws r
  fits-none h = rw (le-ltb r.relation 16 h)

  pub fits-absent : r.relation < 16 → width ws r ≡ 0 → false ≡ fits ws r
  fits-absent h e = rw (lt-ltb r.relation 16 h, le-ltb 0 (width ws r) (omega arith))

  module _ (h : r.relation < 16) (n : width ws r ≡ 0 → ⊥) where
    present : 0 < width ws r
    present = go (width ws r) n
      where
        go : (w : ℕ) → (w ≡ 0 → ⊥) → 0 < w
        go zero m = absurd (m refl)
        go (suc w) m = omega arith

    fits-past : all_of (eqb 0) (drop (width ws r) (values_of r)) ≡ fits ws r
    fits-past = rw (lt-ltb r.relation 16 h, lt-ltb 0 (width ws r) present)

    pub fits-second : width ws r ≤ 1 → not (eqb r.second 0) ≡ true → false ≡ fits ws r
    fits-second l e = second_past (width ws r) r.first r.second r.third r.fourth present l (eqb-false r.second 0 (not-true (eqb r.second 0) e)) ∙ fits-past

    pub fits-third : width ws r ≤ 2 → not (eqb r.third 0) ≡ true → false ≡ fits ws r
    fits-third l e = third-past (width ws r) r.first r.second r.third r.fourth present l (eqb-false r.third 0 (not-true (eqb r.third 0) e)) ∙ fits-past

    pub fits-fourth : width ws r ≤ 3 → not (eqb r.fourth 0) ≡ true → false ≡ fits ws r
    fits-fourth l e = fourth-past (width ws r) r.first r.second r.third r.fourth present l (eqb-false r.fourth 0 (not-true (eqb r.fourth 0) e)) ∙ fits-past

    pub fits_all : (width ws r ≤ 1 → not (eqb r.second 0) ≡ false) → (width ws r ≤ 2 → not (eqb r.third 0) ≡ false) → (width ws r ≤ 3 → not (eqb r.fourth 0) ≡ false) → true ≡ fits ws r
    fits_all p q s =
        past-zero (width ws r) r.first r.second r.third r.fourth present (λ l. zero-by r.second (p l)) (λ l. zero-by r.third (q l)) (λ l. zero-by r.fourth (s l))
        ∙ fits-past
      where
        zero-by : (v : ℕ) → not (eqb v 0) ≡ false → v ≡ 0
        zero-by v e = eqb-true v 0 (not-false (eqb v 0) e)

-- ---- what the records from place i on decide

module _ (r : Record) where
  module _ (xs : List Record) (i : ℕ) where
    rank-next : i < length xs → rank r (drop i xs) ≡ cond (record_below (get_or xs i blank) r) (suc (rank r (drop (i + 1) xs))) zero
    rank-next h = rw (add-one i, drop-cons xs i blank h)

    pub rank-stops : i < length xs → record_below (get_or xs i blank) r ≡ false → rank r (drop i xs) ≡ 0
    rank-stops h e = rank-next h ∙ rw e

    pub rank-goes : i < length xs → record_below (get_or xs i blank) r ≡ true → rank r (drop i xs) ≡ suc (rank r (drop (i + 1) xs))
    rank-goes h e = rank-next h ∙ rw e

    pub rank-ends : length xs ≤ i → rank r (drop i xs) ≡ 0
    rank-ends h = ap (rank r) (drop_of_length-le xs {i = i} h)

  -- Where every record is below r, it is not found; else it is the record at its place, or none.
  pub found_none : (xs : List Record) → length xs ≤ rank r xs → false ≡ found r xs
  found_none [] h = refl
  found_none (x ∷ xs) h = go (record_below x r) h (λ l. found_none xs l)
    where
      go : (b : Bool) → suc (length xs) ≤ cond b (suc (rank r xs)) zero → (length xs ≤ rank r xs → false ≡ found r xs) → false ≡ cond b (found r xs) (same_record x r)
      go true l f = f (omega arith)
      go false l f = absurd (omega arith)

  found-there : (xs : List Record) → rank r xs < length xs → same_record (get_or xs (rank r xs) blank) r ≡ found r xs
  found-there [] h = absurd (omega arith)
  found-there (x ∷ xs) h = go (record_below x r) h (λ l. found-there xs l)
    where
      go : (b : Bool) → cond b (suc (rank r xs)) zero < suc (length xs) → (rank r xs < length xs → same_record (get_or xs (rank r xs) blank) r ≡ found r xs) → same_record (get_or (x ∷ xs) (cond b (suc (rank r xs)) zero) blank) r ≡ cond b (found r xs) (same_record x r)
      go true l f = f (omega arith)
      go false l f = refl

  pub found-place : (xs : List Record) (k : ℕ) → k ≡ rank r xs → k < length xs → same_record (get_or xs k blank) r ≡ found r xs
  found-place xs k e h = rw e (found-there xs (omega arith))

-- ---- the loops of raise and lower

-- The arrays after a write, from those before it.
pub record Written (rs vs : List ℕ) (i : ℕ) (r : Record) (now-rs now-vs : List ℕ) : Type 0 where
  pub relations_long : length now-rs ≡ capacity
  pub values_long : length now-vs ≡ 1024
  pub set_there : places now-rs now-vs ≡ set (places rs vs) i r

module _ (rs vs : List ℕ) (i : ℕ) (r : Record) (now-rs now-vs : List ℕ) where
  pub written : i < capacity → length rs ≡ capacity → length vs ≡ 1024 → (now-rs ≡ set rs i r.relation) × (now-vs ≡ set_values vs i r) → Written rs vs i r now-rs now-vs
  written h lr lv e =
      record {
        relations_long = rw (e.0, length-set) lr;
        values_long = rw (e.1, length_set_values) lv;
        set_there = rw (e.0, e.1) (places-set rs vs i r h lr lv);
      }

  module _ (w : Written rs vs i r now-rs now-vs) where
    pub raise-turn : (next : Record) → i < capacity → next ≡ record_at rs vs i → insert-at (places now-rs now-vs) (i + 1) next ≡ insert-at (places rs vs) i r
    raise-turn next h f = rw (w.set_there, f) (insert-at-next rs vs i r h)

    pub lower-turn : i + 1 < capacity → r ≡ record_at rs vs (i + 1) → remove-at (places now-rs now-vs) (i + 1) ≡ remove-at (places rs vs) i
    lower-turn h f = rw (w.set_there, f) (remove-at-next rs vs i h)

pub lower-end : (rs vs now-rs now-vs : List ℕ) → Written rs vs 255 blank now-rs now-vs → (i : ℕ) (before : List Record) (k : ℕ) → i ≡ 255 → remove-at (places rs vs) i ≡ remove-at before k → places now-rs now-vs ≡ lowered before k
lower-end rs vs now-rs now-vs w i before k h g =
    w.set_there
    ∙ rw (← h) (remove-at-end (places rs vs) i blank (omega (arith, length-places rs vs)) ∙ ap (λ (ps : List Record). ps ++ (blank ∷ [])) (g ∙ remove-at-split before k))

module _ (rs vs : List ℕ) (lr : length rs ≡ capacity) (lv : length vs ≡ 1024) (ws : List ℕ) (n : ℕ) where
  -- The arrays of a store from its places.
  pub store_is : (ps : List Record) → places rs vs ≡ ps → ◌≡◌ {A = Store} (record { widths = ws; relations = rs; values = vs; count = n }) (of_places ws ps n)
  store_is ps e = store-placed rs vs lr lv ws n ∙ ap (λ (qs : List Record). of_places ws qs n) e

pub raise-end : (rs vs : List ℕ) (i : ℕ) (carried : Record) (before : List Record) (k : ℕ) (r : Record) → i ≡ capacity → insert-at (places rs vs) i carried ≡ insert-at before k r → places rs vs ≡ raised before k r
raise-end rs vs i carried before k r h e = sym (insert-at-end (places rs vs) carried) ∙ rw (length-places rs vs, ← h) (ap (take i) (e ∙ insert-at-split before k r))

-- ---- the answers, from what the tests say

module _ (s : Store) (w : widths_fit s.widths ≡ true) where
  module _ (h : s.count ≤ capacity) where
    -- The records of a count in range have room.
    counted-room : have_room (held s) ≡ true
    counted-room = reflects-true (reflects-T (have_room (held s))) (few-room (held s) (omega (arith, length-held s h)))

    -- A store whose records are in order, with blanks after them, is judged good.
    pub judged-done : orderly s.widths (held s) ≡ true → all_of is_blank (unused s) ≡ true → Done ≡ judgement s
    judged-done e f = rw (w, le-leb s.count capacity h, counted-room, e, f)

-- Where a record is found, by its place.
module _ (s : Store) (r : Record) {k : ℕ} (e : k ≡ rank r (held s)) where
  pub located-found : found r (held s) ≡ true → Ok k ≡ located s r
  located-found f = rw (f, e)

  pub located-none : found r (held s) ≡ false → Err k ≡ located s r
  located-none f = rw (f, e)

told-ok : (b : Bool) (k m : ℕ) → ◌≡◌ {A = Result ℕ ℕ} (Ok k) (cond b (Ok m) (Err m)) → (b ≡ true) × (k ≡ m)
told-ok true k m e = (refl, cc)
told-ok false k m e = absurd (cc)

told-err : (b : Bool) (k m : ℕ) → ◌≡◌ {A = Result ℕ ℕ} (Err k) (cond b (Ok m) (Err m)) → (b ≡ false) × (k ≡ m)
told-err true k m e = absurd (cc)
told-err false k m e = (refl, cc)

module _ (s : Store) (r : Record) (k : ℕ) where
  pub ok-found : Ok k ≡ located s r → (found r (held s) ≡ true) × (k ≡ rank r (held s))
  ok-found = told-ok (found r (held s)) k (rank r (held s))

  pub err-found : Err k ≡ located s r → (found r (held s) ≡ false) × (k ≡ rank r (held s))
  err-found = told-err (found r (held s)) k (rank r (held s))

-- Whether it is found there, by the record read at its place.
pub found-told : (s : Store) (r x : Record) (k : ℕ) {b : Bool} → s.count ≤ capacity → k ≡ rank r (held s) → k < s.count → b ≡ same_record x r → x ≡ record_at s.relations s.values k → found r (held s) ≡ b
found-told s r x k h e l t g =
    let here = getD-first s.relations s.values s.count h k l in
    sym (found-place r (held s) k e (omega (arith, length-held s h))) ∙ tested (λ (p : Record). same_record p r) t (g ∙ sym here)

-- Whether a record has room, as the code tests it by the count.
module _ (s : Store) (r : Record) (c : s.count ≤ capacity) where
  -- Where all places are taken it has none,
  pub count-full : capacity ≤ s.count → has_room r (held s) ≡ false
  count-full h = le-ltb (length (held s)) capacity (omega (arith, length-held s c))

  -- and where one is left it has.
  pub count_room : s.count < capacity → has_room r (held s) ≡ true
  count_room h = lt-ltb (length (held s)) capacity (omega (arith, length-held s c))

-- An answer and a store.
abbrev changed : Answer → Store → Changed
changed a s = record { answer = a; store = s }

module _ (s : Store) (r : Record) where
  -- A put and a removal of a record that doesn't fit: refused with 13, and the store as it was.
  pub insertion-unfit : fits s.widths r ≡ false → changed (Refused 13 0) s ≡ insertion s r
  insertion-unfit e = rw e

  pub deletion-unfit : fits s.widths r ≡ false → changed (Refused 13 0) s ≡ deletion s r
  deletion-unfit e = rw e

  module _ (e : fits s.widths r ≡ true) where
    -- A put of a record that is held: refused with 14, and the store as it was.
    pub insertion-held : found r (held s) ≡ true → changed (Refused 14 0) s ≡ insertion s r
    insertion-held f = rw (e, f)

    -- A put of one that has no room: refused with 15, and the store as it was.
    pub insertion-full : found r (held s) ≡ false → has_room r (held s) ≡ false → changed (Refused 15 0) s ≡ insertion s r
    insertion-full f h = rw (e, f, h)

    -- A put of one that fits, isn't held and has room: done, with the record at its place.
    pub insertion-done : found r (held s) ≡ false → has_room r (held s) ≡ true → (k : ℕ) (t : Store) → k ≡ rank r (held s) → t ≡ of_places s.widths (raised (places_of s) k r) (s.count + 1) → changed Done t ≡ insertion s r
    insertion-done f h k t g i = rw (e, f, h) (ap (changed Done) (i ∙ ap (λ (j : ℕ). of_places s.widths (raised (places_of s) j r) (s.count + 1)) g))

    -- A removal of a record that isn't held: refused with 16, and the store as it was.
    pub deletion-none : found r (held s) ≡ false → changed (Refused 16 0) s ≡ deletion s r
    deletion-none f = rw (e, f)

    -- A removal of one that is held: done, without the record at its place.
    pub deletion-done : found r (held s) ≡ true → (k : ℕ) (t : Store) → k ≡ rank r (held s) → t ≡ of_places s.widths (lowered (places_of s) k) (s.count - 1) → changed Done t ≡ deletion s r
    deletion-done f k t g i = rw (e, f) (ap (changed Done) (i ∙ ap (λ (j : ℕ). of_places s.widths (lowered (places_of s) j) (s.count - 1)) g))

-- Whether a refusal is for a record that doesn't fit.
abbrev pub unfit : Answer → Bool
unfit Done = false
unfit (Refused n p) = eqb n 13

-- What a put and a removal answer tells whether the record fits: each is refused with 13 exactly where it doesn't.
module _ (s : Store) (r : Record) where
  pub spot-fits : (fits s.widths r ≡ not (unfit (insertion s r).answer)) × (fits s.widths r ≡ not (unfit (deletion s r).answer))
  spot-fits = (
    of-put (fits s.widths r) (found r (held s)) (not (has_room r (held s))) (of_places s.widths (raised (places_of s) (rank r (held s)) r) (s.count + 1)),
    of-removal (fits s.widths r) (not (found r (held s))) (of_places s.widths (lowered (places_of s) (rank r (held s))) (s.count - 1)),
  )
    where
      of-put : (f h m : Bool) (t : Store) → f ≡ not (unfit (reply (first_cause (check 13 (when (not f)) ∷ check 14 (when h) ∷ check 15 (when m) ∷ [])) s t).answer)
      of-put false h m t = refl
      of-put true true m t = refl
      of-put true false true t = refl
      of-put true false false t = refl

      of-removal : (f m : Bool) (t : Store) → f ≡ not (unfit (reply (first_cause (check 13 (when (not f)) ∷ check 16 (when m) ∷ [])) s t).answer)
      of-removal false m t = refl
      of-removal true true t = refl
      of-removal true false t = refl

module _ (f : Changed) (r : Record) where
  module _ (e : f.answer ≡ Done) where
    -- A record more for a store whose count is past the places: refused with 2, and no store.
    pub collected-over : capacity < f.store.count → (s : Store) → s ≡ no_store → changed (Refused 2 0) s ≡ collected f r
    collected-over h s k = subst⁻¹ (λ (a : Answer). changed (Refused 2 0) s ≡ collected_into f a r) e (rw (lt-ltb capacity f.store.count h) (ap (changed (Refused 2 0)) k))
