-- Laws of values for the records of a store in runs of one relation each: the limit of a run, and what is known where a run starts.
use Prim.Native.Nat.{ℕ, zero, suc, ◌+◌, ◌-◌, ◌≤◌, ◌<◌}
use native.Mathlib.Omega.{arith}
use native.Mathlib.Decide.{dec_lt}
use mathlib.Core.Path.{◌≡◌, refl, sym, ap, subst, subst⁻¹, ◌∙◌}
use mathlib.Core.Bool.{Bool, true, false, true≢false, ◌&&◌, cond, and-true, and-false}
use mathlib.Core.List.{List, [], ◌∷◌}
use lib.ListN.{length, get_or, drop}
use lib.Dec.{eqb, leb, ltb}
use borrow.Author.Tests.{lt-ltb, le-ltb, le-leb, lt-leb, eq-eqb, ne_eqb, eqb-true}
use Rattle.calculus.specs.Sets.{all_of}
use Rattle.calculus.specs.Order.{is-ascending}
use Rattle.tables.specs.declared.Record.{Record}
use Rattle.tables.specs.Records.{values_of, blank, record_below, width, fits}
use Rattle.tables.specs.Code.Layout.{top_of, highest_of, within, goes_on, RunTo, orderly}
use Rattle.tables.proofs.Laws.{below-relation}

-- ---- the limit of a run

-- A value is at most the greatest one of its place: past the width it is zero.
at_most : (w k v : ℕ) → v < 4294967296 → leb v (top_of w k) ≡ cond (leb w k) (eqb 0 v) true
at_most w k v h = go (leb w k)
  where
    at_zero : (u : ℕ) → leb u 0 ≡ eqb 0 u
    at_zero zero = refl
    at_zero (suc u) = lt-leb (suc u) 0 (omega arith) ∙ sym (ne_eqb 0 (suc u) (λ e. omega arith))

    go : (b : Bool) → leb v (cond b 0 4294967295) ≡ cond b (eqb 0 v) true
    go true = at_zero v
    go false = le-leb v 4294967295 (omega arith)

-- The values from the second on, as the limit tests them.
past-width : (w a b c d : ℕ) → 0 < w → (cond (leb w 1) (eqb 0 b) true && cond (leb w 2) (eqb 0 c) true && cond (leb w 3) (eqb 0 d) true) ≡ all_of (eqb 0) (drop w (a ∷ b ∷ c ∷ d ∷ []))
past-width zero a b c d h = absurd (omega arith)
past-width (suc zero) a b c d h = last-true (eqb 0 b) (eqb 0 c) (eqb 0 d)
  where
    last-true : (p q r : Bool) → ((p && q) && r) ≡ (p && (q && (r && true)))
    last-true true true true = refl
    last-true true true false = refl
    last-true true false r = refl
    last-true false q r = refl
past-width (suc (suc zero)) a b c d h = last-true (eqb 0 c) (eqb 0 d)
  where
    last-true : (q r : Bool) → (q && r) ≡ (q && (r && true))
    last-true true true = refl
    last-true true false = refl
    last-true false r = refl
past-width (suc (suc (suc zero))) a b c d h = sym (and-true (eqb 0 d))
past-width (suc (suc (suc (suc w)))) a b c d h =
    let n = suc (suc (suc (suc w))) in
    (λ i. cond (lt-leb n 1 (omega arith) i) (eqb 0 b) true && cond (lt-leb n 2 (omega arith) i) (eqb 0 c) true && cond (lt-leb n 3 (omega arith) i) (eqb 0 d) true)
    ∙ sym (nothing_left w)
  where
    nothing_left : (w : ℕ) → all_of (eqb 0) (drop w []) ≡ true
    nothing_left zero = refl
    nothing_left (suc w) = refl

-- A record is within the limit of relation k where it is of this relation and zero past the width.
within-highest : (k w : ℕ) (r : Record) → 0 < w → r.second < 4294967296 → r.third < 4294967296 → r.fourth < 4294967296
    → within (highest_of k w) r ≡ (eqb r.relation k && all_of (eqb 0) (drop w (values_of r)))
within-highest k w r h x y z =
    (λ i. eqb r.relation k && at_most w 1 r.second x i && at_most w 2 r.third y i && at_most w 3 r.fourth z i)
    ∙ and-three (eqb r.relation k) (cond (leb w 1) (eqb 0 r.second) true) (cond (leb w 2) (eqb 0 r.third) true) (cond (leb w 3) (eqb 0 r.fourth) true)
    ∙ ap (λ b. eqb r.relation k && b) (past-width w r.first r.second r.third r.fourth h)
  where
    and-three : (p q s t : Bool) → (((p && q) && s) && t) ≡ (p && ((q && s) && t))
    and-three true q s t = refl
    and-three false q s t = refl

-- The test of two records read, said of their places.
pub tested-on : (k w : ℕ) (at : ℕ → Record) (i : ℕ) {limit last next : Record} {b : Bool} → 0 < w → limit ≡ highest_of k w → last ≡ at (i - 1) → next ≡ at i
    → next.second < 4294967296 → next.third < 4294967296 → next.fourth < 4294967296 → b ≡ within limit next && record_below last next → goes_on k w at i ≡ b
tested-on k w at i {limit} {last} {next} h d p q x y z e =
    sym
    (e
    ∙ (λ j. within (d j) next && record_below (p j) (q j))
    ∙ ap (λ a. a && record_below (at (i - 1)) (at i)) (within-highest k w next h x y z)
    ∙ ap (λ r. eqb r.relation k && all_of (eqb 0) (drop w (values_of r)) && record_below (at (i - 1)) (at i)) q)

-- ---- the loop over a run

module _ (goes : ℕ → Bool) (start count : ℕ) where
  -- Every place up to i goes on.
  abbrev pub Running : ℕ → Type 0
  Running i = (start < i) × (i ≤ count) × ((k : ℕ) → start < k → k < i → goes k ≡ true)

  module _ {i : ℕ} (t : Running i) where
    pub run-goes : i < count → goes i ≡ true → Running (i + 1)
    run-goes l e = (omega (arith, t.0), omega arith, λ k a b. go k a b (dec_lt k i))
      where
        go : (k : ℕ) → start < k → k < i + 1 → Dec (k < i) → goes k ≡ true
        go k a b (yes c) = t.2 k a c
        go k a b (no c) = let q : i ≡ k = omega arith in subst (λ m. goes m ≡ true) q e

    pub run-stops : goes i ≡ false → RunTo goes start count i
    run-stops e = record { further = t.0; ends = t.1; runs = t.2; stops = λ l. e }

-- ---- what the records at their places decide

both : (a b : Bool) → (a && b) ≡ true → (a ≡ true) × (b ≡ true)
both true b e = (refl, e)
both false b e = absurd (true≢false (sym e))

module _ {A : Type 0} (d : A) where
  -- Each element passes, or one doesn't.
  all-at : (p : A → Bool) (xs : List A) → ((k : ℕ) → k < length xs → p (get_or xs k d) ≡ true) → all_of p xs ≡ true
  all-at p [] h = refl
  all-at p (x ∷ xs) h = λ i. h 0 (omega arith) i && all-at p xs (λ k l. h (suc k) (omega arith)) i

  all-not : (p : A → Bool) (xs : List A) (k : ℕ) → k < length xs → p (get_or xs k d) ≡ false → all_of p xs ≡ false
  all-not p [] k l e = absurd (omega arith)
  all-not p (x ∷ xs) zero l e = ap (λ b. b && all_of p xs) e
  all-not p (x ∷ xs) (suc k) l e = ap (λ b. p x && b) (all-not p xs k (omega arith) e) ∙ and-false (p x)

  -- Each element is below the next, or one isn't.
  rises-at : (below : A → A → Bool) (xs : List A) → ((k : ℕ) → suc k < length xs → below (get_or xs k d) (get_or xs (suc k) d) ≡ true) → is-ascending below xs ≡ true
  rises-at below [] h = refl
  rises-at below (x ∷ []) h = refl
  rises-at below (x ∷ y ∷ xs) h = λ i. h 0 (omega arith) i && rises-at below (y ∷ xs) (λ k l. h (suc k) (omega arith)) i

  rises-not : (below : A → A → Bool) (xs : List A) (k : ℕ) → suc k < length xs → below (get_or xs k d) (get_or xs (suc k) d) ≡ false → is-ascending below xs ≡ false
  rises-not below [] k l e = absurd (omega arith)
  rises-not below (x ∷ []) k l e = absurd (omega arith)
  rises-not below (x ∷ y ∷ xs) zero l e = ap (λ b. b && is-ascending below (y ∷ xs)) e
  rises-not below (x ∷ y ∷ xs) (suc k) l e = ap (λ b. below x y && b) (rises-not below (y ∷ xs) k (omega arith) e) ∙ and-false (below x y)

-- A record of the relation of one that fits, fits where its values past the width are zero.
fits-like : (ws : List ℕ) (l r : Record) → fits ws l ≡ true → r.relation ≡ l.relation → all_of (eqb 0) (drop (width ws l) (values_of r)) ≡ fits ws r
fits-like ws l r f e =
    let p = (both (ltb l.relation 16 && ltb 0 (width ws l)) (all_of (eqb 0) (drop (width ws l) (values_of l))) f).0 in
    sym (ap (λ k. ltb k 16 && ltb 0 (get_or ws k 0) && all_of (eqb 0) (drop (get_or ws k 0) (values_of r))) e ∙ ap (λ b. b && all_of (eqb 0) (drop (width ws l) (values_of r))) p)

-- ---- the runs

-- What is known of the first n records where a run starts, at place i: the records before it fit and ascend. Where its relation is below `least`, it doesn't fit
-- or isn't above the one before it; else it is above.
pub record Entered (ws : List ℕ) (xs : List Record) (n : ℕ) (at : ℕ → Record) (i least : ℕ) : Type 0 where
  pub fit : (k : ℕ) → k < i → fits ws (at k) ≡ true
  pub rise : (k : ℕ) → 0 < k → k < i → record_below (at (k - 1)) (at k) ≡ true
  pub low : i < n → (at i).relation < least → orderly ws xs ≡ false
  pub high : 0 < i → i < n → least ≤ (at i).relation → record_below (at (i - 1)) (at i) ≡ true

-- The first n records, told by `at`.
module _ (ws : List ℕ) (xs : List Record) (n : ℕ) (at : ℕ → Record) (size : length xs ≡ n) (placed : (i : ℕ) → i < n → get_or xs i blank ≡ at i) where
  unfit : (i : ℕ) → i < n → fits ws (at i) ≡ false → orderly ws xs ≡ false
  unfit i l e = ap (λ b. b && is-ascending record_below xs) (all-not blank (fits ws) xs i (omega (arith, size)) (ap (fits ws) (placed i l) ∙ e))

  unrisen : (i : ℕ) → 0 < i → i < n → record_below (at (i - 1)) (at i) ≡ false → orderly ws xs ≡ false
  unrisen zero h l e = absurd (omega arith)
  unrisen (suc i) h l e =
      let q : i ≡ suc i - 1 = omega arith in
      ap (λ b. all_of (fits ws) xs && b) (rises-not blank record_below xs i (omega (arith, size)) ((λ j. record_below (placed i (omega arith) j) (placed (suc i) l j)) ∙ ap (λ m. record_below (at m) (at (suc i))) q ∙ e))
      ∙ and-false (all_of (fits ws) xs)

  -- A record read that doesn't fit.
  pub entered-unfit : (i : ℕ) {r : Record} → i < n → r ≡ at i → fits ws r ≡ false → false ≡ orderly ws xs
  entered-unfit i l p e = sym (unfit i l (sym (ap (fits ws) p) ∙ e))

  module _ {i least : ℕ} (t : Entered ws xs n at i least) where
    -- A record read whose relation was passed.
    pub entered-low : {r : Record} → i < n → r ≡ at i → r.relation < least → false ≡ orderly ws xs
    entered-low l p h = sym (t.low l (omega (arith, ap (λ r. r.relation) p)))

    pub entered-end : n ≤ i → true ≡ orderly ws xs
    entered-end h = sym (λ j. all-at blank (fits ws) xs fit_at j && rises-at blank record_below xs rise-at j)
      where
        fit_at : (k : ℕ) → k < length xs → fits ws (get_or xs k blank) ≡ true
        fit_at k l = ap (fits ws) (placed k (omega (arith, size))) ∙ t.fit k (omega (arith, size))

        rise-at : (k : ℕ) → suc k < length xs → record_below (get_or xs k blank) (get_or xs (suc k) blank) ≡ true
        rise-at k l = let q : k ≡ suc k - 1 = omega arith in (λ j. record_below (placed k (omega (arith, size)) j) (placed (suc k) (omega (arith, size)) j)) ∙ ap (λ m. record_below (at m) (at (suc k))) q ∙ t.rise (suc k) (omega arith) (omega (arith, size))

    -- A run from i to j.
    module _ (l : i < n) (h : least ≤ (at i).relation) (f : fits ws (at i) ≡ true) {j : ℕ} (run : RunTo (goes_on (at i).relation (width ws (at i)) at) i n j) where
      -- What a record of the run passes.
      passed : (k : ℕ) → goes_on (at i).relation (width ws (at i)) at k ≡ true → ((at k).relation ≡ (at i).relation) × (fits ws (at k) ≡ true) × (record_below (at (k - 1)) (at k) ≡ true)
      passed k e =
          let p = both (eqb (at k).relation (at i).relation && all_of (eqb 0) (drop (width ws (at i)) (values_of (at k)))) (record_below (at (k - 1)) (at k)) e in
          let q = both (eqb (at k).relation (at i).relation) (all_of (eqb 0) (drop (width ws (at i)) (values_of (at k)))) p.0 in
          let s = eqb-true (at k).relation (at i).relation q.0 in
          (s, sym (fits-like ws (at i) (at k) f s) ∙ q.1, p.1)

      of-run : (k : ℕ) → i ≤ k → k < j → ((at k).relation ≡ (at i).relation) × (fits ws (at k) ≡ true)
      of-run k a b = go (dec_lt i k)
        where
          go : Dec (i < k) → ((at k).relation ≡ (at i).relation) × (fits ws (at k) ≡ true)
          go (yes c) = let p = passed k (run.runs k c b) in (p.0, p.1)
          go (no c) = let e : i ≡ k = omega arith in subst (λ m. ((at m).relation ≡ (at i).relation) × (fits ws (at m) ≡ true)) e (refl, f)

      -- The record after the run.
      module _ (m : j < n) where
        before-end : (at (j - 1)).relation ≡ (at i).relation
        before-end = (of-run (j - 1) (omega (arith, run.further)) (omega (arith, run.further))).0

        lower : (at j).relation < (at i).relation → orderly ws xs ≡ false
        lower b = unrisen j (omega (arith, run.further)) m (sym (below-relation (at (j - 1)) (at j) (λ e. omega (arith, before-end))) ∙ le-ltb (at (j - 1)).relation (at j).relation (omega (arith, before-end)))

        same : (at j).relation ≡ (at i).relation → orderly ws xs ≡ false
        same e = go (all_of (eqb 0) (drop (width ws (at i)) (values_of (at j)))) refl
          where
            go : (b : Bool) → all_of (eqb 0) (drop (width ws (at i)) (values_of (at j))) ≡ b → orderly ws xs ≡ false
            go true z = unrisen j (omega (arith, run.further)) m (sym (λ k. eq-eqb (at j).relation (at i).relation e k && z k && record_below (at (j - 1)) (at j)) ∙ run.stops m)
            go false z = unfit j m (sym (fits-like ws (at i) (at j) f e) ∙ z)

      entered-run : Entered ws xs n at j ((at i).relation + 1)
      entered-run = record {
        fit = λ k b. fit-to k b (dec_lt k i);
        rise = λ k a b. rise-to k a b (dec_lt k i) (dec_lt i k);
        low = λ m b. low-at m b (dec_lt (at j).relation (at i).relation);
        high = λ a m b. sym (below-relation (at (j - 1)) (at j) (λ e. omega (arith, before-end m))) ∙ lt-ltb (at (j - 1)).relation (at j).relation (omega (arith, before-end m));
      }
        where
          fit-to : (k : ℕ) → k < j → Dec (k < i) → fits ws (at k) ≡ true
          fit-to k b (yes c) = t.fit k c
          fit-to k b (no c) = (of-run k (omega arith) b).1

          rise-to : (k : ℕ) → 0 < k → k < j → Dec (k < i) → Dec (i < k) → record_below (at (k - 1)) (at k) ≡ true
          rise-to k a b (yes c) e = t.rise k a c
          rise-to k a b (no c) (yes e) = (passed k (run.runs k e b)).2
          rise-to k a b (no c) (no e) = let q : i ≡ k = omega arith in subst (λ m. record_below (at (m - 1)) (at m) ≡ true) q (t.high (omega arith) l h)

          low-at : j < n → (at j).relation < (at i).relation + 1 → Dec ((at j).relation < (at i).relation) → orderly ws xs ≡ false
          low-at m b (yes c) = lower m c
          low-at m b (no c) = same m (omega arith)

    -- A record read, and the run from there on.
    pub entered-next : {r : Record} {j : ℕ} → i < n → r ≡ at i → least ≤ r.relation → fits ws r ≡ true → RunTo (goes_on r.relation (width ws r) at) i n j → Entered ws xs n at j (r.relation + 1)
    entered-next {r} {j} l p h f run =
        subst⁻¹
        (λ q. Entered ws xs n at j (q.relation + 1))
        p
        (entered-run l (omega (arith, ap (λ q. q.relation) p)) (sym (ap (fits ws) p) ∙ f) (subst (λ q. RunTo (goes_on q.relation (width ws q) at) i n j) p run))
