-- Laws of the two arrays as one list of record places: a place read, a place written, and the arrays got back from the places.
use Rattle.std.specs.Prelude.{ℕ, zero, suc, ◌+◌, ◌*◌, ◌<◌, ◌≤◌, ◌≡◌, refl, ◌≢◌, List, [], ◌∷◌, ◌++◌, map, length, get_or, set, take, drop, Bool}
use Rattle.std.proofs.Common.{arith, add-one, sym, ap, subst, ◌∙◌, length-set, get_or-set_same, get_or-set_other, get_or-take, length-take-le, ext_get_or}
use Rattle.std.proofs.lemmas.List.{length-map}
use Rattle.std.proofs.Math.ListN.{get_or-map}
use Rattle.calculus.specs.Sets.{union_of}
use Rattle.calculus.specs.Reflects.{Reflects, holds, fails}
use Rattle.calculus.proofs.Theory.Reflects.Laws.{reflects-eqb}
use Rattle.calculus.specs.Lists.{tabulate}
use Rattle.tables.specs.declared.Record.{Record}
use Rattle.tables.specs.declared.Store.{Store}
use Rattle.tables.specs.Records.{values_of, blank}
use Rattle.tables.specs.Store.{capacity, record_at, places, held, of_places, store_of, Layout}
use Rattle.tables.specs.Code.Store.{set_four, set_values}
use Rattle.tables.proofs.Theory.Store.Laws.{length-places, getD-places, length-held, layout-places}

-- ---- a place read

module _ (rs vs : List ℕ) (n : ℕ) (h : n ≤ capacity) where
  -- The first n places.
  pub length-first : length (take n (places rs vs)) ≡ n
  length-first = length-take-le n (places rs vs) (omega (arith, length-places rs vs))

  pub getD-first : (i : ℕ) → i < n → get_or (take n (places rs vs)) i blank ≡ record_at rs vs i
  getD-first i l = get_or-take n (places rs vs) i blank l ∙ getD-places rs vs i (omega arith)

-- ---- a place written

module _ (vs : List ℕ) (a p q r s : ℕ) where
  set-four-other : (n : ℕ) → n ≢ a → n ≢ a + 1 → n ≢ a + 2 → n ≢ a + 3 → get_or (set_four vs a p q r s) n 0 ≡ get_or vs n 0
  set-four-other n n0 n1 n2 n3 =
      get_or-set_other (set (set (set vs a p) (a + 1) q) (a + 2) r) (a + 3) n s 0 n3
      ∙ get_or-set_other (set (set vs a p) (a + 1) q) (a + 2) n r 0 n2
      ∙ get_or-set_other (set vs a p) (a + 1) n q 0 n1
      ∙ get_or-set_other vs a n p 0 n0

  module _ (h : a + 3 < length vs) where
    set-four-0 : get_or (set_four vs a p q r s) a 0 ≡ p
    set-four-0 =
        get_or-set_other (set (set (set vs a p) (a + 1) q) (a + 2) r) (a + 3) a s 0 (λ e. omega arith)
        ∙ get_or-set_other (set (set vs a p) (a + 1) q) (a + 2) a r 0 (λ e. omega arith)
        ∙ get_or-set_other (set vs a p) (a + 1) a q 0 (λ e. omega arith)
        ∙ get_or-set_same vs a p 0 (omega arith)

    set-four-1 : get_or (set_four vs a p q r s) (a + 1) 0 ≡ q
    set-four-1 =
        get_or-set_other (set (set (set vs a p) (a + 1) q) (a + 2) r) (a + 3) (a + 1) s 0 (λ e. omega arith)
        ∙ get_or-set_other (set (set vs a p) (a + 1) q) (a + 2) (a + 1) r 0 (λ e. omega arith)
        ∙ get_or-set_same (set vs a p) (a + 1) q 0 (simp length-set (omega arith))

    set-four-2 : get_or (set_four vs a p q r s) (a + 2) 0 ≡ r
    set-four-2 =
        get_or-set_other (set (set (set vs a p) (a + 1) q) (a + 2) r) (a + 3) (a + 2) s 0 (λ e. omega arith)
        ∙ get_or-set_same (set (set vs a p) (a + 1) q) (a + 2) r 0 (simp length-set (omega arith))

    set-four-3 : get_or (set_four vs a p q r s) (a + 3) 0 ≡ s
    set-four-3 = get_or-set_same (set (set (set vs a p) (a + 1) q) (a + 2) r) (a + 3) s 0 (simp length-set (omega arith))

pub length_set_values : (vs : List ℕ) (i : ℕ) (r : Record) → length (set_values vs i r) ≡ length vs
length_set_values vs i r = simp length-set

module _ (rs vs : List ℕ) (i : ℕ) (r : Record) (h : i < capacity) (lr : length rs ≡ capacity) (lv : length vs ≡ 1024) where
  abbrev now-rs : List ℕ
  now-rs = set rs i r.relation

  abbrev now-vs : List ℕ
  now-vs = set_values vs i r

  written-here : record_at now-rs now-vs i ≡ r
  written-here = λ j.
      record {
        relation = get_or-set_same rs i r.relation 0 (omega arith) j;
        first = set-four-0 vs (4 * i) r.first r.second r.third r.fourth (omega arith) j;
        second = set-four-1 vs (4 * i) r.first r.second r.third r.fourth (omega arith) j;
        third = set-four-2 vs (4 * i) r.first r.second r.third r.fourth (omega arith) j;
        fourth = set-four-3 vs (4 * i) r.first r.second r.third r.fourth (omega arith) j;
      }

  untouched : (n : ℕ) → n ≢ 4 * i → n ≢ 4 * i + 1 → n ≢ 4 * i + 2 → n ≢ 4 * i + 3 → get_or now-vs n 0 ≡ get_or vs n 0
  untouched = set-four-other vs (4 * i) r.first r.second r.third r.fourth

  written-there : (j : ℕ) → j ≢ i → record_at now-rs now-vs j ≡ record_at rs vs j
  written-there j n = λ k.
      record {
        relation = get_or-set_other rs i j r.relation 0 n k;
        first = untouched (4 * j) (λ e. n (omega arith)) (λ e. n (omega arith)) (λ e. n (omega arith)) (λ e. n (omega arith)) k;
        second = untouched (4 * j + 1) (λ e. n (omega arith)) (λ e. n (omega arith)) (λ e. n (omega arith)) (λ e. n (omega arith)) k;
        third = untouched (4 * j + 2) (λ e. n (omega arith)) (λ e. n (omega arith)) (λ e. n (omega arith)) (λ e. n (omega arith)) k;
        fourth = untouched (4 * j + 3) (λ e. n (omega arith)) (λ e. n (omega arith)) (λ e. n (omega arith)) (λ e. n (omega arith)) k;
      }

  written_at : (j : ℕ) → j < capacity → {b : Bool} → Reflects (j ≡ i) b → get_or (places now-rs now-vs) j blank ≡ get_or (set (places rs vs) i r) j blank
  written_at j l (holds e) =
      getD-places now-rs now-vs j l
      ∙ ap (record_at now-rs now-vs) e
      ∙ written-here
      ∙ sym (get_or-set_same (places rs vs) i r blank (omega (arith, length-places rs vs)))
      ∙ ap (λ (k : ℕ). get_or (set (places rs vs) i r) k blank) (sym e)
  written_at j l (fails n) =
      getD-places now-rs now-vs j l ∙ written-there j n ∙ sym (getD-places rs vs j l) ∙ sym (get_or-set_other (places rs vs) i j r blank n)

  -- A record written to the arrays is set in the list of places.
  pub places-set : places (set rs i r.relation) (set_values vs i r) ≡ set (places rs vs) i r
  places-set =
      ext_get_or
      blank
      (places now-rs now-vs)
      (set (places rs vs) i r)
      (length-places now-rs now-vs ∙ sym (length-set (places rs vs) i r ∙ length-places rs vs))
      (λ j l. written_at j (subst (λ (k : ℕ). j < k) (length-places now-rs now-vs) l) (reflects-eqb j i))

-- ---- the arrays from the places

-- The four values from place a on.
abbrev four_at : List ℕ → ℕ → List ℕ
four_at vs a = get_or vs a 0 ∷ get_or vs (a + 1) 0 ∷ get_or vs (a + 2) 0 ∷ get_or vs (a + 3) 0 ∷ []

four-later : (a b c d : ℕ) (vs : List ℕ) (i : ℕ) → four_at (a ∷ b ∷ c ∷ d ∷ vs) (4 * suc i) ≡ four_at vs (4 * i)
four-later a b c d vs i = λ j. at (4 * suc i) (4 * i) (omega arith) j ∷ at (4 * suc i + 1) (4 * i + 1) (omega arith) j ∷ at (4 * suc i + 2) (4 * i + 2) (omega arith) j ∷ at (4 * suc i + 3) (4 * i + 3) (omega arith) j ∷ []
  where
    at : (m n : ℕ) → m ≡ suc (suc (suc (suc n))) → get_or (a ∷ b ∷ c ∷ d ∷ vs) m 0 ≡ get_or vs n 0
    at m n e = ap (λ (k : ℕ). get_or (a ∷ b ∷ c ∷ d ∷ vs) k 0) e

values-tabulated : (n : ℕ) (f : ℕ → Record) (vs : List ℕ) → length vs ≡ 4 * n → ((i : ℕ) → values_of (f i) ≡ four_at vs (4 * i)) → vs ≡ union_of values_of (tabulate f n)
values-tabulated zero f [] l h = refl
values-tabulated zero f (a ∷ vs) l h = absurd (omega arith)
values-tabulated (suc n) f [] l h = absurd (omega arith)
values-tabulated (suc n) f (a ∷ []) l h = absurd (omega arith)
values-tabulated (suc n) f (a ∷ b ∷ []) l h = absurd (omega arith)
values-tabulated (suc n) f (a ∷ b ∷ c ∷ []) l h = absurd (omega arith)
values-tabulated (suc n) f (a ∷ b ∷ c ∷ d ∷ vs) l h =
    λ j. sym (h zero) j ++ values-tabulated n (λ i. f (suc i)) vs (omega arith) (λ i. h (suc i) ∙ four-later a b c d vs i) j

module _ (rs vs : List ℕ) (lr : length rs ≡ capacity) (lv : length vs ≡ 1024) where
  relations-placed : rs ≡ map (λ p. p.relation) (places rs vs)
  relations-placed =
      ext_get_or
      0
      rs
      (map (λ p. p.relation) (places rs vs))
      (lr ∙ sym (length-map (places rs vs) (λ p. p.relation) ∙ length-places rs vs))
      (λ i l. sym (get_or-map (λ p. p.relation) (places rs vs) i blank ∙ ap (λ (p : Record). p.relation) (getD-places rs vs i (omega arith))))

  values-placed : vs ≡ union_of values_of (places rs vs)
  unfolding places
  values-placed = values-tabulated capacity (record_at rs vs) vs lv (λ i. refl)

  -- A store is that of its places.
  pub store-placed : (ws : List ℕ) (n : ℕ) → ◌≡◌ {A = Store} (record { widths = ws; relations = rs; values = vs; count = n }) (of_places ws (places rs vs) n)
  store-placed ws n = λ i. record { widths = ws; relations = relations-placed i; values = values-placed i; count = n }

-- A store in the layout is settled by its widths and the records it holds.
pub layout-store : (s : Store) → length s.relations ≡ capacity → length s.values ≡ 1024 → Layout s → s ≡ store_of s.widths (held s)
layout-store s a b l = store-placed s.relations s.values a b s.widths s.count ∙ (λ i. of_places s.widths (layout-places s l i) (sym (length-held s l.count_fits) i))

-- ---- a record put in between, or taken out, place by place

module _ {A : Type 0} where
  -- x at place k, and what stands from there on one place up.
  abbrev pub insert-at : List A → ℕ → A → List A
  insert-at xs zero x = x ∷ xs
  insert-at [] (suc k) x = x ∷ []
  insert-at (y ∷ xs) (suc k) x = y ∷ insert-at xs k x

  -- A list without what stands at place k.
  abbrev pub remove-at : List A → ℕ → List A
  remove-at [] k = []
  remove-at (y ∷ xs) zero = xs
  remove-at (y ∷ xs) (suc k) = y ∷ remove-at xs k

  pub insert-at-split : (xs : List A) (k : ℕ) (x : A) → insert-at xs k x ≡ take k xs ++ (x ∷ drop k xs)
  insert-at-split xs zero x = refl
  insert-at-split [] (suc k) x = refl
  insert-at-split (y ∷ xs) (suc k) x = ap (λ (r : List A). y ∷ r) (insert-at-split xs k x)

  pub remove-at-split : (xs : List A) (k : ℕ) → remove-at xs k ≡ take k xs ++ drop (suc k) xs
  remove-at-split [] zero = refl
  remove-at-split [] (suc k) = refl
  remove-at-split (y ∷ xs) zero = refl
  remove-at-split (y ∷ xs) (suc k) = ap (λ (r : List A). y ∷ r) (remove-at-split xs k)

  insert-at-suc : (xs : List A) (k : ℕ) (x d : A) → k < length xs → insert-at (set xs k x) (suc k) (get_or xs k d) ≡ insert-at xs k x
  insert-at-suc [] k x d h = absurd (omega arith)
  insert-at-suc (y ∷ xs) zero x d h = refl
  insert-at-suc (y ∷ xs) (suc k) x d h = ap (λ (r : List A). y ∷ r) (insert-at-suc xs k x d (omega arith))

  remove-at-suc : (xs : List A) (k : ℕ) (d : A) → suc k < length xs → remove-at (set xs k (get_or xs (suc k) d)) (suc k) ≡ remove-at xs k
  remove-at-suc [] k d h = absurd (omega arith)
  remove-at-suc (y ∷ []) k d h = absurd (omega arith)
  remove-at-suc (y ∷ z ∷ xs) zero d h = refl
  remove-at-suc (y ∷ z ∷ xs) (suc k) d h = ap (λ (r : List A). y ∷ r) (remove-at-suc (z ∷ xs) k d (omega arith))

  -- Where the last place is reached, what is carried falls out.
  pub insert-at-end : (xs : List A) (x : A) → take (length xs) (insert-at xs (length xs) x) ≡ xs
  insert-at-end [] x = refl
  insert-at-end (y ∷ xs) x = ap (λ (r : List A). y ∷ r) (insert-at-end xs x)

  -- Where the last place is reached, what is set there comes after the rest.
  pub remove-at-end : (xs : List A) (k : ℕ) (x : A) → suc k ≡ length xs → set xs k x ≡ remove-at xs k ++ (x ∷ [])
  remove-at-end [] k x h = absurd (omega arith)
  remove-at-end (y ∷ []) zero x h = refl
  remove-at-end (y ∷ []) (suc k) x h = absurd (omega arith)
  remove-at-end (y ∷ z ∷ xs) zero x h = absurd (omega arith)
  remove-at-end (y ∷ z ∷ xs) (suc k) x h = ap (λ (r : List A). y ∷ r) (remove-at-end (z ∷ xs) k x (omega arith))

-- One turn of raising: what is carried goes to place i, and what stood there is carried on.
pub insert-at-next : (rs vs : List ℕ) (i : ℕ) (r : Record) → i < capacity → insert-at (set (places rs vs) i r) (i + 1) (record_at rs vs i) ≡ insert-at (places rs vs) i r
insert-at-next rs vs i r h =
    rw (add-one i, ← getD-places rs vs i h) (insert-at-suc (places rs vs) i r blank (omega (arith, length-places rs vs)))

-- One turn of lowering: what stands at place i + 1 goes to place i.
pub remove-at-next : (rs vs : List ℕ) (i : ℕ) → i + 1 < capacity → remove-at (set (places rs vs) i (record_at rs vs (i + 1))) (i + 1) ≡ remove-at (places rs vs) i
remove-at-next rs vs i h =
    rw (← getD-places rs vs (i + 1) h, add-one i) (remove-at-suc (places rs vs) i blank (omega (arith, length-places rs vs)))
