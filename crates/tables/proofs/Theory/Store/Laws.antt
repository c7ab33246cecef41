-- Laws of the store: its two arrays are one list of record places, and the layout says what that list is.
use Rattle.std.specs.Prelude.{ℕ, zero, suc, ◌+◌, ◌*◌, ◌-◌, ◌<◌, ◌≤◌, ◌≡◌, refl, not, List, [], ◌∷◌, ◌++◌, map, length, get_or, take, drop, replicate, T}
use Rattle.std.proofs.Common.{arith, sym, ap, subst, ◌∙◌, length-drop, take-append-drop, ext_get_or, length-take-le, get_or-append-add}
use Rattle.std.proofs.Math.Path.{subst⁻¹}
use Rattle.std.proofs.Math.ListN.{get_or-append, get_or-map}
use Rattle.std.proofs.Math.Seq.{take-append_seam, drop-append_seam}
use Rattle.calculus.specs.Sets.{In, all_of, union_of}
use Rattle.calculus.proofs.Theory.Sets.Laws.{reflects-all}
use Rattle.calculus.specs.Lists.{padded}
use Rattle.calculus.proofs.Theory.Lists.Laws.{length-tabulate, get_d_tabulate, length-padded, reflects-replicate}
use Rattle.calculus.specs.Order.{Ascending}
use Rattle.calculus.proofs.Theory.Order.Laws.{reflects-ascending}
use Rattle.calculus.specs.Reflects.{Reflects}
use Rattle.calculus.proofs.Theory.Reflects.Laws.{reflects-T, reflects-map, reflects-and, reflects-leb}
use Rattle.causes.specs.Causes.{Done, check, when, widths_fit}
use Rattle.causes.proofs.Theory.Causes.Laws.{first-passed}
use Rattle.tables.specs.declared.Record.{Record}
use Rattle.tables.specs.declared.Store.{Store}
use Rattle.tables.specs.Records.{values_of, blank, record_below, is_blank, fits, fact_of}
use Rattle.tables.proofs.Theory.Records.Laws.{reflects-same_record, record-order}
use Rattle.tables.specs.Store.{capacity, record_at, places, places_of, held, unused, facts, have_room, in_layout, judgement, store_of, Layout}
use Rattle.tables.proofs.Theory.Store.Room.{room-few}

-- ---- the places of two arrays

pub length-places : (rs vs : List ℕ) → length (places rs vs) ≡ capacity
unfolding places
length-places rs vs = length-tabulate (record_at rs vs) capacity

pub getD-places : (rs vs : List ℕ) (i : ℕ) → i < capacity → get_or (places rs vs) i blank ≡ record_at rs vs i
unfolding places
getD-places rs vs i h = get_d_tabulate (record_at rs vs) capacity i blank h

-- Value k of record i is number 4 i + k.
values-at : (ps : List Record) (i k n : ℕ) → i < length ps → k < 4 → n ≡ 4 * i + k → get_or (union_of values_of ps) n 0 ≡ get_or (values_of (get_or ps i blank)) k 0
values-at [] i k n h l e = absurd (omega arith)
values-at (p ∷ ps) zero k n h l e =
    let f : n ≡ k = omega arith in
    ap (λ m. get_or (union_of values_of (p ∷ ps)) m 0) f ∙ get_or-append (values_of p) (union_of values_of ps) 0 k l
values-at (p ∷ ps) (suc i) k n h l e =
    let f : n ≡ 4 + (4 * i + k) = omega arith in
    ap (λ m. get_or (union_of values_of (p ∷ ps)) m 0) f ∙ get_or-append-add (values_of p) (union_of values_of ps) (4 * i + k) 0 ∙ values-at ps i k (4 * i + k) (omega arith) l refl

pub places-of-arrays : (ps : List Record) → length ps ≡ capacity → places (map (λ p. p.relation) ps) (union_of values_of ps) ≡ ps
places-of-arrays ps e = ext_get_or blank (places rs vs) ps (length-places rs vs ∙ sym e) at
  where
    rs : List ℕ
    rs = map (λ p. p.relation) ps

    vs : List ℕ
    vs = union_of values_of ps

    row : (i : ℕ) → i < length ps → record_at rs vs i ≡ get_or ps i blank
    row i h = λ j. record {
      relation = get_or-map (λ p. p.relation) ps i blank j;
      first = values-at ps i 0 (4 * i) h (omega arith) (omega arith) j;
      second = values-at ps i 1 (4 * i + 1) h (omega arith) refl j;
      third = values-at ps i 2 (4 * i + 2) h (omega arith) refl j;
      fourth = values-at ps i 3 (4 * i + 3) h (omega arith) refl j;
    }

    at : (i : ℕ) → i < length (places rs vs) → get_or (places rs vs) i blank ≡ get_or ps i blank
    at i h = let k : i < capacity = subst (λ n. i < n) (length-places rs vs) h in getD-places rs vs i k ∙ row i (omega arith)

pub places-store-of : (ws : List ℕ) (ps : List Record) → length ps ≤ capacity → places_of (store_of ws ps) ≡ padded capacity blank ps
places-store-of ws ps h = places-of-arrays (padded capacity blank ps) (length-padded capacity blank ps h)

pub held-store-of : (ws : List ℕ) (ps : List Record) → length ps ≤ capacity → held (store_of ws ps) ≡ ps
held-store-of ws ps h = ap (take (length ps)) (places-store-of ws ps h) ∙ take-append_seam ps (replicate (capacity - length ps) blank)

pub facts-store-of : (ws : List ℕ) (ps : List Record) → length ps ≤ capacity → facts (store_of ws ps) ≡ map (fact_of ws) ps
facts-store-of ws ps h = ap (map (fact_of ws)) (held-store-of ws ps h)

-- ---- the layout

length-unused : (s : Store) → length (unused s) ≡ capacity - s.count
length-unused s = length-drop s.count (places_of s) ∙ ap (λ n. n - s.count) (length-places s.relations s.values)

reflects-blanks : (s : Store) → Reflects (unused s ≡ replicate (capacity - s.count) blank) (all_of is_blank (unused s))
reflects-blanks s = subst (λ n. Reflects (unused s ≡ replicate n blank) (all_of is_blank (unused s))) (length-unused s) (reflects-replicate is_blank blank (λ r. reflects-same_record r blank) (unused s))

pub reflects-layout : (s : Store) → Reflects (Layout s) (in_layout s)
reflects-layout s = reflects-map make unmake (reflects-and (reflects-and (reflects-and (reflects-and (reflects-leb s.count capacity) (reflects-T (have_room (held s)))) all-fits) (reflects-ascending record_below record-order (held s))) (reflects-blanks s))
  where
    Fitting : Type 0
    Fitting = (r : Record) → In r (held s) → T (fits s.widths r)

    Parts : Type 0
    Parts = ((((s.count ≤ capacity) × T (have_room (held s))) × Fitting) × Ascending record_below (held s)) × (unused s ≡ replicate (capacity - s.count) blank)

    all-fits : Reflects Fitting (all_of (fits s.widths) (held s))
    all-fits = reflects-all (fits s.widths) (held s) (λ r. reflects-T (fits s.widths r))

    make : Parts → Layout s
    make p = record { count_fits = p.0.0.0.0; room = p.0.0.0.1; all_fit = p.0.0.1; ascending = p.0.1; rest_blank = p.1 }

    unmake : Layout s → Parts
    unmake l = ((((l.count_fits, l.room), l.all_fit), l.ascending), l.rest_blank)

pub length-held : (s : Store) → s.count ≤ capacity → length (held s) ≡ s.count
length-held s h = length-take-le s.count (places_of s) (subst⁻¹ (λ n. s.count ≤ n) (length-places s.relations s.values) h)

pub layout-places : (s : Store) → Layout s → places_of s ≡ padded capacity blank (held s)
layout-places s l = sym (take-append-drop s.count (places_of s)) ∙ ap (λ xs. held s ++ xs) (l.rest_blank ∙ ap (λ n. replicate (capacity - n) blank) (sym (length-held s l.count_fits)))

pub layout-store-of : (ws : List ℕ) (ps : List Record) → T (have_room ps) → ((r : Record) → In r ps → T (fits ws r)) → Ascending record_below ps → Layout (store_of ws ps)
layout-store-of ws ps t f a =
    let h = room-few ps t in
    record {
      count_fits = h;
      room = subst⁻¹ (λ qs. T (have_room qs)) (held-store-of ws ps h) t;
      all_fit = λ r i. f r (subst (In r) (held-store-of ws ps h) i);
      ascending = subst⁻¹ (Ascending record_below) (held-store-of ws ps h) a;
      rest_blank = ap (drop (length ps)) (places-store-of ws ps h) ∙ drop-append_seam ps (replicate (capacity - length ps) blank);
    }

-- ---- the judgement

pub judged-layout : (s : Store) → judgement s ≡ Done → T (widths_fit s.widths) × T (in_layout s)
judged-layout s e = let p = first-passed 1 (widths_fit s.widths) (check 2 (when (not (in_layout s))) ∷ []) e in (p.0, (first-passed 2 (in_layout s) [] p.1).0)
