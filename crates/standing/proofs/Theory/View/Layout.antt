-- Laws of the layout: what it says of a list, that the list of right answers has it, and how the code judges it.
use Rattle.std.specs.Prelude.{ℕ, zero, suc, ◌+◌, ◌-◌, ◌≤◌, ◌<◌, ◌≡◌, refl, Bool, true, false, not, ◌&&◌, List, [], ◌∷◌, ◌++◌, map, length, get_or, take, drop, replicate, T, eqb, ltb}
use Rattle.std.proofs.Common.{arith, sym, ap, subst, ◌∙◌, take_all, take-append-drop, length-drop, length-take-le, get_or-take, le-leb, eq-eqb}
use Rattle.std.proofs.Math.Path.{subst⁻¹}
use Rattle.std.proofs.lemmas.Bool.{false≢true, lt-leb}
use Rattle.std.proofs.Math.Bool.{and-true}
use Rattle.std.proofs.lemmas.List.{length-map}
use Rattle.std.proofs.Math.Seq.{take-append_seam, drop-append_seam}
use Rattle.calculus.proofs.Theory.Reflects.Laws.{reflected, reflects-T, reflects-true, reflects-false, reflects-map, reflects-and, reflects-not, reflects-eqb, reflects-ltb, reflects-leb}
use Rattle.calculus.specs.Sets.{In, here, there, all_of, same_list}
use Rattle.calculus.proofs.Theory.Sets.Laws.{reflects-all, reflects-same_list}
use Rattle.calculus.specs.Lists.{padded}
use Rattle.calculus.proofs.Theory.Lists.Laws.{reflects-replicate, and-holds}
use Rattle.calculus.specs.Order.{Ascending, is-ascending}
use Rattle.calculus.proofs.Theory.Order.Laws.{ltb-order, reflects-ascending}
use Rattle.calculus.specs.Generators.{columns}
use Rattle.calculus.proofs.Theory.SafeRange.Result.{columns-ascending}
use Rattle.calculus.specs.Rows.{Row, row_below, Result, endless, listed, Width}
use Rattle.calculus.proofs.Theory.Rows.Laws.{row-order}
use Rattle.query.specs.declared.Columns.{Columns}
use Rattle.query.specs.declared.Query.{Query}
use Rattle.query.specs.Reading.{formula, columns_of, variables_in}
use Rattle.verdict.proofs.Theory.Verdict.Laws.{column-small}
use Rattle.standing.specs.declared.Rows.{Rows}
use Rattle.standing.specs.declared.View.{View}
use Rattle.standing.specs.View.{max_rows, row_at, row_places, held_rows, unused_places, ends, stored, columns_in, rows_in, columns_fit, rows_fit, counts_fit, view_fits, suits, kept, mark, view_of, QueryColumns}
use Rattle.standing.specs.Code.View.{tests_of}
use Rattle.standing.proofs.Theory.View.Laws.{length-row_places, getD-row_places, width-first, width-rows, held-rows-stored, unused-stored, rows_stored}
use Rattle.standing.proofs.Theory.View.Difference.{padded-ascends}

-- ---- zeros past the values

-- Copies of what passes a test.
all-copies : {A : Type 0} (p : A → Bool) (z : A) → p z ≡ true → (n : ℕ) → all_of p (replicate n z) ≡ true
all-copies p z e zero = refl
all-copies p z e (suc n) = λ i. e i && all-copies p z e n i

-- A list filled up with zeros is zero past its values.
pub ends-padded : (n : ℕ) (xs : List ℕ) → ends (length xs) (padded n 0 xs) ≡ true
ends-padded n xs = ap (all_of (eqb 0)) (drop-append_seam xs (replicate (n - length xs) 0)) ∙ all-copies (eqb 0) 0 refl (n - length xs)

-- A list that is zero from place k on is its first k values, filled up.
pub padded-taken : (n k : ℕ) (xs : List ℕ) → length xs ≡ n → k ≤ n → T (ends k xs) → xs ≡ padded n 0 (take k xs)
padded-taken n k xs e h t =
    let l : length (drop k xs) ≡ n - length (take k xs) = omega (arith, length-drop k xs, length-take-le k xs (omega arith)) in
    sym (take-append-drop k xs)
    ∙ ap (λ zs. take k xs ++ zs) (reflected (reflects-replicate (eqb 0) 0 (λ x. reflects-map sym sym (reflects-eqb 0 x)) (drop k xs)) t ∙ ap (λ m. replicate m 0) l)

-- ---- the row places of a list

-- The first n of them.
module _ (vs : List ℕ) (n : ℕ) (h : n ≤ max_rows) where
  pub length-first : length (take n (row_places vs)) ≡ n
  length-first = length-take-le n (row_places vs) (omega (arith, length-row_places vs))

  pub getD-first : (i : ℕ) → i < n → get_or (take n (row_places vs)) i [] ≡ row_at vs i
  getD-first i l = get_or-take n (row_places vs) i [] l ∙ getD-row_places vs i (omega arith)

-- All of them.
pub all-places : (vs : List ℕ) → take max_rows (row_places vs) ≡ row_places vs
all-places vs = take_all max_rows (row_places vs) (omega (arith, length-row_places vs))

module _ (r : Rows) (k : ℕ) (few : k ≤ 4) where
  -- Rows held that are zero past their first k values are these, filled up.
  held-rows-padded : T (all_of (ends k) (held_rows r)) → held_rows r ≡ map (padded 4 0) (map (take k) (held_rows r))
  held-rows-padded t = go (held_rows r) (width-first r.count r.values) t
    where
      go : (ls : List Row) → Width 4 ls → T (all_of (ends k) ls) → ls ≡ map (padded 4 0) (map (take k) ls)
      go [] w s = refl
      go (l ∷ ls) w s = let p = and-holds (ends k l) (all_of (ends k) ls) s in λ i. padded-taken 4 k l (w l (here refl)) few p.0 i ∷ go ls (λ u j. w u (there j)) p.1 i

  -- Rows held that are zero past their first k values are in order where these values are.
  ascend-alike : T (all_of (ends k) (held_rows r)) → is-ascending row_below (held_rows r) ≡ is-ascending row_below (map (take k) (held_rows r))
  ascend-alike t = ap (is-ascending row_below) (held-rows-padded t) ∙ padded-ascends k (map (take k) (held_rows r)) (width-rows k r.count r.values few)

-- Rows of k values filled up are zero past them.
rows-ended : (k : ℕ) (rows : List Row) → Width k rows → all_of (ends k) (map (padded 4 0) rows) ≡ true
rows-ended k [] w = refl
rows-ended k (r ∷ rows) w =
    let e : ends k (padded 4 0 r) ≡ true = ap (λ n. ends n (padded 4 0 r)) (sym (w r (here refl))) ∙ ends-padded 4 r in
    λ i. e i && rows-ended k rows (λ u j. w u (there j)) i

-- ---- what the layout says

-- What the layout says of a list with these columns.
pub record Layout (v : View) (cols : List ℕ) : Type 0 where
  pub columns_are : v.columns ≡ columns_of cols
  pub few_rows : v.rows.count ≤ max_rows
  pub count_is : length (rows_in v) ≡ v.rows.count
  pub wide : Width (length cols) (rows_in v)
  pub ascending : Ascending row_below (rows_in v)
  pub held_rows_are : held_rows v.rows ≡ map (padded 4 0) (rows_in v)
  pub unmarked : v.endless ≡ true → v.rows.count ≡ 0
  pub balanced : v.opening + v.joined ≡ v.left + v.rows.count

-- An endless list in the layout has no rows.
no_rows : (b : Bool) (n : ℕ) → T (not (b && ltb 0 n)) → b ≡ true → n ≡ 0
no_rows true n t e = let m : ¬ (0 < n) = reflected (reflects-not (reflects-ltb 0 n)) t in omega arith
no_rows false n t e = absurd (false≢true e)

-- A list that suits is in the layout.
pub suited : (v : View) (cols : List ℕ) → length v.columns.variables ≡ 4 → T (suits v cols) → Layout v cols
suited v cols e t =
    let k = v.columns.count in
    let all = and-holds (view_fits v) (same_list (columns_in v) cols) t in
    let fits = and-holds (columns_fit v && rows_fit v) (counts_fit v) all.0 in
    let both = and-holds (columns_fit v) (rows_fit v) fits.0 in
    let columns-parts = reflected (reflects-and (reflects-and (reflects-and (reflects-leb k 4) (reflects-T (all_of (λ c. ltb c 16) (columns_in v)))) (reflects-T (is-ascending ltb (columns_in v)))) (reflects-T (ends k v.columns.variables))) both.0 in
    let rows-parts = reflected (reflects-and (reflects-and (reflects-and (reflects-leb v.rows.count max_rows) (reflects-ascending row_below row-order (rows_in v))) (reflects-T (all_of (ends k) (held_rows v.rows)))) (reflects-T (all_of (ends 0) (unused_places v.rows)))) both.1 in
    let counts-parts = reflected (reflects-and (reflects-T (not (v.endless && ltb 0 v.rows.count))) (reflects-eqb (v.opening + v.joined) (v.left + v.rows.count))) fits.1 in
    let few : k ≤ 4 = columns-parts.0.0.0 in
    let rows_few : v.rows.count ≤ max_rows = rows-parts.0.0.0 in
    let same : columns_in v ≡ cols = reflected (reflects-same_list (columns_in v) cols) all.1 in
    let count_of : k ≡ length cols = sym (length-take-le k v.columns.variables (omega arith)) ∙ ap length same in
    record {
      columns_are = λ i. record { variables = (padded-taken 4 k v.columns.variables e few columns-parts.1 ∙ ap (padded 4 0) same) i; count = count_of i };
      few_rows = rows_few;
      count_is = length-map (held_rows v.rows) (take k) ∙ length-first v.rows.values v.rows.count rows_few;
      wide = subst (λ n. Width n (rows_in v)) count_of (width-rows k v.rows.count v.rows.values few);
      ascending = rows-parts.0.0.1;
      held_rows_are = held-rows-padded v.rows k few rows-parts.0.1;
      unmarked = no_rows v.endless v.rows.count counts-parts.0;
      balanced = counts-parts.1;
    }

-- ---- the columns of a query

-- Columns written are read back.
pub columns_read : (cols : List ℕ) → variables_in (columns_of cols) ≡ cols
columns_read cols = take-append_seam cols (replicate (4 - length cols) 0)

-- The columns of a query that was not refused.
pub query-columns : (q : Query) → length (columns (formula q)) ≤ 4 → QueryColumns (columns_of (columns (formula q)))
query-columns q h =
    let e : variables_in (columns_of (columns (formula q))) ≡ columns (formula q) = columns_read (columns (formula q)) in
    record {
      few = subst⁻¹ (λ xs. length xs ≤ 4) e h;
      small = λ x i. column-small q x (subst (In x) e i);
      ascending = subst⁻¹ (Ascending ltb) e (columns-ascending (formula q));
      whole = ap columns_of (sym e);
    }

-- A query's columns are in the layout.
columns-right : (v : View) → QueryColumns v.columns → columns_fit v ≡ true
columns-right v q =
    let cols = columns_in v in
    let n : v.columns.count ≡ length cols = ap (λ c. c.count) q.whole in
    let e : ends v.columns.count v.columns.variables ≡ true = ap (λ c. ends c.count c.variables) q.whole ∙ ends-padded 4 cols in
    rw (
      le-leb v.columns.count 4 (omega (arith, q.few)),
      reflects-true (reflects-all (λ c. ltb c 16) cols (λ x. reflects-ltb x 16)) q.small,
      reflects-true (reflects-ascending ltb ltb-order cols) q.ascending,
      e,
    )

-- ---- how the code judges it

-- The tests in the order of the code, where b is a once e holds.
regroup : (a b e u n m : Bool) → (T e → b ≡ a) → ((a && e) && u) && (n && m) ≡ (((e && b) && u) && n) && m
regroup true b false u n m h = refl
regroup false b false u n m h = refl
regroup a b true u n m h = rw (h tt) (go a u n)
  where
    go : (a u n : Bool) → ((a && true) && u) && (n && m) ≡ ((a && u) && n) && m
    go true true true = refl
    go true true false = refl
    go true false n = refl
    go false u n = refl

module _ (v : View) (c : Columns) (q : QueryColumns c) where
  -- A list with other columns is not in the layout.
  pub suits-other : length v.columns.variables ≡ 4 → ¬ (v.columns ≡ c) → false ≡ suits v (variables_in c)
  suits-other e n = sym (reflects-false (reflects-T (suits v (variables_in c))) (λ t. n ((suited v (variables_in c) e t).columns_are ∙ sym q.whole)))

  module _ (e : v.columns ≡ c) where
    -- Of a list with the query's columns, rows and counts decide.
    suits-rows : suits v (variables_in c) ≡ rows_fit v && counts_fit v
    suits-rows =
        subst
        (λ d. suits v (variables_in d) ≡ rows_fit v && counts_fit v)
        e
        (rw (columns-right v (subst⁻¹ QueryColumns e q), reflects-true (reflects-same_list (columns_in v) (columns_in v)) refl) (and-true (rows_fit v && counts_fit v)))

    -- Not with over `max_rows` rows.
    pub suits-many : max_rows < v.rows.count → false ≡ suits v (variables_in c)
    suits-many h = sym (suits-rows ∙ rw (lt-leb v.rows.count max_rows h))

    module _ (h : v.rows.count ≤ max_rows) where
      -- Of a list with the query's columns and at most `max_rows` rows, these tests are left, in this order.
      pub suits-tests : suits v (variables_in c) ≡ tests_of v c.count
      suits-tests =
          let k : ℕ = v.columns.count in
          let f : k ≤ 4 = omega (arith, ap (λ d. d.count) (e ∙ q.whole), q.few) in
          suits-rows
          ∙ rw (le-leb v.rows.count max_rows h, ← e)
          (regroup (is-ascending row_below (rows_in v)) (is-ascending row_below (held_rows v.rows)) (all_of (ends k) (held_rows v.rows)) (all_of (ends 0) (unused_places v.rows)) (not (v.endless && ltb 0 v.rows.count)) (eqb (v.opening + v.joined) (v.left + v.rows.count)) (ascend-alike v.rows k f))

      -- A row that goes on past the columns.
      pub suits-unended : all_of (ends c.count) (held_rows v.rows) ≡ false → false ≡ suits v (variables_in c)
      suits-unended f = sym (suits-tests ∙ rw f)

      module _ (ended : all_of (ends c.count) (held_rows v.rows) ≡ true) where
        -- Rows that are not ascending.
        pub suits-unordered : is-ascending row_below (held_rows v.rows) ≡ false → false ≡ suits v (variables_in c)
        suits-unordered f = sym (suits-tests ∙ rw (ended, f))

        module _ (ordered : is-ascending row_below (held_rows v.rows) ≡ true) where
          -- A place past the rows that is not zero.
          pub suits-full : all_of (ends 0) (unused_places v.rows) ≡ false → false ≡ suits v (variables_in c)
          suits-full f = sym (suits-tests ∙ rw (ended, ordered, f))

          module _ (rest : all_of (ends 0) (unused_places v.rows) ≡ true) where
            -- An endless list with rows.
            pub suits-marked : (v.endless && ltb 0 v.rows.count) ≡ true → false ≡ suits v (variables_in c)
            suits-marked f = sym (suits-tests ∙ rw (ended, ordered, rest, f))

            -- The counts are left.
            pub suits-balanced : (v.endless && ltb 0 v.rows.count) ≡ false → {b : Bool} → b ≡ eqb (v.opening + v.joined) (v.left + v.rows.count) → b ≡ suits v (variables_in c)
            suits-balanced f g = g ∙ sym (suits-tests ∙ rw (ended, ordered, rest, f))

-- ---- the list of answers

-- An endless list keeps no rows.
no-mark : (found : Result) → (mark found && ltb 0 (length (kept found))) ≡ false
no-mark endless = refl
no-mark (listed rows) = refl

module _ (cols : List ℕ) (c : QueryColumns (columns_of cols)) (found : Result) (few : length (kept found) ≤ max_rows) (wide : Width (length cols) (kept found)) (a : Ascending row_below (kept found)) (o j l : ℕ) where
  columns-few : length cols ≤ 4
  columns-few = subst (λ xs. length xs ≤ 4) (columns_read cols) c.few

  -- The list of a result holds its rows.
  pub rows-of-view : rows_in (view_of cols found o j l) ≡ kept found
  rows-of-view = rows_stored (length cols) columns-few (kept found) few wide

  -- The list of a result is in the layout where its counts add up.
  pub view-suits : o + j ≡ l + length (kept found) → T (suits (view_of cols found o j l) cols)
  view-suits e =
      let held : held_rows (stored (kept found)) ≡ map (padded 4 0) (kept found) = held-rows-stored (length cols) columns-few (kept found) few wide in
      let judged : true ≡ suits (view_of cols found o j l) (variables_in (columns_of cols)) =
      sym (suits-tests (view_of cols found o j l) (columns_of cols) c refl few
      ∙ rw (
        ap (all_of (ends (length cols))) held ∙ rows-ended (length cols) (kept found) wide,
        ap (is-ascending row_below) held ∙ padded-ascends (length cols) (kept found) wide ∙ reflects-true (reflects-ascending row_below row-order (kept found)) a,
        ap (all_of (ends 0)) (unused-stored (length cols) columns-few (kept found) few wide) ∙ all-copies (ends 0) (0 ∷ 0 ∷ 0 ∷ 0 ∷ []) refl (max_rows - length (kept found)),
        no-mark found,
        eq-eqb (o + j) (l + length (kept found)) e,
      )) in
      subst (λ xs. T (suits (view_of cols found o j l) xs)) (columns_read cols) (subst T judged tt)
