-- What the list's reply tells, for callers that have it: the first cause; or the verdict and the columns, and endless or the rows, which are few.
use Rattle.std.specs.Prelude.{ℕ, zero, suc, ◌+◌, ◌*◌, ◌≤◌, ◌≡◌, refl, true, false, List, [], ◌∷◌, ◌++◌, length, drop, T}
use Rattle.std.proofs.Common.{mul-suc, arith, sym, ap, subst, ◌∙◌, true≢false, ltb-false}
use Rattle.calculus.specs.Sets.{here, there}
use Rattle.calculus.specs.Order.{Ascending}
use Rattle.calculus.proofs.Theory.Order.Laws.{ascending-at}
use Rattle.calculus.specs.Generators.{columns, verdict, safe}
use Rattle.calculus.proofs.Theory.SafeRange.Result.{fv-columns}
use Rattle.calculus.specs.Rows.{Row, row_below, Result, endless, listed, Right, numbers, Width}
use Rattle.calculus.proofs.Theory.Evaluation.Laws.{result-right}
use Rattle.causes.specs.Causes.{Answer, Done, Refused, Check, first_cause}
use Rattle.causes.proofs.Theory.Causes.Laws.{first_done, later-done, first-clear}
use Rattle.tables.specs.Store.{facts}
use Rattle.query.specs.declared.Query.{Query}
use Rattle.query.specs.Reading.{pool, columns_of, formula}
use Rattle.answer.specs.Reply.{exceeds, row_checks, Writing, front, worked}
use Rattle.packed.specs.Packed.{Listing, input_checks, store_in, query_read, result_in, list_checks, declined, listing_reply, listing_in, listing_of}
use Rattle.packed.proofs.Theory.Packed.Laws.{input-few, listing-by-cause}

-- The columns of the query of an input.
abbrev pub columns_in : List ℕ → List ℕ
columns_in bs = columns (formula (query_read bs))

-- The rows stand at the front of the list that was lent, which they fit into.
pub record Told (bs buffer : List ℕ) (l : Listing) (after : List ℕ) : Type 0 where
  pub rows : List Row
  pub answered : result_in bs ≡ listed rows
  pub counted : l.rows ≡ length rows
  pub written : after ≡ numbers rows ++ drop (length (numbers rows)) buffer
  pub wide : Width (length (columns_in bs)) rows
  pub fitting : length rows * length (columns_in bs) ≤ length buffer
  pub few : length rows ≤ length buffer + 1

-- A refusal comes with nothing else.
pub declined-bare : (n p : ℕ) → ((declined n p).answer ≡ Refused n p) × ((declined n p).safe ≡ false) × ((declined n p).columns ≡ columns_of []) × ((declined n p).endless ≡ false) × ((declined n p).rows ≡ 0)
declined-bare n p = (refl, refl, refl, refl, refl)

-- So what a list's reply tells of a refusal is the refusal alone, whatever its rows were to be written into: not safe, no columns, not endless, no rows, and what
-- was lent as it was.
pub refused-bare : (write : Writing (List ℕ)) (room : ℕ) (bs buffer : List ℕ) (l : Listing) (after : List ℕ) → (l, after) ≡ listing_in write room bs buffer → (n p : ℕ) → l.answer ≡ Refused n p → (l.safe ≡ false) × (l.columns ≡ columns_of []) × (l.endless ≡ false) × (l.rows ≡ 0) × (after ≡ buffer)
refused-bare write room bs buffer l after e n p a = go (first_cause (list_checks bs room)) e
  where
    go : (c : Answer) → (l, after) ≡ listing_reply write c (query_read bs) (result_in bs) buffer → (l.safe ≡ false) × (l.columns ≡ columns_of []) × (l.endless ≡ false) × (l.rows ≡ 0) × (after ≡ buffer)
    go Done e = let never : ◌≡◌ {A = Answer} Done (Refused n p) = sym (ap (λ r. r.0.answer) e) ∙ a in cc
    go (Refused m k) e = (ap (λ r. r.0.safe) e, ap (λ r. r.0.columns) e, ap (λ r. r.0.endless) e, ap (λ r. r.0.rows) e, ap (λ r. r.1) e)

-- ---- rows that fit are few

-- No empty row is below another.
empty-rows : (v w : Row) → length v ≡ 0 → length w ≡ 0 → ¬ T (row_below v w)
empty-rows [] [] e f t = t
empty-rows [] (y ∷ w) e f t = absurd (omega (arith, f))
empty-rows (x ∷ v) w e f t = absurd (omega (arith, e))

-- Ascending rows of no column are at most one; of more, each takes a number.
few_rows : (k n : ℕ) (rows : List Row) → Ascending row_below rows → Width k rows → length rows * k ≤ n → length rows ≤ n + 1
few_rows zero n [] a w l = omega arith
few_rows zero n (v ∷ []) a w l = omega arith
few_rows zero n (u ∷ v ∷ rows) a w l = absurd (empty-rows u v (w u (here refl)) (w v (there (here refl))) (ascending-at row_below [] a 0 1 (omega arith) (omega arith)))
few_rows (suc k) n rows a w l = omega (arith, l, mul-suc (length rows) k)

-- ---- an input that is accepted, with room for so many numbers

module _ (bs : List ℕ) (room : ℕ) (done : first_cause (list_checks bs room) ≡ Done) where
  -- Cause 18 comes after the input's.
  abbrev last : List Check
  last = row_checks (store_in bs) (query_read bs) room

  pub few_columns : length (columns_in bs) ≤ 4
  few_columns = input-few bs (first_done (input_checks bs) last done)

  -- The rows of an accepted list fit the room, and so are few.
  pub rows_fit : (rows : List Row) → result_in bs ≡ listed rows → Width (length (columns_in bs)) rows × (length rows * length (columns_in bs) ≤ room) × (length rows ≤ room + 1)
  rows_fit rows e = (wide, fits, few_rows (length (columns_in bs)) room rows right.0 wide fits)
    where
      q : Query
      q = query_read bs

      right : Right (pool q) (facts (store_in bs)) (formula q) (columns_in bs) (listed rows)
      right = subst (Right (pool q) (facts (store_in bs)) (formula q) (columns_in bs)) e (result-right (pool q) (facts (store_in bs)) (formula q) (columns_in bs) (fv-columns (formula q)))

      wide : Width (length (columns_in bs)) rows
      wide w m = ((right.1 w).0 m).0

      fits : length rows * length (columns_in bs) ≤ room
      fits =
          ltb-false room (length rows * length (columns_in bs))
          (subst (λ r. exceeds room (length (columns_in bs)) r ≡ false) e (first-clear 18 (exceeds room (length (columns_in bs)) (result_in bs)) [] (later-done (input_checks bs) last done)).0)

-- ---- the reply, by its answer

reply-answer : (a : Answer) (q : Query) (found : Result) (buffer : List ℕ) → (listing_reply front a q found buffer).0.answer ≡ a
reply-answer Done q found buffer = refl
reply-answer (Refused n p) q found buffer = refl

-- Endless comes with the buffer as it was.
worked-endless : (found : Result) (buffer : List ℕ) → (worked found buffer).0.endless ≡ true → (found ≡ endless) × ((worked found buffer).1 ≡ buffer)
worked-endless endless buffer e = (refl, refl)
worked-endless (listed rows) buffer e = absurd (true≢false (sym e))

module _ (bs buffer : List ℕ) (l : Listing) (after : List ℕ) (e : (l, after) ≡ listing_of bs buffer) where
  -- The answer is the first cause met, and the reply is by it.
  cause-is : (c : Answer) → l.answer ≡ c → first_cause (list_checks bs (length buffer)) ≡ c
  cause-is c a = sym (ap (λ r. r.0.answer) e ∙ reply-answer (first_cause (list_checks bs (length buffer))) (query_read bs) (result_in bs) buffer) ∙ a

  reply-is : (c : Answer) → l.answer ≡ c → (l, after) ≡ listing_reply front c (query_read bs) (result_in bs) buffer
  reply-is c a = e ∙ listing-by-cause bs front (length buffer) buffer c (cause-is c a)

  pub told-refused : (n p : ℕ) → l.answer ≡ Refused n p → (first_cause (list_checks bs (length buffer)) ≡ Refused n p) × (after ≡ buffer)
  told-refused n p a = (cause-is (Refused n p) a, ap (λ r. r.1) (reply-is (Refused n p) a))

  module _ (a : l.answer ≡ Done) where
    pub told-done : first_cause (list_checks bs (length buffer)) ≡ Done
    told-done = cause-is Done a

    pub told-safe : l.safe ≡ safe (verdict (formula (query_read bs)))
    told-safe = ap (λ r. r.0.safe) (reply-is Done a)

    pub told-columns : l.columns ≡ columns_of (columns_in bs)
    told-columns = ap (λ r. r.0.columns) (reply-is Done a)

    pub told-few-columns : length (columns_in bs) ≤ 4
    told-few-columns = few_columns bs (length buffer) told-done

    pub told-endless : l.endless ≡ true → (result_in bs ≡ endless) × (after ≡ buffer)
    told-endless t = let w = worked-endless (result_in bs) buffer (sym (ap (λ r. r.0.endless) (reply-is Done a)) ∙ t) in (w.0, ap (λ r. r.1) (reply-is Done a) ∙ w.1)

    pub told-rows : l.endless ≡ false → Told bs buffer l after
    told-rows t = go (result_in bs) refl (reply-is Done a)
      where
        go : (found : Result) → result_in bs ≡ found → (l, after) ≡ listing_reply front Done (query_read bs) found buffer → Told bs buffer l after
        go endless i h = absurd (true≢false (sym (ap (λ v. v.0.endless) h) ∙ t))
        go (listed rows) i h =
            let r = rows_fit bs (length buffer) told-done rows i in
            record {
              rows = rows;
              answered = i;
              counted = ap (λ v. v.0.rows) h;
              written = ap (λ v. v.1) h;
              wide = r.0;
              fitting = r.1;
              few = r.2;
            }
