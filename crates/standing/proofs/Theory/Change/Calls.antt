-- Laws of a put and a removal, both at once: the reply where the store, the query or the list is refused, where the record is, and where none is.
-- The causes stand in the order of their numbers, so the first part that meets one decides.
use Rattle.std.specs.Prelude.{ℕ, ◌+◌, ◌≤◌, ◌≡◌, refl, false, List, [], ◌∷◌, ◌++◌, length, T}
use Rattle.std.proofs.Common.{arith, sym, ap, subst, ◌∙◌, true≢false, ltb-false}
use Rattle.std.proofs.Math.Path.{subst⁻¹}
use Rattle.calculus.specs.Generators.{columns}
use Rattle.calculus.specs.Rows.{Result}
use Rattle.causes.specs.Causes.{Answer, Done, Refused, Check, first_cause, is_done, number, numbered}
use Rattle.causes.proofs.Theory.Causes.Laws.{then-done, then-refused, first_done, later-done, first-passed, numbered-done}
use Rattle.tables.specs.declared.Store.{Store}
use Rattle.tables.specs.Store.{held, judgement}
use Rattle.query.specs.Reading.{formula}
use Rattle.answer.specs.Reply.{result_of, query_read}
use Rattle.standing.specs.declared.View.{View}
use Rattle.standing.specs.Change.{Change, joining, leaving, begin_checks, refusal, turn_checks, turn_reply, store_after, ready_checks, change_of}
use Rattle.standing.specs.View.{max_rows, rows_in, kept, suits}
use Rattle.standing.proofs.Theory.View.Difference.{only_in-fewer}
use Rattle.standing.proofs.Theory.View.Layout.{suited}
use Rattle.standing.specs.Checks.{Action, put, removal, view_checks, record_checks, is_over}
use Rattle.standing.proofs.Theory.Change.Stores.{after-judged}
use Rattle.standing.proofs.Theory.Change.Turn.{report-clear}
use Rattle.standing.specs.Code.Change.{maintained}

-- At most `max_rows` rows joined, and at most as many left.
abbrev pub FewTold : Change × (List ℕ × List ℕ) → Type 0
FewTold x = (x.0.joined ≤ max_rows) × (x.0.left ≤ max_rows)

-- The store after a call is in the layout and has the widths that it had; a refused call leaves it.
abbrev pub StoreKept : Store → Change × (List ℕ × List ℕ) → Type 0
StoreKept s x = (judgement x.0.store ≡ Done) × (x.0.store.widths ≡ s.widths) × (is_done x.0.answer ≡ false → x.0.store ≡ s)

-- The counts grow by the numbers told; a refusal tells none, and leaves them.
abbrev pub Grown : View → Change × (List ℕ × List ℕ) → Type 0
Grown v x = (x.0.view.opening ≡ v.opening) × (x.0.view.joined ≡ v.joined + x.0.joined) × (x.0.view.left ≡ v.left + x.0.left)

reply-grown : (a : Answer) (s t : Store) (v : View) (cols : List ℕ) (found : Result) (first second : List ℕ) → Grown v (turn_reply a s t v cols found first second)
reply-grown Done s t v cols found first second = (refl, refl, refl)
reply-grown (Refused n p) s t v cols found first second = (refl, omega arith, omega arith)

-- A reply tells the answer that it was made for.
answer-told : (a : Answer) (s t : Store) (v : View) (cols : List ℕ) (found : Result) (first second : List ℕ) → (turn_reply a s t v cols found first second).0.answer ≡ a
answer-told Done s t v cols found first second = refl
answer-told (Refused n p) s t v cols found first second = refl

-- So a refusal, whatever its cause, leaves the store, the list and both buffers.
refusal-told : (a : Answer) (s t : Store) (v : View) (cols : List ℕ) (found : Result) (first second : List ℕ) (n p : ℕ) → (turn_reply a s t v cols found first second).0.answer ≡ Refused n p → turn_reply a s t v cols found first second ≡ (refusal n p s v, (first, second))
refusal-told Done s t v cols found first second n p e = absurd (subst (λ a. T (is_done a)) e tt)
refusal-told (Refused m o) s t v cols found first second n p e = ap (λ a. turn_reply a s t v cols found first second) e

-- No check of a put or removal has the number 0.
all-numbered : (action : Action) (s : Store) (v : View) (bs : List ℕ) (cols : List ℕ) (found : Result) (a b : ℕ) → T (numbered (ready_checks s v bs ++ (record_checks action s.widths (held s) ++ turn_checks v cols found a b)))
all-numbered (put r) s v bs cols found a b = tt
all-numbered (removal r) s v bs cols found a b = tt

module _ (action : Action) (s : Store) (v : View) (bs : List ℕ) (first second : List ℕ) where
  -- The causes 13 to 16, and 17 to 19.
  abbrev record-causes : List Check
  record-causes = record_checks action s.widths (held s)

  abbrev turn-causes : List Check
  turn-causes = turn_checks v (columns (formula (query_read s bs))) (result_of (store_after action s) (query_read s bs)) (length first) (length second)

  -- The reply by the first cause met.
  change-by : (a : Answer) → first_cause (ready_checks s v bs ++ (record-causes ++ turn-causes)) ≡ a → change_of action s v bs first second ≡ turn_reply a s (store_after action s) v (columns (formula (query_read s bs))) (result_of (store_after action s) (query_read s bs)) first second
  change-by a e = ap (λ c. turn_reply c s (store_after action s) v (columns (formula (query_read s bs))) (result_of (store_after action s) (query_read s bs)) first second) e

  pub change-leaves : (n p : ℕ) → (change_of action s v bs first second).0.answer ≡ Refused n p → change_of action s v bs first second ≡ (refusal n p s v, (first, second))
  change-leaves =
      refusal-told (first_cause (ready_checks s v bs ++ (record-causes ++ turn-causes))) s (store_after action s) v (columns (formula (query_read s bs))) (result_of (store_after action s) (query_read s bs)) first second

  pub change-grown : Grown v (change_of action s v bs first second)
  change-grown =
      reply-grown (first_cause (ready_checks s v bs ++ (record-causes ++ turn-causes))) s (store_after action s) v (columns (formula (query_read s bs))) (result_of (store_after action s) (query_read s bs)) first second

  -- Whatever the list that it is given.
  pub change-store : judgement s ≡ Done → StoreKept s (change_of action s v bs first second)
  change-store judged = go (first_cause (ready_checks s v bs ++ (record-causes ++ turn-causes))) refl
    where
      go : (a : Answer) → first_cause (ready_checks s v bs ++ (record-causes ++ turn-causes)) ≡ a → StoreKept s (turn_reply a s (store_after action s) v (columns (formula (query_read s bs))) (result_of (store_after action s) (query_read s bs)) first second)
      go Done e = (
        after-judged s judged action (first_done record-causes turn-causes (later-done (ready_checks s v bs) (record-causes ++ turn-causes) e)),
        refl,
        λ f. absurd (true≢false f),
      )
      go (Refused n p) e = (judged, refl, λ f. refl)

  -- The number 0 means that the call was worked on.
  pub change-worked : number (change_of action s v bs first second).0.answer ≡ 0 → (change_of action s v bs first second).0.answer ≡ Done
  change-worked e =
      let cols : List ℕ = columns (formula (query_read s bs)) in
      let found : Result = result_of (store_after action s) (query_read s bs) in
      let told = answer-told (first_cause (ready_checks s v bs ++ (record-causes ++ turn-causes))) s (store_after action s) v cols found first second in
      told ∙ numbered-done (ready_checks s v bs ++ (record-causes ++ turn-causes)) (all-numbered action s v bs cols found (length first) (length second)) (sym (ap number told) ∙ e)

  -- One of the causes 1 to 10 or 12 is met.
  pub change-unready : (n p : ℕ) → first_cause (ready_checks s v bs) ≡ Refused n p → change_of action s v bs first second ≡ (refusal n p s v, (first, second))
  change-unready n p e = change-by (Refused n p) (then-refused (ready_checks s v bs) (record-causes ++ turn-causes) n p e)

  module _ (ready : first_cause (ready_checks s v bs) ≡ Done) where
    -- One of the causes 13 to 16 is met.
    pub change-refused : (n p : ℕ) → first_cause (record_checks action s.widths (held s)) ≡ Refused n p → change_of action s v bs first second ≡ (refusal n p s v, (first, second))
    change-refused n p e = change-by (Refused n p) (then-done (ready_checks s v bs) (record-causes ++ turn-causes) ready ∙ then-refused record-causes turn-causes n p e)

    -- None of them is: the causes 17 to 19 are left.
    pub change-maintained : first_cause (record_checks action s.widths (held s)) ≡ Done → change_of action s v bs first second ≡ maintained s (store_after action s) v (query_read s bs) first second
    change-maintained e = change-by (first_cause turn-causes) (then-done (ready_checks s v bs) (record-causes ++ turn-causes) ready ∙ then-done record-causes turn-causes e)

  -- ---- how many rows are told

  -- Where no cause is met, the rows held before and those found anew are at most `max_rows`; a list in memory has four column places.
  few_rows : length v.columns.variables ≡ 4 → first_cause (ready_checks s v bs ++ (record-causes ++ turn-causes)) ≡ Done → (length (rows_in v) ≤ max_rows) × (length (kept (result_of (store_after action s) (query_read s bs))) ≤ max_rows)
  few_rows places e =
      let cols : List ℕ = columns (formula (query_read s bs)) in
      let found : Result = result_of (store_after action s) (query_read s bs) in
      let j : ℕ = length (joining v found) in
      let m : ℕ = length (leaving v found) in
      let ready = first_done (ready_checks s v bs) (record-causes ++ turn-causes) e in
      let turned = later-done record-causes turn-causes (later-done (ready_checks s v bs) (record-causes ++ turn-causes) e) in
      let l = suited v cols places (first-passed 12 (suits v cols) [] (later-done (begin_checks s bs) (view_checks v cols) ready)).0 in (
        subst⁻¹ (λ n. n ≤ max_rows) l.count_is l.few_rows,
        ltb-false max_rows (length (kept found)) (report-clear (is_over (length (kept found))) (v.opening ∷ (v.joined + j) ∷ (v.left + m) ∷ []) (length cols) j m (length first) (length second) turned).0,
      )

  -- So at most `max_rows` rows join, and at most as many leave; a refusal tells none.
  pub few-told : length v.columns.variables ≡ 4 → FewTold (change_of action s v bs first second)
  few-told places = go (first_cause (ready_checks s v bs ++ (record-causes ++ turn-causes))) refl
    where
      go : (a : Answer) → first_cause (ready_checks s v bs ++ (record-causes ++ turn-causes)) ≡ a → FewTold (turn_reply a s (store_after action s) v (columns (formula (query_read s bs))) (result_of (store_after action s) (query_read s bs)) first second)
      go Done e =
          let f = few_rows places e in
          let found : Result = result_of (store_after action s) (query_read s bs) in
          let j = only_in-fewer (kept found) (rows_in v) in
          let l = only_in-fewer (rows_in v) (kept found) in
          (omega (arith, f.1, j), omega (arith, f.0, l))
      go (Refused n p) e = (omega arith, omega arith)
