-- What the proofs of a change's last part use. The rows of an answer stand in a buffer as long as the places of a list, where they are not too many; rows in
-- their places are compared as the rows themselves; and so the reply is the one that `maintained` comes to.
use Prim.Native.Nat.{ℕ, ◌+◌, ◌*◌, ◌^◌, ◌≤◌, ◌<◌}
use native.Mathlib.Omega.{arith}
use native.Mathlib.Nat.{mul-le-mul}
use mathlib.Core.Path.{◌≡◌, refl, sym, ap, subst, subst⁻¹, ◌∙◌}
use mathlib.Core.Logic.{◌⊎◌, inl, inr}
use mathlib.Core.Bool.{Bool, true, false}
use mathlib.Core.List.{List, [], ◌∷◌, map}
use lib.ListN.{length, take, drop, replicate, length-replicate}
use lib.Dec.{T}
use borrow.Author.Tests.{ltb-false, lt-leb}
use Rattle.calculus.specs.Reflects.{Reflects, holds, fails}
use Rattle.calculus.proofs.Theory.Reflects.Laws.{reflects-ltb}
use Rattle.calculus.specs.Lists.{padded}
use Rattle.calculus.specs.Order.{Ascending}
use Rattle.calculus.specs.Generators.{columns}
use Rattle.calculus.specs.Rows.{Row, row_below, Result, endless, listed, only_in, numbers, Width}
use Rattle.causes.specs.Causes.{Answer, Done, Refused, check, first_cause, when, is_done}
use Rattle.tables.specs.declared.Store.{Store}
use Rattle.query.specs.declared.Query.{Query}
use Rattle.query.specs.declared.Columns.{Columns}
use Rattle.query.specs.Reading.{formula}
use Rattle.std.specs.Prelude.{Some}
use Rattle.answer.specs.declared.Found.{Found as Told}
use Rattle.answer.specs.Reply.{Found, result_of, exceeds, found_reply}
use Rattle.answer.specs.Code.Listing.{cut}
use Rattle.answer.proofs.Theory.Code.Listing.Cut.{length_cut, cut-numbers}
use Rattle.answer.specs.Code.Reply.{Answerable, evaluated}
use Rattle.standing.specs.declared.Rows.{Rows}
use Rattle.standing.specs.declared.View.{View}
use Rattle.standing.specs.Change.{Change, joining, leaving, fronted, refusal, turn_reply}
use Rattle.standing.specs.View.{max_rows, held_rows, stored, rows_in, kept, mark}
use Rattle.standing.specs.Code.View.{rows_with, InOrder}
use Rattle.standing.proofs.Theory.View.Laws.{stored-none, held-rows-stored, rows_stored, stored-padded}
use Rattle.standing.proofs.Theory.View.Difference.{padded-ascending, only-in-padded, only_in-width, only_in-fewer}
use Rattle.standing.proofs.Theory.View.Layout.{Layout, suited}
use Rattle.standing.specs.Checks.{is_over, report_checks}
use Rattle.standing.specs.Code.Change.{Current, kept_of, told, current, Suits, maintained}
use Rattle.standing.proofs.Theory.Change.Turn.{result-wide, result-ascends, report-done, too_many, all_kept, current-over, current-kept, over-is, maintained-by}

-- ---- at most `max_rows` rows of at most four columns

-- They are few numbers.
pub few-numbers : (n k : ℕ) → n ≤ max_rows → k ≤ 4 → n * k ≤ 4 * max_rows
few-numbers n k h l = mul-le-mul h l

-- More numbers are more rows.
many-rows : (n k : ℕ) → k ≤ 4 → 4 * max_rows < n * k → max_rows < n
many-rows n k l h = let p : n * k ≤ n * 4 = mul-le-mul (omega arith) l in omega (arith, h, p)

-- ---- the rows found anew

-- An answer isn't Done and a refusal.
never_both : {a : Answer} {n p : ℕ} → a ≡ Refused n p → a ≡ Done → ⊥
never_both e d = subst (λ b. T (is_done b)) e (subst⁻¹ (λ b. T (is_done b)) d tt)

-- All rows of k columns are told.
abbrev AllTold : ℕ → Result → Found × List ℕ → Type 0
AllTold k found r = (r.0.rows ≡ length (kept found)) × (r.0.endless ≡ mark found) × (cut k r.0.rows r.1 ≡ kept found)

-- They are refused, being too many, or told.
abbrev Outcome : ℕ → Result → Found × List ℕ → Type 0
Outcome k found r = ((r.0.answer ≡ Refused 18 0) × (max_rows < length (kept found))) ⊎ ((r.0.answer ≡ Done) × AllTold k found r)

-- So it is in a buffer as long as the places of a list.
outcome : (k : ℕ) → k ≤ 4 → (buffer : List ℕ) → length buffer ≡ 4 * max_rows → (found : Result) → Width k (kept found) → Outcome k found (found_reply (first_cause (check 18 (when (exceeds (length buffer) k found)) ∷ [])) found buffer)
outcome k few buffer room endless wide = inr (refl, (refl, refl, refl))
outcome k few buffer room (listed rows) wide = go (reflects-ltb (length buffer) (length rows * k))
  where
    go : {b : Bool} → Reflects (length buffer < length rows * k) b → Outcome k (listed rows) (found_reply (first_cause (check 18 (when b) ∷ [])) (listed rows) buffer)
    go (holds h) = inl (refl, many-rows (length rows) k few (omega (arith, h, room)))
    go (fails n) = inr (refl, (refl, refl, cut-numbers k rows (drop (length (numbers rows)) buffer) wide))

-- Where they are too many, the places are left zero.
pub places-left : {values : List ℕ} → values ≡ replicate (4 * max_rows) 0 → ◌≡◌ {A = Current} (record { over = true; endless = false; rows = rows_with values 0 }) too_many
places-left e = ap (λ vs. record { over = true; endless = false; rows = rows_with vs 0 }) (e ∙ sym stored-none)

-- An accepted query has at most four columns.
pub few_columns : {s : Store} {q : Query} {cs : Columns} → Answerable s q cs → cs.count ≤ 4
few_columns h = subst⁻¹ (λ c. c.count ≤ 4) h.columns_are h.accepted.packable.few_columns

-- The reply f to it, and the buffer after it.
module _ {s : Store} {q : Query} {cs : Columns} (h : Answerable s q cs) (f : Found) (after : List ℕ) (e : (f, after) ≡ evaluated s q (replicate (4 * max_rows) 0)) where
  abbrev found : Result
  found = result_of s q

  abbrev k : ℕ
  k = length (columns (formula q))

  reply : Outcome k found (f, after)
  reply = subst⁻¹ (Outcome k found) e (outcome k h.accepted.packable.few_columns (replicate (4 * max_rows) 0) (length-replicate {A = ℕ} (4 * max_rows) 0) found (result-wide s q))

  -- Refused: they are too many.
  pub find-refused : (n p : ℕ) → f.answer ≡ Refused n p → current found ≡ too_many
  find-refused n p r = go reply
    where
      go : Outcome k found (f, after) → current found ≡ too_many
      go (inl o) = current-over found o.1
      go (inr o) = absurd (never_both r o.0)

  module _ (d : f.answer ≡ Done) where
    all_told : AllTold k found (f, after)
    all_told = go reply
      where
        go : Outcome k found (f, after) → AllTold k found (f, after)
        go (inl o) = absurd (never_both o.0 d)
        go (inr o) = o.1

    -- Told, and yet too many.
    pub find-over : max_rows < f.rows → current found ≡ too_many
    find-over l = current-over found (subst (λ n. max_rows < n) all_told.0 l)

    -- Told: they stand one after the other in the buffer,
    stands-in-buffer : f.rows ≤ max_rows → current found ≡ record { over = false; endless = f.endless; rows = stored (cut cs.count f.rows after) }
    stands-in-buffer l =
        let t = all_told in
        current-kept found (subst (λ n. n ≤ max_rows) t.0 l)
        ∙ (λ i. record { over = false; endless = sym t.1 i; rows = stored (sym t.2 i) })
        ∙ ap (λ c. record { over = false; endless = f.endless; rows = stored (cut c.count f.rows after) }) (sym h.columns_are)

    -- and are spread over the places.
    pub find-kept : {values : List ℕ} → f.rows ≤ max_rows → values ≡ (stored (cut cs.count f.rows after)).values → ◌≡◌ {A = Current} (record { over = false; endless = f.endless; rows = rows_with values f.rows }) (current found)
    find-kept l e =
        (λ i. record { over = false; endless = f.endless; rows = rows_with (e i) (sym (length_cut cs.count f.rows after) i) })
        ∙ sym (stands-in-buffer l)

-- ---- the rows of one list only, as they stand in their places

-- At most `max_rows` rows xs of k values, and others.
module _ (k : ℕ) (few : k ≤ 4) (xs ys : List Row) (h : length xs ≤ max_rows) (wide : Width k xs) where
  some-fewer : length (only_in xs ys) ≤ max_rows
  some-fewer = omega (arith, h, only_in-fewer xs ys)

  -- Found in their places, filled up with zeros.
  compared : Width k ys → {us vs : List Row} → us ≡ map (padded 4 0) xs → vs ≡ map (padded 4 0) ys → stored (only_in us vs) ≡ stored (only_in xs ys)
  compared w p q =
      (λ i. stored (only_in (p i) (q i)))
      ∙ ap stored (only-in-padded k xs ys wide w)
      ∙ stored-padded k few (only_in xs ys) some-fewer (only_in-width k xs ys wide)

  -- Written out.
  written : (out : List ℕ) → fronted (map (take k) (held_rows (stored (only_in xs ys)))) out ≡ fronted (only_in xs ys) out
  written out = ap (λ rows. fronted rows out) (rows_stored k few (only_in xs ys) some-fewer (only_in-width k xs ys wide))

-- ---- a change to the store t, for the list v

-- The rows were found anew, and are not too many.
pub record Renewed (t : Store) (v : View) (q : Query) (cs : Columns) (new : Current) : Type 0 where
  pub answerable : Answerable t q cs
  pub suiting : Suits v q
  pub places : length v.columns.variables ≡ 4
  pub opened : v.opening < 2 ^ 64
  pub new_is : new ≡ current (result_of t q)
  pub not_over : new.over ≡ false

-- They were, where `find` told them: k is the mark and their number.
pub renews : {t : Store} {q : Query} {cs : Columns} {k : Bool × ℕ} {values : List ℕ} (v : View) (f : Told) → Answerable t q cs → Suits v q → length v.columns.variables ≡ 4 → v.opening < 2 ^ 64
    → k ≡ kept_of f → told (Some f) values ≡ current (result_of t q) → Renewed t v q cs (record { over = false; endless = k.0; rows = rows_with values k.1 })
renews {values} v f a s p o e n =
    record {
      answerable = a;
      suiting = s;
      places = p;
      opened = o;
      new_is = (λ i. record { over = false; endless = (e i).0; rows = rows_with values (e i).1 }) ∙ n;
      not_over = refl;
    }

module _ {t : Store} {v : View} {q : Query} {cs : Columns} {new : Current} (r : Renewed t v q cs new) where
  abbrev answered : Result
  answered = result_of t q

  abbrev width : ℕ
  width = length (columns (formula q))

  -- What is known of both lists.
  few : width ≤ 4
  few = r.answerable.accepted.packable.few_columns

  layout : Layout v (columns (formula q))
  layout = suited v (columns (formula q)) r.places r.suiting

  under : is_over (length (kept answered)) ≡ false
  under = sym (over-is answered) ∙ ap (λ c. c.over) (sym r.new_is) ∙ r.not_over

  few-new : length (kept answered) ≤ max_rows
  few-new = ltb-false max_rows (length (kept answered)) under

  few-old : length (rows_in v) ≤ max_rows
  few-old = subst⁻¹ (λ n. n ≤ max_rows) layout.count_is layout.few_rows

  new-kept : new ≡ all_kept answered
  new-kept = r.new_is ∙ current-kept answered few-new

  new-held-rows : held_rows new.rows ≡ map (padded 4 0) (kept answered)
  new-held-rows = ap (λ c. held_rows c.rows) new-kept ∙ held-rows-stored width few (kept answered) few-new (result-wide t q)

  -- Both lists are in order.
  pub new-in-order : InOrder new.rows
  new-in-order = (
    subst⁻¹ (λ c. c.rows.count ≤ max_rows) new-kept few-new,
    subst⁻¹ (Ascending row_below) new-held-rows (padded-ascending width (result-wide t q) (result-ascends t q)),
  )

  pub old-in-order : InOrder v.rows
  old-in-order = (layout.few_rows, subst⁻¹ (Ascending row_below) layout.held_rows_are (padded-ascending width layout.wide layout.ascending))

  -- The reply with these columns, rows found, and rows that joined and left.
  abbrev turned : Columns → Current → Rows → Rows → Change
  turned c w p g =
      record {
        answer = Done;
        joined = p.count;
        left = g.count;
        store = t;
        view = record { columns = c; rows = w.rows; endless = w.endless; opening = v.opening; joined = v.joined + p.count; left = v.left + g.count };
      }

  -- The rows that joined and left, in their places.
  module _ {added gone : Rows} (p : added ≡ stored (only_in (held_rows new.rows) (held_rows v.rows))) (g : gone ≡ stored (only_in (held_rows v.rows) (held_rows new.rows))) where
    added_is : added ≡ stored (joining v answered)
    added_is = p ∙ compared width few (kept answered) (rows_in v) few-new (result-wide t q) layout.wide new-held-rows layout.held_rows_are

    gone-is : gone ≡ stored (leaving v answered)
    gone-is = g ∙ compared width few (rows_in v) (kept answered) few-old layout.wide (result-wide t q) layout.held_rows_are new-held-rows

    -- They are at most `max_rows`.
    pub few-added : added.count ≤ max_rows
    few-added = subst⁻¹ (λ c. c.count ≤ max_rows) added_is (some-fewer width few (kept answered) (rows_in v) few-new (result-wide t q))

    pub few-gone : gone.count ≤ max_rows
    few-gone = subst⁻¹ (λ c. c.count ≤ max_rows) gone-is (some-fewer width few (rows_in v) (kept answered) few-old layout.wide)

    -- Written out.
    joined-written : (out : List ℕ) → fronted (map (take cs.count) (held_rows added)) out ≡ fronted (joining v answered) out
    joined-written out = (λ i. fronted (map (take (r.answerable.columns_are i).count) (held_rows (added_is i))) out) ∙ written width few (kept answered) (rows_in v) few-new (result-wide t q) out

    left-written : (out : List ℕ) → fronted (map (take cs.count) (held_rows gone)) out ≡ fronted (leaving v answered) out
    left-written out = (λ i. fronted (map (take (r.answerable.columns_are i).count) (held_rows (gone-is i))) out) ∙ written width few (rows_in v) (kept answered) few-old layout.wide out

    -- The reply, by the first of the causes 17 to 19.
    module _ (s : Store) (first second : List ℕ) (a : Answer) (e : a ≡ first_cause (report_checks false ((v.joined + added.count) ∷ (v.left + gone.count) ∷ []) cs.count added.count gone.count (length first) (length second))) where
      replied : (b : Answer) → a ≡ b → maintained s t v q first second ≡ turn_reply b s t v (columns (formula q)) answered first second
      replied b d =
          maintained-by s t v q first second under (lt-leb (2 ^ 64) v.opening r.opened) b
          (sym d ∙ e ∙ (λ i. let n : ℕ = (added_is i).count in let m : ℕ = (gone-is i).count in
          first_cause (report_checks false ((v.joined + n) ∷ (v.left + m) ∷ []) (r.answerable.columns_are i).count n m (length first) (length second))))

      -- One is met.
      pub turn-refused : (n p : ℕ) → a ≡ Refused n p → (refusal n p s v, (first, second)) ≡ maintained s t v q first second
      turn-refused n p d = sym (replied (Refused n p) d)

      -- None is met.
      module _ (d : a ≡ Done) where
        -- The counts and the buffers have room.
        pub turn-fits : (v.joined + added.count < 2 ^ 64) × (v.left + gone.count < 2 ^ 64) × (added.count * cs.count ≤ length first) × (gone.count * cs.count ≤ length second)
        turn-fits = report-done v.joined v.left added.count gone.count cs.count (length first) (length second) (sym e ∙ d)

        -- The rows are written, and the list holds those found.
        pub turn-done : {first-after second-after : List ℕ} →
            first-after ≡ fronted (map (take cs.count) (held_rows added)) first →
            second-after ≡ fronted (map (take cs.count) (held_rows gone)) second →
            (turned cs new added gone, (first-after, second-after)) ≡ maintained s t v q first second
        turn-done x y =
            (λ i. (turned (r.answerable.columns_are i) (new-kept i) (added_is i) (gone-is i), ((x ∙ joined-written first) i, (y ∙ left-written second) i)))
            ∙ sym (replied Done d)
