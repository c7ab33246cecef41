-- Laws of a change's last part: the rows found anew, the causes 17 to 19, and the reply by the first of them that is met.
use Rattle.std.specs.Prelude.{ℕ, ◌+◌, ◌*◌, ◌-◌, ◌^◌, ◌≤◌, ◌<◌, ◌≡◌, refl, Bool, true, false, cond, ◌||◌, List, [], ◌∷◌, length, ltb}
use Rattle.std.proofs.Common.{arith, sym, ap, ◌∙◌, lt-ltb, le-ltb, ltb-false, leb-false, le-leb}
use Rattle.std.proofs.lemmas.Bool.{lt-leb}
use Rattle.calculus.specs.Sets.{any_of}
use Rattle.calculus.proofs.Theory.Sets.Laws.{in-nil}
use Rattle.calculus.proofs.Theory.Lists.Laws.{or-fails}
use Rattle.calculus.specs.Order.{Ascending, nothing}
use Rattle.calculus.specs.Generators.{columns}
use Rattle.calculus.proofs.Theory.SafeRange.Result.{fv-columns}
use Rattle.calculus.specs.Rows.{row_below, Result, endless, listed, Right, Width}
use Rattle.calculus.proofs.Theory.Evaluation.Laws.{result-right}
use Rattle.causes.specs.Causes.{Answer, Done, Refused, check, first_cause, when}
use Rattle.causes.proofs.Theory.Causes.Laws.{first-clear}
use Rattle.tables.specs.declared.Store.{Store}
use Rattle.tables.specs.Store.{facts}
use Rattle.query.specs.declared.Query.{Query}
use Rattle.query.specs.Reading.{pool, formula}
use Rattle.answer.specs.Reply.{result_of}
use Rattle.standing.specs.declared.View.{View}
use Rattle.standing.specs.Change.{Change, joining, leaving, turn_reply, refusal}
use Rattle.standing.specs.View.{max_rows, stored, kept, mark}
use Rattle.standing.specs.Checks.{is_over, is_past, report_checks}
use Rattle.standing.specs.Code.Change.{Current, current, maintained}

-- ---- what a query answers

module _ (s : Store) (q : Query) where
  right : Right (pool q) (facts s) (formula q) (columns (formula q)) (result_of s q)
  right = result-right (pool q) (facts s) (formula q) (columns (formula q)) (fv-columns (formula q))

  -- The rows of a result have a value for each column.
  pub result-wide : Width (length (columns (formula q))) (kept (result_of s q))
  result-wide = go (result_of s q) right
    where
      go : (a : Result) → Right (pool q) (facts s) (formula q) (columns (formula q)) a → Width (length (columns (formula q))) (kept a)
      go endless r w i = absurd (in-nil i)
      go (listed rows) r w i = ((r.1 w).0 i).0

  -- The rows of a result ascend.
  pub result-ascends : Ascending row_below (kept (result_of s q))
  result-ascends = go (result_of s q) right
    where
      go : (a : Result) → Right (pool q) (facts s) (formula q) (columns (formula q)) a → Ascending row_below (kept a)
      go endless r = nothing
      go (listed rows) r = r.0

-- ---- causes 17 to 19

within : (x : ℕ) → is_past x ≡ false → x < 2 ^ 64
within x e = leb-false (2 ^ 64) x e

-- Where none is met, rows and counts are within their limits, and the buffers have room.
pub report-clear : (over : Bool) (counts : List ℕ) (k n m a b : ℕ) → first_cause (report_checks over counts k n m a b) ≡ Done → (over ≡ false) × (any_of is_past counts ≡ false) × (n * k ≤ a) × (m * k ≤ b)
report-clear over counts k n m a b e =
    let f = first-clear 17 (over || any_of is_past counts) (check 18 (when (ltb a (n * k))) ∷ check 19 (when (ltb b (m * k))) ∷ []) e in
    let g = first-clear 18 (ltb a (n * k)) (check 19 (when (ltb b (m * k))) ∷ []) f.1 in
    let h = first-clear 19 (ltb b (m * k)) [] g.1 in
    let c = or-fails over (any_of is_past counts) f.0 in
    (c.0, c.1, ltb-false a (n * k) g.0, ltb-false b (m * k) h.0)

-- Rows joined and left, of k columns: to the counts x and y, n and m are added, and the buffers have the lengths a and b.
module _ (x y n m k a b : ℕ) where
  abbrev cause : Answer
  cause = first_cause (report_checks false ((x + n) ∷ (y + m) ∷ []) k n m a b)

  -- Where none is met, the counts are within 64 bits, and the buffers have room.
  pub report-done : cause ≡ Done → (x + n < 2 ^ 64) × (y + m < 2 ^ 64) × (n * k ≤ a) × (m * k ≤ b)
  report-done e =
      let f = report-clear false ((x + n) ∷ (y + m) ∷ []) k n m a b e in
      let c = or-fails (is_past (x + n)) (is_past (y + m) || false) f.1 in
      let d = or-fails (is_past (y + m)) false c.1 in
      (within (x + n) c.0, within (y + m) d.0, f.2, f.3)

-- ---- the rows found anew

-- What is found anew where the rows are over `max_rows`.
abbrev pub too_many : Current
too_many = record { over = true; endless = false; rows = stored [] }

-- What is found anew where the rows are at most `max_rows`.
abbrev pub all_kept : Result → Current
all_kept found = record { over = false; endless = mark found; rows = stored (kept found) }

-- What is found anew is one of these two, by the number of rows.
pub current-over : (found : Result) → max_rows < length (kept found) → current found ≡ too_many
current-over found h = ap (λ b. cond b too_many (all_kept found)) (lt-ltb max_rows (length (kept found)) h)

pub current-kept : (found : Result) → length (kept found) ≤ max_rows → current found ≡ all_kept found
current-kept found h = ap (λ b. cond b too_many (all_kept found)) (le-ltb max_rows (length (kept found)) h)

-- Which it is can be read off.
pub over-is : (found : Result) → (current found).over ≡ is_over (length (kept found))
over-is found = go (is_over (length (kept found)))
  where
    go : (b : Bool) → (cond b too_many (all_kept found)).over ≡ b
    go true = refl
    go false = refl

-- ---- the reply

module _ (s t : Store) (v : View) (q : Query) (first second : List ℕ) where
  abbrev found : Result
  found = result_of t q

  abbrev cols : List ℕ
  cols = columns (formula q)

  abbrev replied : Answer → Change × (List ℕ × List ℕ)
  replied a = turn_reply a s t v cols found first second

  -- Where the rows are at most `max_rows`, and the count of rows at opening is of 64 bits, as that of every list in memory, the other two counts and the buffers
  -- decide.
  pub maintained-by : is_over (length (kept found)) ≡ false → is_past v.opening ≡ false → (a : Answer) →
      a ≡ first_cause (report_checks false ((v.joined + length (joining v found)) ∷ (v.left + length (leaving v found)) ∷ []) (length cols) (length (joining v found)) (length (leaving v found)) (length first) (length second)) →
      maintained s t v q first second ≡ replied a
  maintained-by o p a e =
      let j : ℕ = length (joining v found) in
      let l : ℕ = length (leaving v found) in
      (λ i. replied (first_cause (check 17 (when (o i || (p i || any_of is_past ((v.joined + j) ∷ (v.left + l) ∷ [])))) ∷ check 18 (when (ltb (length first) (j * length cols))) ∷ check 19 (when (ltb (length second) (l * length cols))) ∷ [])))
      ∙ ap replied (sym e)

-- ---- laws that stand as they stood

-- The greatest count.
abbrev last : ℕ
last = 18446744073709551615

-- A count, and so many more: past what 64 bits hold, or not.
counted-past : (x n : ℕ) → last - x < n → is_past (x + n) ≡ true
counted-past x n h = le-leb (2 ^ 64) (x + n) (omega (arith, h))

counted : (x n : ℕ) → x < 2 ^ 64 → n ≤ last - x → is_past (x + n) ≡ false
counted x n l h = lt-leb (2 ^ 64) (x + n) (omega (arith, l, h))

-- The cause-of, by the tests of the two counts and of the two buffers.
abbrev cause_by : Bool → Bool → Bool → Bool → Answer
cause_by p q r s = first_cause (check 17 (when (p || (q || false))) ∷ check 18 (when r) ∷ check 19 (when s) ∷ [])

-- Rows joined and left, of k columns: to the counts x and y, n and m are added, and the buffers have the lengths a and b.
module _ (x y n m k a b : ℕ) where
  abbrev cause-of : Answer
  cause-of = first_cause (report_checks false ((x + n) ∷ (y + m) ∷ []) k n m a b)

  -- The tests in turn: too many rows joined or left for the counts,
  pub joined-past : last - x < n → cause-of ≡ Refused 17 0
  joined-past h = ap (λ t. cause_by t (is_past (y + m)) (ltb a (n * k)) (ltb b (m * k))) (counted-past x n h)

  module _ (fits : x < 2 ^ 64) (h : n ≤ last - x) where
    pub left-past : last - y < m → cause-of ≡ Refused 17 0
    left-past l i = cause_by (counted x n fits h i) (counted-past y m l i) (ltb a (n * k)) (ltb b (m * k))

    module _ (fits-too : y < 2 ^ 64) (l : m ≤ last - y) where
      -- A buffer is too short: causes 18 and 19.
      pub joined-exceed : a < n * k → cause-of ≡ Refused 18 0
      joined-exceed f i = cause_by (counted x n fits h i) (counted y m fits-too l i) (lt-ltb a (n * k) f i) (ltb b (m * k))

      module _ (f : n * k ≤ a) where
        pub left-exceed : b < m * k → cause-of ≡ Refused 19 0
        left-exceed g i = cause_by (counted x n fits h i) (counted y m fits-too l i) (le-ltb a (n * k) f i) (lt-ltb b (m * k) g i)

        pub none-met : m * k ≤ b → cause-of ≡ Done
        none-met g i = cause_by (counted x n fits h i) (counted y m fits-too l i) (le-ltb a (n * k) f i) (le-ltb b (m * k) g i)

module _ (s t : Store) (v : View) (q : Query) (first second : List ℕ) where
  abbrev found-now : Result
  found-now = result_of t q

  abbrev cols-now : List ℕ
  cols-now = columns (formula q)

  abbrev replied-as : Answer → Change × (List ℕ × List ℕ)
  replied-as a = turn_reply a s t v cols-now found-now first second

  -- The rows are over `max_rows`.
  pub maintained-over : is_over (length (kept found-now)) ≡ true → maintained s t v q first second ≡ (refusal 17 0 s v, (first, second))
  maintained-over e =
      let j : ℕ = length (joining v found-now) in
      let l : ℕ = length (leaving v found-now) in
      ap (λ b. replied-as (first_cause (report_checks b (v.opening ∷ (v.joined + j) ∷ (v.left + l) ∷ []) (length cols-now) j l (length first) (length second)))) e
