-- There is exactly one ledger: one account at every opening, and one report and one ledger after every call of a list that is open. And its counts add up.
-- What is found is what the executable answers say, and what is judged is what the engine's checks say (Ledger/Ties.antt): where records and rows ascend, the
-- report of a call and the ledger after it are a function of the ledger before it.
use Rattle.std.specs.Prelude.{ℕ, ◌+◌, ◌<◌, ◌≡◌, refl, Bool, true, false, List, [], ◌∷◌, ◌++◌, map, length, T}
use Rattle.std.proofs.Common.{arith, sym, ap, subst, subst₂, ◌∙◌}
use Rattle.std.proofs.Math.Path.{subst⁻¹}
use Rattle.std.proofs.Math.Logic.Iff
use Rattle.std.proofs.Math.Option.{some}
use Rattle.calculus.specs.Order.{Ascending, nothing}
use Rattle.calculus.proofs.Theory.Order.Laws.{ascending-unique}
use Rattle.calculus.proofs.Theory.SafeRange.Result.{fv-columns}
use Rattle.calculus.specs.Generators.{columns}
use Rattle.calculus.specs.Rows.{Row, row_below, Result, endless, listed, Right, only_in}
use Rattle.calculus.proofs.Theory.Rows.Laws.{change-counts}
use Rattle.calculus.specs.Evaluation.{query_result}
use Rattle.calculus.proofs.Theory.Evaluation.Laws.{result-right, right_unique}
use Rattle.causes.specs.Causes.{Answer as Outcome, Done, Refused, Check, first_cause, number, place, numbered, Judged}
use Rattle.causes.proofs.Theory.Causes.Laws.{then-done, then-refused, numbered-refused}
use Rattle.tables.specs.declared.Record.{Record}
use Rattle.tables.specs.declared.Store.{Store}
use Rattle.tables.specs.Records.{record_below, fact_of}
use Rattle.tables.proofs.Theory.Records.Laws.{record-order}
use Rattle.query.specs.declared.Query.{Query}
use Rattle.query.specs.Reading.{pool, formula, read_of}
use Rattle.standing.specs.Families.{with_list, Every}
use Rattle.standing.proofs.Theory.Families.Laws.{one_list, every-none, every-with}
use Rattle.standing.specs.View.{kept, mark}
use Rattle.standing.specs.Checks.{Action, put, removal, record_checks, records_after, is_over, report_checks}
use Rattle.standing.specs.Ledger.{Account, Ledger, Call, Step, opening, call, Report, Found, Begins, Opens, RecordCause, ReportCause, Difference, Renews, refuses, reports, keeping, Enters, refused, withdrawn, accepted, Accounts, closed, opens, enter}
use Rattle.standing.proofs.Theory.Ledger.Ties.{record-judged, report-judged, after-ascends, after-members, difference-unique, only_in-difference, difference-is}

-- Rows at opening plus joined are left plus rows held, and these ascend.
pub record Balanced (a : Account) : Type 0 where
  pub ascending : Ascending row_below a.rows
  pub counts : a.opening + a.joined ≡ a.left + length a.rows

-- No number above 0 is 0.
never : {A : Type 0} {x : ℕ} → 0 < x → x ≡ 0 → A
never h e = absurd (omega arith)

-- ---- what is found

module _ (q : Query) where
  -- What the query answers over records of these widths.
  abbrev pub result-among : List ℕ → List Record → Result
  result-among ws rs = query_result (pool q) (map (fact_of ws) rs) (formula q) (columns (formula q))

  module _ (ws : List ℕ) (rs : List Record) where
    abbrev pub RightAmong : Result → Type 0
    RightAmong a = Right (pool q) (map (fact_of ws) rs) (formula q) (columns (formula q)) a

    pub right-among : RightAmong (result-among ws rs)
    right-among = result-right (pool q) (map (fact_of ws) rs) (formula q) (columns (formula q)) (fv-columns (formula q))

    -- Right answers are found,
    found_right : (a : Result) → RightAmong a → Found q ws rs (mark a) (kept a)
    found_right endless r = (r, refl)
    found_right (listed rows) r = r

    pub found_among : Found q ws rs (mark (result-among ws rs)) (kept (result-among ws rs))
    found_among = found_right (result-among ws rs) right-among

    -- The right answers are what is found.
    unique-among : (a : Result) → RightAmong a → a ≡ result-among ws rs
    unique-among a r = right_unique (pool q) (map (fact_of ws) rs) (formula q) (columns (formula q)) a (result-among ws rs) r right-among

    pub found-is : (b : Bool) (rows : List Row) → Found q ws rs b rows → (b ≡ mark (result-among ws rs)) × (rows ≡ kept (result-among ws rs))
    found-is true rows f = let e = unique-among endless f.0 in (ap mark e, f.1 ∙ ap kept e)
    found-is false rows f = let e = unique-among (listed rows) f in (ap mark e, ap kept e)

    pub found-ascending : (b : Bool) (rows : List Row) → Found q ws rs b rows → Ascending row_below rows
    found-ascending true rows f = subst⁻¹ (Ascending row_below) f.1 nothing
    found-ascending false rows f = f.0

-- ---- it is unique

-- There is one before the first opening.
pub begins-unique : (s : Store) (l m : Ledger) → Begins s l → Begins s m → l ≡ m
begins-unique s l m a b =
    λ i. record {
      widths = (a.widths_are ∙ sym b.widths_are) i;
      records = (a.records_are ∙ sym b.records_are) i;
      lists = (a.lists_are ∙ sym b.lists_are) i;
    }

-- The account of an opening.
abbrev pub opening_account : Query → List ℕ → List Record → Account
opening_account q ws rs =
    let found : Result = result-among q ws rs in
    record { query = q; rows = kept found; endless = mark found; opening = length (kept found); joined = 0; left = 0 }

module _ (q : Query) (l : Ledger) where
  pub opens-is : (a : Account) → Opens q l a → a ≡ opening_account q l.widths l.records
  opens-is a o =
      let found = found-is q l.widths l.records a.endless a.rows o.found in
      λ i. record {
        query = o.query_is i;
        rows = found.1 i;
        endless = found.0 i;
        opening = (o.opening_is ∙ ap length found.1) i;
        joined = o.joined_is i;
        left = o.left_is i;
      }

  pub opens-unique : (a b : Account) → Opens q l a → Opens q l b → a ≡ b
  opens-unique a b o p = opens-is a o ∙ sym (opens-is b p)

  pub opening-opens : Opens q l (opening_account q l.widths l.records)
  opening-opens = record { query_is = refl; found = found_among q l.widths l.records; opening_is = refl; joined_is = refl; left_is = refl }

  pub ledger-opens : (a : Account) × Opens q l a
  ledger-opens = (opening_account q l.widths l.records, opening-opens)

module _ (l : Ledger) (a : Account) (c : Call) where
  -- Two renewals by one call have the same records, so they find the same.
  module _ {joined left others gone : List Row} {rs us : List Record} {b d : Account} (x : Renews l a c joined left rs b) (y : Renews l a c others gone us d) where
    renews-records : rs ≡ us
    renews-records = ascending-unique record_below record-order x.records_ascend y.records_ascend (λ r. Iff.trans (x.records_are r) (Iff.symm (y.records_are r)))

    same-found : (b.endless ≡ d.endless) × (b.rows ≡ d.rows)
    same-found =
        let f = found-is a.query l.widths rs b.endless b.rows x.found in
        let g = found-is a.query l.widths us d.endless d.rows y.found in
        let e : result-among a.query l.widths rs ≡ result-among a.query l.widths us = ap (result-among a.query l.widths) renews-records in
        (f.0 ∙ ap mark e ∙ sym g.0, f.1 ∙ ap kept e ∙ sym g.1)

    renews-joined : joined ≡ others
    renews-joined = difference-unique d.rows a.rows (subst (λ rows. Difference rows a.rows joined) same-found.1 x.joined_rows) y.joined_rows

    renews-left : left ≡ gone
    renews-left = difference-unique a.rows d.rows (subst (λ rows. Difference a.rows rows left) same-found.1 x.left_rows) y.left_rows

    renews-unique : b ≡ d
    renews-unique =
        λ i. record {
          query = (x.query_is ∙ sym y.query_is) i;
          rows = same-found.1 i;
          endless = same-found.0 i;
          opening = (x.opening_is ∙ sym y.opening_is) i;
          joined = (x.joined_is ∙ ap (λ rows. a.joined + length rows) renews-joined ∙ sym y.joined_is) i;
          left = (x.left_is ∙ ap (λ rows. a.left + length rows) renews-left ∙ sym y.left_is) i;
        }

  -- One first cause is met by the record,
  same-record-cause : {x y : ℕ} → RecordCause l c.action x → RecordCause l c.action y → x ≡ y
  same-record-cause {x} {y} u v = let j = record-judged l c.action in (j.number_is x).0 u ∙ sym ((j.number_is y).0 v)

  -- The renewed account meets one first cause.
  same-report-cause : {joined left others gone : List Row} {rs us : List Record} {b d : Account} {x y : ℕ} → Renews l a c joined left rs b → Renews l a c others gone us d → ReportCause b joined left c x → ReportCause d others gone c y → x ≡ y
  same-report-cause {joined} {left} {others} {gone} {rs} {us} {b} {d} {x} {y} m n u v =
      let j = report-judged d others gone c in
      let w = subst₂ (λ js ls. ReportCause d js ls c x) (renews-joined m n) (renews-left m n) (subst (λ o. ReportCause o joined left c x) (renews-unique m n) u) in
      (j.number_is x).0 w ∙ sym ((j.number_is y).0 v)

-- A call has one answer, and one ledger after it.
pub enters-unique : {l : Ledger} {i : ℕ} {a : Account} {c : Call} {n m : Ledger} {r u : Report} → Enters l i a c r n → Enters l i a c u m → (r ≡ u) × (n ≡ m)
enters-unique {l} {a = a} {c = c} (refused h x) (refused g y) = (ap refuses (same-record-cause l a c x y), refl)
enters-unique {l} {a = a} {c = c} (refused h x) (withdrawn y w g v) = never h (same-record-cause l a c x y)
enters-unique {l} {a = a} {c = c} (refused h x) (accepted y w v) = never h (same-record-cause l a c x y)
enters-unique {l} {a = a} {c = c} (withdrawn x z h u) (refused g y) = never g (same-record-cause l a c y x)
enters-unique {l} {a = a} {c = c} (withdrawn x z h u) (withdrawn y w g v) = (ap refuses (same-report-cause l a c z w u v), refl)
enters-unique {l} {a = a} {c = c} (withdrawn x z h u) (accepted y w v) = never h (same-report-cause l a c z w u v)
enters-unique {l} {a = a} {c = c} (accepted x z u) (refused g y) = never g (same-record-cause l a c y x)
enters-unique {l} {a = a} {c = c} (accepted x z u) (withdrawn y w g v) = never g (same-report-cause l a c w z v u)
enters-unique {l} {i = i} {a = a} {c = c} (accepted x z u) (accepted y w v) = (
  λ j. reports (renews-joined l a c z w j) (renews-left l a c z w j),
  λ j. keeping l (renews-records l a c z w j) i (renews-unique l a c z w j),
)

pub accounts-unique : (l : Ledger) (ss : List Step) (rs us : List Report) (n o : Ledger) → Accounts l ss rs n → Accounts l ss us o → (rs ≡ us) × (n ≡ o)
accounts-unique l [] rs us n o closed closed = (refl, refl)
accounts-unique l (opening i bs ∷ ss) rs us n o (opens {a = a} x f) (opens {a = b} y g) =
    let same = opens-unique (read_of l.widths bs).query l a b x y in
    accounts-unique (keeping l l.records i a) ss rs us n o f (subst⁻¹ (λ d. Accounts (keeping l l.records i d) ss us o) same g)
accounts-unique l (call i c ∷ ss) rs us n o (enter {m = m} {a = a} {r = r} {rs = rs'} e x f) (enter {m = p} {a = b} {r = u} {rs = us'} h y g) =
    let one = enters-unique x (subst⁻¹ (λ d. Enters l i d c u p) (one_list l.lists i e h) y) in
    let rest = accounts-unique m ss rs' us' n o f (subst⁻¹ (λ d. Accounts d ss us' o) one.1 g) in
    (λ j. one.0 j ∷ rest.0 j, rest.1)

-- ---- the ledger after a call, as a function

-- The account with these rows and mark found anew.
abbrev pub renewed : Account → Bool → List Row → Account
renewed a mark rows =
    record {
      query = a.query;
      rows = rows;
      endless = mark;
      opening = a.opening;
      joined = a.joined + length (only_in rows a.rows);
      left = a.left + length (only_in a.rows rows);
    }

-- The report and the ledger by the first cause met, where the call makes these records and the account b of a.
abbrev pub entered : Outcome → Ledger → ℕ → Account → List Record → Account → Report × Ledger
entered Done l i a records b = (reports (only_in b.rows a.rows) (only_in a.rows b.rows), keeping l records i b)
entered (Refused x p) l i a records b = (record { number = x; place = p; joined = []; left = [] }, l)

-- The engine's checks of the record, 13 to 16, and of what the account would come to, 17 to 19.
abbrev record_tests : Ledger → Call → List Check
record_tests l c = record_checks c.action l.widths l.records

abbrev report_tests : Account → Account → Call → List Check
report_tests a b c =
    report_checks
    (is_over (length b.rows))
    (b.opening ∷ b.joined ∷ b.left ∷ [])
    (length (columns (formula b.query)))
    (length (only_in b.rows a.rows))
    (length (only_in a.rows b.rows))
    (length c.first)
    (length c.second)

-- What a call answers, and the ledger after it, where these answers are found anew.
abbrev pub entry_by : Ledger → ℕ → Account → Call → Result → Report × Ledger
entry_by l i a c found =
    let b : Account = renewed a (mark found) (kept found) in
    entered (first_cause (record_tests l c ++ report_tests a b c)) l i a (records_after c.action l.records) b

abbrev pub entry : Ledger → ℕ → Account → Call → Report × Ledger
entry l i a c = entry_by l i a c (result-among a.query l.widths (records_after c.action l.records))

-- ---- it exists, where records and rows ascend

module _ (l : Ledger) (i : ℕ) (a : Account) (c : Call) (records_ascend : Ascending record_below l.records) (rows-ascend : Ascending row_below a.rows) where
  abbrev records : List Record
  records = records_after c.action l.records

  abbrev found : Result
  found = result-among a.query l.widths records

  abbrev next : Account
  next = renewed a (mark found) (kept found)

  next-found : Found a.query l.widths records next.endless next.rows
  next-found = found_among a.query l.widths records

  next-renews : Renews l a c (only_in next.rows a.rows) (only_in a.rows next.rows) records next
  next-renews =
      record {
        records_ascend = after-ascends c.action records_ascend;
        records_are = after-members c.action l.records;
        query_is = refl;
        found = next-found;
        joined_rows = only_in-difference a.rows (found-ascending a.query l.widths records next.endless next.rows next-found);
        left_rows = only_in-difference next.rows rows-ascend;
        opening_is = refl;
        joined_is = refl;
        left_is = refl;
      }

  -- The call enters with the first cause that the checks meet: of the record, or of the renewed account.
  abbrev EntersBy : Outcome → Type 0
  EntersBy o = Enters l i a c (entered o l i a records next).0 (entered o l i a records next).1

  at-no-place : {x p : ℕ} → p ≡ 0 → Enters l i a c (refuses x) l → EntersBy (Refused x p)
  at-no-place {x} e w = subst⁻¹ (λ o. EntersBy (Refused x o)) e w

  record-tests-judged : Judged (RecordCause l c.action) (record_tests l c)
  record-tests-judged = record-judged l c.action

  record-tests-numbered : (action : Action) → T (numbered (record_checks action l.widths l.records))
  record-tests-numbered (put t) = tt
  record-tests-numbered (removal t) = tt

  report-tests-judged : Judged (ReportCause next (only_in next.rows a.rows) (only_in a.rows next.rows) c) (report_tests a next c)
  report-tests-judged = report-judged next (only_in next.rows a.rows) (only_in a.rows next.rows) c

  by-record : (x p : ℕ) → first_cause (record_tests l c) ≡ Refused x p → EntersBy (Refused x p)
  by-record x p e =
      at-no-place (sym (ap place e) ∙ record-tests-judged.place_is)
      (refused (numbered-refused (record_tests l c) (record-tests-numbered c.action) x p e) ((record-tests-judged.number_is x).1 (sym (ap number e))))

  by-report : RecordCause l c.action 0 → (o : Outcome) → first_cause (report_tests a next c) ≡ o → EntersBy o
  by-report d Done e = accepted d next-renews ((report-tests-judged.number_is 0).1 (sym (ap number e)))
  by-report d (Refused x p) e =
      at-no-place (sym (ap place e) ∙ report-tests-judged.place_is)
      (withdrawn d next-renews (numbered-refused (report_tests a next c) tt x p e) ((report-tests-judged.number_is x).1 (sym (ap number e))))

  by_both : (o : Outcome) → first_cause (record_tests l c) ≡ o → EntersBy (first_cause (record_tests l c ++ report_tests a next c))
  by_both Done e =
      subst⁻¹ EntersBy (then-done (record_tests l c) (report_tests a next c) e)
      (by-report ((record-tests-judged.number_is 0).1 (sym (ap number e))) (first_cause (report_tests a next c)) refl)
  by_both (Refused x p) e = subst⁻¹ EntersBy (then-refused (record_tests l c) (report_tests a next c) x p e) (by-record x p e)

  pub entry-enters : Enters l i a c (entry l i a c).0 (entry l i a c).1
  entry-enters = by_both (first_cause (record_tests l c)) refl

  pub ledger_enters : (r : Report) × (n : Ledger) × Enters l i a c r n
  ledger_enters = ((entry l i a c).0, (entry l i a c).1, entry-enters)

  -- Every entry is the one found.
  pub enters_is : {r : Report} {n : Ledger} → Enters l i a c r n → (r, n) ≡ entry l i a c
  enters_is e = let s = enters-unique e entry-enters in λ j. (s.0 j, s.1 j)

-- ---- its reports

-- The rows of an account of the ledger after a call, and of the one before: a call that is answered with the number 0 reports what they differ in.
pub enters-reports : {l : Ledger} {i : ℕ} {a : Account} {c : Call} {n : Ledger} {r : Report} → Enters l i a c r n → r.number ≡ 0 →
    (b : Account) × (n.lists ≡ with_list i b l.lists) × Difference b.rows a.rows r.joined × Difference a.rows b.rows r.left
enters-reports (refused h x) e = never h e
enters-reports (withdrawn x z h u) e = never h e
enters-reports (accepted {b = b} x z u) e = (b, refl, z.joined_rows, z.left_rows)

-- ---- its counts

pub opens-balanced : (q : Query) (l : Ledger) (a : Account) → Opens q l a → Balanced a
opens-balanced q l a o =
    record {
      ascending = found-ascending q l.widths l.records a.endless a.rows o.found;
      counts = omega (arith, o.opening_is, o.joined_is, o.left_is);
    }

pub renewed-balanced : (a : Account) (b : Bool) (rows : List Row) → Ascending row_below rows → Balanced a → Balanced (renewed a b rows)
renewed-balanced a b rows x d = record { ascending = x; counts = omega (arith, d.counts, change-counts a.rows rows d.ascending x) }

renews-balanced : {l : Ledger} {a b : Account} {c : Call} {joined left : List Row} {records : List Record} → Renews l a c joined left records b → Balanced a → Balanced b
renews-balanced {l} {a} {b} {records = records} x d =
    let z = found-ascending a.query l.widths records b.endless b.rows x.found in
    record {
      ascending = z;
      counts =
          omega (
            arith,
            d.counts,
            x.opening_is,
            x.joined_is,
            x.left_is,
            ap length (difference-is a.rows z x.joined_rows),
            ap length (difference-is b.rows d.ascending x.left_rows),
            change-counts a.rows b.rows d.ascending z,
          );
    }

-- A call, whatever it answers, leaves them so.
enters-balanced : {l : Ledger} {i : ℕ} {a : Account} {c : Call} {n : Ledger} {r : Report} → Enters l i a c r n → l.lists i ≡ some a → Every Balanced l.lists → Every Balanced n.lists
enters-balanced (refused h x) e all = all
enters-balanced (withdrawn x z h u) e all = all
enters-balanced {i = i} {a = a} (accepted {b = b} x z u) e all = every-with Balanced i b (renews-balanced z (all i a e)) all

accounts-balanced : {l n : Ledger} {ss : List Step} {rs : List Report} → Accounts l ss rs n → Every Balanced l.lists → Every Balanced n.lists
accounts-balanced closed all = all
accounts-balanced (opens {l} {i = i} {bs} {a} o f) all = accounts-balanced f (every-with Balanced i a (opens-balanced (read_of l.widths bs).query l a o) all)
accounts-balanced (enter e x f) all = accounts-balanced f (enters-balanced x e all)

-- Rows at opening plus joined are left plus rows held, in every list.
pub ledger-balanced : (s : Store) (l n : Ledger) (ss : List Step) (rs : List Report) → Begins s l → Accounts l ss rs n → (i : ℕ) (a : Account) → n.lists i ≡ some a → a.opening + a.joined ≡ a.left + length a.rows
ledger-balanced s l n ss rs o f i a e = (accounts-balanced f (subst⁻¹ (Every Balanced) o.lists_are (every-none Balanced)) i a e).counts
