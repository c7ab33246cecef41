-- The ledger's judgements beside the engine's checks: the first cause that the ledger meets has the number of the first that the checks meet, the records after a
-- call are the engine's, and the rows joined and left are those that it selects. Neither side cites the other's judgements, so an error on either shows here.
use Rattle.std.specs.Prelude.{ℕ, zero, suc, ◌*◌, ◌^◌, ◌≤◌, ◌<◌, ◌≡◌, refl, ◌↔◌, ◌⊎◌, ◌≢◌, Bool, true, false, not, ◌&&◌, ◌||◌, List, [], ◌∷◌, length, get_or, drop, eqb, ltb}
use Rattle.std.proofs.Common.{arith, sym, subst, inl, inr, ⊎_elim}
use Rattle.std.proofs.Math.Path.{subst⁻¹}
use Rattle.std.proofs.Math.Logic.Iff
use Rattle.std.proofs.Math.Bool.{or-false}
use Rattle.calculus.specs.Sets.{In, here, there, any_of, all_of}
use Rattle.calculus.proofs.Theory.Sets.Laws.{in-cons}
use Rattle.calculus.specs.Reflects.{Reflects, holds, fails}
use Rattle.calculus.proofs.Theory.Reflects.Laws.{reflects-map, reflects-not, reflects-or, reflects-eqb, reflects-ltb, reflects-leb}
use Rattle.calculus.specs.Order.{Ascending}
use Rattle.calculus.proofs.Theory.Order.Laws.{from-insert, in_insert, insert-ascending, ascending-select, ascending-unique}
use Rattle.calculus.specs.Generators.{columns}
use Rattle.calculus.specs.Rows.{Row, row_below, only_in}
use Rattle.calculus.proofs.Theory.Rows.Laws.{row-order, in-only_in, only_in-ascending}
use Rattle.causes.specs.Causes.{Check, check, when, Judged}
use Rattle.tables.specs.declared.Record.{Record}
use Rattle.tables.specs.Records.{values_of, record_below, same_record, width, fits}
use Rattle.tables.proofs.Theory.Records.Laws.{record-order}
use Rattle.tables.specs.Store.{has_room}
use Rattle.tables.proofs.Theory.Change.Laws.{reflects-held, in_without, from-without}
use Rattle.query.specs.Reading.{formula}
use Rattle.standing.specs.View.{max_rows}
use Rattle.standing.specs.Checks.{Action, put, removal, record_checks, records_after, is_over, is_past, report_checks}
use Rattle.standing.specs.Ledger.{Account, Ledger, Call, Unfit, Full, Past, Over, cause, no_cause, RecordCause, ReportCause, Among, Difference}

-- ---- cause 13

-- A value that isn't zero, from place w on.
abbrev NonzeroFrom : ℕ → List ℕ → Type 0
NonzeroFrom w vs = (i : ℕ) × (w ≤ i) × (get_or vs i 0 ≢ 0)

reflects-nonzero : (w : ℕ) (vs : List ℕ) → Reflects (NonzeroFrom w vs) (not (all_of (eqb 0) (drop w vs)))
reflects-nonzero zero [] = fails (λ p. p.2 refl)
reflects-nonzero (suc w) [] = fails (λ p. p.2 refl)
reflects-nonzero zero (v ∷ vs) = subst (Reflects (NonzeroFrom zero (v ∷ vs))) (not-and (eqb 0 v) (all_of (eqb 0) vs)) (reflects-map join split (reflects-or (reflects-not (reflects-eqb 0 v)) (reflects-nonzero zero vs)))
  where
    not-and : (a b : Bool) → not a || not b ≡ not (a && b)
    not-and true b = refl
    not-and false b = refl

    join : ¬ (0 ≡ v) ⊎ NonzeroFrom zero vs → NonzeroFrom zero (v ∷ vs)
    join (inl n) = (0, omega arith, λ e. n (sym e))
    join (inr p) = (suc p.0, omega arith, p.2)

    split_at : (i : ℕ) → get_or (v ∷ vs) i 0 ≢ 0 → ¬ (0 ≡ v) ⊎ NonzeroFrom zero vs
    split_at zero n = inl (λ e. n (sym e))
    split_at (suc i) n = inr (i, omega arith, n)

    split : NonzeroFrom zero (v ∷ vs) → ¬ (0 ≡ v) ⊎ NonzeroFrom zero vs
    split p = split_at p.0 p.2
reflects-nonzero (suc w) (v ∷ vs) = reflects-map (λ p. (suc p.0, omega (arith, p.1), p.2)) (λ p. back p.0 p.1 p.2) (reflects-nonzero w vs)
  where
    back : (i : ℕ) → suc w ≤ i → get_or (v ∷ vs) i 0 ≢ 0 → NonzeroFrom w vs
    back zero h n = absurd (omega arith)
    back (suc i) h n = (i, omega arith, n)

pub reflects-unfit : (ws : List ℕ) (t : Record) → Reflects (Unfit ws t) (not (fits ws t))
reflects-unfit ws t =
    subst (Reflects (Unfit ws t)) (denied (ltb t.relation 16) (ltb 0 (width ws t)) (all_of (eqb 0) (drop (width ws t) (values_of t))))
    (reflects-or over (reflects-or absent (reflects-nonzero (width ws t) (values_of t))))
  where
    denied : (a b c : Bool) → not a || (not b || not c) ≡ not (a && b && c)
    denied true true c = refl
    denied true false c = refl
    denied false b c = refl

    over : Reflects (15 < t.relation) (not (ltb t.relation 16))
    over = reflects-map (λ n. omega (arith, n)) (λ h l. omega (arith, h, l)) (reflects-not (reflects-ltb t.relation 16))

    absent : Reflects (width ws t ≡ 0) (not (ltb 0 (width ws t)))
    absent = reflects-map (λ n. omega (arith, n)) (λ e l. omega (arith, e, l)) (reflects-not (reflects-ltb 0 (width ws t)))

-- ---- cause 15

reflects-full : (t : Record) (records : List Record) → Reflects (Full t records) (not (has_room t records))
reflects-full t records = reflects-map (λ n. omega (arith, n)) (λ h l. omega (arith, h, l)) (reflects-not (reflects-ltb (length records) 256))

-- ---- cause 17

reflects-past : (n : ℕ) → Reflects (Past n) (is_past n)
reflects-past n = reflects-map (λ h. omega (arith, h)) (λ h. omega (arith, h)) (reflects-leb (2 ^ 64) n)

pub reflects-over : (a : Account) → Reflects (Over a) (is_over (length a.rows) || any_of is_past (a.opening ∷ a.joined ∷ a.left ∷ []))
reflects-over a =
    reflects-or (reflects-ltb max_rows (length a.rows))
    (reflects-or (reflects-past a.opening)
    (reflects-or (reflects-past a.joined) (subst⁻¹ (Reflects (Past a.left)) (or-false (is_past a.left)) (reflects-past a.left))))

-- ---- the first cause met

judged-none : Judged no_cause []
judged-none = record { number_is = λ a. Iff.rfl; place_is = refl }

judged-cause : (n : ℕ) {P : Type 0} {b : Bool} {later : ℕ → Type 0} {cs : List Check} → Reflects P b → Judged later cs → Judged (cause n P later) (check n (when b) ∷ cs)
judged-cause n (holds x) j = record { number_is = λ a. (⊎_elim (λ p. p.1) (λ p. absurd (p.0 x)), λ e. inl (x, e)); place_is = refl }
judged-cause n (fails m) j =
    record {
      number_is = λ a. (⊎_elim (λ p. absurd (m p.0)) (λ p. (j.number_is a).0 p.1), λ e. inr (m, (j.number_is a).1 e));
      place_is = j.place_is;
    }

-- Causes 13 to 16, and 17 to 19: the ledger's are the engine's.
pub record-judged : (l : Ledger) (action : Action) → Judged (RecordCause l action) (record_checks action l.widths l.records)
record-judged l (put t) =
    judged-cause 13 (reflects-unfit l.widths t)
    (judged-cause 14 (reflects-held t l.records)
    (judged-cause 15 (reflects-full t l.records)
    judged-none))
record-judged l (removal t) =
    judged-cause 13 (reflects-unfit l.widths t)
    (judged-cause 16 (reflects-not (reflects-held t l.records))
    judged-none)

pub report-judged : (a : Account) (joined left : List Row) (c : Call) →
    Judged (ReportCause a joined left c)
    (report_checks (is_over (length a.rows)) (a.opening ∷ a.joined ∷ a.left ∷ []) (length (columns (formula a.query))) (length joined) (length left) (length c.first) (length c.second))
report-judged a joined left c =
    let k : ℕ = length (columns (formula a.query)) in
    judged-cause 17 (reflects-over a)
    (judged-cause 18 (reflects-ltb (length c.first) (length joined * k))
    (judged-cause 19 (reflects-ltb (length c.second) (length left * k))
    judged-none))

-- ---- the records after a call

pub after-ascends : (action : Action) {records : List Record} → Ascending record_below records → Ascending record_below (records_after action records)
after-ascends (put t) a = insert-ascending record_below record-order t a
after-ascends (removal t) a = ascending-select record_below (λ p. not (same_record t p)) a

pub after-members : (action : Action) (records : List Record) (r : Record) → In r (records_after action records) ↔ Among action records r
after-members (put t) records r = (λ i. ⊎_elim inr inl (in-cons (from-insert record_below t records r i)), ⊎_elim (λ i. in_insert record_below record-order t records r (there i)) (λ e. in_insert record_below record-order t records r (here e)))
after-members (removal t) records r = (λ i. let h = from-without t records i in (h.0, λ e. h.1 (sym e)), λ h. in_without h.0 (λ e. h.1 (sym e)))

-- ---- rows joined and left

pub difference-unique : (xs ys : List Row) {rows others : List Row} → Difference xs ys rows → Difference xs ys others → rows ≡ others
difference-unique xs ys a b = ascending-unique row_below row-order a.0 b.0 (λ w. Iff.trans (a.1 w) (Iff.symm (b.1 w)))

pub only_in-difference : {xs : List Row} (ys : List Row) → Ascending row_below xs → Difference xs ys (only_in xs ys)
only_in-difference {xs} ys a = (only_in-ascending ys a, λ w. in-only_in w xs ys)

-- Of ascending rows, the difference is what the engine selects.
pub difference-is : {xs : List Row} (ys : List Row) {rows : List Row} → Ascending row_below xs → Difference xs ys rows → rows ≡ only_in xs ys
difference-is {xs} ys a d = difference-unique xs ys d (only_in-difference ys a)
