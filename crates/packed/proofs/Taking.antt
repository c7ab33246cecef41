-- The steps of assess and find on values: what was taken from the bytes bs is the input i, and what it was judged to be is the assessment a; both are refused, or
-- the query can be evaluated.
use Prim.Native.Nat.{ℕ, ◌<◌, ◌^◌}
use mathlib.Core.Path.{◌≡◌, refl, sym, ap, subst, subst⁻¹, ◌∙◌}
use mathlib.Core.Bool.{Bool}
use mathlib.Core.List.{List}
use lib.ListN.{get_or}
use Rattle.calculus.specs.Generators.{columns}
use Rattle.causes.specs.Causes.{Answer, Done, Refused, first_cause}
use Rattle.query.specs.declared.Columns.{Columns}
use Rattle.query.specs.Reading.{formula, columns_of}
use Rattle.tables.specs.Store.{no_store}
use Rattle.verdict.specs.Verdict.{Verdict, judged, refusal as verdict_refusal}
use Rattle.verdict.specs.Code.Form.{IsAccepted}
use Rattle.verdict.specs.Form.{form_of}
use Rattle.answer.specs.declared.Found.{Found as Rows}
use Rattle.answer.specs.declared.Found.TheVariants as rows
use Rattle.answer.specs.Reply.{Found, Writing, rows_found}
use Rattle.answer.specs.Code.Reply.{Answerable, Evaluable, form_evaluated_by, evaluated_by}
use Rattle.answer.proofs.Theory.Reply.Laws.{form-evaluated-read}
use Rattle.packed.specs.Code.Packed.{Input, Assessment, refusal, input_reply, input_of, with_verdict, assessed, listing_with}
use Rattle.packed.specs.Packed.{input_checks, query_read, declined, beside, listing_in}
use Rattle.packed.proofs.Theory.Packed.Laws.{input-answer, input-done, judged-answer, judged-refused, judged-done, listing-refused, listing-done, input-answerable, form-constants}

-- ---- the input

module _ (bs : List ℕ) (i : Input) (e : i ≡ input_of bs) where
  input-cause : (a : Answer) → i.answer ≡ a → first_cause (input_checks bs) ≡ a
  input-cause a h = sym (input-answer bs) ∙ ap (λ v. v.answer) (sym e) ∙ h

  -- Accepted.
  module _ (h : i.answer ≡ Done) where
    given : i ≡ input_reply Done bs
    given = e ∙ input-done bs (input-cause Done h)

    pub judged-asks : ((k : ℕ) → get_or i.query.constants k 0 < 2 ^ 32) → IsAccepted i.query × (i.columns ≡ columns_of (columns (formula i.query)))
    judged-asks small =
        let a : Answerable i.store i.query i.columns = subst⁻¹ (λ x. Answerable x.store x.query x.columns) given (input-answerable bs (input-cause Done h) (subst (λ x. (k : ℕ) → get_or x.query.constants k 0 < 2 ^ 32) given small)) in
        ((i.store.widths, a.accepted), a.columns_are)

    pub judged-input : (v : Verdict) → v ≡ judged i.query → with_verdict i.store v ≡ assessed bs
    judged-input v g = λ j. with_verdict (e j).store ((g ∙ ap (λ x. judged x.query) given ∙ sym (judged-done bs (input-cause Done h))) j)

-- Refused.
pub refused-input : (bs : List ℕ) (n p : ℕ) → refusal n p ≡ input_of bs → with_verdict no_store (verdict_refusal n p) ≡ assessed bs
refused-input bs n p e = let r = sym (judged-refused bs n p (input-cause bs (refusal n p) e (Refused n p) refl)) in λ j. with_verdict (e j).store (r j)

-- ---- the assessment

module _ (bs : List ℕ) (a : Assessment) (e : a ≡ assessed bs) where
  cause : (r : Answer) → a.verdict.answer ≡ r → first_cause (input_checks bs) ≡ r
  cause r h = sym (judged-answer bs) ∙ ap (λ v. v.verdict.answer) (sym e) ∙ h

  -- Refused.
  pub refused-list : (n p : ℕ) → a.verdict.answer ≡ Refused n p → (write : Writing (List ℕ)) (room : ℕ) (out : List ℕ) → (declined n p, out) ≡ listing_in write room bs out
  refused-list n p h write room out = sym (listing-refused bs n p (cause (Refused n p) h) write room out)

  -- Accepted, with a form whose constants are 32-bit numbers.
  module _ (h : a.verdict.answer ≡ Done) (small : (k : ℕ) → get_or a.verdict.form.constants k 0 < 2 ^ 32) where
    assessment : a ≡ with_verdict (input_reply Done bs).store (judged (query_read bs))
    assessment = e ∙ (λ j. with_verdict (input-done bs (cause Done h) j).store (judged-done bs (cause Done h) j))

    answerable : Answerable a.store (query_read bs) a.verdict.columns
    answerable =
        subst⁻¹ (λ x. Answerable x.store (query_read bs) x.verdict.columns) assessment
        (input-answerable bs (cause Done h) (subst (λ cs. (k : ℕ) → get_or cs k 0 < 2 ^ 32) (ap (λ x. x.verdict.form.constants) assessment ∙ form-constants bs (cause Done h)) small))

    form-made : a.verdict.form ≡ form_of (query_read bs)
    form-made = ap (λ x. x.verdict.form) assessment

    pub evaluable : Evaluable a.store a.verdict.form a.verdict.columns
    evaluable = record { read = query_read bs; answerable = answerable; form_is = form-made }

    -- The list of what the verdict and the evaluation give.
    pub list-given : (write : Writing (List ℕ)) (room : ℕ) (out : List ℕ) (f : Found) (after : List ℕ) → (f, after) ≡ form_evaluated_by write a.store a.verdict.form a.verdict.columns room out → (listing_with f a.verdict.safe a.verdict.columns, after) ≡ listing_in write room bs out
    list-given write room out f after g =
        ap (λ r. (listing_with r.0 a.verdict.safe a.verdict.columns, r.1)) (g ∙ form-evaluated-read answerable a.verdict.form form-made write room out)
        ∙ ap (λ x. (listing_with (evaluated_by write x.store (query_read bs) room out).0 x.verdict.safe x.verdict.columns, (evaluated_by write x.store (query_read bs) room out).1)) assessment
        ∙ sym (listing-done bs (cause Done h) write room out)

-- What was found decides the list.
pub found-listed : (f : Rows) (safe : Bool) (cols : Columns) → beside (rows_found f) safe cols ≡ listing_with (rows_found f) safe cols
found-listed rows.Endless safe cols = refl
found-listed (rows.Rows n) safe cols = refl
