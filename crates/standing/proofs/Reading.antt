-- What is known where store and query were judged: of a refusal, that it is the reply's; else that the query is read, with its columns.
use Rattle.std.specs.Prelude.{ℕ, ◌<◌, ◌^◌, ◌≡◌, refl, List, get_or, Ok, Err}
use Rattle.std.proofs.Common.{sym, ap, subst, ◌∙◌}
use Rattle.std.proofs.Math.Path.{subst⁻¹}
use Rattle.calculus.specs.Generators.{columns}
use Rattle.causes.specs.declared.Refusal.{Refusal}
use Rattle.causes.specs.Causes.{Done, Refused, first_cause, number_of, place_of}
use Rattle.tables.specs.declared.Store.{Store}
use Rattle.query.specs.declared.Parsed.{Parsed}
use Rattle.query.specs.Reading.{formula, read_of, reading_of, variables_in}
use Rattle.answer.specs.Reply.{query_read}
use Rattle.answer.specs.Code.Reply.{Answerable}
use Rattle.standing.specs.declared.View.{View}
use Rattle.standing.specs.View.{QueryColumns, suits}
use Rattle.standing.specs.Change.{begin_checks}
use Rattle.standing.specs.Code.Change.{begun, readied}
use Rattle.standing.proofs.Theory.View.Layout.{query-columns}
use Rattle.standing.proofs.Theory.Change.Laws.{begun-cause, begun-judged, begun-answerable, begun-is, begun-few, begun-columns, begun-variables, readied-refused}

module _ (s : Store) (bs : List ℕ) where
  -- A refusal is the first of the causes 1 to 10,
  pub begun-err : (r : Refusal) → reading_of (Err r) ≡ begun s bs → first_cause (begin_checks s bs) ≡ Refused (number_of r) (place_of r)
  begun-err r e = begun-cause s bs (Refused (number_of r) (place_of r)) (ap (λ x. x.answer) (sym e))

  -- and so it is with cause 12.
  pub readied-err : (v : View) (r : Refusal) → reading_of (Err r) ≡ begun s bs → reading_of (Err r) ≡ readied s v bs
  readied-err v r e = e ∙ readied-refused s bs v (number_of r) (place_of r) (begun-err r e)

  module _ (p : Parsed) (judged : reading_of (Ok p) ≡ begun s bs) where
    pub begun-done : first_cause (begin_checks s bs) ≡ Done
    begun-done = begun-cause s bs Done (ap (λ x. x.answer) (sym judged))

    -- The query is read.
    pub begun-reads : reading_of (Ok p) ≡ read_of s.widths bs
    begun-reads = judged ∙ begun-is s bs begun-done

    -- Its columns are those of an accepted query.
    pub parsed-columns : QueryColumns p.columns
    parsed-columns =
        subst⁻¹ QueryColumns (ap (λ x. x.columns) begun-reads ∙ begun-columns s bs begun-done)
        (query-columns (query_read s bs) (begun-few s bs begun-done))

    -- A list is judged by them.
    pub suits-parsed : (v : View) → suits v (variables_in p.columns) ≡ suits v (columns (formula (query_read s bs)))
    suits-parsed v = ap (suits v) (ap (λ x. variables_in x.columns) begun-reads ∙ begun-variables s bs begun-done)

    -- The query can be evaluated over the store, the constants being 32-bit numbers.
    pub parsed-answerable : ((i : ℕ) → get_or p.query.constants i 0 < 2 ^ 32) → Answerable s p.query p.columns
    parsed-answerable small =
        subst⁻¹ (λ x. Answerable s x.query x.columns) begun-reads
        (begun-answerable s bs begun-done (subst (λ x. (i : ℕ) → get_or x.query.constants i 0 < 2 ^ 32) begun-reads small) s refl (begun-judged s bs begun-done))
