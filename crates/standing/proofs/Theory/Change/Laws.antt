-- Laws of the calls: what is known of a store and a query that pass the causes 1 to 10, and the replies in each case that the code comes to.
use Rattle.std.specs.Prelude.{ℕ, ◌-◌, ◌≤◌, ◌<◌, ◌^◌, ◌≡◌, Bool, true, false, not, cond, List, [], ◌∷◌, ◌++◌, length, get_or, replicate}
use Rattle.std.proofs.Common.{sym, ap, ◌∙◌}
use Rattle.std.proofs.Math.Path.{subst⁻¹}
use Rattle.std.proofs.Math.Seq.{take-append_seam}
use Rattle.calculus.specs.Generators.{columns}
use Rattle.calculus.specs.Rows.{Result}
use Rattle.causes.specs.Causes.{Answer, Done, Refused, check, first_cause, when}
use Rattle.causes.proofs.Theory.Causes.Laws.{then-done, then-refused, first_done, later-done}
use Rattle.tables.specs.declared.Store.{Store}
use Rattle.tables.specs.Store.{store_checks, judgement}
use Rattle.tables.proofs.Theory.Store.Laws.{judged-layout}
use Rattle.query.specs.Reading.{Reading, max_columns, constants_of, nodes_of, read_checks, refusal, read_reply, formula, columns_of, read_of, variables_in}
use Rattle.query.specs.Accepted.{Accepted}
use Rattle.query.proofs.Theory.Accepted.Laws.{reply-answer, read-few, read-columns, reading-accepted}
use Rattle.answer.specs.Reply.{result_of, query_read}
use Rattle.answer.specs.Code.Reply.{Answerable}
use Rattle.standing.specs.declared.View.{View}
use Rattle.standing.specs.View.{suits}
use Rattle.standing.specs.Checks.{view_checks}
use Rattle.standing.specs.Change.{begin_checks, over_checks, refused_opening, opening_reply, opened_of, ready_checks}
use Rattle.standing.specs.Code.Change.{current, begun, readied}
use Rattle.standing.proofs.Theory.Change.Turn.{too_many, all_kept, over-is}

-- ---- the query as read, or a refusal

module _ (s : Store) (bs : List ℕ) where
  -- The reply by the first cause met.
  abbrev replied : Answer → Reading
  replied a = read_reply a (constants_of bs) (nodes_of bs)

  -- Its answer is the first of the causes 1 to 10.
  pub begun-cause : (a : Answer) → (begun s bs).answer ≡ a → first_cause (begin_checks s bs) ≡ a
  begun-cause a e = sym (reply-answer (first_cause (begin_checks s bs)) (constants_of bs) (nodes_of bs)) ∙ e

  -- Where the store meets no cause, the query decides.
  pub begun-reading : judgement s ≡ Done → read_of s.widths bs ≡ begun s bs
  begun-reading judged = ap replied (sym (then-done (store_checks s) (read_checks s.widths bs) judged))

  module _ (v : View) where
    abbrev wanted : List ℕ
    wanted = columns (formula (query_read s bs))

    -- The answer of `ready` is the first of the causes 1 to 10 and 12.
    pub readied-cause : (a : Answer) → (readied s v bs).answer ≡ a → first_cause (ready_checks s v bs) ≡ a
    readied-cause a e = sym (reply-answer (first_cause (ready_checks s v bs)) (constants_of bs) (nodes_of bs)) ∙ e

    -- Store or query are refused.
    pub readied-refused : (n p : ℕ) → first_cause (begin_checks s bs) ≡ Refused n p → begun s bs ≡ readied s v bs
    readied-refused n p e = ap replied (e ∙ sym (then-refused (begin_checks s bs) (view_checks v wanted) n p e))

    -- Where store and query meet no cause, the list decides.
    module _ (done : first_cause (begin_checks s bs) ≡ Done) where
      list-decides : (b : Bool) → suits v wanted ≡ b → first_cause (ready_checks s v bs) ≡ first_cause (check 12 (when (not b)) ∷ [])
      list-decides b t = then-done (begin_checks s bs) (view_checks v wanted) done ∙ ap (λ c. first_cause (check 12 (when (not c)) ∷ [])) t

      pub readied-suited : suits v wanted ≡ true → begun s bs ≡ readied s v bs
      readied-suited t = ap replied (done ∙ sym (list-decides true t))

      pub readied-unsuited : suits v wanted ≡ false → refusal 12 0 ≡ readied s v bs
      readied-unsuited f = ap replied (sym (list-decides false f))

-- ---- causes 1 to 10 are not met

module _ (s : Store) (bs : List ℕ) (done : first_cause (begin_checks s bs) ≡ Done) where
  -- The store is in the layout.
  pub begun-judged : judgement s ≡ Done
  begun-judged = first_done (store_checks s) (read_checks s.widths bs) done

  -- The query is read,
  pub begun-is : begun s bs ≡ read_of s.widths bs
  begun-is = sym (begun-reading s bs begun-judged)

  -- It is accepted.
  reads : first_cause (read_checks s.widths bs) ≡ Done
  reads = later-done (store_checks s) (read_checks s.widths bs) done

  pub begun-read : (read_of s.widths bs).answer ≡ Done
  begun-read = ap (λ a. (read_reply a (constants_of bs) (nodes_of bs)).answer) reads

  -- The query read has at most four columns.
  pub begun-few : length (columns (formula (query_read s bs))) ≤ 4
  begun-few = read-few s.widths bs begun-read

  -- The query read comes with its columns.
  pub begun-columns : (read_of s.widths bs).columns ≡ columns_of (columns (formula (query_read s bs)))
  begun-columns = read-columns s.widths bs begun-read

  pub begun-variables : variables_in (read_of s.widths bs).columns ≡ columns (formula (query_read s bs))
  begun-variables = let cols : List ℕ = columns (formula (query_read s bs)) in ap variables_in begun-columns ∙ take-append_seam cols (replicate (max_columns - length cols) 0)

  -- The query read can be answered over every store in the layout that has the widths, the constants being 32-bit numbers.
  pub begun-answerable : ((i : ℕ) → get_or (query_read s bs).constants i 0 < 2 ^ 32) → (t : Store) → t.widths ≡ s.widths → judgement t ≡ Done → Answerable t (query_read s bs) (read_of s.widths bs).columns
  begun-answerable small t w judged =
      record {
        layout = (judged-layout t judged).1;
        accepted = subst⁻¹ (λ ws. Accepted ws (query_read s bs)) w (reading-accepted s.widths bs small begun-read);
        columns_are = begun-columns;
      }

  -- Cause 12 is not met either.
  pub readied-is : (v : View) → first_cause (ready_checks s v bs) ≡ Done → readied s v bs ≡ read_of s.widths bs
  readied-is v ready = ap (replied s bs) (ready ∙ sym done) ∙ begun-is

-- ---- rows found anew

-- Rows that are not over `max_rows` are kept, with the mark.
pub kept-by-mark : (found : Result) → (current found).over ≡ false → current found ≡ all_kept found
kept-by-mark found e = ap (λ b. cond b too_many (all_kept found)) (sym (over-is found) ∙ e)

-- ---- the reply to an opening

module _ (s : Store) (bs : List ℕ) where
  abbrev result-found : Result
  result-found = result_of s (query_read s bs)

  -- The reply by the first cause met.
  opened-by : (a : Answer) → first_cause (begin_checks s bs ++ over_checks result-found) ≡ a → opened_of s bs ≡ opening_reply a (columns (formula (query_read s bs))) result-found
  opened-by a e = ap (λ b. opening_reply b (columns (formula (query_read s bs))) result-found) e

  -- Store or query are refused.
  pub opened-refused : (n p : ℕ) → first_cause (begin_checks s bs) ≡ Refused n p → opened_of s bs ≡ refused_opening n p
  opened-refused n p e = opened-by (Refused n p) (then-refused (begin_checks s bs) (over_checks result-found) n p e)

  -- Where store and query meet no cause, the number of rows decides.
  module _ (done : first_cause (begin_checks s bs) ≡ Done) where
    rows-decide : (b : Bool) → (current result-found).over ≡ b → first_cause (begin_checks s bs ++ over_checks result-found) ≡ first_cause (check 17 (when b) ∷ [])
    rows-decide b o = then-done (begin_checks s bs) (over_checks result-found) done ∙ ap (λ c. first_cause (check 17 (when c) ∷ [])) (sym (over-is result-found) ∙ o)

    pub opened-over : (current result-found).over ≡ true → opened_of s bs ≡ refused_opening 17 0
    opened-over o = opened-by (Refused 17 0) (rows-decide true o)

    pub opened-done : (current result-found).over ≡ false → opened_of s bs ≡ opening_reply Done (columns (formula (query_read s bs))) result-found
    opened-done o = opened-by Done (rows-decide false o)

-- ---- laws that stand as they stood

module _ (s : Store) (bs : List ℕ) where
  -- The reply by the first cause met.
  abbrev replied-as : Answer → Reading
  replied-as a = read_reply a (constants_of bs) (nodes_of bs)

  -- The store is refused.
  pub begun-refused : (n p : ℕ) → judgement s ≡ Refused n p → refusal n p ≡ begun s bs
  begun-refused n p e = ap replied-as (sym (then-refused (store_checks s) (read_checks s.widths bs) n p e))
