-- A put or removal (`apply`) reads the query and judges the list, then alters the record, then maintains the list; at each of the three it comes to the reply of
-- `change_of`, and what the next one asks for holds.
use Rattle.std.specs.Prelude.{ℕ, ◌≤◌, ◌<◌, ◌^◌, ◌≡◌, refl, List, [], get_or, Result as Returned, Ok, Err}
use Rattle.std.proofs.Common.{sym, ap, subst, ◌∙◌}
use Rattle.std.proofs.Math.Path.{subst⁻¹}
use Rattle.calculus.specs.Generators.{columns}
use Rattle.calculus.proofs.Theory.Reflects.Laws.{reflected}
use Rattle.causes.specs.declared.Refusal.{Refusal}
use Rattle.causes.specs.Causes.{Answer, Done, Refused, first_cause, number_of, place_of}
use Rattle.causes.proofs.Theory.Causes.Laws.{first_done, later-done, first-passed}
use Rattle.tables.specs.declared.Store.{Store}
use Rattle.tables.specs.Change.{reply, changed_of}
use Rattle.tables.specs.Store.{capacity, held, judgement}
use Rattle.tables.proofs.Theory.Store.Laws.{reflects-layout, judged-layout}
use Rattle.query.specs.declared.Parsed.{Parsed}
use Rattle.query.specs.Reading.{formula, read_of, reading_of}
use Rattle.answer.specs.Reply.{query_read}
use Rattle.answer.specs.Code.Reply.{Answerable}
use Rattle.standing.specs.declared.View.{View}
use Rattle.standing.specs.Change.{begin_checks, ready_checks, store_after, change_in, change_of}
use Rattle.standing.specs.View.{suits}
use Rattle.standing.specs.Checks.{Action, view_checks, record_checks}
use Rattle.standing.specs.Code.Change.{readied, Suits, altered, maintained}
use Rattle.standing.proofs.Theory.Change.Laws.{readied-cause, begun-judged, begun-answerable, readied-is}
use Rattle.standing.proofs.Theory.Change.Stores.{altered-is, after-judged}
use Rattle.standing.proofs.Theory.Change.Calls.{change-unready, change-refused, change-maintained}

-- A reply of `tables` carries its answer.
reply-answer : (a : Answer) (s t : Store) → (reply a s t).answer ≡ a
reply-answer Done s t = refl
reply-answer (Refused n p) s t = refl

module _ (action : Action) (s : Store) (v : View) (bs first second : List ℕ) where
  -- The reply where one of the causes 1 to 10 and 12 is met.
  pub unready : (r : Refusal) → reading_of (Err r) ≡ readied s v bs → (change_in s v (Err r), (first, second)) ≡ change_of action s v bs first second
  unready r e = sym (change-unready action s v bs first second (number_of r) (place_of r) (readied-cause s bs v (Refused (number_of r) (place_of r)) (ap (λ x. x.answer) (sym e))))

module _ (s : Store) (v : View) (bs : List ℕ) (p : Parsed) (reads : reading_of (Ok p) ≡ readied s v bs) where
  ready-done : first_cause (ready_checks s v bs) ≡ Done
  ready-done = readied-cause s bs v Done (ap (λ x. x.answer) (sym reads))

  begin-done : first_cause (begin_checks s bs) ≡ Done
  begin-done = first_done (begin_checks s bs) (view_checks v (columns (formula (query_read s bs)))) ready-done

  store-judged : judgement s ≡ Done
  store-judged = begun-judged s bs begin-done

  -- The query is read.
  reading-is : reading_of (Ok p) ≡ read_of s.widths bs
  reading-is = reads ∙ readied-is s bs begin-done v ready-done

  -- What the call of `tables` asks for.
  pub few_records : s.count ≤ capacity
  few_records = (reflected (reflects-layout s) (judged-layout s store-judged).1).count_fits

  -- What `maintain` asks for: the list suits the query,
  pub list-suits : Suits v p.query
  list-suits =
      let cols = columns (formula (query_read s bs)) in
      subst⁻¹ (λ r. Suits v r.query) reading-is
      (first-passed 12 (suits v cols) [] (later-done (begin_checks s bs) (view_checks v cols) ready-done)).0

  module _ (action : Action) where
    -- The answer of `tables` is the first of the causes 13 to 16.
    record-cause : (c : Returned Store Refusal) → changed_of s c ≡ altered action s → first_cause (record_checks action s.widths (held s)) ≡ (changed_of s c).answer
    record-cause c e =
        sym (reply-answer (first_cause (record_checks action s.widths (held s))) s (store_after action s))
        ∙ ap (λ x. x.answer) (sym (e ∙ altered-is s store-judged action))

    -- The reply where one of them is met.
    pub unchanged : (first second : List ℕ) (r : Refusal) → changed_of s (Err r) ≡ altered action s → (change_in s v (Err r), (first, second)) ≡ change_of action s v bs first second
    unchanged first second r e = sym (change-refused action s v bs first second ready-done (number_of r) (place_of r) (record-cause (Err r) e))

    module _ (t : Store) (changes : changed_of s (Ok t) ≡ altered action s) where
      store_is : t ≡ store_after action s
      store_is =
          ap (λ x. x.store) (changes ∙ altered-is s store-judged action)
          ∙ ap (λ a. (reply a s (store_after action s)).store) (record-cause (Ok t) changes)

      -- and the query can be evaluated over the store after the change.
      pub answerable : ((i : ℕ) → get_or p.query.constants i 0 < 2 ^ 32) → Answerable t p.query p.columns
      answerable small =
          subst⁻¹ (λ u. Answerable u p.query p.columns) store_is
          (subst⁻¹ (λ r. Answerable (store_after action s) r.query r.columns) reading-is
          (begun-answerable s bs begin-done
          (subst (λ r. (i : ℕ) → get_or r.query.constants i 0 < 2 ^ 32) reading-is small)
          (store_after action s) refl (after-judged s store-judged action (record-cause (Ok t) changes))))

      -- The reply is the one that `maintain` comes to.
      pub maintains : (first second : List ℕ) → maintained s t v p.query first second ≡ change_of action s v bs first second
      maintains first second =
          (λ i. maintained s (store_is i) v (reading-is i).query first second)
          ∙ sym (change-maintained action s v bs first second ready-done (record-cause (Ok t) changes))
