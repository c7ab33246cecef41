-- Laws of the store in a change: the causes 13 to 16 as `tables` judges them, and the store after a change that meets none of them. They come from the laws of
-- its own calls, which differ in judging the store first.
use Rattle.std.specs.Prelude.{◌≡◌, not, List, [], ◌∷◌, ◌++◌, T}
use Rattle.std.proofs.Common.{ap, subst, ◌∙◌}
use Rattle.calculus.proofs.Theory.Reflects.Laws.{reflects-T, reflects-true}
use Rattle.causes.specs.Causes.{Done, Check, check, first_cause, when, widths_fit}
use Rattle.causes.proofs.Theory.Causes.Laws.{then-done}
use Rattle.tables.specs.declared.Store.{Store}
use Rattle.tables.specs.Change.{Changed, reply, put_reply, removal_reply}
use Rattle.tables.specs.Store.{held, store_checks, judgement, Layout}
use Rattle.tables.proofs.Theory.Store.Laws.{reflects-layout, judged-layout}
use Rattle.tables.proofs.Theory.Change.Laws.{insertion-put, deletion-removal, put-layout, put-held, removal-layout, removal-held}
use Rattle.standing.specs.Checks.{Action, put, removal, record_checks, records_after}
use Rattle.standing.specs.Change.{store_after}
use Rattle.standing.specs.Code.Change.{altered}

-- A store in the layout is judged so.
well-judged : (s : Store) → T (widths_fit s.widths) → Layout s → judgement s ≡ Done
well-judged s w l =
    let a = reflects-true (reflects-T (widths_fit s.widths)) w in
    let b = reflects-true (reflects-layout s) l in
    λ i. first_cause (check 1 (when (not (a i))) ∷ check 2 (when (not (b i))) ∷ [])

-- The reply of the call of `tables` that makes the change, and what it leaves.
abbrev tables_reply : Action → Store → Changed
tables_reply (put r) s = put_reply s r
tables_reply (removal r) s = removal_reply s r

tables-layout : (action : Action) (s : Store) → (tables_reply action s).answer ≡ Done → T (widths_fit (tables_reply action s).store.widths) × Layout (tables_reply action s).store
tables-layout (put r) s done = put-layout s r done
tables-layout (removal r) s done = removal-layout s r done

tables-held : (action : Action) (s : Store) → (tables_reply action s).answer ≡ Done → held (tables_reply action s).store ≡ records_after action (held s)
tables-held (put r) s done = put-held s r done
tables-held (removal r) s done = removal-held s r done

module _ (s : Store) (judged : judgement s ≡ Done) where
  -- The checks of a store in the layout leave the answer to the later ones.
  past-judgement : (cs : List Check) (t : Store) → reply (first_cause (store_checks s ++ cs)) s t ≡ reply (first_cause cs) s t
  past-judgement cs t = ap (λ a. reply a s t) (then-done (store_checks s) cs judged)

  tables-replies : (action : Action) → tables_reply action s ≡ reply (first_cause (record_checks action s.widths (held s))) s (store_after action s)
  tables-replies (put r) = past-judgement (record_checks (put r) s.widths (held s)) (store_after (put r) s)
  tables-replies (removal r) = past-judgement (record_checks (removal r) s.widths (held s)) (store_after (removal r) s)

  -- What the code asks of `tables` for an action comes to the same.
  pub altered-is : (action : Action) → altered action s ≡ reply (first_cause (record_checks action s.widths (held s))) s (store_after action s)
  altered-is (put r) = let l = judged-layout s judged in insertion-put s r l.0 l.1 ∙ tables-replies (put r)
  altered-is (removal r) = let l = judged-layout s judged in deletion-removal s r l.0 l.1 ∙ tables-replies (removal r)

  -- The store after a change.
  module _ (action : Action) (done : first_cause (record_checks action s.widths (held s)) ≡ Done) where
    tables-done : tables_reply action s ≡ reply Done s (store_after action s)
    tables-done = tables-replies action ∙ ap (λ a. reply a s (store_after action s)) done

    pub after-judged : judgement (store_after action s) ≡ Done
    after-judged =
        let l = subst (λ c. T (widths_fit c.store.widths) × Layout c.store) tables-done (tables-layout action s (ap (λ c. c.answer) tables-done)) in
        well-judged (store_after action s) l.0 l.1

    pub after-held : held (store_after action s) ≡ records_after action (held s)
    after-held = subst (λ c. held c.store ≡ records_after action (held s)) tables-done (tables-held action s (ap (λ c. c.answer) tables-done))
