-- The openings and the calls of a run. Invariant: a result of the query and three counts determine both the account and the list; the result is what the query
-- answered when the list was last found anew. Each call of the list preserves it, and so does each call of another: the engine and the ledger judge the same data.
-- The reply is the report of the ledger as a function (`entry`), whose checks are the engine's where none of the causes 1 to 12 is met.
use Rattle.std.specs.Prelude.{ℕ, ◌+◌, ◌*◌, ◌≤◌, ◌≡◌, refl, Bool, true, false, not, cond, List, [], ◌∷◌, ◌++◌, length, drop, T}
use Rattle.std.proofs.Common.{arith, sym, ap, subst, ◌∙◌, length-append, length-drop, ltb-false}
use Rattle.std.proofs.Math.Path.{subst⁻¹}
use Rattle.std.proofs.Math.Option.{some}
use Rattle.calculus.specs.Sets.{any_of}
use Rattle.calculus.proofs.Theory.Reflects.Laws.{reflected}
use Rattle.calculus.specs.Order.{Ascending}
use Rattle.calculus.specs.Generators.{columns}
use Rattle.calculus.specs.Rows.{Row, Result, only_in, numbers, Width}
use Rattle.causes.specs.Causes.{Answer as Outcome, Done, Refused, Check, check, first_cause, when, is_done}
use Rattle.causes.proofs.Theory.Causes.Laws.{then-done, then-refused, first_done, later-done, first-clear}
use Rattle.tables.specs.declared.Store.{Store}
use Rattle.tables.specs.Records.{record_below}
use Rattle.tables.specs.Store.{held, judgement, store_checks}
use Rattle.tables.proofs.Theory.Store.Laws.{reflects-layout, judged-layout}
use Rattle.query.specs.declared.Query.{Query}
use Rattle.query.specs.Reading.{formula, columns_of, read_checks, read_of}
use Rattle.answer.proofs.Theory.Code.Listing.Rows.{numbers-width}
use Rattle.answer.specs.Reply.{result_of, query_read}
use Rattle.standing.specs.declared.View.{View}
use Rattle.standing.specs.Families.{Family, with_list}
use Rattle.standing.proofs.Theory.Families.Laws.{with-same}
use Rattle.standing.specs.View.{max_rows, rows_in, kept, mark, view_of, suits, QueryColumns}
use Rattle.standing.proofs.Theory.View.Difference.{only_in-width}
use Rattle.standing.proofs.Theory.View.Layout.{query-columns, rows-of-view, view-suits}
use Rattle.standing.specs.Checks.{record_checks, records_after, is_over, is_past, report_checks, view_checks}
use Rattle.standing.specs.Change.{begin_checks, over_checks, opening_reply, ready_checks, store_after, fronted, refusal, turn_checks, turn_reply, change_of}
use Rattle.standing.proofs.Theory.Change.Laws.{begun-judged, begun-few}
use Rattle.standing.proofs.Theory.Change.Stores.{after-held}
use Rattle.standing.proofs.Theory.Change.Turn.{result-wide, result-ascends, report-clear}
use Rattle.standing.specs.Ledger.{Account, Ledger, Call, Report, Enters, keeping}
use Rattle.standing.proofs.Theory.Ledger.Laws.{Balanced, renewed, entered, renewed-balanced, result-among, entry, entry_by, entry-enters, enters_is}
use Rattle.standing.specs.Runs.{OpensWith, Reply, Ensured, Agrees, IsListOf}

-- Rows for which there is room leave the length of the buffer.
fronted-length : (k : ℕ) (rows : List Row) (buffer : List ℕ) → Width k rows → length rows * k ≤ length buffer → length (fronted rows buffer) ≡ length buffer
fronted-length k rows buffer w h =
    length-append (numbers rows) (drop (length (numbers rows)) buffer)
    ∙ omega (arith, length-drop (length (numbers rows)) buffer, numbers-width k rows w, h)

-- The ledger of a store, with these accounts.
abbrev pub ledger_of : Store → Family Account → Ledger
ledger_of s lists = record { widths = s.widths; records = held s; lists = lists }

-- ---- a result and three counts

-- What a list and its account hold beside the query: the result when the list was last found anew, and the counts of rows at opening, joined and left.
pub record Content : Type 0 where
  pub result : Result
  pub opening : ℕ
  pub joined : ℕ
  pub left : ℕ

-- The account and the list that it decides.
abbrev pub account_of : Query → Content → Account
account_of q x = record { query = q; rows = kept x.result; endless = mark x.result; opening = x.opening; joined = x.joined; left = x.left }

abbrev pub list_of : Query → Content → View
list_of q x = view_of (columns (formula q)) x.result x.opening x.joined x.left

-- The content of a list just opened, for which this was found.
abbrev pub opened_content : Result → Content
opened_content found = record { result = found; opening = length (kept found); joined = 0; left = 0 }

-- The content after an accepted call, for which this was found.
abbrev pub next_content : Content → Result → Content
next_content x found =
    record {
      result = found;
      opening = x.opening;
      joined = x.joined + length (only_in (kept found) (kept x.result));
      left = x.left + length (only_in (kept x.result) (kept found));
    }

module _ (bs : List ℕ) (q : Query) where
  -- With these widths the bytes are read as the query; the rows have a value for each column, and are at most `max_rows`; they ascend, and the counts add up.
  pub record State (ws : List ℕ) (x : Content) : Type 0 where
    pub read : first_cause (read_checks ws bs) ≡ Done
    pub query_is : (read_of ws bs).query ≡ q
    pub few : length (kept x.result) ≤ max_rows
    pub wide : Width (length (columns (formula q))) (kept x.result)
    pub balanced : Balanced (account_of q x)

  -- The result is what the query answers over the store, where b says so.
  abbrev pub Fresh : Bool → Store → Content → Type 0
  Fresh b s x = T b → x.result ≡ result_of s q

  -- What a call of the list i came to, whose content was `was`: its reply is the ledger's, and the ledger and the list after it are those of one content again. The
  -- result is fresh after an accepted call; a refused one leaves it as it was.
  pub record Stepped (s : Store) (lists : Family Account) (i : ℕ) (was : Content) (c : Call) (r : Reply) (p : Report × Ledger) : Type 0 where
    pub agrees : Agrees c p.0 r
    pub content : Content
    pub state : State s.widths content
    pub view_is : r.0.view ≡ list_of q content
    pub ledger_is : p.1 ≡ ledger_of r.0.store (with_list i (account_of q content) lists)
    pub fresh : (b : Bool) → Fresh b s was → Fresh (cond (is_done r.0.answer) true b) r.0.store content

  module _ (s : Store) (judged : judgement s ≡ Done) (was : Content) (state : State s.widths was) where
    -- ---- its list

    begin-done : first_cause (begin_checks s bs) ≡ Done
    begin-done = then-done (store_checks s) (read_checks s.widths bs) judged ∙ state.read

    cols : QueryColumns (columns_of (columns (formula q)))
    cols = query-columns q (subst (λ p. length (columns (formula p)) ≤ 4) state.query_is (begun-few s bs begin-done))

    -- The list of a content holds the account's rows, and is in the layout.
    pub rows_are : rows_in (list_of q was) ≡ kept was.result
    rows_are = rows-of-view (columns (formula q)) cols was.result state.few state.wide state.balanced.ascending was.opening was.joined was.left

    list-suits : T (suits (list_of q was) (columns (formula q)))
    list-suits = view-suits (columns (formula q)) cols was.result state.few state.wide state.balanced.ascending was.opening was.joined was.left state.balanced.counts

    -- It is the account's.
    pub is-list : IsListOf q (account_of q was) (list_of q was)
    is-list = record { query_is = refl; columns_are = refl; rows_are = rows_are; rows_stored = refl; endless_is = refl; opening_is = refl; joined_is = refl; left_is = refl }

    -- ---- a call

    -- Neither 1 to 10 nor 12 is met.
    ready-done : first_cause (ready_checks s (list_of q was) bs) ≡ Done
    ready-done =
        then-done (begin_checks s bs) (view_checks (list_of q was) (columns (formula (query_read s bs)))) begin-done
        ∙ suited-done (suits (list_of q was) (columns (formula (query_read s bs)))) (subst⁻¹ (λ p. T (suits (list_of q was) (columns (formula p)))) state.query_is list-suits)
      where
        suited-done : (b : Bool) → T b → first_cause (check 12 (when (not b)) ∷ []) ≡ Done
        suited-done true t = refl
        suited-done false t = absurd t

    module _ (lists : Family Account) (i : ℕ) (here : lists i ≡ some (account_of q was)) (c : Call) where
      -- The rows held before the call, and the store after a change.
      abbrev before : List Row
      before = kept was.result

      abbrev after : Store
      after = store_after c.action s

      abbrev account : Account
      account = account_of q was

      abbrev ledger : Ledger
      ledger = ledger_of s lists

      -- Causes 13 to 16, and 17 to 19 where these rows were held before.
      abbrev tests : List Check
      tests = record_checks c.action s.widths (held s)

      abbrev reports : List Row → Result → List Check
      reports rows found =
          let joined : ℕ = length (only_in (kept found) rows) in
          let left : ℕ = length (only_in rows (kept found)) in
          report_checks (is_over (length (kept found))) (was.opening ∷ (was.joined + joined) ∷ (was.left + left) ∷ []) (length (columns (formula q))) joined left (length c.first) (length c.second)

      -- The engine's reply by the first cause met, where these rows were held before.
      abbrev replied : Outcome → List Row → Result → Reply
      replied Done rows found =
          let joined : List Row = only_in (kept found) rows in
          let left : List Row = only_in rows (kept found) in (
            record { answer = Done; joined = length joined; left = length left; store = after; view = view_of (columns (formula q)) found was.opening (was.joined + length joined) (was.left + length left) },
            (fronted joined c.first, fronted left c.second),
          )
      replied (Refused n p) rows found = (refusal n p s (list_of q was), (c.first, c.second))

      abbrev change : Reply
      change = change_of c.action s (list_of q was) bs c.first c.second

      turned : (a : Outcome) (found : Result) → turn_reply a s after (list_of q was) (columns (formula q)) found c.first c.second ≡ replied a (rows_in (list_of q was)) found
      turned Done found = refl
      turned (Refused n p) found = refl

      -- The engine's reply is that for the rows of the account.
      changed : change ≡ replied (first_cause (tests ++ reports before (result_of after q))) before (result_of after q)
      changed =
          ap (λ a. turn_reply a s after v (columns (formula read)) (result_of after read) c.first c.second) (then-done (ready_checks s v bs) (tests ++ turn_checks v (columns (formula read)) (result_of after read) (length c.first) (length c.second)) ready-done)
          ∙ ap (λ p. turn_reply (first_cause (tests ++ turn_checks v (columns (formula p)) (result_of after p) (length c.first) (length c.second))) s after v (columns (formula p)) (result_of after p) c.first c.second) state.query_is
          ∙ turned (first_cause (tests ++ reports (rows_in v) (result_of after q))) (result_of after q)
          ∙ ap (λ rows. replied (first_cause (tests ++ reports rows (result_of after q))) rows (result_of after q)) rows_are
        where
          v : View
          v = list_of q was

          read : Query
          read = query_read s bs

      -- What the call comes to, by the reply and the ledger's entry.
      abbrev Steps : Reply → Report × Ledger → Type 0
      Steps = Stepped s lists i was c

      steps-at : {r u : Reply} {p w : Report × Ledger} → r ≡ u → p ≡ w → Steps u w → Steps r p
      steps-at {r} {u} {p} {w} a b m = subst⁻¹ (λ x. Steps x p) a (subst⁻¹ (Steps u) b m)

      -- A refusal on either side leaves all.
      refused-steps : (n p : ℕ) (found : Result) (b : Account) → Steps (replied (Refused n p) before found) (entered (Refused n p) ledger i account (records_after c.action (held s)) b)
      refused-steps n p found b =
          record {
            agrees = record { number_is = refl; place_is = refl; joined_is = refl; left_is = refl; first_is = refl; second_is = refl; first_length = refl; second_length = refl };
            content = was;
            state = state;
            view_is = refl;
            ledger_is = ap (ledger_of s) (sym (with-same i account lists here));
            fresh = λ d f. f;
          }

      module _ (done : first_cause tests ≡ Done) where
        -- The answers over the store after the change are those over the ledger's records after it.
        after-result : result-among q s.widths (records_after c.action (held s)) ≡ result_of after q
        after-result = ap (result-among q s.widths) (sym (after-held s judged c.action done))

        abbrev found : Result
        found = result_of after q

        abbrev joined : List Row
        joined = only_in (kept found) before

        abbrev left : List Row
        left = only_in before (kept found)

        abbrev next : Account
        next = renewed account (mark found) (kept found)

        module _ (clear : first_cause (reports before found) ≡ Done) where
          abbrev k : ℕ
          k = length (columns (formula q))

          room : (is_over (length (kept found)) ≡ false) × (any_of is_past (was.opening ∷ (was.joined + length joined) ∷ (was.left + length left) ∷ []) ≡ false) × (length joined * k ≤ length c.first) × (length left * k ≤ length c.second)
          room = report-clear (is_over (length (kept found))) (was.opening ∷ (was.joined + length joined) ∷ (was.left + length left) ∷ []) k (length joined) (length left) (length c.first) (length c.second) clear

          next-state : State s.widths (next_content was found)
          next-state =
              record {
                read = state.read;
                query_is = state.query_is;
                few = ltb-false max_rows (length (kept found)) room.0;
                wide = result-wide after q;
                balanced = renewed-balanced account (mark found) (kept found) (result-ascends after q) state.balanced;
              }

          -- An acceptance on both sides comes to these.
          accepted-steps : Steps (replied Done before found) (entered Done ledger i account (records_after c.action (held s)) next)
          accepted-steps =
              record {
                agrees =
                    record {
                      number_is = refl;
                      place_is = refl;
                      joined_is = refl;
                      left_is = refl;
                      first_is = refl;
                      second_is = refl;
                      first_length = fronted-length k joined c.first (only_in-width k (kept found) before (result-wide after q)) room.2;
                      second_length = fronted-length k left c.second (only_in-width k before (kept found) state.wide) room.3;
                    };
                content = next_content was found;
                state = next-state;
                view_is = refl;
                ledger_is = ap (λ records. keeping ledger records i next) (sym (after-held s judged c.action done));
                fresh = λ d f t. refl;
              }

        -- Engine and ledger come to the same, whatever the causes 17 to 19 do.
        turn-steps : (a : Outcome) → first_cause (reports before found) ≡ a → Steps (replied a before found) (entered a ledger i account (records_after c.action (held s)) next)
        turn-steps Done f = accepted-steps f
        turn-steps (Refused n p) f = refused-steps n p found next

      -- Engine and ledger come to the same, whatever the causes 13 to 16 do.
      change-steps : (a : Outcome) → first_cause tests ≡ a → Steps change (entry ledger i account c)
      change-steps Done f =
          let found : Result = result_of after q in
          let same = then-done tests (reports before found) f in
          steps-at
          (changed ∙ ap (λ a. replied a before found) same)
          (ap (entry_by ledger i account c) (after-result f) ∙ ap (λ a. entered a ledger i account (records_after c.action (held s)) (next f)) same)
          (turn-steps f (first_cause (reports before found)) refl)
      change-steps (Refused n p) f =
          let found : Result = result_of after q in
          let among : Result = result-among q s.widths (records_after c.action (held s)) in
          let renewal : Account = renewed account (mark among) (kept among) in
          steps-at
          (changed ∙ ap (λ a. replied a before found) (then-refused tests (reports before found) n p f))
          (ap (λ a. entered a ledger i account (records_after c.action (held s)) renewal) (then-refused tests (reports before among) n p f))
          (refused-steps n p found renewal)

      -- One call of the list.
      pub step : (r : Reply) → Ensured bs s (list_of q was) c r → Stepped s lists i was c r (entry (ledger_of s lists) i (account_of q was) c)
      step r made = steps-at made refl (change-steps (first_cause tests) refl)

      -- The ledger has an entry for it, and no other.
      records_ascend : Ascending record_below (held s)
      records_ascend = (reflected (reflects-layout s) (judged-layout s judged).1).ascending

      pub step-enters : let p = entry (ledger_of s lists) i (account_of q was) c in Enters (ledger_of s lists) i (account_of q was) c p.0 p.1
      step-enters = entry-enters ledger i account c records_ascend state.balanced.ascending

      pub step_is : {u : Report} {m : Ledger} → Enters (ledger_of s lists) i (account_of q was) c u m → (u, m) ≡ entry (ledger_of s lists) i (account_of q was) c
      step_is x = enters_is ledger i account c records_ascend state.balanced.ascending x

-- ---- an accepted opening

-- An accepted opening answers with the list of what is found.
opening-accepted : (a : Outcome) (cols : List ℕ) (found : Result) (v : View) → opening_reply a cols found ≡ record { answer = Done; view = v } → (a ≡ Done) × (v ≡ view_of cols found (length (kept found)) 0 0)
opening-accepted Done cols found v e = (refl, ap (λ r. r.view) (sym e))
opening-accepted (Refused n p) cols found v e = absurd (subst (λ r. T (not (is_done r.answer))) e tt)

module _ (bs : List ℕ) (s : Store) (v : View) (opened : OpensWith s bs v) where
  abbrev asked : Query
  asked = query_read s bs

  abbrev answered : Result
  answered = result_of s asked

  -- No cause is met, and the list is that of the rows found.
  accepted : (first_cause (begin_checks s bs ++ over_checks answered) ≡ Done) × (v ≡ list_of asked (opened_content answered))
  accepted = opening-accepted (first_cause (begin_checks s bs ++ over_checks answered)) (columns (formula asked)) answered v opened

  pub opened-is : v ≡ list_of (query_read s bs) (opened_content (result_of s (query_read s bs)))
  opened-is = accepted.1

  begun : first_cause (begin_checks s bs) ≡ Done
  begun = first_done (begin_checks s bs) (over_checks answered) accepted.0

  pub opened-judged : judgement s ≡ Done
  opened-judged = begun-judged s bs begun

  -- The content is that of an opening.
  pub opened-state : State bs (query_read s bs) s.widths (opened_content (result_of s (query_read s bs)))
  opened-state =
      record {
        read = later-done (store_checks s) (read_checks s.widths bs) begun;
        query_is = refl;
        few = ltb-false max_rows (length (kept answered)) (first-clear 17 (is_over (length (kept answered))) [] (later-done (begin_checks s bs) (over_checks answered) accepted.0)).0;
        wide = result-wide s asked;
        balanced = record { ascending = result-ascends s asked; counts = omega arith };
      }
