-- Demand 3: every run is the ledger's, and every run has one. And what follows, for each list that is open at the end: where it is up to date, it is endless exactly
-- when infinitely many rows satisfy the query over the records then held, else it holds all such rows and no other; each change reports exactly the rows that joined
-- and left; and the counts add up. A run of one list leaves it up to date.
use Rattle.std.specs.Prelude.{ℕ, ◌+◌, ◌≡◌, refl, ◌↔◌, Bool, true, false, cond, List, [], ◌∷◌, map, length, T, eqb}
use Rattle.std.proofs.Common.{arith, sym, ap, subst, subst₂, ◌∙◌}
use Rattle.std.proofs.Math.Path.{subst⁻¹}
use Rattle.std.proofs.Math.Option.{Option, none, some, none-ne-some}
use Rattle.calculus.specs.Sets.{In, here, there}
use Rattle.calculus.proofs.Theory.Sets.Laws.{in-nil}
use Rattle.calculus.specs.Reflects.{Reflects, holds, fails}
use Rattle.calculus.proofs.Theory.Reflects.Laws.{reflects-eqb, reflects-true}
use Rattle.calculus.specs.Order.{Ascending}
use Rattle.calculus.specs.Generators.{columns}
use Rattle.calculus.specs.Rows.{Row, row_below, Result, endless, listed}
use Rattle.calculus.proofs.Theory.Evaluation.Laws.{not-endless}
use Rattle.causes.specs.Causes.{Done, number, is_done}
use Rattle.tables.specs.declared.Store.{Store}
use Rattle.tables.specs.Store.{facts, held, judgement}
use Rattle.query.specs.declared.Query.{Query}
use Rattle.query.specs.Reading.{pool, formula, read_of}
use Rattle.answer.specs.Reply.{result_of, query_read, EndlessOver, RightOver}
use Rattle.standing.specs.declared.View.{View}
use Rattle.standing.specs.Change.{Change, change_of, fronted}
use Rattle.standing.specs.Families.{Family, no_list, with_list, Every, Paired, neither, both}
use Rattle.standing.proofs.Theory.Families.Laws.{with-own, one_list, every-none, paired-with, paired_at}
use Rattle.standing.specs.View.{rows_in, kept, mark}
use Rattle.standing.proofs.Theory.Change.Calls.{StoreKept, change-store, change-worked}
use Rattle.standing.specs.Ledger.{Account, Ledger, Call, Report, Difference, Begins, Opens, keeping, Enters, Accounts, closed, opens, enter}
use Rattle.standing.proofs.Theory.Ledger.Laws.{right-among, opening_account, opens-is, opening-opens, entry, enters-reports}
use Rattle.standing.specs.Runs.{Driver, driver, Reply, Event, opened, called, fed, OpensWith, Ensured, Run, ended, open_then, call_then, Agrees, Agree, none as no-event, past, also, IsListOf, Represents, up_to_date, Tally, first_tally, next_tally, tally, no_tally, index, Alone, calls_of, joined_in, left_in}
use Rattle.standing.proofs.Theory.Runs.Steps.{ledger_of, Content, opened_content, account_of, list_of, State, Stepped, rows_are, is-list, step, step-enters, step_is, opened-is, opened-judged, opened-state}
use Rattle.standing.proofs.Theory.Runs.Lists.{Holds, unopened, held-open, account, own-stepped, own-enters, keeps_on}

-- ---- every list of a run

-- The list stands for the account, with these widths: both are those of one content.
record Stands (ws : List ℕ) (a : Account) (x : Driver) : Type 0 where
  query : Query
  content : Content
  state : State x.bytes query ws content
  account_is : a ≡ account_of query content
  view_is : x.view ≡ list_of query content

-- The store and the lists stand for the ledger. Where a list is open, the store is in the layout.
record Stood (l : Ledger) (s : Store) (d : Family Driver) : Type 0 where
  ledger_is : l ≡ ledger_of s l.lists
  judged : Every (λ (x : Driver). judgement s ≡ Done) d
  lists : (i : ℕ) → Paired (Stands s.widths) (l.lists i) (d i)

-- A list that stands for an account is its list.
stands-list : (s : Store) (a : Account) (x : Driver) → judgement s ≡ Done → Stands s.widths a x → IsListOf (query_read s x.bytes) a x.view
stands-list s a x judged h =
    subst⁻¹ (λ q. IsListOf q a x.view) h.state.query_is
    (subst⁻¹ (λ b. IsListOf h.query b x.view) h.account_is
    (subst⁻¹ (IsListOf h.query (account_of h.query h.content)) h.view_is
    (is-list x.bytes h.query s judged h.content h.state)))

pair-lists : (s : Store) {o : Option Account} {u : Option Driver} → Paired (Stands s.widths) o u → ((x : Driver) → u ≡ some x → judgement s ≡ Done) → Paired (λ a x. IsListOf (query_read s x.bytes) a x.view) o u
pair-lists s neither judged = neither
pair-lists s (both {x = a} {y = x} h) judged = both (stands-list s a x (judged x refl) h)

-- Before the first opening they do.
begins-stood : (s : Store) (l : Ledger) → Begins s l → Stood l s no_list
begins-stood s l o =
    record {
      ledger_is = λ i. record { widths = o.widths_are i; records = o.records_are i; lists = l.lists };
      judged = every-none (λ x. judgement s ≡ Done);
      lists = λ i. subst⁻¹ (λ f. Paired (Stands s.widths) (f i) none) o.lists_are neither;
    }

-- An opening leaves them so.
module _ {l : Ledger} {s : Store} {d : Family Driver} (z : Stood l s d) (i : ℕ) (bs : List ℕ) (v : View) (made : OpensWith s bs v) where
  opening-stood : (a : Account) → Opens (read_of l.widths bs).query l a → Stood (keeping l l.records i a) s (with_list i (driver bs v) d)
  opening-stood a o =
      record {
        ledger_is = ap (λ m. record { widths = m.widths; records = m.records; lists = with_list i a l.lists }) z.ledger_is;
        judged = λ j x e. opened-judged bs s v made;
        lists = paired-with (Stands s.widths) i stands z.lists;
      }
    where
      stands : Stands s.widths a (driver bs v)
      stands =
          record {
            query = query_read s bs;
            content = opened_content (result_of s (query_read s bs));
            state = opened-state bs s v made;
            account_is = opens-is (read_of l.widths bs).query l a o ∙ ap (λ m. opening_account (read_of m.widths bs).query m.widths m.records) z.ledger_is;
            view_is = opened-is bs s v made;
          }

-- A call leaves them so, and its reply is the ledger's.
module _ {l : Ledger} {s : Store} {d : Family Driver} (z : Stood l s d) (i : ℕ) (x : Driver) (e : d i ≡ some x) (c : Call) (r : Reply) (made : Ensured x.bytes s x.view c r) where
  at : (a : Account) × (l.lists i ≡ some a) × Stands s.widths a x
  at = paired_at (Stands s.widths) (z.lists i) x e

  abbrev h : Stands s.widths at.0 x
  h = at.2

  abbrev owned : Account
  owned = account_of h.query h.content

  listed_at : l.lists i ≡ some owned
  listed_at = at.1 ∙ ap some h.account_is

  abbrev entered : Report × Ledger
  entered = entry (ledger_of s l.lists) i owned c

  stepped : Stepped x.bytes h.query s l.lists i h.content c r entered
  stepped =
      step x.bytes h.query s (z.judged i x e) h.content h.state l.lists i listed_at c r
      (made ∙ ap (λ v. change_of c.action s v x.bytes c.first c.second) h.view_is)

  store_kept : StoreKept s r
  store_kept = subst⁻¹ (StoreKept s) made (change-store c.action s x.view x.bytes c.first c.second (z.judged i x e))

  abbrev renewal : Account
  renewal = account_of h.query stepped.content

  stands : Stands s.widths renewal (driver x.bytes r.0.view)
  stands =
      record {
        query = h.query;
        content = stepped.content;
        state = stepped.state;
        account_is = refl;
        view_is = stepped.view_is;
      }

  entry-stood : Stood entered.1 r.0.store (with_list i (driver x.bytes r.0.view) d)
  entry-stood =
      subst⁻¹ (λ m. Stood m r.0.store (with_list i (driver x.bytes r.0.view) d)) stepped.ledger_is
      (record {
        ledger_is = refl;
        judged = λ j y f. store_kept.0;
        lists =
            subst⁻¹ (λ ws. (j : ℕ) → Paired (Stands ws) (with_list i renewal l.lists j) (with_list i (driver x.bytes r.0.view) d j)) store_kept.1
            (paired-with (Stands s.widths) i stands z.lists);
      })

  -- The ledger has an entry for it.
  call_enters : Enters l i owned c entered.0 entered.1
  call_enters =
      subst⁻¹ (λ m. Enters m i owned c entered.0 entered.1) z.ledger_is
      (step-enters x.bytes h.query s (z.judged i x e) h.content h.state l.lists i listed_at c)

  -- Whatever entry it has comes to the same.
  call-stood : (a : Account) (u : Report) (m : Ledger) → l.lists i ≡ some a → Enters l i a c u m → Agrees c u r × Stood m r.0.store (with_list i (driver x.bytes r.0.view) d)
  call-stood a u m f y =
      let w = subst (λ b. Enters l i b c u m) (one_list l.lists i f listed_at) y in
      let same =
      step_is x.bytes h.query s (z.judged i x e) h.content h.state l.lists i listed_at c
      (subst (λ n. Enters n i owned c u m) z.ledger_is w) in
      (subst⁻¹ (λ p. Agrees c p.0 r) same stepped.agrees, subst⁻¹ (λ p. Stood p.1 r.0.store (with_list i (driver x.bytes r.0.view) d)) same entry-stood)

-- Any number of events.
steps : {s t : Store} {d e : Family Driver} {es : List Event} → Run s d es t e → {l n : Ledger} {us : List Report} → Accounts l (map fed es) us n → Stood l s d → Agree es us × Stood n t e
steps ended closed z = (no-event, z)
steps (open_then {i = i} {bs = bs} {v = v} made run) (opens {a = a} o f) z =
    let rest = steps run f (opening-stood z i bs v made a o) in
    (past rest.0, rest.1)
steps (call_then {i = i} {x = x} {c = c} {r = r} e made run) (enter {m = m} {a = a} {r = u} h y f) z =
    let one = call-stood z i x e c r made a u m h y in
    let rest = steps run f one.1 in
    (also one.0 rest.0, rest.1)

-- The ledger has an entry for each.
goes_on : {s t : Store} {d e : Family Driver} {es : List Event} → Run s d es t e → (l : Ledger) → Stood l s d → (n : Ledger) × (us : List Report) × Accounts l (map fed es) us n
goes_on ended l z = (l, [], closed)
goes_on (open_then {i = i} {bs = bs} {v = v} made run) l z =
    let q : Query = (read_of l.widths bs).query in
    let a : Account = opening_account q l.widths l.records in
    let rest = goes_on run (keeping l l.records i a) (opening-stood z i bs v made a (opening-opens q l)) in
    (rest.0, rest.1, opens (opening-opens q l) rest.2)
goes_on (call_then {i = i} {x = x} {c = c} {r = r} e made run) l z =
    let rest = goes_on run (entered z i x e c r made).1 (entry-stood z i x e c r made) in
    (rest.0, (entered z i x e c r made).0 ∷ rest.1, enter (listed_at z i x e c r made) (call_enters z i x e c r made) rest.2)

-- ---- the claim

module _ (s t : Store) (d : Family Driver) (es : List Event) (run : Run s no_list es t d) where
  abbrev first : Ledger
  first = ledger_of s no_list

  first-begins : Begins s first
  first-begins = record { widths_are = refl; records_are = refl; lists_are = refl }

  -- There is a ledger that is fed the store and then the run, without its answers.
  pub run-ledger : (l n : Ledger) × (us : List Report) × Begins s l × Accounts l (map fed es) us n
  run-ledger = let rest = goes_on run first (begins-stood s first first-begins) in (first, rest.0, rest.1, first-begins, rest.2)

  -- The claim: whatever ledger is fed these, the replies are its reports, and at the end store and lists are its own.
  pub demand : (l n : Ledger) (us : List Report) → Begins s l → Accounts l (map fed es) us n → Agree es us × Represents n t d
  demand l n us o f = let all = steps run f (begins-stood s l o) in (all.0, represents all.1)
    where
      represents : Stood n t d → Represents n t d
      represents z =
          record {
            widths_are = ap (λ m. m.widths) (sym z.ledger_is);
            records_are = ap (λ m. m.records) (sym z.ledger_is);
            lists_are = λ i. pair-lists t (z.lists i) (z.judged i);
          }

-- ---- what a list keeps of right answers

module _ (s : Store) (q : Query) where
  -- The mark of a right result says whether infinitely many rows satisfy the query.
  marks : (a : Result) → RightOver s q a → Reflects (EndlessOver s q) (mark a)
  marks endless r = holds r
  marks (listed rows) r = fails (not-endless (pool q) (facts s) (formula q) (columns (formula q)) rows r)

  -- A right result that is not endless keeps all rows that satisfy the query.
  keeps : (a : Result) → RightOver s q a → ¬ EndlessOver s q → RightOver s q (listed (kept a))
  keeps endless r n = absurd (n r)
  keeps (listed rows) r n = r

-- A marked one keeps none.
marked-none : (a : Result) → mark a ≡ true → kept a ≡ []
marked-none endless e = refl
marked-none (listed rows) e = absurd (subst⁻¹ T e tt)

-- The number 0 means that the call was worked on.
pub answered-done : (bs : List ℕ) (s : Store) (v : View) (c : Call) (r : Reply) → Ensured bs s v c r → number r.0.answer ≡ 0 → r.0.answer ≡ Done
answered-done bs s v c r made = subst⁻¹ (λ x. number x.0.answer ≡ 0 → x.0.answer ≡ Done) made (change-worked c.action s v bs c.first c.second)

-- ---- each list of a run

module _ (s t : Store) (d : Family Driver) (es : List Event) (run : Run s no_list es t d) (i : ℕ) (x : Driver) (opened-as : d i ≡ some x) where
  now : Holds (up_to_date i false es) (tally i no_tally es) t x
  now = held-open x (keeps_on i run false no_tally unopened) opened-as

  -- The query in its bytes.
  abbrev q : Query
  q = query_read t x.bytes

  rows-held : rows_in x.view ≡ kept now.content.result
  rows-held = ap rows_in now.view_is ∙ rows_are x.bytes now.query t now.judged now.content now.state

  -- What an up_to_date list holds is what the query answers over the store.
  found-now : up_to_date i false es ≡ true → now.content.result ≡ result_of t q
  found-now f = now.fresh (subst⁻¹ T f tt) ∙ ap (result_of t) (sym now.state.query_is)

  -- Where the list is up to date, it is endless exactly when infinitely many rows satisfy the query over the records then held;
  pub run-endless : up_to_date i false es ≡ true → Reflects (EndlessOver t (query_read t x.bytes)) x.view.endless
  run-endless f = subst⁻¹ (Reflects (EndlessOver t q)) (ap (λ u. u.endless) now.view_is ∙ ap mark (found-now f)) (marks t q (result_of t q) (right-among q t.widths (held t)))

  -- and one that is not endless holds all rows that satisfy the query and no other, each once, ascending.
  pub run-rows : up_to_date i false es ≡ true → ¬ EndlessOver t (query_read t x.bytes) → RightOver t (query_read t x.bytes) (listed (rows_in x.view))
  run-rows f n = subst⁻¹ (λ rows. RightOver t q (listed rows)) (rows-held ∙ ap kept (found-now f)) (keeps t q (result_of t q) (right-among q t.widths (held t)) n)

  -- An endless list has no rows.
  pub run-marked : x.view.endless ≡ true → rows_in x.view ≡ []
  run-marked m = rows-held ∙ marked-none now.content.result (ap (λ u. u.endless) (sym now.view_is) ∙ m)

  -- The counts add up.
  pub run-balanced : x.view.opening + x.view.joined ≡ x.view.left + length (rows_in x.view)
  run-balanced =
      subst⁻¹ (λ u. u.opening + u.joined ≡ u.left + length (kept now.content.result)) now.view_is now.state.balanced.counts
      ∙ ap (λ rows. x.view.left + length rows) (sym rows-held)

  -- The counts are those of the rows at the last opening and of all that the replies told since; so the rows at that opening and those told as joined are as many
  -- as those told as left and the rows held.
  pub run-counts : (x.view.opening ≡ (tally i no_tally es).opening) × (x.view.joined ≡ (tally i no_tally es).joined) × (x.view.left ≡ (tally i no_tally es).left)
  run-counts = (now.counts.opening_is, now.counts.joined_is, now.counts.left_is)

  pub run-adds-up : (tally i no_tally es).opening + (tally i no_tally es).joined ≡ (tally i no_tally es).left + length (rows_in x.view)
  run-adds-up = (λ k. sym run-counts.0 k + sym run-counts.1 k) ∙ run-balanced ∙ ap (λ n. n + length (rows_in x.view)) run-counts.2

  -- A call of the list after it, where it is accepted, reports exactly the rows that joined and left: each in the list now and not before, or before and not now;
  -- ascending.
  pub run-reports : (c : Call) (r : Reply) → Ensured x.bytes t x.view c r → r.0.answer ≡ Done →
      (joined : List Row) × (left : List Row)
      × ((u : Row) → In u joined ↔ (In u (rows_in r.0.view) × ¬ In u (rows_in x.view)))
      × ((u : Row) → In u left ↔ (In u (rows_in x.view) × ¬ In u (rows_in r.0.view)))
      × Ascending row_below joined
      × Ascending row_below left
      × (r.0.joined ≡ length joined)
      × (r.0.left ≡ length left)
      × (r.1.0 ≡ fronted joined c.first)
      × (r.1.1 ≡ fronted left c.second)
  run-reports c r made done = (
    report.joined,
    report.left,
    told.0.1,
    told.1.1,
    told.0.0,
    told.1.0,
    next.agrees.joined_is,
    next.agrees.left_is,
    next.agrees.first_is,
    next.agrees.second_is,
  )
    where
      a : Account
      a = account now

      report : Report
      report = (entry (ledger_of t (λ k. some a)) i a c).0

      after : Ledger
      after = (entry (ledger_of t (λ k. some a)) i a c).1

      next : Stepped x.bytes now.query t (λ k. some a) i now.content c r (report, after)
      next = own-stepped now i c r made

      shown : (b : Account) × (after.lists ≡ with_list i b (λ k. some a)) × Difference b.rows a.rows report.joined × Difference a.rows b.rows report.left
      shown = enters-reports (own-enters now i c r made) (sym next.agrees.number_is ∙ ap number done)

      renewal : Account
      renewal = account_of now.query next.content

      renewal-is : shown.0 ≡ renewal
      renewal-is =
          one_list after.lists i
          (ap (λ f. f i) shown.1 ∙ with-own i shown.0 (λ k. some a))
          (ap (λ m. m.lists i) next.ledger_is ∙ with-own i renewal (λ k. some a))

      rows-now : shown.0.rows ≡ rows_in r.0.view
      rows-now = ap (λ b. b.rows) renewal-is ∙ sym (ap rows_in next.view_is ∙ rows_are x.bytes now.query t now.judged next.content next.state)

      told : Difference (rows_in r.0.view) (rows_in x.view) report.joined × Difference (rows_in x.view) (rows_in r.0.view) report.left
      told = (
        subst₂ (λ xs ys. Difference xs ys report.joined) rows-now (sym rows-held) shown.2,
        subst₂ (λ xs ys. Difference xs ys report.left) (sym rows-held) rows-now shown.3,
      )

-- ---- a run of one list

module _ (i : ℕ) where
  -- Once it is up to date it stays so,
  stays-fresh : (es : List Event) → Alone i es → up_to_date i true es ≡ true
  stays-fresh [] all = refl
  stays-fresh (opened j bs v ∷ es) all = ap (λ b. up_to_date i b es) (go (eqb i j)) ∙ stays-fresh es (λ a m. all a (there m))
    where
      go : (own : Bool) → cond own true true ≡ true
      go true = refl
      go false = refl
  stays-fresh (called j c r ∷ es) all = ap (λ b. up_to_date i b es) (go (is_done r.0.answer) (reflects-eqb i j)) ∙ stays-fresh es (λ a m. all a (there m))
    where
      go : (done : Bool) {own : Bool} → Reflects (i ≡ j) own → cond done own true ≡ true
      go true (holds h) = refl
      go true (fails n) = absurd (n (sym (all (called j c r) (here refl))))
      go false own = refl

  -- and its first event is an opening.
  fresh-from : {s t : Store} {f d : Family Driver} {es : List Event} → Run s f es t d → ((j : ℕ) → f j ≡ none) → Alone i es → (x : Driver) → d i ≡ some x → up_to_date i false es ≡ true
  fresh-from ended shut all x e = absurd (none-ne-some x (sym (shut i) ∙ e))
  fresh-from (open_then {i = j} {bs = bs} {v = v} {es = es} made run) shut all x e =
      ap (λ b. up_to_date i (cond b true false) es) (reflects-true (reflects-eqb i j) (sym (all (opened j bs v) (here refl)))) ∙ stays-fresh es (λ a m. all a (there m))
  fresh-from (call_then {i = j} {x = y} e made run) shut all x f = absurd (none-ne-some y (sym (shut j) ∙ e))

-- So after every run of one list it is endless exactly when infinitely many rows satisfy the query over the records then held, else it holds all such rows and no
-- other.
module _ (s t : Store) (d : Family Driver) (es : List Event) (run : Run s no_list es t d) (i : ℕ) (alone : Alone i es) (x : Driver) (opened-as : d i ≡ some x) where
  pub alone-fresh : up_to_date i false es ≡ true
  alone-fresh = fresh-from i run (λ j. refl) alone x opened-as

  pub alone-endless : Reflects (EndlessOver t (query_read t x.bytes)) x.view.endless
  alone-endless = run-endless s t d es run i x opened-as alone-fresh

  pub alone-rows : ¬ EndlessOver t (query_read t x.bytes) → RightOver t (query_read t x.bytes) (listed (rows_in x.view))
  alone-rows = run-rows s t d es run i x opened-as alone-fresh

-- ---- document 01's run

module _ (i : ℕ) where
  -- What the calls told, beside what was told before them.
  tally-calls : (ps : List (Call × Reply)) (n : Tally) → tally i n (calls_of i ps) ≡ record { opening = n.opening; joined = n.joined + joined_in ps; left = n.left + left_in ps }
  tally-calls [] n =
      let j : n.joined ≡ n.joined + 0 = omega arith in
      let m : n.left ≡ n.left + 0 = omega arith in
      λ k. record { opening = n.opening; joined = j k; left = m k }
  tally-calls (p ∷ ps) n =
      let c : Change = p.1.0 in
      let j : n.joined + c.joined + joined_in ps ≡ n.joined + (c.joined + joined_in ps) = omega arith in
      let m : n.left + c.left + left_in ps ≡ n.left + (c.left + left_in ps) = omega arith in
      ap (λ own. tally i (cond own (next_tally n c) n) (calls_of i ps)) (reflects-true (reflects-eqb i i) refl)
      ∙ tally-calls ps (next_tally n c)
      ∙ (λ k. record { opening = n.opening; joined = j k; left = m k })

  calls_alone : (ps : List (Call × Reply)) → Alone i (calls_of i ps)
  calls_alone [] a m = absurd (in-nil m)
  calls_alone (p ∷ ps) a (here is) = ap index is
  calls_alone (p ∷ ps) a (there m) = calls_alone ps a m

  run_alone : (bs : List ℕ) (v : View) (ps : List (Call × Reply)) → Alone i (opened i bs v ∷ calls_of i ps)
  run_alone bs v ps a (here is) = ap index is
  run_alone bs v ps a (there m) = calls_alone ps a m

  -- The calls leave the list open for the same query, and the widths.
  stays_open : {s t : Store} {f d : Family Driver} (bs : List ℕ) (ps : List (Call × Reply)) → Run s f (calls_of i ps) t d → judgement s ≡ Done → (v : View) → f i ≡ some (driver bs v) → (w : View) × (d i ≡ some (driver bs w)) × (t.widths ≡ s.widths)
  stays_open bs [] ended judged v at = (v, at, refl)
  stays_open {s = s} {t = t} {f = f} {d = d} bs (p ∷ ps) (call_then {x = x} {c = c} {r = r} e made run) judged v at =
      let same : x ≡ driver bs v = one_list f i e at in
      let kept = subst⁻¹ (StoreKept s) made (change-store c.action s x.view x.bytes c.first c.second judged) in
      let rest = stays_open {s = p.1.0.store} bs ps run kept.0 r.0.view (with-own i (driver x.bytes r.0.view) f ∙ ap (λ y. some (driver y.bytes r.0.view)) same) in
      (rest.0, rest.1, rest.2 ∙ kept.1)

module _ (s t : Store) (d : Family Driver) (i : ℕ) (bs : List ℕ) (v : View) (ps : List (Call × Reply)) (run : Run s no_list (opened i bs v ∷ calls_of i ps) t d) where
  left_open : Run s no_list (opened i bs v ∷ calls_of i ps) t d → (w : View) × (d i ≡ some (driver bs w)) × (t.widths ≡ s.widths)
  left_open (open_then made rest) = stays_open i bs ps rest (opened-judged bs s v made) v (with-own i (driver bs v) no_list)

  -- The list is open at the end, for the query of the opening.
  pub base-list : (w : View) × (d i ≡ some (driver bs w))
  base-list = ((left_open run).0, (left_open run).1)

  base-query : query_read t bs ≡ query_read s bs
  base-query = ap (λ ws. (read_of ws bs).query) (left_open run).2

  module _ (w : View) (open-as : d i ≡ some (driver bs w)) where
    -- Endless exactly when infinitely many rows satisfy the query over the records then held;
    pub base-endless : Reflects (EndlessOver t (query_read s bs)) w.endless
    base-endless = subst (λ q. Reflects (EndlessOver t q) w.endless) base-query (alone-endless s t d (opened i bs v ∷ calls_of i ps) run i (run_alone i bs v ps) (driver bs w) open-as)

    -- else it holds all rows that satisfy the query and no other, each once, ascending.
    pub base-rows : ¬ EndlessOver t (query_read s bs) → RightOver t (query_read s bs) (listed (rows_in w))
    base-rows =
        subst (λ q. ¬ EndlessOver t q → RightOver t q (listed (rows_in w))) base-query
        (alone-rows s t d (opened i bs v ∷ calls_of i ps) run i (run_alone i bs v ps) (driver bs w) open-as)

    -- Rows at the opening and those told as joined are as many as those told as left and the rows held.
    pub base-adds-up : length (rows_in v) + joined_in ps ≡ left_in ps + length (rows_in w)
    base-adds-up =
        let all =
        subst (λ n. n.opening + n.joined ≡ n.left + length (rows_in w))
        (ap (λ own. tally i (cond own (first_tally v) no_tally) (calls_of i ps)) (reflects-true (reflects-eqb i i) refl) ∙ tally-calls i ps (first_tally v))
        (run-adds-up s t d (opened i bs v ∷ calls_of i ps) run i (driver bs w) open-as) in
        omega (arith, all)
