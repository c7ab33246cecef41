-- One list of a run, among whatever other lists there are: what the run leaves of it. Calls of other lists touch it only through the store, which they leave in the
-- layout and with its widths.
use Rattle.std.specs.Prelude.{ℕ, ◌+◌, ◌≡◌, refl, Bool, true, false, cond, List, length, eqb}
use Rattle.std.proofs.Common.{sym, ap, subst, ◌∙◌}
use Rattle.std.proofs.Math.Path.{subst⁻¹}
use Rattle.std.proofs.Math.Option.{Option, none, some, some-injective, none-ne-some}
use Rattle.calculus.specs.Reflects.{Reflects, holds, fails}
use Rattle.calculus.proofs.Theory.Reflects.Laws.{reflects-eqb}
use Rattle.causes.specs.Causes.{Done, is_done}
use Rattle.tables.specs.declared.Store.{Store}
use Rattle.tables.specs.Store.{judgement}
use Rattle.query.specs.declared.Query.{Query}
use Rattle.answer.specs.Reply.{result_of, query_read}
use Rattle.standing.specs.declared.View.{View}
use Rattle.standing.specs.Families.{Family}
use Rattle.standing.specs.View.{rows_in, kept}
use Rattle.standing.specs.Change.{change_of}
use Rattle.standing.proofs.Theory.Change.Calls.{Grown, StoreKept, change-grown, change-store}
use Rattle.standing.specs.Ledger.{Account, Call, Enters}
use Rattle.standing.proofs.Theory.Ledger.Laws.{entry}
use Rattle.standing.specs.Runs.{Driver, driver, Reply, Event, OpensWith, Ensured, Run, ended, open_then, call_then, up_to_date, Tally, first_tally, next_tally, tally}
use Rattle.standing.proofs.Theory.Runs.Steps.{ledger_of, Content, opened_content, account_of, list_of, State, Fresh, Stepped, rows_are, step, step-enters, opened-is, opened-judged, opened-state}

-- The counts of a list are what was told of it.
pub record Counts (v : View) (n : Tally) : Type 0 where
  pub opening_is : v.opening ≡ n.opening
  pub joined_is : v.joined ≡ n.joined
  pub left_is : v.left ≡ n.left

-- The store is in the layout, and the list is that of a content, whose result is fresh where b says so; its counts are what was told.
pub record Holds (b : Bool) (n : Tally) (s : Store) (x : Driver) : Type 0 where
  pub judged : judgement s ≡ Done
  pub query : Query
  pub content : Content
  pub state : State x.bytes query s.widths content
  pub view_is : x.view ≡ list_of query content
  pub fresh : Fresh x.bytes query b s content
  pub counts : Counts x.view n

-- A list that isn't open, or holds.
pub data Held (b : Bool) (n : Tally) (s : Store) : Option Driver → Type 0 where
  unopened : Held b n s none
  open_list : {x : Driver} → Holds b n s x → Held b n s (some x)

pub held-open : {b : Bool} {n : Tally} {s : Store} {o : Option Driver} (x : Driver) → Held b n s o → o ≡ some x → Holds b n s x
held-open x unopened e = absurd (none-ne-some x e)
held-open {b} {n} {s} x (open_list {x = y} z) e = subst (Holds b n s) (some-injective y x e) z

-- ---- an opening

opening-holds : (s : Store) (bs : List ℕ) (v : View) → OpensWith s bs v → Holds true (first_tally v) s (driver bs v)
opening-holds s bs v made =
    record {
      judged = opened-judged bs s v made;
      query = query_read s bs;
      content = opened_content (result_of s (query_read s bs));
      state = opened-state bs s v made;
      view_is = opened-is bs s v made;
      fresh = λ t. refl;
      counts = record { opening_is = ap (λ u. u.opening) is ∙ ap length (sym rows); joined_is = ap (λ u. u.joined) is; left_is = ap (λ u. u.left) is };
    }
  where
    is : v ≡ list_of (query_read s bs) (opened_content (result_of s (query_read s bs)))
    is = opened-is bs s v made

    rows : rows_in v ≡ kept (result_of s (query_read s bs))
    rows = ap rows_in is ∙ rows_are bs (query_read s bs) s (opened-judged bs s v made) (opened_content (result_of s (query_read s bs))) (opened-state bs s v made)

module _ {b : Bool} {n : Tally} {s : Store} {x : Driver} (z : Holds b n s x) where
  -- ---- a call of its own

  abbrev pub account : Account
  account = account_of z.query z.content

  module _ (i : ℕ) (c : Call) (r : Reply) (made : Ensured x.bytes s x.view c r) where
    pub own-stepped : Stepped x.bytes z.query s (λ j. some account) i z.content c r (entry (ledger_of s (λ j. some account)) i account c)
    own-stepped =
        step x.bytes z.query s z.judged z.content z.state (λ j. some account) i refl c r
        (made ∙ ap (λ u. change_of c.action s u x.bytes c.first c.second) z.view_is)

    pub own-enters : let p = entry (ledger_of s (λ j. some account)) i account c in Enters (ledger_of s (λ j. some account)) i account c p.0 p.1
    own-enters = step-enters x.bytes z.query s z.judged z.content z.state (λ j. some account) i refl c

    own-kept : StoreKept s r
    own-kept = subst⁻¹ (StoreKept s) made (change-store c.action s x.view x.bytes c.first c.second z.judged)

    own-grown : Grown x.view r
    own-grown = subst⁻¹ (Grown x.view) made (change-grown c.action s x.view x.bytes c.first c.second)

    own-holds : Holds (cond (is_done r.0.answer) true b) (next_tally n r.0) r.0.store (driver x.bytes r.0.view)
    own-holds =
        record {
          judged = own-kept.0;
          query = z.query;
          content = own-stepped.content;
          state = subst⁻¹ (λ ws. State x.bytes z.query ws own-stepped.content) own-kept.1 own-stepped.state;
          view_is = own-stepped.view_is;
          fresh = own-stepped.fresh b z.fresh;
          counts =
              record {
                opening_is = own-grown.0 ∙ z.counts.opening_is;
                joined_is = own-grown.1 ∙ ap (λ k. k + r.0.joined) z.counts.joined_is;
                left_is = own-grown.2 ∙ ap (λ k. k + r.0.left) z.counts.left_is;
              };
        }

  -- ---- a call of another list, whatever that list is: the result stays fresh only if the call is refused

  other-holds : (r : Reply) → StoreKept s r → Holds (cond (is_done r.0.answer) false b) n r.0.store x
  other-holds r kept =
      record {
        judged = kept.0;
        query = z.query;
        content = z.content;
        state = subst⁻¹ (λ ws. State x.bytes z.query ws z.content) kept.1 z.state;
        view_is = z.view_is;
        fresh = go (is_done r.0.answer) kept.2;
        counts = z.counts;
      }
    where
      go : (done : Bool) → (done ≡ false → r.0.store ≡ s) → Fresh x.bytes z.query (cond done false b) r.0.store z.content
      go true f t = absurd t
      go false f t = z.fresh t ∙ ap (λ u. result_of u z.query) (sym (f refl))

other-held : {b : Bool} {n : Tally} {s : Store} {o : Option Driver} → Held b n s o → (r : Reply) → (judgement s ≡ Done → StoreKept s r) → Held (cond (is_done r.0.answer) false b) n r.0.store o
other-held unopened r kept = unopened
other-held (open_list z) r kept = open_list (other-holds z r (kept z.judged))

-- ---- any number of events

module _ (i : ℕ) where
  pub keeps_on : {s t : Store} {d e : Family Driver} {es : List Event} → Run s d es t e → (b : Bool) (n : Tally) → Held b n s (d i) → Held (up_to_date i b es) (tally i n es) t (e i)
  keeps_on ended b n z = z
  keeps_on (open_then {s} {d = d} {i = j} {bs = bs} {v = v} made run) b n z =
      keeps_on run (cond (eqb i j) true b) (cond (eqb i j) (first_tally v) n) (go (eqb i j))
    where
      go : (own : Bool) → Held (cond own true b) (cond own (first_tally v) n) s (cond own (some (driver bs v)) (d i))
      go true = open_list (opening-holds s bs v made)
      go false = z
  keeps_on (call_then {s} {d = d} {i = j} {x = x} {c = c} {r = r} f made run) b n z =
      keeps_on run (cond (is_done r.0.answer) (eqb i j) b) (cond (eqb i j) (next_tally n r.0) n) (go (reflects-eqb i j))
    where
      go : {own : Bool} → Reflects (i ≡ j) own → Held (cond (is_done r.0.answer) own b) (cond own (next_tally n r.0) n) r.0.store (cond own (some (driver x.bytes r.0.view)) (d i))
      go (holds h) = open_list (own-holds (held-open x z (ap d h ∙ f)) i c r made)
      go (fails m) = other-held z r (λ judged. subst⁻¹ (StoreKept s) made (change-store c.action s x.view x.bytes c.first c.second judged))
