-- Laws of filling: to collect the records one by one comes to the filling of document 01, and what that filling gives.
use Rattle.std.specs.Prelude.{ℕ, ◌<◌, ◌≤◌, ◌+◌, ◌≡◌, refl, ◌↔◌, ◌⊎◌, Bool, true, false, not, ◌&&◌, List, [], ◌∷◌, ◌++◌, map, length, take, get_or, T, Result, Ok, Err}
use Rattle.std.proofs.Common.{arith, sym, ap, subst, ◌∙◌, inl, inr, ⊎_elim, take-suc, take_all, add-one}
use Rattle.std.proofs.Math.Path.{subst⁻¹}
use Rattle.std.proofs.Math.Logic.Iff
use Rattle.calculus.specs.Sets.{In, here, there}
use Rattle.calculus.proofs.Theory.Sets.Laws.{in-nil, in-cons, in_map, from-map}
use Rattle.calculus.specs.Order.{Ascending, nothing, insert}
use Rattle.calculus.proofs.Theory.Order.Laws.{from-insert, in_insert, insert-ascending, insert-member}
use Rattle.calculus.specs.Reflects.{Reflects, holds, fails}
use Rattle.calculus.proofs.Theory.Reflects.Laws.{reflects-T, reflects-false, reflects-ltb}
use Rattle.calculus.specs.Satisfaction.{Fact}
use Rattle.causes.specs.declared.Refusal.{Refusal}
use Rattle.causes.specs.Causes.{Answer, Done, Refused, check, first_cause, when, widths_fit}
use Rattle.causes.proofs.Theory.Causes.Laws.{first-clear, first-passed}
use Rattle.tables.specs.declared.Record.{Record}
use Rattle.tables.specs.declared.Store.{Store}
use Rattle.tables.specs.Change.{Changed, changed_of, is_held, reply}
use Rattle.tables.specs.Records.{record_below, fits, fact_of}
use Rattle.tables.proofs.Theory.Records.Laws.{record-order}
use Rattle.tables.specs.Store.{capacity, facts, has_room, have_room, store_of, no_store, Layout}
use Rattle.tables.proofs.Theory.Store.Room.{room-few, room-insert}
use Rattle.tables.proofs.Theory.Store.Laws.{held-store-of, facts-store-of, layout-store-of}
use Rattle.tables.specs.Code.Change.{insertion}
use Rattle.tables.proofs.Theory.Change.Laws.{reflects-held, insertion-in_layout}
use Rattle.tables.specs.Fill.{unless_refused, fill_checks, fill_from, fill_reply}
use Rattle.tables.specs.Code.Fill.{beginning, merged, collected, collect_all, filling_of, CollectedBy}

-- ---- collecting

pub collect-last : (f : Changed) (rs : List Record) (r : Record) → collect_all f (rs ++ (r ∷ [])) ≡ collected (collect_all f rs) r
collect-last f [] r = refl
collect-last f (q ∷ rs) r = collect-last (collected f q) rs r

-- What is refused stays refused.
collect-refused : (n p : ℕ) (s : Store) (rs : List Record) → collect_all (record { answer = Refused n p; store = s }) rs ≡ record { answer = Refused n p; store = s }
collect-refused n p s [] = refl
collect-refused n p s (r ∷ rs) = collect-refused n p s rs

-- A record more in a filling whose refusals tell an answer and a store of any kind: one that is refused stays so, with both.
pub collected-filling : {E : Type 0} {gives : Refusal → E → Type 0} (told : E → Changed) → ((e : E) (r : Record) → collected (told e) r ≡ told e) → ((c : Refusal) (e : E) → gives c e → told e ≡ changed_of no_store (Err c)) → (f now : Result Store E) (r : Record) → CollectedBy gives f r now → filling_of told now ≡ collected (filling_of told f) r
collected-filling told stays says (Ok s) (Ok t) r h = sym h
collected-filling told stays says (Ok s) (Err e) r h = says h.0 e h.2 ∙ sym h.1
collected-filling told stays says (Err e) now r h = ap (filling_of told) h ∙ sym (stays e r)

-- The same where the refusal is a cause alone: it hands back no store.
pub collected-told : (f now : Result Store Refusal) (r : Record) → CollectedBy (λ c e. e ≡ c) f r now → changed_of no_store now ≡ collected (changed_of no_store f) r
collected-told f now r h = sym (same now) ∙ collected-filling told (λ e r. refl) (λ c e. ap told) f now r h ∙ ap (λ g. collected g r) (same f)
  where
    told : Refusal → Changed
    told e = changed_of no_store (Err e)

    same : (g : Result Store Refusal) → filling_of told g ≡ changed_of no_store g
    same (Ok s) = refl
    same (Err e) = refl

-- Records that a store may hold.
record Holdable (ws : List ℕ) (ps : List Record) : Type 0 where
  room : T (have_room ps)
  all_fit : (r : Record) → In r ps → T (fits ws r)
  ascending : Ascending record_below ps

holdable-layout : {ws : List ℕ} {ps : List Record} → Holdable ws ps → Layout (store_of ws ps)
holdable-layout {ws} {ps} h = layout-store-of ws ps h.room h.all_fit h.ascending

holdable-none : (ws : List ℕ) → Holdable ws []
holdable-none ws = record { room = tt; all_fit = λ r i. absurd (in-nil i); ascending = nothing }

holdable-insert : {ws : List ℕ} {ps : List Record} (r : Record) → Holdable ws ps → T (fits ws r) → T (has_room r ps) → Holdable ws (insert record_below r ps)
holdable-insert {ws} {ps} r h t l = record { room = room-insert r ps l h.room; all_fit = λ q i. fit q (from-insert record_below r ps q i); ascending = insert-ascending record_below record-order r h.ascending }
  where
    fit : (q : Record) → In q (r ∷ ps) → T (fits ws q)
    fit q (here e) = subst⁻¹ (λ x. T (fits ws x)) e t
    fit q (there i) = h.all_fit q i

-- A record that filling lets through may join them; a repeat changes nothing.
holdable-next : {ws : List ℕ} {ps : List Record} (r : Record) → Holdable ws ps → T (fits ws r) → ¬ T (not (is_held r ps) && not (has_room r ps)) → Holdable ws (insert record_below r ps)
holdable-next {ws} {ps} r h t n = go (reflects-held r ps) (reflects-T (has_room r ps)) n
  where
    go : {c d : Bool} → Reflects (In r ps) c → Reflects (T (has_room r ps)) d → ¬ T (not c && not d) → Holdable ws (insert record_below r ps)
    go (holds i) d m = subst⁻¹ (Holdable ws) (insert-member record_below record-order r h.ascending i) h
    go (fails j) (holds l) m = holdable-insert r h t l
    go (fails j) (fails l) m = absurd (m tt)

-- ---- collecting comes to filling

-- The filling so far, with these records held.
abbrev holding : List ℕ → List Record → Changed
holding ws ps = record { answer = Done; store = store_of ws ps }

-- A record offered to it, by whether it fits, is held, and has room.
abbrev offered : List ℕ → List Record → Record → Bool → Bool → Bool → Changed
offered ws ps r b c d = reply (first_cause (check 13 (when (not b)) ∷ check 14 (when c) ∷ check 15 (when (not d)) ∷ [])) (store_of ws ps) (store_of ws (insert record_below r ps))

insertion-offered : {ws : List ℕ} {ps : List Record} (r : Record) → Holdable ws ps → insertion (store_of ws ps) r ≡ offered ws ps r (fits ws r) (is_held r ps) (has_room r ps)
insertion-offered {ws} {ps} r h = insertion-in_layout (store_of ws ps) r (holdable-layout h) ∙ ap offering (held-store-of ws ps (room-few ps h.room))
  where
    offering : List Record → Changed
    offering qs = reply (first_cause (check 13 (when (not (fits ws r))) ∷ check 14 (when (is_held r qs)) ∷ check 15 (when (not (has_room r qs))) ∷ [])) (store_of ws ps) (store_of ws (insert record_below r qs))

collected-offered : {ws : List ℕ} {ps : List Record} (r : Record) → Holdable ws ps → collected (holding ws ps) r ≡ merged (holding ws ps) (offered ws ps r (fits ws r) (is_held r ps) (has_room r ps)).answer (offered ws ps r (fits ws r) (is_held r ps) (has_room r ps))
collected-offered {ws} {ps} r h = rw (reflects-false (reflects-ltb capacity (length ps)) (λ l. within l (room-few ps h.room))) (ap (λ c. merged (holding ws ps) c.answer c) (insertion-offered r h))
  where
    within : capacity < length ps → ¬ (length ps ≤ capacity)
    within l m = omega arith

fill_step : (ws : List ℕ) (ps rs : List Record) → Holdable ws ps → collect_all (holding ws ps) rs ≡ fill_from ws ps rs
fill_step ws ps [] h = refl
fill_step ws ps (r ∷ rs) h = ap (λ c. collect_all c rs) (collected-offered r h) ∙ go (reflects-T (fits ws r)) (reflects-held r ps) (reflects-T (has_room r ps)) (fill_step ws ps rs h) (λ k. fill_step ws (insert record_below r ps) rs k)
  where
    go : {b c d : Bool} → Reflects (T (fits ws r)) b → Reflects (In r ps) c → Reflects (T (has_room r ps)) d
        → collect_all (holding ws ps) rs ≡ fill_from ws ps rs
        → (Holdable ws (insert record_below r ps) → collect_all (holding ws (insert record_below r ps)) rs ≡ fill_from ws (insert record_below r ps) rs)
        → collect_all (merged (holding ws ps) (offered ws ps r b c d).answer (offered ws ps r b c d)) rs ≡ unless_refused (first_cause (check 13 (when (not b)) ∷ check 15 (when (not c && not d)) ∷ [])) (fill_from ws (insert record_below r ps) rs)
    go (fails n) c d same next = collect-refused 13 0 no_store rs
    go (holds t) (holds i) d same next = same ∙ ap (λ qs. fill_from ws qs rs) (sym (insert-member record_below record-order r h.ascending i))
    go (holds t) (fails n) (holds l) same next = next (holdable-insert r h t l)
    go (holds t) (fails n) (fails l) same next = collect-refused 15 0 no_store rs

pub fill-collects : (ws : List ℕ) (rs : List Record) → collect_all (beginning ws) rs ≡ fill_reply ws rs
fill-collects ws rs = go (widths_fit ws)
  where
    go : (b : Bool) → collect_all (unless_refused (first_cause (check 1 (when (not b)) ∷ [])) (holding ws [])) rs ≡ unless_refused (first_cause (check 1 (when (not b)) ∷ [])) (fill_from ws [] rs)
    go true = fill_step ws [] rs (holdable-none ws)
    go false = collect-refused 1 0 no_store rs

-- ---- what a filling gives

refused-empty : (a : Answer) (c : Changed) (n p : ℕ) → (c.answer ≡ Refused n p → c.store ≡ no_store) → (unless_refused a c).answer ≡ Refused n p → (unless_refused a c).store ≡ no_store
refused-empty Done c n p h e = h e
refused-empty (Refused m q) c n p h e = refl

fill_from-refused : (ws : List ℕ) (ps rs : List Record) (n p : ℕ) → (fill_from ws ps rs).answer ≡ Refused n p → (fill_from ws ps rs).store ≡ no_store
fill_from-refused ws ps [] n p e = let z : ◌≡◌ {A = ℕ} 0 1 = cc in absurd (omega arith)
fill_from-refused ws ps (r ∷ rs) n p e = refused-empty (first_cause (fill_checks ws ps r)) (fill_from ws (insert record_below r ps) rs) n p (fill_from-refused ws (insert record_below r ps) rs n p) e

pub fill-refused : (ws : List ℕ) (rs : List Record) (n p : ℕ) → (fill_reply ws rs).answer ≡ Refused n p → (fill_reply ws rs).store ≡ no_store
fill-refused ws rs n p e = refused-empty (first_cause (check 1 (when (not (widths_fit ws))) ∷ [])) (fill_from ws [] rs) n p (fill_from-refused ws [] rs n p) e

unless-done : (a : Answer) (c : Changed) → (unless_refused a c).answer ≡ Done → (a ≡ Done) × (unless_refused a c ≡ c)
unless-done Done c e = (refl, refl)
unless-done (Refused n p) c e = let z : ◌≡◌ {A = ℕ} 0 1 = cc in absurd (omega arith)

-- The store s holds the records ps and rs, each once.
record Filled (ws : List ℕ) (ps rs : List Record) (s : Store) : Type 0 where
  stored : List Record
  store_is : s ≡ store_of ws stored
  holdable : Holdable ws stored
  members : (q : Record) → In q stored ↔ (In q rs ⊎ In q ps)

filled : (ws : List ℕ) (ps rs : List Record) → Holdable ws ps → (fill_from ws ps rs).answer ≡ Done → Filled ws ps rs (fill_from ws ps rs).store
filled ws ps [] h e = record { stored = ps; store_is = refl; holdable = h; members = λ q. (inr, ⊎_elim (λ i. absurd (in-nil i)) (λ i. i)) }
filled ws ps (r ∷ rs) h e = subst⁻¹ (λ c. Filled ws ps (r ∷ rs) c.store) u.1 (add-first (filled ws (insert record_below r ps) rs next (sym (ap (λ c. c.answer) u.1) ∙ e)))
  where
    u : (first_cause (fill_checks ws ps r) ≡ Done) × (fill_from ws ps (r ∷ rs) ≡ fill_from ws (insert record_below r ps) rs)
    u = unless-done (first_cause (fill_checks ws ps r)) (fill_from ws (insert record_below r ps) rs) e

    next : Holdable ws (insert record_below r ps)
    next =
        let c = first-passed 13 (fits ws r) (check 15 (when (not (is_held r ps) && not (has_room r ps))) ∷ []) u.0 in
        holdable-next r h c.0 (subst T (first-clear 15 (not (is_held r ps) && not (has_room r ps)) [] c.1).0)

    into : (q : Record) → In q rs ⊎ In q (insert record_below r ps) → In q (r ∷ rs) ⊎ In q ps
    into q (inl i) = inl (there i)
    into q (inr i) = ⊎_elim (λ g. inl (here g)) inr (in-cons (from-insert record_below r ps q i))

    out_of : (q : Record) → In q (r ∷ rs) ⊎ In q ps → In q rs ⊎ In q (insert record_below r ps)
    out_of q (inl i) = ⊎_elim (λ g. inr (in_insert record_below record-order r ps q (here g))) inl (in-cons i)
    out_of q (inr i) = inr (in_insert record_below record-order r ps q (there i))

    add-first : {s : Store} → Filled ws (insert record_below r ps) rs s → Filled ws ps (r ∷ rs) s
    add-first f = record { stored = f.stored; store_is = f.store_is; holdable = f.holdable; members = λ q. Iff.trans (f.members q) (into q, out_of q) }

module _ (ws : List ℕ) (rs : List Record) (done : (fill_reply ws rs).answer ≡ Done) where
  fill-worked : (first_cause (check 1 (when (not (widths_fit ws))) ∷ []) ≡ Done) × (fill_reply ws rs ≡ fill_from ws [] rs)
  fill-worked = unless-done (first_cause (check 1 (when (not (widths_fit ws))) ∷ [])) (fill_from ws [] rs) done

  fill-filled : Filled ws [] rs (fill_reply ws rs).store
  fill-filled = subst⁻¹ (λ c. Filled ws [] rs c.store) fill-worked.1 (filled ws [] rs (holdable-none ws) (sym (ap (λ c. c.answer) fill-worked.1) ∙ done))

  pub fill-widths : (fill_reply ws rs).store.widths ≡ ws
  fill-widths = ap (λ t. t.widths) fill-filled.store_is

  pub fill-layout : T (widths_fit (fill_reply ws rs).store.widths) × Layout (fill_reply ws rs).store
  fill-layout = subst⁻¹ (λ t. T (widths_fit t.widths) × Layout t) fill-filled.store_is ((first-passed 1 (widths_fit ws) [] fill-worked.0).0, holdable-layout fill-filled.holdable)

  pub fill-facts : (f : Fact) → In f (facts (fill_reply ws rs).store) ↔ ((r : Record) × In r rs × (f ≡ fact_of ws r))
  fill-facts f = subst⁻¹ (λ d. In f d ↔ ((r : Record) × In r rs × (f ≡ fact_of ws r))) (ap facts fill-filled.store_is ∙ facts-store-of ws fill-filled.stored (room-few fill-filled.stored fill-filled.holdable.room)) (origin, stated)
    where
      origin : In f (map (fact_of ws) fill-filled.stored) → (r : Record) × In r rs × (f ≡ fact_of ws r)
      origin i = let q = from-map (fact_of ws) fill-filled.stored i in (q.0, ⊎_elim (λ j. j) (λ j. absurd (in-nil j)) ((fill-filled.members q.0).0 q.1), q.2)

      stated : (r : Record) × In r rs × (f ≡ fact_of ws r) → In f (map (fact_of ws) fill-filled.stored)
      stated q = subst⁻¹ (λ x. In x (map (fact_of ws) fill-filled.stored)) q.2 (in_map (fact_of ws) ((fill-filled.members q.0).1 (inl q.1)))

-- ---- the loop over a list: of the first i records, and of one more

pub collect-none : (f : Changed) (rs : List Record) → f ≡ collect_all f (take 0 rs)
collect-none f rs = refl

pub collect-more : (f : Changed) (rs : List Record) (i : ℕ) (d : Record) → i < length rs → collected (collect_all f (take i rs)) (get_or rs i d) ≡ collect_all f (take (i + 1) rs)
collect-more f rs i d h = sym (collect-last f (take i rs) (get_or rs i d)) ∙ rw (add-one, take-suc rs i d)

pub collect-done : (f : Changed) (rs : List Record) (i : ℕ) → length rs ≤ i → collect_all f (take i rs) ≡ collect_all f rs
collect-done f rs i h = rw take_all
