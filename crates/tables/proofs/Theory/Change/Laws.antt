-- Laws of one record put or removed: the way the code goes about it comes to the replies of document 01, and what those replies do to the store.
use Rattle.std.specs.Prelude.{ℕ, zero, suc, ◌+◌, ◌-◌, ◌<◌, ◌≤◌, ◌≡◌, refl, ◌↔◌, ◌⊎◌, Bool, true, false, not, cond, List, [], ◌∷◌, ◌++◌, map, length, get_or, take, drop, replicate, T}
use Rattle.std.proofs.Common.{arith, sym, ap, ap₂, subst, ◌∙◌, inl, inr, ⊎_elim, append_assoc, length-append, length-drop, length-take-le, get_or-take, get_or-drop, get_or-append-add}
use Rattle.std.proofs.Math.Path.{subst⁻¹}
use Rattle.std.proofs.lemmas.List.{replicate-append-replicate, take-append-le, drop-append-le}
use Rattle.std.proofs.Math.ListN.{get_or-append}
use Rattle.calculus.specs.Sets.{In, here, there}
use Rattle.calculus.proofs.Theory.Sets.Laws.{in-nil, in-cons, in_rest, in_map, from-map, in-select, from-select, reflects-in}
use Rattle.calculus.specs.Lists.{padded}
use Rattle.calculus.proofs.Theory.Lists.Laws.{select-all, take-padded}
use Rattle.calculus.specs.Order.{Ascending, before, insert}
use Rattle.calculus.proofs.Theory.Order.Laws.{below-differs, below_one_way, from-insert, in_insert, insert-ascending, ascending-select}
use Rattle.calculus.specs.Reflects.{Reflects, holds, fails}
use Rattle.calculus.proofs.Theory.Reflects.Laws.{reflects, reflected, reflects-true, reflects-false, reflects-T, reflects-map, reflects-not}
use Rattle.calculus.specs.Satisfaction.{Fact}
use Rattle.causes.specs.Causes.{Answer, Done, Refused, Check, check, first_cause, when, widths_fit}
use Rattle.causes.proofs.Theory.Causes.Laws.{first-clear, first-passed}
use Rattle.tables.specs.declared.Record.{Record}
use Rattle.tables.specs.declared.Store.{Store}
use Rattle.tables.specs.Records.{blank, record_below, same_record, fits, fact_of}
use Rattle.tables.proofs.Theory.Records.Laws.{reflects-same_record, record-order, fact-injective}
use Rattle.tables.specs.Store.{capacity, places_of, held, facts, has_room, have_room, in_layout, judgement, of_places, store_of, Layout}
use Rattle.tables.proofs.Theory.Store.Room.{room-few, room-insert, room-without}
use Rattle.tables.proofs.Theory.Store.Laws.{length-places, places-store-of, held-store-of, facts-store-of, reflects-layout, length-held, layout-places, layout-store-of}
use Rattle.tables.specs.Change.{is_held, without, reply, put_reply, removal_reply, rank}
use Rattle.tables.specs.Code.Change.{found, raised, lowered, insertion, deletion}

-- ---- the place of a record

pub reflects-held : (r : Record) (ps : List Record) → Reflects (In r ps) (is_held r ps)
reflects-held r ps = reflects-in same_record reflects-same_record r ps

reflects-found : (r : Record) (ps : List Record) → Ascending record_below ps → Reflects (In r ps) (found r ps)
reflects-found r [] a = fails in-nil
reflects-found r (p ∷ ps) (before h a) = go (reflects-T (record_below p r)) (reflects-same_record p r) (reflects-found r ps a)
  where
    go : {b c d : Bool} → Reflects (T (record_below p r)) b → Reflects (p ≡ r) c → Reflects (In r ps) d → Reflects (In r (p ∷ ps)) (cond b d c)
    go (holds t) s f = reflects-map there (λ i. in_rest i (λ e. below-differs record_below record-order p r t (sym e))) f
    go (fails n) s f = reflects-map (λ e. here (sym e)) (λ i. ⊎_elim sym (λ j. absurd (n (h r j))) (in-cons i)) s

-- Two tests of one thing answer the same.
same_tests : {A : Type 0} {b c : Bool} → Reflects A b → Reflects A c → b ≡ c
same_tests (holds x) (holds y) = refl
same_tests (holds x) (fails n) = absurd (n x)
same_tests (fails n) (holds y) = absurd (n y)
same_tests (fails n) (fails m) = refl

pub found-held : (r : Record) (ps : List Record) → Ascending record_below ps → found r ps ≡ is_held r ps
found-held r ps a = same_tests (reflects-found r ps a) (reflects-held r ps)

pub rank-le : (r : Record) (ps : List Record) → rank r ps ≤ length ps
rank-le r [] = omega arith
rank-le r (p ∷ ps) = go (record_below p r) (rank-le r ps)
  where
    go : (b : Bool) → rank r ps ≤ length ps → cond b (suc (rank r ps)) zero ≤ suc (length ps)
    go true h = omega arith
    go false h = omega arith

pub rank-found : (r : Record) (ps : List Record) → found r ps ≡ true → rank r ps < length ps
rank-found r [] e = let z : ◌≡◌ {A = ℕ} 0 1 = cc in absurd (omega arith)
rank-found r (p ∷ ps) e = go (record_below p r) (rank-found r ps) e
  where
    go : (b : Bool) → (found r ps ≡ true → rank r ps < length ps) → cond b (found r ps) (same_record p r) ≡ true → cond b (suc (rank r ps)) zero < suc (length ps)
    go true f q = omega (arith, f q)
    go false f q = omega arith

pub insert-at-rank : (r : Record) (ps : List Record) → found r ps ≡ false → insert record_below r ps ≡ take (rank r ps) ps ++ (r ∷ drop (rank r ps) ps)
insert-at-rank r [] e = refl
insert-at-rank r (p ∷ ps) e = go (reflects-T (record_below p r)) (reflects-T (record_below r p)) (reflects-same_record p r) (insert-at-rank r ps) e
  where
    go : {b c d : Bool} → Reflects (T (record_below p r)) b → Reflects (T (record_below r p)) c → Reflects (p ≡ r) d → (found r ps ≡ false → insert record_below r ps ≡ take (rank r ps) ps ++ (r ∷ drop (rank r ps) ps)) → cond b (found r ps) d ≡ false → cond c (r ∷ p ∷ ps) (cond b (p ∷ insert record_below r ps) (p ∷ ps)) ≡ take (cond b (suc (rank r ps)) zero) (p ∷ ps) ++ (r ∷ drop (cond b (suc (rank r ps)) zero) (p ∷ ps))
    go (holds t) (holds u) d rec q = absurd (below_one_way record_below record-order p r t u)
    go (holds t) (fails n) d rec q = ap (λ qs. p ∷ qs) (rec q)
    go (fails n) (holds u) d rec q = refl
    go (fails n) (fails m) (holds f) rec q = let z : ◌≡◌ {A = ℕ} 0 1 = cc in absurd (omega arith)
    go (fails n) (fails m) (fails f) rec q = absurd (f (record-order.total p r n m))

pub without-at-rank : (r : Record) (ps : List Record) → Ascending record_below ps → found r ps ≡ true → without r ps ≡ take (rank r ps) ps ++ drop (suc (rank r ps)) ps
without-at-rank r [] a e = refl
without-at-rank r (p ∷ ps) (before h a) e = go (reflects-T (record_below p r)) (reflects-same_record r p) (reflects-same_record p r) (without-at-rank r ps a) e
  where
    others : r ≡ p → (q : Record) → In q ps → T (not (same_record r q))
    others f q i = reflects (reflects-not (reflects-same_record r q)) (λ g. below-differs record_below record-order p q (h q i) (sym f ∙ g))

    go : {b c d : Bool} → Reflects (T (record_below p r)) b → Reflects (r ≡ p) c → Reflects (p ≡ r) d → (found r ps ≡ true → without r ps ≡ take (rank r ps) ps ++ drop (suc (rank r ps)) ps) → cond b (found r ps) d ≡ true → cond (not c) (p ∷ without r ps) (without r ps) ≡ take (cond b (suc (rank r ps)) zero) (p ∷ ps) ++ drop (suc (cond b (suc (rank r ps)) zero)) (p ∷ ps)
    go (holds t) (holds f) d rec q = absurd (below-differs record_below record-order p r t (sym f))
    go (holds t) (fails n) d rec q = ap (λ qs. p ∷ qs) (rec q)
    go (fails n) (holds f) d rec q = select-all (λ q. not (same_record r q)) ps (others f)
    go (fails n) (fails m) (holds f) rec q = absurd (m (sym f))
    go (fails n) (fails m) (fails f) rec q = let z : ◌≡◌ {A = ℕ} 0 1 = cc in absurd (omega arith)

-- ---- places raised and lowered

-- A list with an element put in, or one taken out, at place k.
length-put-in : (ps : List Record) (k : ℕ) (r : Record) → k ≤ length ps → length (take k ps ++ (r ∷ drop k ps)) ≡ suc (length ps)
length-put-in ps k r h = simp (length-append, length-drop, length-take-le) (omega arith)

length-taken-out : (ps : List Record) (k : ℕ) → k < length ps → suc (length (take k ps ++ drop (suc k) ps)) ≡ length ps
length-taken-out ps k h = let l : k ≤ length ps = omega arith in simp (length-append, length-drop, length-take-le) (omega arith)

raised-padded : (ps : List Record) (k : ℕ) (r : Record) → k ≤ length ps → length ps < capacity → raised (padded capacity blank ps) k r ≡ padded capacity blank (take k ps ++ (r ∷ drop k ps))
raised-padded ps k r h l =
    rw (take-append-le k ps, drop-append-le) (
    ap (take capacity) (sym (append_assoc (take k ps) (r ∷ drop k ps) blanks)) ∙ take-padded capacity (capacity - length ps) blank (take k ps ++ (r ∷ drop k ps)) (omega (arith, length-put-in ps k r h)) (omega (arith, length-put-in ps k r h)))
  where
    blanks : List Record
    blanks = replicate (capacity - length ps) blank

lowered-padded : (ps : List Record) (k : ℕ) → k < length ps → length ps ≤ capacity → lowered (padded capacity blank ps) k ≡ padded capacity blank (take k ps ++ drop (suc k) ps)
lowered-padded ps k h l =
    let m : k ≤ length ps = omega arith in
    let n : suc k ≤ length ps = h in
    let e : capacity - length ps + 1 ≡ capacity - length (take k ps ++ drop (suc k) ps) = omega (arith, length-taken-out ps k h) in
    rw (take-append-le, drop-append-le) (
    ap (λ qs. qs ++ (blank ∷ [])) (sym (append_assoc (take k ps) (drop (suc k) ps) blanks))
    ∙ append_assoc (take k ps ++ drop (suc k) ps) blanks (blank ∷ [])
    ∙ ap (λ qs. take k ps ++ drop (suc k) ps ++ qs) (replicate-append-replicate (capacity - length ps) 1 blank ∙ ap (λ j. replicate j blank) e))
  where
    blanks : List Record
    blanks = replicate (capacity - length ps) blank

-- Below place k nothing moves; from there on each record goes one place up.
pub raised_below : (ps : List Record) (k i : ℕ) (r : Record) → k ≤ length ps → i < k → i < capacity → get_or (raised ps k r) i blank ≡ get_or ps i blank
raised_below ps k i r h l m = get_or-take capacity (take k ps ++ (r ∷ drop k ps)) i blank m ∙ get_or-append (take k ps) (r ∷ drop k ps) blank i (omega (arith, length-take-le k ps h)) ∙ get_or-take k ps i blank l

pub raised-above : (ps : List Record) (k i : ℕ) (r : Record) → k ≤ length ps → k ≤ i → i < 255 → get_or (raised ps k r) (suc i) blank ≡ get_or ps i blank
raised-above ps k i r h l m =
    let e : suc i ≡ length (take k ps) + suc (i - k) = omega (arith, length-take-le k ps h) in
    let f : k + (i - k) ≡ i = omega arith in
    get_or-take capacity (take k ps ++ (r ∷ drop k ps)) (suc i) blank (omega arith)
    ∙ ap (λ j. get_or (take k ps ++ (r ∷ drop k ps)) j blank) e
    ∙ get_or-append-add (take k ps) (r ∷ drop k ps) (suc (i - k)) blank
    ∙ get_or-drop k ps (i - k) blank
    ∙ ap (λ j. get_or ps j blank) f

-- At a removal the records past place k go one place down.
module _ (ps : List Record) (k i : ℕ) where
  lowered-kept : length (take k ps ++ drop (suc k) ps) ≡ length (take k ps) + length (drop (suc k) ps)
  lowered-kept = length-append (take k ps) (drop (suc k) ps)

  pub lowered-below : k < length ps → i < k → get_or (lowered ps k) i blank ≡ get_or ps i blank
  lowered-below h l =
      let m : length (take k ps) ≡ k = length-take-le k ps (omega arith) in
      get_or-append (take k ps ++ drop (suc k) ps) (blank ∷ []) blank i (omega (arith, lowered-kept))
      ∙ get_or-append (take k ps) (drop (suc k) ps) blank i (omega arith)
      ∙ get_or-take k ps i blank l

  pub lowered-above : k ≤ i → suc i < length ps → get_or (lowered ps k) i blank ≡ get_or ps (suc i) blank
  lowered-above l h =
      let m : length (take k ps) ≡ k = length-take-le k ps (omega arith) in
      let e : i ≡ length (take k ps) + (i - k) = omega arith in
      let f : suc k + (i - k) ≡ suc i = omega arith in
      get_or-append (take k ps ++ drop (suc k) ps) (blank ∷ []) blank i (omega (arith, lowered-kept, length-drop (suc k) ps))
      ∙ ap (λ j. get_or (take k ps ++ drop (suc k) ps) j blank) e
      ∙ get_or-append-add (take k ps) (drop (suc k) ps) (i - k) blank
      ∙ get_or-drop (suc k) ps (i - k) blank
      ∙ ap (λ j. get_or ps j blank) f

-- ---- replies

reply-answer : (a : Answer) (s t : Store) → (reply a s t).answer ≡ a
reply-answer Done s t = refl
reply-answer (Refused n p) s t = refl

reply-done : (a : Answer) (s t : Store) → (reply a s t).answer ≡ Done → (reply a s t).store ≡ t
reply-done a s t e = ap (λ b. (reply b s t).store) (sym (reply-answer a s t) ∙ e)

reply-refused : (a : Answer) (s t : Store) (n p : ℕ) → (reply a s t).answer ≡ Refused n p → (reply a s t).store ≡ s
reply-refused a s t n p e = ap (λ b. (reply b s t).store) (sym (reply-answer a s t) ∙ e)

-- Only what is done tells two replies apart.
reply-same : (a : Answer) (s t u : Store) → (a ≡ Done → t ≡ u) → reply a s t ≡ reply a s u
reply-same Done s t u h = ap (reply Done s) (h refl)
reply-same (Refused n p) s t u h = refl

-- ---- the checks past the judgement, by whether the record is held

abbrev pub put_checks : Store → Record → Bool → List Check
put_checks s r b = check 13 (when (not (fits s.widths r))) ∷ check 14 (when b) ∷ check 15 (when (not (has_room r (held s)))) ∷ []

abbrev removal_checks : Store → Record → Bool → List Check
removal_checks s r b = check 13 (when (not (fits s.widths r))) ∷ check 16 (when (not b)) ∷ []

-- All checks: those of the judgement, then the others.
abbrev judged_first : Store → List Check → List Check
judged_first s cs = check 1 (when (not (widths_fit s.widths))) ∷ check 2 (when (not (in_layout s))) ∷ cs

-- The two parts of a put's reply, and of a removal's.
abbrev put_answer : Store → Record → Answer
put_answer s r = first_cause (judged_first s (put_checks s r (is_held r (held s))))

abbrev pub after_put : Store → Record → Store
after_put s r = store_of s.widths (insert record_below r (held s))

abbrev removal_answer : Store → Record → Answer
removal_answer s r = first_cause (judged_first s (removal_checks s r (is_held r (held s))))

abbrev after_removal : Store → Record → Store
after_removal s r = store_of s.widths (without r (held s))

-- ---- the judgement of the store

passed : (n : ℕ) (b : Bool) (cs : List Check) → T b → first_cause (check n (when (not b)) ∷ cs) ≡ first_cause cs
passed n true cs t = refl
passed n false cs t = absurd t

judged-well : (s : Store) (cs : List Check) → T (widths_fit s.widths) → T (in_layout s) → first_cause (judged_first s cs) ≡ first_cause cs
judged-well s cs w l = passed 1 (widths_fit s.widths) (check 2 (when (not (in_layout s))) ∷ cs) w ∙ passed 2 (in_layout s) cs l

judged-badly : (s : Store) (cs : List Check) (n p : ℕ) → judgement s ≡ Refused n p → first_cause (judged_first s cs) ≡ Refused n p
judged-badly s cs n p e = go (widths_fit s.widths) (in_layout s) e
  where
    go : (b c : Bool) → first_cause (check 1 (when (not b)) ∷ check 2 (when (not c)) ∷ []) ≡ Refused n p → first_cause (check 1 (when (not b)) ∷ check 2 (when (not c)) ∷ cs) ≡ Refused n p
    go true true q = let z : ◌≡◌ {A = ℕ} 0 1 = cc in absurd (omega arith)
    go true false q = q
    go false c q = q

judged-done : (s : Store) (cs : List Check) → first_cause (judged_first s cs) ≡ Done → T (widths_fit s.widths) × Layout s × (first_cause cs ≡ Done)
judged-done s cs e =
    let p = first-passed 1 (widths_fit s.widths) (check 2 (when (not (in_layout s))) ∷ cs) e in
    let q = first-passed 2 (in_layout s) cs p.1 in
    (p.0, reflected (reflects-layout s) q.0, q.1)

pub put-judged : (s : Store) (r : Record) (n p : ℕ) → judgement s ≡ Refused n p → put_reply s r ≡ record { answer = Refused n p; store = s }
put-judged s r n p e = ap (λ a. reply a s (after_put s r)) (judged-badly s (put_checks s r (is_held r (held s))) n p e)

pub removal-judged : (s : Store) (r : Record) (n p : ℕ) → judgement s ≡ Refused n p → removal_reply s r ≡ record { answer = Refused n p; store = s }
removal-judged s r n p e = ap (λ a. reply a s (after_removal s r)) (judged-badly s (removal_checks s r (is_held r (held s))) n p e)

-- ---- what the checks past it leave, where they find nothing

put-clear : (s : Store) (r : Record) (b : Bool) → first_cause (put_checks s r b) ≡ Done → T (fits s.widths r) × (¬ T b) × T (has_room r (held s))
put-clear s r b e =
    let p = first-passed 13 (fits s.widths r) (check 14 (when b) ∷ check 15 (when (not (has_room r (held s)))) ∷ []) e in
    let q = first-clear 14 b (check 15 (when (not (has_room r (held s)))) ∷ []) p.1 in
    (p.0, subst T q.0, (first-passed 15 (has_room r (held s)) [] q.1).0)

removal-clear : (s : Store) (r : Record) (b : Bool) → first_cause (removal_checks s r b) ≡ Done → T (fits s.widths r) × T b
removal-clear s r b e = let p = first-passed 13 (fits s.widths r) (check 16 (when (not b)) ∷ []) e in (p.0, (first-passed 16 b [] p.1).0)

-- ---- a store in the layout: the code's way comes to the replies

module _ (s : Store) (r : Record) (l : Layout s) where
  few : length (held s) ≡ s.count
  few = length-held s l.count_fits

  -- The records held and one that isn't among them are one more.
  one_more : found r (held s) ≡ false → length (insert record_below r (held s)) ≡ suc (length (held s))
  one_more f = ap length (insert-at-rank r (held s) f) ∙ length-put-in (held s) (rank r (held s)) r (rank-le r (held s))

  raised-places : found r (held s) ≡ false → T (has_room r (held s)) → raised (places_of s) (rank r (held s)) r ≡ padded capacity blank (insert record_below r (held s))
  raised-places f h = ap (λ ps. raised ps (rank r (held s)) r) (layout-places s l) ∙ raised-padded (held s) (rank r (held s)) r (rank-le r (held s)) (omega (arith, one_more f, room-few (insert record_below r (held s)) (room-insert r (held s) h l.room))) ∙ ap (padded capacity blank) (sym (insert-at-rank r (held s) f))

  insertion-store : found r (held s) ≡ false → T (has_room r (held s)) → of_places s.widths (raised (places_of s) (rank r (held s)) r) (s.count + 1) ≡ after_put s r
  insertion-store f h = ap₂ (of_places s.widths) (raised-places f h) (omega (arith, few, one_more f))

  lowered-places : found r (held s) ≡ true → lowered (places_of s) (rank r (held s)) ≡ padded capacity blank (without r (held s))
  lowered-places f = ap (λ ps. lowered ps (rank r (held s))) (layout-places s l) ∙ lowered-padded (held s) (rank r (held s)) (rank-found r (held s) f) (omega (arith, few, l.count_fits)) ∙ ap (padded capacity blank) (sym (without-at-rank r (held s) l.ascending f))

  deletion-store : found r (held s) ≡ true → of_places s.widths (lowered (places_of s) (rank r (held s))) (s.count - 1) ≡ after_removal s r
  deletion-store f = ap₂ (of_places s.widths) (lowered-places f) (omega (arith, few, ap length (without-at-rank r (held s) l.ascending f), length-taken-out (held s) (rank r (held s)) (rank-found r (held s) f)))

-- Over a store in the layout an insertion is a put without the checks of the judgement, which the store passes.
pub insertion-in_layout : (s : Store) (r : Record) → Layout s → insertion s r ≡ reply (first_cause (put_checks s r (is_held r (held s)))) s (after_put s r)
insertion-in_layout s r l = reply-same (first_cause (put_checks s r (found r (held s)))) s _ (after_put s r) stores ∙ ap (λ b. reply (first_cause (put_checks s r b)) s (after_put s r)) (found-held r (held s) l.ascending)
  where
    stores : first_cause (put_checks s r (found r (held s))) ≡ Done → of_places s.widths (raised (places_of s) (rank r (held s)) r) (s.count + 1) ≡ after_put s r
    stores e = let c = put-clear s r (found r (held s)) e in insertion-store s r l (reflects-false (reflects-T (found r (held s))) c.1) c.2

deletion-in_layout : (s : Store) (r : Record) → Layout s → deletion s r ≡ reply (first_cause (removal_checks s r (is_held r (held s)))) s (after_removal s r)
deletion-in_layout s r l = reply-same (first_cause (removal_checks s r (found r (held s)))) s _ (after_removal s r) stores ∙ ap (λ b. reply (first_cause (removal_checks s r b)) s (after_removal s r)) (found-held r (held s) l.ascending)
  where
    stores : first_cause (removal_checks s r (found r (held s))) ≡ Done → of_places s.widths (lowered (places_of s) (rank r (held s))) (s.count - 1) ≡ after_removal s r
    stores e = deletion-store s r l (reflects-true (reflects-T (found r (held s))) (removal-clear s r (found r (held s)) e).1)

pub insertion-put : (s : Store) (r : Record) → T (widths_fit s.widths) → T (in_layout s) → insertion s r ≡ put_reply s r
insertion-put s r w t = insertion-in_layout s r (reflected (reflects-layout s) t) ∙ ap (λ a. reply a s (after_put s r)) (sym (judged-well s (put_checks s r (is_held r (held s))) w t))

pub deletion-removal : (s : Store) (r : Record) → T (widths_fit s.widths) → T (in_layout s) → deletion s r ≡ removal_reply s r
deletion-removal s r w t = deletion-in_layout s r (reflected (reflects-layout s) t) ∙ ap (λ a. reply a s (after_removal s r)) (sym (judged-well s (removal_checks s r (is_held r (held s))) w t))

-- ---- what a put does

pub put_refused : (s : Store) (r : Record) (n p : ℕ) → (put_reply s r).answer ≡ Refused n p → (put_reply s r).store ≡ s
put_refused s r n p e = reply-refused (put_answer s r) s (after_put s r) n p e

-- The facts of records with r among them are r's fact and those of the others.
insert-facts : (ws : List ℕ) (r : Record) (ps : List Record) (f : Fact) → In f (map (fact_of ws) (insert record_below r ps)) ↔ ((f ≡ fact_of ws r) ⊎ In f (map (fact_of ws) ps))
insert-facts ws r ps f = (split, join)
  where
    facts-with : List Fact
    facts-with = map (fact_of ws) (insert record_below r ps)

    by : (q : Record) → f ≡ fact_of ws q → In q (r ∷ ps) → (f ≡ fact_of ws r) ⊎ In f (map (fact_of ws) ps)
    by q e (here g) = inl (e ∙ ap (fact_of ws) g)
    by q e (there i) = inr (subst⁻¹ (λ x. In x (map (fact_of ws) ps)) e (in_map (fact_of ws) i))

    split : In f facts-with → (f ≡ fact_of ws r) ⊎ In f (map (fact_of ws) ps)
    split i = let q = from-map (fact_of ws) (insert record_below r ps) i in by q.0 q.2 (from-insert record_below r ps q.0 q.1)

    from : (q : Record) → In q (r ∷ ps) → f ≡ fact_of ws q → In f facts-with
    from q i e = subst⁻¹ (λ x. In x facts-with) e (in_map (fact_of ws) (in_insert record_below record-order r ps q i))

    join : (f ≡ fact_of ws r) ⊎ In f (map (fact_of ws) ps) → In f facts-with
    join (inl e) = from r (here refl) e
    join (inr i) = let q = from-map (fact_of ws) ps i in from q.0 (there q.1) q.2

module _ (s : Store) (r : Record) (done : (put_reply s r).answer ≡ Done) where
  put-store : (put_reply s r).store ≡ after_put s r
  put-store = reply-done (put_answer s r) s (after_put s r) done

  put-judged-well : T (widths_fit s.widths) × Layout s × (first_cause (put_checks s r (is_held r (held s))) ≡ Done)
  put-judged-well = judged-done s (put_checks s r (is_held r (held s))) (sym (reply-answer (put_answer s r) s (after_put s r)) ∙ done)

  put-allowed : T (fits s.widths r) × (¬ T (is_held r (held s))) × T (has_room r (held s))
  put-allowed = put-clear s r (is_held r (held s)) put-judged-well.2

  put-room : T (have_room (insert record_below r (held s)))
  put-room = room-insert r (held s) put-allowed.2 put-judged-well.1.room

  put-few : length (insert record_below r (held s)) ≤ capacity
  put-few = room-few (insert record_below r (held s)) put-room

  put_fit : (q : Record) → In q (r ∷ held s) → T (fits s.widths q)
  put_fit q (here e) = subst⁻¹ (λ x. T (fits s.widths x)) e put-allowed.0
  put_fit q (there i) = put-judged-well.1.all_fit q i

  pub put-layout : T (widths_fit (put_reply s r).store.widths) × Layout (put_reply s r).store
  put-layout =
      subst⁻¹ (λ t. T (widths_fit t.widths) × Layout t) put-store
      (put-judged-well.0, layout-store-of s.widths (insert record_below r (held s)) put-room (λ q i. put_fit q (from-insert record_below r (held s) q i)) (insert-ascending record_below record-order r put-judged-well.1.ascending))

  pub put-held : held (put_reply s r).store ≡ insert record_below r (held s)
  put-held = ap held put-store ∙ held-store-of s.widths (insert record_below r (held s)) put-few

  pub put-widths : (put_reply s r).store.widths ≡ s.widths
  put-widths = ap (λ t. t.widths) put-store

  pub put-facts : (f : Fact) → In f (facts (put_reply s r).store) ↔ ((f ≡ fact_of s.widths r) ⊎ In f (facts s))
  put-facts f = subst⁻¹ (λ d. In f d ↔ ((f ≡ fact_of s.widths r) ⊎ In f (facts s))) (ap facts put-store ∙ facts-store-of s.widths (insert record_below r (held s)) put-few) (insert-facts s.widths r (held s) f)

  put-raised : places_of (put_reply s r).store ≡ raised (places_of s) (rank r (held s)) r
  put-raised = ap places_of put-store ∙ places-store-of s.widths (insert record_below r (held s)) put-few ∙ sym (raised-places s r put-judged-well.1 absent put-allowed.2)
    where
      absent : found r (held s) ≡ false
      absent = found-held r (held s) put-judged-well.1.ascending ∙ reflects-false (reflects-T (is_held r (held s))) put-allowed.1

  -- Records below r stay in their places, the others go one place up.
  pub put-places : (k : ℕ) → (k < rank r (held s) → get_or (places_of (put_reply s r).store) k blank ≡ get_or (places_of s) k blank) × (rank r (held s) ≤ k → k < 255 → get_or (places_of (put_reply s r).store) (suc k) blank ≡ get_or (places_of s) k blank)
  put-places k = (λ h. ap (λ ps. get_or ps k blank) put-raised ∙ raised_below (places_of s) (rank r (held s)) k r within h (omega (arith, within, all)), λ h m. ap (λ ps. get_or ps (suc k) blank) put-raised ∙ raised-above (places_of s) (rank r (held s)) k r within h m)
    where
      all : length (places_of s) ≡ capacity
      all = length-places s.relations s.values

      within : rank r (held s) ≤ length (places_of s)
      within = omega (arith, all, rank-le r (held s), length-held s put-judged-well.1.count_fits, put-judged-well.1.count_fits)

-- ---- what a removal does

pub removal-refused : (s : Store) (r : Record) (n p : ℕ) → (removal_reply s r).answer ≡ Refused n p → (removal_reply s r).store ≡ s
removal-refused s r n p e = reply-refused (removal_answer s r) s (after_removal s r) n p e

pub in_without : {r q : Record} {ps : List Record} → In q ps → ¬ (r ≡ q) → In q (without r ps)
in_without {r} {q} i n = in-select (λ p. not (same_record r p)) i (reflects (reflects-not (reflects-same_record r q)) n)

pub from-without : {q : Record} (r : Record) (ps : List Record) → In q (without r ps) → In q ps × (¬ (r ≡ q))
from-without {q} r ps i = let h = from-select (λ p. not (same_record r p)) ps i in (h.0, reflected (reflects-not (reflects-same_record r q)) h.1)

-- Among records that fit, no other states r's fact: the facts without r are the others.
without-facts : (ws : List ℕ) (r : Record) (ps : List Record) → T (fits ws r) → ((q : Record) → In q ps → T (fits ws q)) → (f : Fact) → In f (map (fact_of ws) (without r ps)) ↔ (In f (map (fact_of ws) ps) × ¬ (f ≡ fact_of ws r))
without-facts ws r ps t ts f = (split, join)
  where
    split : In f (map (fact_of ws) (without r ps)) → In f (map (fact_of ws) ps) × ¬ (f ≡ fact_of ws r)
    split i =
        let q = from-map (fact_of ws) (without r ps) i in
        let h = from-without r ps q.1 in
        (subst⁻¹ (λ x. In x (map (fact_of ws) ps)) q.2 (in_map (fact_of ws) h.0), λ e. h.1 (fact-injective ws r q.0 t (ts q.0 h.0) (sym e ∙ q.2)))

    join : In f (map (fact_of ws) ps) × ¬ (f ≡ fact_of ws r) → In f (map (fact_of ws) (without r ps))
    join h = let q = from-map (fact_of ws) ps h.0 in subst⁻¹ (λ x. In x (map (fact_of ws) (without r ps))) q.2 (in_map (fact_of ws) (in_without q.1 (λ e. h.1 (q.2 ∙ ap (fact_of ws) (sym e)))))

module _ (s : Store) (r : Record) (done : (removal_reply s r).answer ≡ Done) where
  removal-store : (removal_reply s r).store ≡ after_removal s r
  removal-store = reply-done (removal_answer s r) s (after_removal s r) done

  removal-judged-well : T (widths_fit s.widths) × Layout s × (first_cause (removal_checks s r (is_held r (held s))) ≡ Done)
  removal-judged-well = judged-done s (removal_checks s r (is_held r (held s))) (sym (reply-answer (removal_answer s r) s (after_removal s r)) ∙ done)

  removal-room : T (have_room (without r (held s)))
  removal-room = room-without r (held s) removal-judged-well.1.room

  removal-few : length (without r (held s)) ≤ capacity
  removal-few = room-few (without r (held s)) removal-room

  pub removal-layout : T (widths_fit (removal_reply s r).store.widths) × Layout (removal_reply s r).store
  removal-layout =
      subst⁻¹ (λ t. T (widths_fit t.widths) × Layout t) removal-store
      (removal-judged-well.0, layout-store-of s.widths (without r (held s)) removal-room (λ q i. removal-judged-well.1.all_fit q (from-without r (held s) i).0) (ascending-select record_below (λ p. not (same_record r p)) removal-judged-well.1.ascending))

  pub removal-held : held (removal_reply s r).store ≡ without r (held s)
  removal-held = ap held removal-store ∙ held-store-of s.widths (without r (held s)) removal-few

  pub removal-widths : (removal_reply s r).store.widths ≡ s.widths
  removal-widths = ap (λ t. t.widths) removal-store

  pub removal-facts : (f : Fact) → In f (facts (removal_reply s r).store) ↔ (In f (facts s) × ¬ (f ≡ fact_of s.widths r))
  removal-facts f = subst⁻¹ (λ d. In f d ↔ (In f (facts s) × ¬ (f ≡ fact_of s.widths r))) (ap facts removal-store ∙ facts-store-of s.widths (without r (held s)) removal-few) (without-facts s.widths r (held s) (removal-clear s r (is_held r (held s)) removal-judged-well.2).0 removal-judged-well.1.all_fit f)

  removal-rank : found r (held s) ≡ true
  removal-rank = found-held r (held s) removal-judged-well.1.ascending ∙ reflects-true (reflects-T (is_held r (held s))) (removal-clear s r (is_held r (held s)) removal-judged-well.2).1

  removal-lowered : places_of (removal_reply s r).store ≡ lowered (places_of s) (rank r (held s))
  removal-lowered = ap places_of removal-store ∙ places-store-of s.widths (without r (held s)) removal-few ∙ sym (lowered-places s r removal-judged-well.1 removal-rank)

  -- Records below r stay in their places, the others go one place down.
  pub removal-places : (k : ℕ) → (k < rank r (held s) → get_or (places_of (removal_reply s r).store) k blank ≡ get_or (places_of s) k blank) × (rank r (held s) ≤ k → k < 255 → get_or (places_of (removal_reply s r).store) k blank ≡ get_or (places_of s) (suc k) blank)
  removal-places k = (λ h. ap (λ ps. get_or ps k blank) removal-lowered ∙ lowered-below (places_of s) (rank r (held s)) k within h, λ h m. ap (λ ps. get_or ps k blank) removal-lowered ∙ lowered-above (places_of s) (rank r (held s)) k h (omega (arith, all)))
    where
      all : length (places_of s) ≡ capacity
      all = length-places s.relations s.values

      within : rank r (held s) < length (places_of s)
      within = omega (arith, all, rank-found r (held s) removal-rank, length-held s removal-judged-well.1.count_fits, removal-judged-well.1.count_fits)
