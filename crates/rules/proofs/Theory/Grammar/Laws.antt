-- Laws of rule text: each text is one rule's at most, its place is one, and running the automaton tells what a text is.
use Rattle.std.specs.Prelude.{ℕ, suc, ◌≤◌, ◌<◌, ◌≡◌, refl, ◌⊎◌, List, [], ◌∷◌, ◌++◌, length, get_or, take, drop}
use Rattle.std.proofs.Common.{suc-le-suc, sym, ap, ◌∙◌, inl, inr, append_assoc, arith, take-append-drop, take-take, take-suc}
use Rattle.std.proofs.Math.Option.{Option, none, some}
use Rattle.std.proofs.Math.Seq.{take-length}
use Rattle.rules.specs.Grammar.{Rule, written, Begins, NoRule, Leaves, Parse, parsed, outside}
use Rattle.rules.specs.Code.Automaton.{State, start, done, step, stepped, run}
use Rattle.rules.proofs.Theory.Code.Automaton.Laws.{run-append, run_none, none-not-some, run-then}
use Rattle.rules.proofs.Theory.Code.Automaton.Spelling.{run-spelled}
use Rattle.rules.proofs.Theory.Code.Automaton.Reading.{run-written}
use Rattle.rules.proofs.Theory.Code.Automaton.Completion.{completed, done-or-not}

-- ---- one rule, one place

-- Each text is one rule's at most.
pub written_one : (R S : Rule) → written R ≡ written S → R ≡ S
written_one R S e = let q : ◌≡◌ {A = Option State} (some (done R)) (some (done S)) = sym (run-written R) ∙ ap (run (some start)) e ∙ run-written S in cc

-- Where a rule's text goes on from some bytes, it goes on from fewer.
begins-fewer : (bs : List ℕ) (p q : ℕ) → p ≤ q → Begins (take q bs) → Begins (take p bs)
begins-fewer bs p q h b = (b.0, drop p (take q bs) ++ b.1, b.2 ∙ ap (λ cs. cs ++ b.1) parts ∙ append_assoc (take p bs) (drop p (take q bs)) b.1)
  where
    parts : take q bs ≡ take p bs ++ drop p (take q bs)
    parts = sym (take-append-drop p (take q bs)) ∙ ap (λ cs. cs ++ drop p (take q bs)) (take-take p q bs h)

-- No place is before another.
leaves_later : (bs : List ℕ) (p q : ℕ) → Leaves bs p → Leaves bs q → ¬ (p < q)
leaves_later bs p q l m h = let w : q ≤ length bs = m.within in l.no_longer (omega arith) (begins-fewer bs (suc p) q h m.goes_on)

-- The place at which a text leaves the grammar is one.
pub leaves-one : (bs : List ℕ) (p q : ℕ) → Leaves bs p → Leaves bs q → p ≡ q
leaves-one bs p q l m = let a : ¬ (p < q) = leaves_later bs p q l m in let b : ¬ (q < p) = leaves_later bs q p m l in omega arith

-- ---- what running the automaton tells

-- A rule's text goes on from bytes that lead to a state.
pub run-begins : (bs : List ℕ) (s : State) → run (some start) bs ≡ some s → Begins bs
run-begins bs s e = let c = completed s in (c.1, c.0, run-spelled (bs ++ c.0) (done c.1) (run-then start bs c.0 e c.2))

-- No rule's text goes on from bytes that lead to none.
pub run-not-begins : (bs : List ℕ) → run (some start) bs ≡ none → ¬ Begins bs
run-not-begins bs e b = none-not-some (sym (run_none b.1) ∙ ap (λ o. run o b.1) (sym e) ∙ sym (run-append (some start) bs b.1) ∙ ap (run (some start)) (sym b.2) ∙ run-written b.0)

-- Text that leads to none, or to a state that is no rule's last one, is no rule's.
pub run-no-rule : (bs : List ℕ) → ((R : Rule) → ¬ (run (some start) bs ≡ some (done R))) → NoRule bs
run-no-rule bs n R e = n R (ap (run (some start)) (sym e) ∙ run-written R)

module _ (bs : List ℕ) (i : ℕ) (s : State) (e : run (some start) (take i bs) ≡ some s) (h : i < length bs) (f : step s (get_or bs i 0) ≡ none) where
  stops-there : run (some start) (take (suc i) bs) ≡ none
  stops-there = ap (run (some start)) (take-suc bs i 0 h) ∙ run-append (some start) (take i bs) (get_or bs i 0 ∷ []) ∙ ap (λ o. stepped o (get_or bs i 0)) e ∙ f

  -- Text at which the reading stops leads to no state.
  pub stopped-run : run (some start) bs ≡ none
  stopped-run = ap (run (some start)) (sym (take-append-drop (suc i) bs)) ∙ run-append (some start) (take (suc i) bs) (drop (suc i) bs) ∙ ap (λ o. run o (drop (suc i) bs)) stops-there ∙ run_none (drop (suc i) bs)

  -- It leaves the grammar where the reading stops.
  pub stopped-leaves : Leaves bs i
  stopped-leaves = record { within = omega arith; goes_on = run-begins (take i bs) s e; no_longer = λ l. run-not-begins (take (suc i) bs) stops-there }

  -- It is no rule's.
  pub stopped-no-rule : NoRule bs
  stopped-no-rule = run-no-rule bs (λ R r. none-not-some (sym stopped-run ∙ r))

module _ (bs : List ℕ) (s : State) (e : run (some start) bs ≡ some s) where
  -- Text that leads to a state can go on to a rule's, so its end is a place.
  pub early-leaves : Leaves bs (length bs)
  early-leaves = record { within = omega arith; goes_on = run-begins (take (length bs) bs) s (ap (run (some start)) (take-length bs) ∙ e); no_longer = λ l. absurd (omega arith) }

  -- Where the state is no rule's last one, the text is no rule's.
  pub early-no-rule : ((R : Rule) → ¬ (s ≡ done R)) → NoRule bs
  early-no-rule n = run-no-rule bs (λ R r. n R (let q : ◌≡◌ {A = Option State} (some s) (some (done R)) = sym e ∙ r in cc))

-- ---- each text is a rule's or has a place

-- What the reading comes to: the whole text leads to a state, or it stops at a place.
data Scan (s : State) (bs : List ℕ) : Type 0 where
  whole : (t : State) → run (some s) bs ≡ some t → Scan s bs
  stopped : (i : ℕ) (t : State) → run (some s) (take i bs) ≡ some t → i < length bs → step t (get_or bs i 0) ≡ none → Scan s bs

scan_step : (s t : State) (b : ℕ) (bs : List ℕ) → step s b ≡ some t → Scan t bs → Scan s (b ∷ bs)
scan_step s t b bs f (whole u e) = whole u (ap (λ o. run o bs) f ∙ e)
scan_step s t b bs f (stopped i u e h k) = stopped (suc i) u (ap (λ o. run o (take i bs)) f ∙ e) (suc-le-suc h) k

scan : (s : State) (bs : List ℕ) → Scan s bs
scan s [] = whole s refl
scan s (b ∷ bs) = go (step s b) refl (λ t. scan t bs)
  where
    go : (o : Option State) → step s b ≡ o → ((t : State) → Scan t bs) → Scan s (b ∷ bs)
    go none f later = stopped 0 s refl (omega arith) f
    go (some t) f later = scan_step s t b bs f (later t)

-- Each text is a rule's, or outside the grammar from some place on.
pub parse : (bs : List ℕ) → Parse bs
parse bs = told (scan start bs)
  where
    ended : (t : State) → run (some start) bs ≡ some t → ((R : Rule) × (t ≡ done R)) ⊎ ((R : Rule) → ¬ (t ≡ done R)) → Parse bs
    ended t e (inl d) = parsed d.0 (run-spelled bs (done d.0) (e ∙ ap some d.1))
    ended t e (inr n) = outside (length bs) (early-no-rule bs t e n) (early-leaves bs t e)

    told : Scan start bs → Parse bs
    told (whole t e) = ended t e (done-or-not t)
    told (stopped i t e h k) = outside i (stopped-no-rule bs i t e h k) (stopped-leaves bs i t e h k)
