-- Each step spells its byte: the text that a state stands for is the text that leads to it.
use Rattle.std.specs.Prelude.{ℕ, zero, suc, ◌+◌, ◌*◌, ◌≤◌, ◌<◌, ◌≡◌, refl, Bool, true, false, cond, List, [], ◌∷◌, ◌++◌, map}
use Rattle.std.proofs.Common.{sym, ap, ◌∙◌, append_assoc, append-nil, arith}
use Rattle.std.proofs.Math.Path.{subst⁻¹}
use Rattle.std.proofs.Math.Option.{Option, none, some}
use Rattle.calculus.specs.Reflects.{Reflects, holds as so, fails as not_so}
use Rattle.calculus.proofs.Theory.Reflects.Laws.{reflects-eqb}
use Rattle.calculus.specs.Lists.{run as from}
use Rattle.calculus.proofs.Theory.Sets.Laws.{union-append}
use Rattle.calculus.specs.Decimal.{numeral}
use Rattle.calculus.proofs.Theory.Decimal.Laws.{numeral-digit, numeral-more}
use Rattle.rules.specs.Grammar.{Several, several, Term, Goal, equal, rule, parted, bracketed, variable_text, term_text, relation_text, goal_text, head_text}
use Rattle.rules.proofs.Theory.Code.Automaton.Laws.{run_none, none-not-some, after_column, after_term, after_goal}
use Rattle.rules.specs.Code.Automaton.{State, start, letter, column_due, column, closed, colon, goal_due, denial_n, denial_no, denial_not, denial, relation, term_due, term, ended, subject, spaced, equals, other_due, other, done, Move, ◌to◌, digit_moves, after, and_last, term_of, relation_goal, moves, chosen, step, run, due, begun, name, not_text, to_goal, to_relation, to_term, spelled}

-- ---- texts with one thing more at the end

module _ {A : Type 0} (text : A → List ℕ) where
  parted-more : (x : A) (xs : List A) (y : A) → parted text (several x (xs ++ (y ∷ []))) ≡ parted text (several x xs) ++ (44 ∷ text y)
  parted-more x xs y = simp (union-append, append_assoc, append-nil)

  -- The last thing stands after what a comma follows each.
  pub parted-last : (xs : List A) (x : A) → parted text (and_last xs x) ≡ due text xs ++ text x
  parted-last [] x = append-nil (text x)
  parted-last (y ∷ ys) x = parted-more y ys x ∙ sym (append_assoc (parted text (several y ys)) (44 ∷ []) (text x))

  -- One thing more that a comma follows.
  pub due-last : (xs : List A) (x : A) → due text (xs ++ (x ∷ [])) ≡ due text xs ++ (text x ++ (44 ∷ []))
  due-last [] x = rw append-nil
  due-last (y ∷ ys) x = ap (λ bs. bs ++ (44 ∷ [])) (parted-more y ys x) ∙ simp append_assoc

head-last : (xs : List ℕ) (x : ℕ) → head_text (xs ++ (x ∷ [])) ≡ 113 ∷ bracketed (due variable_text xs ++ variable_text x)
head-last [] x = ap (λ bs. 113 ∷ bracketed bs) (parted-last variable_text [] x)
head-last (y ∷ ys) x = ap (λ bs. 113 ∷ bracketed bs) (parted-last variable_text (y ∷ ys) x)

-- What follows an opening bracket, and what follows an r, as texts of their own.
opened : (p n d e : List ℕ) → p ++ (n ++ (40 ∷ (d ++ e))) ≡ p ++ (n ++ (40 ∷ d)) ++ e
opened p n d e = simp append_assoc

related : (p k e : List ℕ) → p ++ (k ++ (114 ∷ e)) ≡ p ++ (k ++ (114 ∷ [])) ++ e
related p k e = simp append_assoc

term-spelled : (v : Bool) (n : ℕ) → term_text (term_of v n) ≡ name v ++ numeral n
term-spelled true n = refl
term-spelled false n = refl

goal-spelled : (d : Bool) (r : ℕ) (ts : Several Term) → goal_text (relation_goal d r ts) ≡ not_text d ++ relation_text r ts
goal-spelled true r ts = refl
goal-spelled false r ts = refl

-- ---- moves that spell their byte

-- Each of these moves leads to a state whose text is this text and the move's byte.
abbrev Spell : List ℕ → List Move → Type 0
Spell text [] = Unit {0}
Spell text ((b to t) ∷ ms) = (spelled t ≡ text ++ (b ∷ [])) × Spell text ms

spell-append : (text : List ℕ) (ms ns : List Move) → Spell text ms → Spell text ns → Spell text (ms ++ ns)
spell-append text [] ns h k = k
spell-append text ((b to t) ∷ ms) ns h k = (h.0, spell-append text ms ns h.1 k)

spell-chosen : (text : List ℕ) (b : ℕ) (ms : List Move) (t : State) → Spell text ms → chosen b ms ≡ some t → spelled t ≡ text ++ (b ∷ [])
spell-chosen text b [] t h e = cc
spell-chosen text b ((c to u) ∷ ms) t h e = go (reflects-eqb b c) e (spell-chosen text b ms t h.1)
  where
    go : {m : Bool} → Reflects (b ≡ c) m → cond m (some u) (chosen b ms) ≡ some t → (chosen b ms ≡ some t → spelled t ≡ text ++ (b ∷ [])) → spelled t ≡ text ++ (b ∷ [])
    go (so p) f r = let q : u ≡ t = cc in ap spelled (sym q) ∙ h.0 ∙ ap (λ a. text ++ (a ∷ [])) (sym p)
    go (not_so n) f r = r f

spell-digits : (text : List ℕ) (next : ℕ → State) → ((d : ℕ) → d < 10 → spelled (next d) ≡ text ++ ((48 + d) ∷ [])) → (k n : ℕ) → k + n ≤ 10 → Spell text (map (λ d. (48 + d) to next d) (from k n))
spell-digits text next h k zero l = tt
spell-digits text next h k (suc n) l = (h k (omega arith), spell-digits text next h (suc k) n (omega arith))

-- The states of a number being read, after some text.
module _ (at : Option ℕ → State) (text : List ℕ) (reads : (n : Option ℕ) → spelled (at n) ≡ text ++ begun n) where
  spell-first : Spell text (digit_moves at none)
  spell-first = spell-digits text (λ d. at (some d)) (λ d h. reads (some d) ∙ ap (λ bs. text ++ bs) (numeral-digit d h)) 0 10 (omega arith)

  spell-more : (n : ℕ) → Spell (text ++ numeral n) (digit_moves at (some n))
  spell-more zero = tt
  spell-more (suc n) =
      spell-digits (text ++ numeral (suc n)) (λ d. at (some (suc n * 10 + d)))
      (λ d h. reads (some (suc n * 10 + d)) ∙ ap (λ bs. text ++ bs) (numeral-more (suc n) d (omega arith) h) ∙ sym (append_assoc text (numeral (suc n)) ((48 + d) ∷ [])))
      0
      10
      (omega arith)

  spell-number : (n : Option ℕ) → Spell (spelled (at n)) (digit_moves at n)
  spell-number none = subst⁻¹ (λ bs. Spell bs (digit_moves at none)) (reads none ∙ append-nil text) spell-first
  spell-number (some n) = subst⁻¹ (λ bs. Spell bs (digit_moves at (some n))) (reads (some n)) (spell-more n)

  spell-reading : (ends : ℕ → List Move) → ((x : ℕ) → Spell (spelled (at (some x))) (ends x)) → (n : Option ℕ) → Spell (spelled (at n)) (digit_moves at n ++ after n ends)
  spell-reading ends h n = spell-append (spelled (at n)) (digit_moves at n) (after n ends) (spell-number n) (at-end n)
    where
      at-end : (m : Option ℕ) → Spell (spelled (at m)) (after m ends)
      at-end none = tt
      at-end (some x) = h x

-- ---- the moves of each state

spell-column : (xs : List ℕ) (n : Option ℕ) → Spell (spelled (column xs n)) (moves (column xs n))
spell-column xs n =
    spell-reading (column xs) ((113 ∷ 40 ∷ due variable_text xs) ++ (88 ∷ []))
    (λ m. sym (append_assoc (113 ∷ 40 ∷ due variable_text xs) (88 ∷ []) (begun m)))
    (after_column xs)
    (λ x. (ap (λ bs. 113 ∷ 40 ∷ bs) (due-last variable_text xs x) ∙ simp append_assoc, (head-last xs x, tt)))
    n

spell-relation : (xs : List ℕ) (gs : List Goal) (d : Bool) (n : Option ℕ) → Spell (spelled (relation xs gs d n)) (moves (relation xs gs d n))
spell-relation xs gs d n =
    spell-reading (relation xs gs d) (to_relation xs gs d) (λ m. refl)
    (λ r. (40 to term_due xs gs d r []) ∷ [])
    (λ r. (sym (append_assoc (to_relation xs gs d) (numeral r) (40 ∷ [])), tt))
    n

module _ (xs : List ℕ) (gs : List Goal) (d : Bool) (r : ℕ) (ts : List Term) where
  to-term-last : (t : Term) → to_term xs gs d r (ts ++ (t ∷ [])) ≡ to_term xs gs d r ts ++ (term_text t ++ (44 ∷ []))
  to-term-last t =
      ap (λ bs. to_relation xs gs d ++ (numeral r ++ (40 ∷ bs))) (due-last term_text ts t)
      ∙ opened (to_relation xs gs d) (numeral r) (due term_text ts) (term_text t ++ (44 ∷ []))

  ended-last : (t : Term) → spelled (ended xs gs (relation_goal d r (and_last ts t))) ≡ to_term xs gs d r ts ++ (term_text t ++ (41 ∷ []))
  ended-last t =
      ap (λ bs. to_goal xs gs ++ bs) (goal-spelled d r (and_last ts t))
      ∙ ap (λ bs. to_goal xs gs ++ (not_text d ++ (114 ∷ (numeral r ++ bracketed bs)))) (parted-last term_text ts t)
      ∙ ap (λ bs. to_goal xs gs ++ (not_text d ++ (114 ∷ (numeral r ++ (40 ∷ bs))))) (append_assoc (due term_text ts) (term_text t) (41 ∷ []))
      ∙ related (to_goal xs gs) (not_text d) (numeral r ++ (40 ∷ (due term_text ts ++ (term_text t ++ (41 ∷ [])))))
      ∙ opened (to_relation xs gs d) (numeral r) (due term_text ts) (term_text t ++ (41 ∷ []))

  spell-term-due : Spell (to_term xs gs d r ts) (moves (term_due xs gs d r ts))
  spell-term-due =
      spell-append (to_term xs gs d r ts) (digit_moves (term xs gs d r ts false) none) ((88 to term xs gs d r ts true none) ∷ [])
      (spell-first (term xs gs d r ts false) (to_term xs gs d r ts) (λ n. refl))
      (refl, tt)

  spell-term : (v : Bool) (n : Option ℕ) → Spell (spelled (term xs gs d r ts v n)) (moves (term xs gs d r ts v n))
  spell-term v n =
      spell-reading (term xs gs d r ts v) (to_term xs gs d r ts ++ name v)
      (λ m. sym (append_assoc (to_term xs gs d r ts) (name v) (begun m)))
      (λ m. after_term xs gs d r ts (term_of v m))
      (λ m. (last m 44 (to-term-last (term_of v m)), (last m 41 (ended-last (term_of v m)), tt)))
      n
    where
      last : (m b : ℕ) {bs : List ℕ} → bs ≡ to_term xs gs d r ts ++ (term_text (term_of v m) ++ (b ∷ [])) → bs ≡ to_term xs gs d r ts ++ (name v ++ numeral m) ++ (b ∷ [])
      last m b e = e ∙ ap (λ cs. to_term xs gs d r ts ++ (cs ++ (b ∷ []))) (term-spelled v m) ∙ simp append_assoc

module _ (xs : List ℕ) (gs : List Goal) where
  goal-due-last : (g : Goal) → spelled (goal_due xs (gs ++ (g ∷ []))) ≡ to_goal xs gs ++ (goal_text g ++ (44 ∷ []))
  goal-due-last g = ap (λ bs. head_text xs ++ (58 ∷ 45 ∷ bs)) (due-last goal_text gs g) ∙ simp append_assoc

  done-last : (g : Goal) → spelled (done (rule xs (and_last gs g))) ≡ to_goal xs gs ++ (goal_text g ++ (46 ∷ []))
  done-last g = ap (λ bs. head_text xs ++ (58 ∷ 45 ∷ (bs ++ (46 ∷ [])))) (parted-last goal_text gs g) ∙ simp append_assoc

  spell-ended : (g : Goal) → Spell (spelled (ended xs gs g)) (moves (ended xs gs g))
  spell-ended g = (goal-due-last g ∙ sym (append_assoc (to_goal xs gs) (goal_text g) (44 ∷ [])), (done-last g ∙ sym (append_assoc (to_goal xs gs) (goal_text g) (46 ∷ [])), tt))

  spell-subject : (n : Option ℕ) → Spell (spelled (subject xs gs n)) (moves (subject xs gs n))
  spell-subject n =
      spell-reading (subject xs gs) (to_goal xs gs ++ (88 ∷ [])) (λ m. sym (append_assoc (to_goal xs gs) (88 ∷ []) (begun m)))
      (λ x. (32 to spaced xs gs x) ∷ [])
      (λ x. (sym (append_assoc (to_goal xs gs) (variable_text x) (32 ∷ [])), tt))
      n

  module _ (x : ℕ) where
    abbrev to-other : List ℕ
    to-other = to_goal xs gs ++ (variable_text x ++ (32 ∷ 61 ∷ 32 ∷ []))

    other-spelled : (bs : List ℕ) → to_goal xs gs ++ (variable_text x ++ (32 ∷ 61 ∷ 32 ∷ bs)) ≡ to-other ++ bs
    other-spelled bs = simp append_assoc

    spell-other-due : Spell to-other (moves (other_due xs gs x))
    spell-other-due =
        spell-append to-other (digit_moves (other xs gs x false) none) ((88 to other xs gs x true none) ∷ [])
        (spell-first (other xs gs x false) to-other (λ n. other-spelled (begun n)))
        (other-spelled (88 ∷ []), tt)

    spell-other : (v : Bool) (n : Option ℕ) → Spell (spelled (other xs gs x v n)) (moves (other xs gs x v n))
    spell-other v n =
        spell-reading (other xs gs x v) (to-other ++ name v)
        (λ m. other-spelled (name v ++ begun m) ∙ sym (append_assoc to-other (name v) (begun m)))
        (λ m. after_goal xs gs (equal x (term_of v m)))
        (λ m. (last m 44 (goal-due-last (equal x (term_of v m))), (last m 46 (done-last (equal x (term_of v m))), tt)))
        n
      where
        last : (m b : ℕ) {bs : List ℕ} → bs ≡ to_goal xs gs ++ (goal_text (equal x (term_of v m)) ++ (b ∷ [])) → bs ≡ spelled (other xs gs x v (some m)) ++ (b ∷ [])
        last m b e = e ∙ ap (λ cs. to_goal xs gs ++ (variable_text x ++ (32 ∷ 61 ∷ 32 ∷ cs) ++ (b ∷ []))) (term-spelled v m) ∙ simp append_assoc

spell-moves : (s : State) → Spell (spelled s) (moves s)
spell-moves start = (refl, tt)
spell-moves letter = (refl, (refl, tt))
spell-moves (column_due xs) = (refl, tt)
spell-moves (column xs n) = spell-column xs n
spell-moves (closed xs) = (refl, tt)
spell-moves (colon xs) = (sym (append_assoc (head_text xs) (58 ∷ []) (45 ∷ [])), tt)
spell-moves (goal_due xs gs) = (append-nil (to_goal xs gs ++ (114 ∷ [])), (refl, (refl, tt)))
spell-moves (denial_n xs gs) = (sym (append_assoc (to_goal xs gs) (110 ∷ []) (111 ∷ [])), tt)
spell-moves (denial_no xs gs) = (sym (append_assoc (to_goal xs gs) (110 ∷ 111 ∷ []) (116 ∷ [])), tt)
spell-moves (denial_not xs gs) = (sym (append_assoc (to_goal xs gs) (110 ∷ 111 ∷ 116 ∷ []) (32 ∷ [])), tt)
spell-moves (denial xs gs) = (simp (append_assoc, append-nil), tt)
spell-moves (relation xs gs d n) = spell-relation xs gs d n
spell-moves (term_due xs gs d r ts) = spell-term-due xs gs d r ts
spell-moves (term xs gs d r ts v n) = spell-term xs gs d r ts v n
spell-moves (ended xs gs g) = spell-ended xs gs g
spell-moves (subject xs gs n) = spell-subject xs gs n
spell-moves (spaced xs gs x) = (simp append_assoc, tt)
spell-moves (equals xs gs x) = (simp append_assoc, tt)
spell-moves (other_due xs gs x) = spell-other-due xs gs x
spell-moves (other xs gs x v n) = spell-other xs gs x v n
spell-moves (done R) = tt

-- ---- steps and texts

-- A step spells one byte more.
pub spelled_step : (s t : State) (b : ℕ) → step s b ≡ some t → spelled t ≡ spelled s ++ (b ∷ [])
spelled_step s t b e = spell-chosen (spelled s) b (moves s) t (spell-moves s) e

run-spells : (s : State) (bs : List ℕ) (t : State) → run (some s) bs ≡ some t → spelled t ≡ spelled s ++ bs
run-spells s [] t e = let q : s ≡ t = cc in ap spelled (sym q) ∙ sym (append-nil (spelled s))
run-spells s (b ∷ bs) t e = go (step s b) refl e (λ u. run-spells u bs t)
  where
    go : (o : Option State) → step s b ≡ o → run o bs ≡ some t → ((u : State) → run (some u) bs ≡ some t → spelled t ≡ spelled u ++ bs) → spelled t ≡ spelled s ++ (b ∷ bs)
    go none f r later = absurd (none-not-some (sym (run_none bs) ∙ r))
    go (some u) f r later = later u r ∙ ap (λ cs. cs ++ bs) (spelled_step s u b f) ∙ append_assoc (spelled s) (b ∷ []) bs

-- A text that leads from the start to a state is the text that the state stands for.
pub run-spelled : (bs : List ℕ) (t : State) → run (some start) bs ≡ some t → spelled t ≡ bs
run-spelled bs t e = run-spells start bs t e
