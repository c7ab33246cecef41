-- The draft keeps the state, byte by byte: `kept-start` and `kept_step`. The code's modes follow the automaton's moves.
use Rattle.std.specs.Prelude.{ℕ, zero, suc, ◌+◌, ◌*◌, ◌-◌, ◌≤◌, ◌<◌, ◌≡◌, refl, ◌⊎◌, Bool, true, false, ◌&&◌, ◌||◌, cond, List, [], ◌∷◌, ◌++◌, replicate, T, eqb, ltb}
use Rattle.std.proofs.Common.{arith, ap, ◌∙◌, inl, inr, ⊎_elim, ne_eqb}
use Rattle.std.proofs.Math.Path.{subst⁻¹}
use Rattle.std.proofs.Math.Option.{Option, none, some}
use Rattle.calculus.specs.Reflects.{Reflects, holds, fails}
use Rattle.calculus.proofs.Theory.Reflects.Laws.{reflects-eqb, reflects-ltb, reflects-or, reflected}
use Rattle.calculus.proofs.Theory.Lists.Laws.{and-holds}
use Rattle.rules.specs.declared.mode.Mode.{Mode}
use Rattle.rules.specs.declared.mode.Mode.TheVariants.{Out, Start, Letter, ColumnDue, Column, Closed, Colon, GoalDue, DenialN, DenialNo, DenialNot, Denial, Relation, TermDue, Ended, Subject, Spaced, Equals, OtherDue, Other, Done, Term as TermMode}
use Rattle.rules.specs.Grammar.{Term, Goal, equal}
use Rattle.rules.proofs.Theory.Code.Draft.Laws.{capped-positive, capped_more-capped}
use Rattle.rules.specs.Code.Modes.{picked, next_mode, suits}
use Rattle.rules.specs.Code.Draft.{Head, Body, capped, capped_more, put_column}
use Rattle.rules.specs.Code.Scan.{Draft, draft_of, start_draft, moved_to, digit_step, Goals, body_step, turned, turn_step, draft_step}
use Rattle.rules.specs.Code.Automaton.{State, start, letter, column_due, column, closed, colon, goal_due, denial_n, denial_no, denial_not, denial, relation, term_due, term, ended, subject, spaced, equals, other_due, other, done, Move, ◌to◌, digit_moves, after, term_of, moves, chosen, step}
use Rattle.rules.proofs.Theory.Code.Automaton.Laws.{NoDigit, chosen-passed, chosen-first, chosen_more, after_column, after_term, after_goal}
use Rattle.rules.specs.Code.Keeping.{HeadKeeps, Account, account_of, idle, Keeps, KeepsAll, mode_of, numeral_of, columns_of, account, Counts, not_begun, counts, Kept, KeptAfter}
use Rattle.rules.proofs.Theory.Code.Keeping.Columns.{head-starts, head-column}
use Rattle.rules.proofs.Theory.Code.Keeping.Laws.{keeps-start, keeps-nothing, keeps-denied, keeps-subject, keeps-named}
use Rattle.rules.proofs.Theory.Code.Keeping.Terms.{keeps-term}
use Rattle.rules.proofs.Theory.Code.Keeping.Complete.{all-and-last, keeps-relation, keeps-equality}

-- ---- the start

-- Nothing has been read.
pub kept-start : Kept start start_draft (replicate 16 0) (replicate 64 0)
kept-start = record { mode_is = refl; number_is = not_begun; head_keeps = head-starts; body_keeps = keeps-start }

-- ---- a byte that is no digit

-- Head and goals keep a state in which no number is being read.
abbrev Enters : Head → Goals → State → Type 0
Enters h g t = (numeral_of t ≡ none) × HeadKeeps (columns_of t) h × KeepsAll (account t) g

-- They keep the state of each move whose byte is b.
abbrev Follows : ℕ → Head → Goals → List Move → Type 0
Follows b h g [] = Unit {0}
Follows b h g ((c to t) ∷ ms) = (b ≡ c → Enters h g t) × Follows b h g ms

-- What can follow the number of a relation, and that of the variable before an =.
abbrev after_relation : List ℕ → List Goal → Bool → ℕ → List Move
after_relation xs gs d r = (40 to term_due xs gs d r []) ∷ []

abbrev after_subject : List ℕ → List Goal → ℕ → List Move
after_subject xs gs x = (32 to spaced xs gs x) ∷ []

-- The modes that moves lead to.
abbrev modes : List Move → List (ℕ × Mode)
modes [] = []
modes ((c to t) ∷ ms) = (c, mode_of t) ∷ modes ms

-- The same after a byte, of what a step gives.
abbrev KeptBy : Option State → Draft × (List ℕ × List ℕ) → Type 0
KeptBy o r = KeptAfter o r.0 r.1.0 r.1.1

kept-entered : (t : State) (h : Head) (g : Goals) → Enters h g t → KeptBy (some t) (turned (mode_of t) h g)
kept-entered t h g e = record { mode_is = refl; number_is = subst⁻¹ (λ o. Counts o 0 false) e.0 not_begun; head_keeps = e.1; body_keeps = e.2 }

kept-chosen : (b : ℕ) (h : Head) (g : Goals) (ms : List Move) → Follows b h g ms → KeptBy (chosen b ms) (turned (picked b (modes ms)) h g)
kept-chosen b h g [] f = refl
kept-chosen b h g ((c to t) ∷ ms) f = go (reflects-eqb b c) (kept-chosen b h g ms f.1)
  where
    go : {u : Bool} → Reflects (b ≡ c) u → KeptBy (chosen b ms) (turned (picked b (modes ms)) h g) → KeptBy (cond u (some t) (chosen b ms)) (turned (cond u (mode_of t) (picked b (modes ms))) h g)
    go (holds e) later = kept-entered t h g (f.0 e)
    go (fails n) later = later

module _ (b : ℕ) (nd : NoDigit b) where
  -- Where digits could follow too.
  kept-passed : (at : Option ℕ → State) (o : Option ℕ) (m : Mode) (h : Head) (g : Goals) (ms : List Move) → Follows b h g ms → KeptBy (chosen b (digit_moves at o ++ ms)) (turned (picked b ((48, m) ∷ modes ms)) h g)
  kept-passed at o m h g ms f =
      subst⁻¹ (λ c. KeptBy c (turned (picked b ((48, m) ∷ modes ms)) h g)) (chosen-passed at ms b nd o)
      (subst⁻¹ (λ t. KeptBy (chosen b ms) (turned (cond t m (picked b (modes ms))) h g)) (ne_eqb b 48 (nd 0 (omega arith))) (kept-chosen b h g ms f))

  -- Where a number is due.
  kept-undue : (at : Option ℕ → State) (r : Draft × (List ℕ × List ℕ)) → r.0.mode ≡ Out → KeptBy (chosen b (digit_moves at none ++ [])) r
  kept-undue at r e = subst⁻¹ (λ o. KeptBy o r) (chosen-passed at [] b nd none) e

goal-modes : (b : ℕ) → next_mode GoalDue b ≡ picked b ((114, Relation) ∷ (110, DenialN) ∷ (88, Subject) ∷ [])
goal-modes b = go (reflects-eqb b 88)
  where
    go : {u : Bool} → Reflects (b ≡ 88) u → next_mode GoalDue b ≡ picked b ((114, Relation) ∷ (110, DenialN) ∷ (88, Subject) ∷ [])
    go (holds e) = subst⁻¹ (λ c. next_mode GoalDue c ≡ picked c ((114, Relation) ∷ (110, DenialN) ∷ (88, Subject) ∷ [])) e refl
    go (fails n) = rw (ne_eqb b 88 n)

-- Goals that an effect left as they were.
as_before : (a : Account) (b : Body) (n : ℕ) (cs ns : List ℕ) → Keeps a b cs ns → KeepsAll a (body_step 0 b n cs ns)
as_before a b n cs ns k = subst⁻¹ (KeepsAll a) (keeps-nothing b n cs ns) k

-- The byte b turns the draft of mode m into this.
abbrev turn : Mode → ℕ → Bool → Head → Body → List ℕ → List ℕ → ℕ → Draft × (List ℕ × List ℕ)
turn m n st h body cs ns b = turn_step (draft_of m n st h body) b cs ns

module _ (b : ℕ) (nd : NoDigit b) (h : Head) (body : Body) (cs ns : List ℕ) where
  -- In a mode that reads a number, the byte must follow a digit.
  kept-reading : (at : Option ℕ → State) (ends : ℕ → List Move) (m : Mode) → (turn m 0 false h body cs ns b).0.mode ≡ Out
      → ((x : ℕ) → KeptBy (chosen b (digit_moves at (some x) ++ ends x)) (turn m (capped x) true h body cs ns b))
      → (o : Option ℕ) (n : ℕ) (st : Bool) → Counts o n st → KeptBy (chosen b (digit_moves at o ++ after o ends)) (turn m n st h body cs ns b)
  kept-reading at ends m out read o n st not_begun = kept-undue b nd at (turn m 0 false h body cs ns b) out
  kept-reading at ends m out read o n st (counts x) = read x

  module _ (xs : List ℕ) (hk : HeadKeeps xs h) where
    column-read : Keeps (idle []) body cs ns → (x : ℕ) → KeptBy (step (column xs (some x)) b) (turn Column (capped x) true h body cs ns b)
    column-read k x =
        let e : HeadKeeps (xs ++ (x ∷ [])) (put_column h (capped x)) = head-column xs h x hk in
        kept-passed b nd (column xs) (some x) Column (put_column h (capped x)) (body, (cs, ns)) (after_column xs x) ((λ q. (refl, e, k)), ((λ q. (refl, e, k)), tt))

    module _ (gs : List Goal) where
      relation-read : (d : Bool) → Keeps (account_of gs d false 0 []) body cs ns → (r : ℕ) → KeptBy (step (relation xs gs d (some r)) b) (turn Relation (capped r) true h body cs ns b)
      relation-read d k r =
          kept-passed b nd (relation xs gs d) (some r) Relation h (body_step 3 body (capped r) cs ns) (after_relation xs gs d r)
          ((λ q. (refl, hk, keeps-subject gs d r body cs ns k)), tt)

      subject-read : Keeps (idle gs) body cs ns → (x : ℕ) → KeptBy (step (subject xs gs (some x)) b) (turn Subject (capped x) true h body cs ns b)
      subject-read k x =
          kept-passed b nd (subject xs gs) (some x) Subject h (body_step 3 body (capped x) cs ns) (after_subject xs gs x)
          ((λ q. (refl, hk, keeps-subject gs false x body cs ns k)), tt)

      -- A goal is complete: a comma or a full stop follows.
      goal-follows : (g : Goal) (r : Goals) → KeepsAll (idle (gs ++ (g ∷ []))) r → Follows b h r (after_goal xs gs g)
      goal-follows g r k = ((λ q. (refl, hk, k)), ((λ q. (refl, hk, subst⁻¹ (λ hs. KeepsAll (idle hs) r) (all-and-last gs g) k)), tt))

      other-read : (x : ℕ) (v : Bool) → Keeps (account_of gs false v x []) body cs ns → (m : ℕ) → KeptBy (step (other xs gs x v (some m)) b) (turn Other (capped m) true h body cs ns b)
      other-read x v k m =
          kept-passed b nd (other xs gs x v) (some m) Other h (body_step 7 body (capped m) cs ns) (after_goal xs gs (equal x (term_of v m)))
          (goal-follows (equal x (term_of v m)) (body_step 7 body (capped m) cs ns) (keeps-equality gs v x m body cs ns k))

      module _ (d : Bool) (r : ℕ) (ts : List Term) (v : Bool) where
        -- What a byte after a term does, by its effect.
        abbrev term-turn : ℕ → ℕ → Bool → Draft × (List ℕ × List ℕ)
        term-turn e m started =
            cond (suits e started)
            (cond (eqb e 1) (moved_to (next_mode TermMode b) (put_column h m) body, (cs, ns)) (turned (next_mode TermMode b) h (body_step e body m cs ns)))
            (moved_to Out h body, (cs, ns))

        term-out : (u : Bool) → (term-turn (cond u 6 5) 0 false).0.mode ≡ Out
        term-out true = refl
        term-out false = refl

        term-read : Keeps (account_of gs d v r ts) body cs ns → (m : ℕ) → KeptBy (step (term xs gs d r ts v (some m)) b) (turn TermMode (capped m) true h body cs ns b)
        term-read k m = go (reflects-eqb b 41)
          where
            go : {u : Bool} → Reflects (b ≡ 41) u → KeptBy (step (term xs gs d r ts v (some m)) b) (term-turn (cond u 6 5) (capped m) true)
            go (holds e) =
                kept-passed b nd (term xs gs d r ts v) (some m) TermMode h (body_step 6 body (capped m) cs ns) (after_term xs gs d r ts (term_of v m))
                ((λ q. absurd (omega (arith, q, e))), ((λ q. (refl, hk, keeps-relation gs d v r ts m body cs ns k)), tt))
            go (fails ne) =
                kept-passed b nd (term xs gs d r ts v) (some m) TermMode h (body_step 5 body (capped m) cs ns) (after_term xs gs d r ts (term_of v m))
                ((λ q. (refl, hk, keeps-term gs d v r ts m body cs ns k)), ((λ q. absurd (ne q)), tt))

      goal-read : (n : ℕ) (st : Bool) → Keeps (idle gs) body cs ns → KeptBy (step (goal_due xs gs) b) (turn GoalDue n st h body cs ns b)
      goal-read n st k =
          let r = body_step 0 body n cs ns in let e = as_before (idle gs) body n cs ns k in
          subst⁻¹ (λ m. KeptBy (step (goal_due xs gs) b) (turned m h r)) (goal-modes b)
          (kept-chosen b h r (moves (goal_due xs gs)) ((λ q. (refl, hk, e)), ((λ q. (refl, hk, e)), ((λ q. (refl, hk, e)), tt))))

  module _ (n : ℕ) (st : Bool) where
    -- A byte that changes nothing but the mode.
    quiet : (a : Account) → Keeps a body cs ns → (t : State) → numeral_of t ≡ none → HeadKeeps (columns_of t) h → account t ≡ a → Enters h (body_step 0 body n cs ns) t
    quiet a k t e hk q = (e, hk, subst⁻¹ (λ c. KeepsAll c (body_step 0 body n cs ns)) q (as_before a body n cs ns k))

    -- A byte that is no digit.
    kept-turn : (s : State) → Counts (numeral_of s) n st → HeadKeeps (columns_of s) h → Keeps (account s) body cs ns → KeptBy (step s b) (turn (mode_of s) n st h body cs ns b)
    kept-turn start c hk k = kept-chosen b h (body_step 0 body n cs ns) (moves start) ((λ q. quiet (idle []) k letter refl hk refl), tt)
    kept-turn letter c hk k = kept-chosen b h (body_step 0 body n cs ns) (moves letter) ((λ q. quiet (idle []) k (column_due []) refl hk refl), ((λ q. quiet (idle []) k (colon []) refl hk refl), tt))
    kept-turn (column_due xs) c hk k = kept-chosen b h (body_step 0 body n cs ns) (moves (column_due xs)) ((λ q. quiet (idle []) k (column xs none) refl hk refl), tt)
    kept-turn (column xs o) c hk k = kept-reading (column xs) (after_column xs) Column refl (column-read xs hk k) o n st c
    kept-turn (closed xs) c hk k = kept-chosen b h (body_step 0 body n cs ns) (moves (closed xs)) ((λ q. quiet (idle []) k (colon xs) refl hk refl), tt)
    kept-turn (colon xs) c hk k = kept-chosen b h (body_step 0 body n cs ns) (moves (colon xs)) ((λ q. quiet (idle []) k (goal_due xs []) refl hk refl), tt)
    kept-turn (goal_due xs gs) c hk k = goal-read xs hk gs n st k
    kept-turn (denial_n xs gs) c hk k = kept-chosen b h (body_step 0 body n cs ns) (moves (denial_n xs gs)) ((λ q. quiet (idle gs) k (denial_no xs gs) refl hk refl), tt)
    kept-turn (denial_no xs gs) c hk k = kept-chosen b h (body_step 0 body n cs ns) (moves (denial_no xs gs)) ((λ q. quiet (idle gs) k (denial_not xs gs) refl hk refl), tt)
    kept-turn (denial_not xs gs) c hk k = kept-chosen b h (body_step 0 body n cs ns) (moves (denial_not xs gs)) ((λ q. quiet (idle gs) k (denial xs gs) refl hk refl), tt)
    kept-turn (denial xs gs) c hk k = kept-chosen b h (body_step 2 body n cs ns) (moves (denial xs gs)) ((λ q. (refl, hk, keeps-denied gs body n cs ns k)), tt)
    kept-turn (relation xs gs d o) c hk k = kept-reading (relation xs gs d) (after_relation xs gs d) Relation refl (relation-read xs hk gs d k) o n st c
    kept-turn (term_due xs gs d r ts) c hk k =
        kept-passed b nd (term xs gs d r ts false) none TermMode h (body_step 4 body n cs ns) ((88 to term xs gs d r ts true none) ∷ []) ((λ q. (refl, hk, keeps-named gs d r ts body n cs ns k)), tt)
    kept-turn (term xs gs d r ts v o) c hk k =
        kept-reading (term xs gs d r ts v) (λ m. after_term xs gs d r ts (term_of v m)) TermMode (term-out xs hk gs d r ts v (eqb b 41)) (term-read xs hk gs d r ts v k) o n st c
    kept-turn (ended xs gs g) c hk k = kept-chosen b h (body_step 0 body n cs ns) (moves (ended xs gs g)) (goal-follows xs hk gs g (body_step 0 body n cs ns) (as_before (idle (gs ++ (g ∷ []))) body n cs ns k))
    kept-turn (subject xs gs o) c hk k = kept-reading (subject xs gs) (after_subject xs gs) Subject refl (subject-read xs hk gs k) o n st c
    kept-turn (spaced xs gs x) c hk k = kept-chosen b h (body_step 0 body n cs ns) (moves (spaced xs gs x)) ((λ q. quiet (account_of gs false false x []) k (equals xs gs x) refl hk refl), tt)
    kept-turn (equals xs gs x) c hk k = kept-chosen b h (body_step 0 body n cs ns) (moves (equals xs gs x)) ((λ q. quiet (account_of gs false false x []) k (other_due xs gs x) refl hk refl), tt)
    kept-turn (other_due xs gs x) c hk k =
        kept-passed b nd (other xs gs x false) none Other h (body_step 4 body n cs ns) ((88 to other xs gs x true none) ∷ []) ((λ q. (refl, hk, keeps-named gs false x [] body n cs ns k)), tt)
    kept-turn (other xs gs x v o) c hk k = kept-reading (other xs gs x v) (λ m. after_goal xs gs (equal x (term_of v m))) Other refl (other-read xs hk gs x v k) o n st c
    kept-turn (done R) c hk k = refl

-- ---- a digit

-- No byte of these moves is a digit.
abbrev no_digits : List Move → Bool
no_digits [] = true
no_digits ((c to t) ∷ ms) = (ltb c 48 || ltb 57 c) && no_digits ms

module _ (b : ℕ) (low : 48 ≤ b) (high : b ≤ 57) where
  digit-unchosen : (ms : List Move) → T (no_digits ms) → chosen b ms ≡ none
  digit-unchosen [] t = refl
  digit-unchosen ((c to s) ∷ ms) t = go (reflects-eqb b c) (digit-unchosen ms (and-holds (ltb c 48 || ltb 57 c) (no_digits ms) t).1)
    where
      other_byte : ¬ ((c < 48) ⊎ (57 < c)) → ⊥
      other_byte n = n (reflected (reflects-or (reflects-ltb c 48) (reflects-ltb 57 c)) (and-holds (ltb c 48 || ltb 57 c) (no_digits ms) t).0)

      go : {u : Bool} → Reflects (b ≡ c) u → chosen b ms ≡ none → cond u (some s) (chosen b ms) ≡ none
      go (holds e) r = absurd (other_byte (⊎_elim (λ l. omega arith) (λ l. omega arith)))
      go (fails n) r = r

  module _ (h : Head) (body : Body) (cs ns : List ℕ) where
    -- The digit b turns the draft of mode m into this.
    abbrev digit : Mode → ℕ → Bool → Draft × (List ℕ × List ℕ)
    digit m n st = (digit_step (draft_of m n st h body) b, (cs, ns))

    -- Where no digit can follow.
    kept-no-digit : (ms : List Move) (m : Mode) (n : ℕ) (st : Bool) → T (no_digits ms) → next_mode m 48 ≡ Out → KeptBy (chosen b ms) (digit m n st)
    kept-no-digit ms m n st t e = subst⁻¹ (λ o. KeptBy o (digit m n st)) (digit-unchosen ms t) (go (st && eqb n 0))
      where
        go : (u : Bool) → cond u Out (next_mode m 48) ≡ Out
        go true = refl
        go false = e

    -- `at` are the states of the number, which head and goals keep, and m is a mode from which a digit leads there.
    module _ (at : Option ℕ → State) (m : Mode) (leads : (x : ℕ) → next_mode m 48 ≡ mode_of (at (some x))) (reads : (x : ℕ) → numeral_of (at (some x)) ≡ some x)
        (hk : (x : ℕ) → HeadKeeps (columns_of (at (some x))) h) (k : (x : ℕ) → Keeps (account (at (some x))) body cs ns) (ms : List Move) (none-else : T (no_digits ms)) where
      kept-number : (x n : ℕ) (st : Bool) → st && eqb n 0 ≡ false → capped_more n (b - 48) ≡ capped x → KeptBy (some (at (some x))) (digit m n st)
      kept-number x n st e q =
          record {
            mode_is = ap (λ u. cond u Out (next_mode m 48)) e ∙ leads x;
            number_is = subst⁻¹ (λ o. Counts o (capped_more n (b - 48)) true) (reads x) (subst⁻¹ (λ y. Counts (some x) y true) q (counts x));
            head_keeps = hk x;
            body_keeps = k x;
          }

      same_byte : b ≡ 48 + (b - 48)
      same_byte = omega arith

      kept_more : (x : ℕ) → KeptBy (chosen b (digit_moves at (some x) ++ ms)) (digit m (capped x) true)
      kept_more zero = subst⁻¹ (λ o. KeptBy o (digit m 0 true)) (digit-unchosen ms none-else) refl
      kept_more (suc x) =
          subst⁻¹ (λ o. KeptBy o (digit m (capped (suc x)) true)) (ap (λ c. chosen c (digit_moves at (some (suc x)) ++ ms)) same_byte ∙ chosen_more at ms (suc x) (b - 48) (omega arith) (omega arith))
          (kept-number (suc x * 10 + (b - 48)) (capped (suc x)) true (ne_eqb (capped (suc x)) 0 (capped-positive x)) (capped_more-capped (suc x) (b - 48)))

      kept-digit : (o : Option ℕ) (n : ℕ) (st : Bool) → Counts o n st → KeptBy (chosen b (digit_moves at o ++ ms)) (digit m n st)
      kept-digit o n st not_begun =
          let e : 0 * 10 + (b - 48) ≡ b - 48 = omega arith in
          subst⁻¹ (λ c. KeptBy c (digit m 0 false)) (ap (λ c. chosen c (digit_moves at none ++ ms)) same_byte ∙ chosen-first at ms (b - 48) (omega arith))
          (kept-number (b - 48) 0 false refl (ap capped e))
      kept-digit o n st (counts x) = kept_more x

    -- The same in a mode that reads a number.
    kept-further : (at : Option ℕ → State) (ends : ℕ → List Move) (m : Mode) → ((x : ℕ) → next_mode m 48 ≡ mode_of (at (some x))) → ((x : ℕ) → numeral_of (at (some x)) ≡ some x)
        → ((x : ℕ) → HeadKeeps (columns_of (at (some x))) h) → ((x : ℕ) → Keeps (account (at (some x))) body cs ns) → ((x : ℕ) → T (no_digits (ends x)))
        → (o : Option ℕ) (n : ℕ) (st : Bool) → Counts o n st → KeptBy (chosen b (digit_moves at o ++ after o ends)) (digit m n st)
    kept-further at ends m leads reads hk k none-else o n st c = kept-digit at m leads reads hk k (after o ends) (none_after o) o n st c
      where
        none_after : (p : Option ℕ) → T (no_digits (after p ends))
        none_after none = tt
        none_after (some x) = none-else x

    module _ (n : ℕ) (st : Bool) where
      -- A digit.
      kept-digits : (s : State) → Counts (numeral_of s) n st → HeadKeeps (columns_of s) h → Keeps (account s) body cs ns → KeptBy (step s b) (digit (mode_of s) n st)
      kept-digits start c hk k = kept-no-digit (moves start) Start n st tt refl
      kept-digits letter c hk k = kept-no-digit (moves letter) Letter n st tt refl
      kept-digits (column_due xs) c hk k = kept-no-digit (moves (column_due xs)) ColumnDue n st tt refl
      kept-digits (column xs o) c hk k = kept-further (column xs) (after_column xs) Column (λ x. refl) (λ x. refl) (λ x. hk) (λ x. k) (λ x. tt) o n st c
      kept-digits (closed xs) c hk k = kept-no-digit (moves (closed xs)) Closed n st tt refl
      kept-digits (colon xs) c hk k = kept-no-digit (moves (colon xs)) Colon n st tt refl
      kept-digits (goal_due xs gs) c hk k = kept-no-digit (moves (goal_due xs gs)) GoalDue n st tt refl
      kept-digits (denial_n xs gs) c hk k = kept-no-digit (moves (denial_n xs gs)) DenialN n st tt refl
      kept-digits (denial_no xs gs) c hk k = kept-no-digit (moves (denial_no xs gs)) DenialNo n st tt refl
      kept-digits (denial_not xs gs) c hk k = kept-no-digit (moves (denial_not xs gs)) DenialNot n st tt refl
      kept-digits (denial xs gs) c hk k = kept-no-digit (moves (denial xs gs)) Denial n st tt refl
      kept-digits (relation xs gs d o) c hk k = kept-further (relation xs gs d) (after_relation xs gs d) Relation (λ x. refl) (λ x. refl) (λ x. hk) (λ x. k) (λ x. tt) o n st c
      kept-digits (term_due xs gs d r ts) c hk k =
          kept-digit (term xs gs d r ts false) TermDue (λ x. refl) (λ x. refl) (λ x. hk) (λ x. k) ((88 to term xs gs d r ts true none) ∷ []) tt none n st c
      kept-digits (term xs gs d r ts v o) c hk k =
          kept-further (term xs gs d r ts v) (λ m. after_term xs gs d r ts (term_of v m)) TermMode (λ x. refl) (λ x. refl) (λ x. hk) (λ x. k) (λ x. tt) o n st c
      kept-digits (ended xs gs g) c hk k = kept-no-digit (moves (ended xs gs g)) Ended n st tt refl
      kept-digits (subject xs gs o) c hk k = kept-further (subject xs gs) (after_subject xs gs) Subject (λ x. refl) (λ x. refl) (λ x. hk) (λ x. k) (λ x. tt) o n st c
      kept-digits (spaced xs gs x) c hk k = kept-no-digit (moves (spaced xs gs x)) Spaced n st tt refl
      kept-digits (equals xs gs x) c hk k = kept-no-digit (moves (equals xs gs x)) Equals n st tt refl
      kept-digits (other_due xs gs x) c hk k =
          kept-digit (other xs gs x false) OtherDue (λ y. refl) (λ y. refl) (λ y. hk) (λ y. k) ((88 to other xs gs x true none) ∷ []) tt none n st c
      kept-digits (other xs gs x v o) c hk k =
          kept-further (other xs gs x v) (λ m. after_goal xs gs (equal x (term_of v m))) Other (λ y. refl) (λ y. refl) (λ y. hk) (λ y. k) (λ y. tt) o n st c
      kept-digits (done R) c hk k = kept-no-digit [] Done n st tt refl

-- ---- any byte

-- A byte more: the draft keeps the state that it leads to, or the mode says that no rule goes on so.
pub kept_step : (s : State) (d : Draft) (b : ℕ) (cs ns : List ℕ) → Kept s d cs ns → let r = draft_step d b cs ns in KeptAfter (step s b) r.0 r.1.0 r.1.1
kept_step s d b cs ns k = subst⁻¹ (λ m. KeptBy (step s b) (draft_step (draft_of m d.number d.started d.head d.body) b cs ns)) k.mode_is (go (reflects-or (reflects-ltb b 48) (reflects-ltb 57 b)))
  where
    no_digit : (b < 48) ⊎ (57 < b) → NoDigit b
    no_digit (inl l) x h = λ e. omega arith
    no_digit (inr l) x h = λ e. omega arith

    go : {u : Bool} → Reflects ((b < 48) ⊎ (57 < b)) u
        → KeptBy (step s b) (cond u (turn (mode_of s) d.number d.started d.head d.body cs ns b) (digit_step (draft_of (mode_of s) d.number d.started d.head d.body) b, (cs, ns)))
    go (holds l) = kept-turn b (no_digit l) d.head d.body cs ns d.number d.started s k.number_is k.head_keeps k.body_keeps
    go (fails n) = kept-digits b low high d.head d.body cs ns d.number d.started s k.number_is k.head_keeps k.body_keeps
      where
        low : 48 ≤ b
        low = let h : ¬ (b < 48) = λ l. n (inl l) in omega arith

        high : b ≤ 57
        high = let h : ¬ (57 < b) = λ l. n (inr l) in omega arith
