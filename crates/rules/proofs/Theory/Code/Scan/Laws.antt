-- Laws of a byte's step: the effects on the goals, by number; and the step in two parts, where the reader stands and what becomes of head and goals.
use Rattle.std.specs.Prelude.{ℕ, zero, suc, ◌≡◌, refl, ◌≢◌, Bool, true, false, ◌||◌, cond, List, eqb, ltb, ◌≤◌, ◌<◌}
use Rattle.std.proofs.Common.{sym, ap, ◌∙◌, arith, ne_eqb, lt-ltb, le-ltb}
use Rattle.rules.specs.declared.mode.Mode.TheVariants.{Out}
use Rattle.rules.specs.Code.Modes.{next_mode, effect_of, suits, stage_of}
use Rattle.rules.specs.Code.Draft.{Head, Body, put_column, put_term, put_relation, put_equality}
use Rattle.rules.specs.Code.Scan.{Reader, Draft, Goals, by_effect, body_step, moved_to, turned, turn_by, turn_step, digit_step, draft_step, draft_of, reader_of, digit_reader, turn_reader, reader_step, effect_at, draft_at, relation_step, equality_step, turn_mode}
use Rattle.rules.specs.declared.mode.Mode.{Mode}

module _ (e : ℕ) (b : Body) (n : ℕ) (cs ns : List ℕ) where
  -- Any other number does nothing.
  pub step_other : e ≢ 2 → e ≢ 3 → e ≢ 4 → e ≢ 5 → e ≢ 6 → e ≢ 7 → ◌≡◌ {A = Goals} (b, (cs, ns)) (body_step e b n cs ns)
  step_other p q r s t u = go b.over
    where
      none : (f : ℕ) → f ≢ 2 → f ≢ 3 → f ≢ 4 → f ≢ 5 → f ≢ 6 → f ≢ 7 → ◌≡◌ {A = Goals} (b, (cs, ns)) (by_effect f b n cs ns)
      none zero p q r s t u = refl
      none (suc zero) p q r s t u = refl
      none (suc (suc zero)) p q r s t u = absurd (p refl)
      none (suc (suc (suc zero))) p q r s t u = absurd (q refl)
      none (suc (suc (suc (suc zero)))) p q r s t u = absurd (r refl)
      none (suc (suc (suc (suc (suc zero))))) p q r s t u = absurd (s refl)
      none (suc (suc (suc (suc (suc (suc zero)))))) p q r s t u = absurd (t refl)
      none (suc (suc (suc (suc (suc (suc (suc zero))))))) p q r s t u = absurd (u refl)
      none (suc (suc (suc (suc (suc (suc (suc (suc f)))))))) p q r s t u = refl

      go : (o : Bool) → ◌≡◌ {A = Goals} (b, (cs, ns)) (cond o (b, (cs, ns)) (by_effect e b n cs ns))
      go true = refl
      go false = none e p q r s t u

-- A byte in two parts: where the reader stands then, and what becomes of the head and the goals.
module _ (p : Reader) (h : Head) (b : Body) (c : ℕ) (cs ns : List ℕ) where
  -- Both go to one mode.
  pub mode-stepped : (draft_step (draft_at p h b) c cs ns).0.mode ≡ (reader_step p c).mode
  mode-stepped = go (ltb c 48 || ltb 57 c) (suits (effect_of p.mode c) p.started) (eqb (effect_of p.mode c) 1)
    where
      go : (t u v : Bool)
          → (cond {A = Draft × (List ℕ × List ℕ)} t (cond u (cond v (moved_to (next_mode p.mode c) (put_column h p.number) b, (cs, ns)) (turned (next_mode p.mode c) h (body_step (effect_of p.mode c) b p.number cs ns))) (moved_to Out h b, (cs, ns))) (digit_step (draft_at p h b) c, (cs, ns))).0.mode
          ≡ (cond {A = Reader} t (reader_of (cond u (next_mode p.mode c) Out) 0 false) (digit_reader p c)).mode
      go true true true = refl
      go true true false = refl
      go true false v = refl
      go false u v = refl

  -- The same step, where the byte is a digit, or by the effect of one that isn't.
  split : (e : ℕ) → effect_at p.mode c ≡ e → (r : Draft × (List ℕ × List ℕ)) → (reader_step p c ≡ digit_reader p c → 0 ≡ e → r ≡ (digit_step (draft_at p h b) c, (cs, ns)))
      → (reader_step p c ≡ turn_reader p c → effect_of p.mode c ≡ e → r ≡ turn_step (draft_at p h b) c cs ns) → r ≡ draft_step (draft_at p h b) c cs ns
  split e k r f g = go (ltb c 48 || ltb 57 c) refl
    where
      go : (t : Bool) → (ltb c 48 || ltb 57 c) ≡ t → r ≡ draft_step (draft_at p h b) c cs ns
      go true q =
          g (ap (λ t. cond t (turn_reader p c) (digit_reader p c)) q) (sym (ap (λ t. cond t (effect_of p.mode c) 0) q) ∙ k)
          ∙ sym (ap (λ t. cond t (turn_step (draft_at p h b) c cs ns) (digit_step (draft_at p h b) c, (cs, ns))) q)
      go false q =
          f (ap (λ t. cond t (turn_reader p c) (digit_reader p c)) q) (sym (ap (λ t. cond t (effect_of p.mode c) 0) q) ∙ k)
          ∙ sym (ap (λ t. cond t (turn_step (draft_at p h b) c cs ns) (digit_step (draft_at p h b) c, (cs, ns))) q)

  -- Nothing happens to the head and the goals.
  pub stepped-nothing : effect_at p.mode c ≡ 0 → ◌≡◌ {A = Draft × (List ℕ × List ℕ)} (draft_at (reader_step p c) h b, (cs, ns)) (draft_step (draft_at p h b) c cs ns)
  stepped-nothing k =
      split 0 k (draft_at (reader_step p c) h b, (cs, ns))
      (λ q z. ap (λ w. (draft_at w h b, (cs, ns))) q)
      (λ q z.
      ap (λ w. (draft_at w h b, (cs, ns))) q
      ∙ (λ i. (draft_of (cond (suits (z i) p.started) (next_mode p.mode c) Out) 0 false h b, (cs, ns)))
      ∙ ap (turned (next_mode p.mode c) h) (step_other 0 b p.number cs ns (λ e. absurd (omega arith)) (λ e. absurd (omega arith)) (λ e. absurd (omega arith)) (λ e. absurd (omega arith)) (λ e. absurd (omega arith)) (λ e. absurd (omega arith)))
      ∙ sym (ap (λ e. turn_by e (next_mode p.mode c) (draft_at p h b) cs ns) z))

  -- Where the reader goes on, the byte suits what it does.
  suited : (e : ℕ) → reader_step p c ≡ turn_reader p c → effect_of p.mode c ≡ e → stage_of (reader_step p c).mode ≢ 0 → suits e p.started ≡ true
  suited e q z alive = go (suits e p.started) refl
    where
      go : (t : Bool) → suits e p.started ≡ t → suits e p.started ≡ true
      go true f = f
      go false f =
          absurd (alive (ap (λ w. stage_of w.mode) q ∙ (λ i. stage_of (cond (suits (z i) p.started) (next_mode p.mode c) Out)) ∙ ap (λ t. stage_of (cond t (next_mode p.mode c) Out)) f))

  -- The place after it.
  goes_to : (e : ℕ) → reader_step p c ≡ turn_reader p c → effect_of p.mode c ≡ e → stage_of (reader_step p c).mode ≢ 0 → reader_step p c ≡ reader_of (next_mode p.mode c) 0 false
  goes_to e q z alive =
      q ∙ (λ i. reader_of (cond (suits (z i) p.started) (next_mode p.mode c) Out) 0 false) ∙ ap (λ t. reader_of (cond t (next_mode p.mode c) Out) 0 false) (suited e q z alive)

  -- The number is a variable of the head.
  pub stepped-column : effect_at p.mode c ≡ 1 → stage_of (reader_step p c).mode ≢ 0 → (g : Head) → g ≡ put_column h p.number
      → ◌≡◌ {A = Draft × (List ℕ × List ℕ)} (draft_at (reader_step p c) g b, (cs, ns)) (draft_step (draft_at p h b) c cs ns)
  stepped-column k alive g f =
      split 1 k (draft_at (reader_step p c) g b, (cs, ns))
      (λ q z. absurd (omega (arith, z)))
      (λ q z.
      (λ i. (draft_at (goes_to 1 q z alive i) (f i) b, (cs, ns)))
      ∙ sym (ap (λ t. cond t (moved_to (next_mode p.mode c) (put_column h p.number) b, (cs, ns)) (moved_to Out h b, (cs, ns))) (suited 1 q z alive))
      ∙ sym (ap (λ e. turn_by e (next_mode p.mode c) (draft_at p h b) cs ns) z))

  -- The byte is for the goals.
  pub stepped-goals : (e : ℕ) → effect_at p.mode c ≡ e → e ≢ 1 → e ≢ 0 → stage_of (reader_step p c).mode ≢ 0 → (a : Body) (ds ms : List ℕ) → ◌≡◌ {A = Goals} (a, (ds, ms)) (body_step e b p.number cs ns)
      → ◌≡◌ {A = Draft × (List ℕ × List ℕ)} (draft_at (reader_step p c) h a, (ds, ms)) (draft_step (draft_at p h b) c cs ns)
  stepped-goals e k one none alive a ds ms f =
      split e k (draft_at (reader_step p c) h a, (ds, ms))
      (λ q z. absurd (none (sym z)))
      (λ q z.
      (λ i. (draft_at (goes_to e q z alive i) h a, (ds, ms)))
      ∙ ap (turned (next_mode p.mode c) h) f
      ∙ sym (ap (λ t. cond t (moved_to (next_mode p.mode c) (put_column h p.number) b, (cs, ns)) (turned (next_mode p.mode c) h (body_step e b p.number cs ns))) (ne_eqb e 1 one))
      ∙ sym (ap (λ t. cond t (cond (eqb e 1) (moved_to (next_mode p.mode c) (put_column h p.number) b, (cs, ns)) (turned (next_mode p.mode c) h (body_step e b p.number cs ns))) (moved_to Out h b, (cs, ns))) (suited e q z alive))
      ∙ sym (ap (λ y. turn_by y (next_mode p.mode c) (draft_at p h b) cs ns) z))

-- ---- laws that stand as they stood

module _ (e : ℕ) (b : Body) (n : ℕ) (cs ns : List ℕ) where
  -- The effect where no limit is passed.
  pub step-within : (f : ℕ) → b.over ≡ false → e ≡ f → body_step e b n cs ns ≡ by_effect f b n cs ns
  step-within f o k = ap (λ p. cond p (b, (cs, ns)) (by_effect e b n cs ns)) o ∙ ap (λ g. by_effect g b n cs ns) k

  -- A term, and what it completes.
  module _ (c : Body) (ds : List ℕ) (o : b.over ≡ false) where
    pub step-term : e ≡ 5 → ◌≡◌ {A = Body × List ℕ} (c, ds) (put_term b n cs) → ◌≡◌ {A = Goals} (c, (ds, ns)) (body_step e b n cs ns)
    step-term k t = ap (λ g. (g.0, (g.1, ns))) t ∙ sym (step-within 5 o k)

    pub step-relation : e ≡ 6 → ◌≡◌ {A = Body × List ℕ} (c, ds) (put_term b n cs) → (r : Body) (ms : List ℕ) → ◌≡◌ {A = Body × List ℕ} (r, ms) (put_relation c ns) → ◌≡◌ {A = Goals} (r, (ds, ms)) (body_step e b n cs ns)
    step-relation k t r ms f = ap (λ g. (g.0, (ds, g.1))) f ∙ ap (λ g. relation_step (g.0, (g.1, ns))) t ∙ sym (step-within 6 o k)

    pub step-equality : e ≡ 7 → ◌≡◌ {A = Body × List ℕ} (c, ds) (put_term b n cs) → (r : Body) (ms : List ℕ) → ◌≡◌ {A = Body × List ℕ} (r, ms) (put_equality c ns) → ◌≡◌ {A = Goals} (r, (ds, ms)) (body_step e b n cs ns)
    step-equality k t r ms f = ap (λ g. (g.0, (ds, g.1))) f ∙ ap (λ g. equality_step (g.0, (g.1, ns))) t ∙ sym (step-within 7 o k)

-- A byte is below the digits, above them, or one of them.
module _ {A : Type 0} (c : ℕ) (other digit : A) where
  pub byte-below : c < 48 → other ≡ cond (ltb c 48 || ltb 57 c) other digit
  byte-below h = sym (ap (λ t. cond (t || ltb 57 c) other digit) (lt-ltb c 48 h))

  pub byte_above : 57 < c → other ≡ cond (ltb c 48 || ltb 57 c) other digit
  byte_above h = sym (λ i. cond (le-ltb c 48 (omega arith) i || lt-ltb 57 c h i) other digit)

  pub byte-digit : 48 ≤ c → c ≤ 57 → digit ≡ cond (ltb c 48 || ltb 57 c) other digit
  byte-digit h l = sym (λ i. cond (le-ltb c 48 h i || le-ltb 57 c l i) other digit)

-- A byte that is no digit suits what it does, or not.
module _ (m : Mode) (started : Bool) (c e : ℕ) (k : e ≡ effect_of m c) (s : Bool) (f : s ≡ suits e started) where
  turned-to : (t : Bool) → s ≡ t → cond t (next_mode m c) Out ≡ turn_mode m started c
  turned-to t g = (λ i. cond (sym g i) (next_mode m c) Out) ∙ (λ i. cond (f i) (next_mode m c) Out) ∙ (λ i. cond (suits (k i) started) (next_mode m c) Out)

  pub turn-out : s ≡ false → Out ≡ turn_mode m started c
  turn-out g = turned-to false g

  pub turn-goes : s ≡ true → next_mode m c ≡ turn_mode m started c
  turn-goes g = turned-to true g
