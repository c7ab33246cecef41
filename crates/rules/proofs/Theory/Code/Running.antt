-- A text read up to a place: the automaton has a state there, which the draft keeps. What follows of the reply when reading stops, ends early or ends.
use Rattle.std.specs.Prelude.{Option as Option_of, Some, None, ℕ, ◌+◌, ◌≤◌, ◌<◌, ◌≡◌, refl, ◌≢◌, ◌||◌, Bool, true, false, cond, set, ltb, leb, unwrap_or, List, [], ◌∷◌, length, get_or, take, replicate}
use Rattle.std.proofs.Common.{arith, add-one, sym, ap, subst, ◌∙◌, take-suc, take_all}
use Rattle.std.proofs.Math.Option.{Option, none, some}
use Rattle.rules.specs.Reply.{Packing, refused, PackReply, rule_packing}
use Rattle.rules.specs.declared.kept.Head.{Head as HeadWithin}
use Rattle.rules.specs.declared.kept.Body.{Body as BodyWithin}
use Rattle.rules.specs.declared.scan.Reader.{Reader as Place}
use Rattle.rules.specs.Grammar.{Rule}
use Rattle.rules.proofs.Theory.Reply.Laws.{stopped-reply, early-reply, rule_reply}
use Rattle.rules.specs.Code.Automaton.{State, start, letter, column_due, column, closed, colon, goal_due, denial_n, denial_no, denial_not, denial, relation, term_due, term, ended, subject, spaced, equals, other_due, other, done, step, stepped, run}
use Rattle.rules.proofs.Theory.Code.Automaton.Laws.{run-append}
use Rattle.rules.specs.Code.Modes.{stage_of, effect_number}
use Rattle.rules.specs.declared.mode.Mode.TheVariants.{Out, Done}
use Rattle.rules.specs.declared.mode.Effect.{Effect}
use Rattle.rules.specs.declared.mode.Effect.TheVariants.{Nothing, Column}
use Rattle.rules.proofs.Theory.Code.Modes.Laws.{stage-out, stage-done, nothing-zero, column-one}
use Rattle.rules.proofs.Theory.Code.Finish.Testing.{ends-head, ends-body}
use Rattle.rules.specs.Meaning.{max_number, max_terms}
use Rattle.rules.specs.Code.Draft.{Head, Body, head_of, head_from, the_head, kept_head, body_from, beside, within, Small, put_column, empty_head, empty_body}
use Rattle.rules.specs.Code.Scan.{Reader, reader_from, Draft, Goals, start_reader, reader_step, effect_at, draft_at, body_step, by_effect, draft_step}
use Rattle.rules.proofs.Theory.Code.Scan.Laws.{mode-stepped, stepped-nothing, stepped-column, stepped-goals}
use Rattle.rules.specs.Code.Keeping.{mode_of, Kept, KeptAfter}
use Rattle.rules.proofs.Theory.Code.Keeping.Steps.{kept-start, kept_step}
use Rattle.rules.specs.Code.Finish.{Variables, finished}
use Rattle.rules.proofs.Theory.Code.Finish.Laws.{kept-ready, finish-kept}

-- ---- where a mode stands

-- No state's mode says that no rule goes on.
live : (s : State) → 1 ≤ stage_of (mode_of s)
live start = omega arith
live letter = omega arith
live (column_due xs) = omega arith
live (column xs n) = omega arith
live (closed xs) = omega arith
live (colon xs) = omega arith
live (goal_due xs gs) = omega arith
live (denial_n xs gs) = omega arith
live (denial_no xs gs) = omega arith
live (denial_not xs gs) = omega arith
live (denial xs gs) = omega arith
live (relation xs gs d n) = omega arith
live (term_due xs gs d r ts) = omega arith
live (term xs gs d r ts v n) = omega arith
live (ended xs gs g) = omega arith
live (subject xs gs n) = omega arith
live (spaced xs gs x) = omega arith
live (equals xs gs x) = omega arith
live (other_due xs gs x) = omega arith
live (other xs gs x v n) = omega arith
live (done R) = omega arith

-- Only the full stop's says that the rule has ended.
done_at : (s : State) → stage_of (mode_of s) ≡ 2 → (R : Rule) × (s ≡ done R)
done_at start e = absurd (omega arith)
done_at letter e = absurd (omega arith)
done_at (column_due xs) e = absurd (omega arith)
done_at (column xs n) e = absurd (omega arith)
done_at (closed xs) e = absurd (omega arith)
done_at (colon xs) e = absurd (omega arith)
done_at (goal_due xs gs) e = absurd (omega arith)
done_at (denial_n xs gs) e = absurd (omega arith)
done_at (denial_no xs gs) e = absurd (omega arith)
done_at (denial_not xs gs) e = absurd (omega arith)
done_at (denial xs gs) e = absurd (omega arith)
done_at (relation xs gs d n) e = absurd (omega arith)
done_at (term_due xs gs d r ts) e = absurd (omega arith)
done_at (term xs gs d r ts v n) e = absurd (omega arith)
done_at (ended xs gs g) e = absurd (omega arith)
done_at (subject xs gs n) e = absurd (omega arith)
done_at (spaced xs gs x) e = absurd (omega arith)
done_at (equals xs gs x) e = absurd (omega arith)
done_at (other_due xs gs x) e = absurd (omega arith)
done_at (other xs gs x v n) e = absurd (omega arith)
done_at (done R) e = (R, refl)

-- ---- a text read up to a place

abbrev pub Reached : List ℕ → ℕ → Draft → List ℕ → List ℕ → Type 0
Reached bs i d cs ns = (s : State) × (run (some start) (take i bs) ≡ some s) × Kept s d cs ns

pub reached-start : (bs : List ℕ) (p : Reader) (h : Head) (b : Body) → p ≡ start_reader → h ≡ empty_head → b ≡ empty_body → Reached bs 0 (draft_at p h b) (replicate 16 0) (replicate 64 0)
reached-start bs p h b e f g = (start, refl, subst (λ c. Kept start c (replicate 16 0) (replicate 64 0)) (λ i. draft_at (sym e i) (sym f i) (sym g i)) kept-start)

module _ (bs : List ℕ) (i : ℕ) (d : Draft) (cs ns : List ℕ) (r : Reached bs i d cs ns) where
  -- One byte more.
  module _ (l : i < length bs) (e : Draft) (ds ms : List ℕ) (f : ◌≡◌ {A = Draft × (List ℕ × List ℕ)} (e, (ds, ms)) (draft_step d (get_or bs i 0) cs ns)) where
    kept-after : KeptAfter (step r.0 (get_or bs i 0)) e ds ms
    kept-after = subst (λ q. KeptAfter (step r.0 (get_or bs i 0)) q.0 q.1.0 q.1.1) (sym f) (kept_step r.0 d (get_or bs i 0) cs ns r.2)

    run-next : run (some start) (take (i + 1) bs) ≡ step r.0 (get_or bs i 0)
    run-next =
        ap (λ k. run (some start) (take k bs)) (add-one i) ∙ ap (run (some start)) (take-suc bs i 0 l)
        ∙ run-append (some start) (take i bs) (get_or bs i 0 ∷ []) ∙ ap (λ o. stepped o (get_or bs i 0)) r.1

    reached-stop : stage_of e.mode ≡ 0 → (p : Packing) → p ≡ refused i → PackReply bs p
    reached-stop t p g P = g ∙ sym (stopped-reply bs i r.0 r.1 l (go (step r.0 (get_or bs i 0)) kept-after) P)
      where
        go : (o : Option State) → KeptAfter o e ds ms → o ≡ none
        go none k = refl
        go (some s) k = let z : stage_of e.mode ≡ stage_of (mode_of s) = ap stage_of k.mode_is in absurd (omega (arith, live s))

    reached-next : stage_of e.mode ≢ 0 → Reached bs (i + 1) e ds ms
    reached-next t = go (step r.0 (get_or bs i 0)) run-next kept-after
      where
        go : (o : Option State) → run (some start) (take (i + 1) bs) ≡ o → KeptAfter o e ds ms → Reached bs (i + 1) e ds ms
        go none g k = absurd (t (ap stage_of k))
        go (some s) g k = (s, g, k)

-- The same in two parts, as the code goes: w is the place after the byte, e its effect, g the stage of w.
module _ (bs : List ℕ) (i : ℕ) (p : Reader) (h : Head) (b : Body) (cs ns : List ℕ) (r : Reached bs i (draft_at p h b) cs ns) (l : i < length bs)
    (w : Reader) (f : w ≡ reader_step p (get_or bs i 0)) (e : ℕ) (k : e ≡ effect_at p.mode (get_or bs i 0)) (g : ℕ) (z : g ≡ stage_of w.mode) where
  alive : g ≢ 0 → stage_of (reader_step p (get_or bs i 0)).mode ≢ 0
  alive n o = n (z ∙ ap (λ v. stage_of v.mode) f ∙ o)

  on : g ≢ 0 → (c : Head) (a : Body) (ds ms : List ℕ) → ◌≡◌ {A = Draft × (List ℕ × List ℕ)} (draft_at (reader_step p (get_or bs i 0)) c a, (ds, ms)) (draft_step (draft_at p h b) (get_or bs i 0) cs ns)
      → Reached bs (i + 1) (draft_at w c a) ds ms
  on n c a ds ms o = reached-next bs i (draft_at p h b) cs ns r l (draft_at w c a) ds ms (ap (λ v. (draft_at v c a, (ds, ms))) f ∙ o) (λ q. n (z ∙ q))

  pub stops : g ≡ 0 → (q : Packing) → q ≡ refused i → PackReply bs q
  stops n q o =
      let d = draft_step (draft_at p h b) (get_or bs i 0) cs ns in
      reached-stop bs i (draft_at p h b) cs ns r l d.0 d.1.0 d.1.1 refl
      (ap stage_of (mode-stepped p h b (get_or bs i 0) cs ns) ∙ ap (λ v. stage_of v.mode) (sym f) ∙ sym z ∙ n) q o

  pub goes_on : g ≢ 0 → e ≡ 0 → Reached bs (i + 1) (draft_at w h b) cs ns
  goes_on n o = on n h b cs ns (stepped-nothing p h b (get_or bs i 0) cs ns (sym k ∙ o))

  pub takes-column : g ≢ 0 → e ≡ 1 → (c : Head) → c ≡ put_column h p.number → Reached bs (i + 1) (draft_at w c b) cs ns
  takes-column n o c q = on n c b cs ns (stepped-column p h b (get_or bs i 0) cs ns (sym k ∙ o) (alive n) c q)

  pub takes-goals : g ≢ 0 → e ≢ 0 → e ≢ 1 → (a : Body) (ds ms : List ℕ) → ◌≡◌ {A = Goals} (a, (ds, ms)) (body_step e b p.number cs ns) → Reached bs (i + 1) (draft_at w h a) ds ms
  takes-goals n o one a ds ms q = on n h a ds ms (stepped-goals p h b (get_or bs i 0) cs ns e (sym k) one o (alive n) a ds ms q)

-- The end of the text.
module _ (bs : List ℕ) (i : ℕ) (d : Draft) (cs ns : List ℕ) (r : Reached bs i d cs ns) (l : i ≡ length bs) where
  run-all : run (some start) bs ≡ some r.0
  run-all = ap (run (some start)) (sym (take_all i bs (omega arith))) ∙ r.1

  pub reached-early : stage_of d.mode ≢ 2 → (p : Packing) → p ≡ refused i → PackReply bs p
  reached-early t p g P =
      g ∙ ap refused l
      ∙ sym (early-reply bs r.0 run-all (λ R f. t (ap stage_of (r.2.mode_is ∙ ap mode_of f))) P)

  module _ (t : stage_of d.mode ≡ 2) where
    whole : (R : Rule) × (r.0 ≡ done R)
    whole = done_at r.0 (sym (ap stage_of r.2.mode_is) ∙ t)

    kept_whole : Kept (done whole.0) d cs ns
    kept_whole = subst (λ s. Kept s d cs ns) whole.1 r.2

    pub reached-ready : (d.head.over ≡ false → Variables d.head) × Small d.body × (d.body.over ≡ false → 1 ≤ d.body.nodes)
    reached-ready = kept-ready whole.0 d cs ns kept_whole

    pub reached-done : (p : Packing) → p ≡ finished d.head d.body cs ns i → PackReply bs p
    reached-done p g P =
        g ∙ finish-kept whole.0 d cs ns i kept_whole
        ∙ ap (rule_packing whole.0) l
        ∙ sym (rule_reply bs whole.0 (run-all ∙ ap some whole.1) P)

-- ---- as the code has it

-- A head past no limit, and one past a limit.
head-some : (h g : Head) → Some g ≡ kept_head h → h ≡ g
head-some h g e = go h.over e
  where
    go : (o : Bool) → Some g ≡ cond o None (Some h) → h ≡ g
    go true k = absurd (cc)
    go false k = cc

head-none : (h : Head) → None ≡ kept_head h → h.over ≡ true
head-none h e = go h.over refl e
  where
    go : (o : Bool) → h.over ≡ o → None ≡ cond o None (Some h) → h.over ≡ true
    go true f k = f
    go false f k = absurd (cc)

column-past : (h : Head) (x : ℕ) → None ≡ kept_head h → None ≡ kept_head (put_column h x)
column-past h x e = sym (ap (λ o. cond o None (Some (put_column h x))) (go (ltb x h.least || ltb max_number x || leb max_terms h.count)))
  where
    go : (t : Bool) → (cond t (head_of h.variables h.count h.least true) (head_of (set h.variables h.count x) (h.count + 1) (x + 1) h.over)).over ≡ true
    go true = refl
    go false = head-none h e

-- Goals past no limit, and goals past a limit.
within-some : (g d : Goals) → Some d ≡ within g → g ≡ d
within-some g d e = go g.0.over e
  where
    go : (o : Bool) → Some d ≡ cond o None (Some g) → g ≡ d
    go true k = absurd (cc)
    go false k = cc

within-none : (g : Goals) → None ≡ within g → g.0.over ≡ true
within-none g e = go g.0.over refl e
  where
    go : (o : Bool) → g.0.over ≡ o → None ≡ cond o None (Some g) → g.0.over ≡ true
    go true f k = f
    go false f k = absurd (cc)

-- The same as the code has it: nothing of a head or of goals past a limit, whose constants and nodes then tell nothing.
pub record Told (bs : List ℕ) (i : ℕ) (p : Place) (h : Option_of HeadWithin) (b : Option_of BodyWithin) (cs ns : List ℕ) : Type 0 where
  pub head_read : Head
  pub body_read : Body
  pub pool_read : List ℕ
  pub nodes_read : List ℕ
  pub reached : Reached bs i (draft_at (reader_from p) head_read body_read) pool_read nodes_read
  pub head_is : the_head h ≡ kept_head head_read
  pub body_is : beside {A = List ℕ × List ℕ} b (cs, ns) ≡ within {A = List ℕ × List ℕ} (body_read, (pool_read, nodes_read))

-- What the code has, where the ways of a turn have met.
pub told-as : {bs : List ℕ} {i : ℕ} {p : Place} {h g : Option_of HeadWithin} {b d : Option_of BodyWithin} {cs ds ns ms : List ℕ} → g ≡ h → d ≡ b → ds ≡ cs → ms ≡ ns → Told bs i p h b cs ns → Told bs i p g d ds ms
told-as e f k l t =
    record {
      head_read = t.head_read;
      body_read = t.body_read;
      pool_read = t.pool_read;
      nodes_read = t.nodes_read;
      reached = t.reached;
      head_is = ap the_head e ∙ t.head_is;
      body_is = (λ j. beside {A = List ℕ × List ℕ} (f j) (k j, l j)) ∙ t.body_is;
    }

pub told-start : (bs : List ℕ) (p : Place) (h : HeadWithin) (b : BodyWithin) → reader_from p ≡ start_reader → head_from h ≡ empty_head → body_from b ≡ empty_body → Told bs 0 p (Some h) (Some b) (replicate 16 0) (replicate 64 0)
told-start bs p h b e f g =
    record {
      head_read = head_from h;
      body_read = body_from b;
      pool_read = replicate 16 0;
      nodes_read = replicate 64 0;
      reached = reached-start bs (reader_from p) (head_from h) (body_from b) e f g;
      head_is = refl;
      body_is = refl;
    }

-- One byte more, as the code goes.
module _ {bs : List ℕ} {i : ℕ} {p : Place} {h : Option_of HeadWithin} {b : Option_of BodyWithin} {cs ns : List ℕ} (t : Told bs i p h b cs ns) where
  module _ (l : i < length bs) (w : Place) (f : reader_from w ≡ reader_step (reader_from p) (get_or bs i 0)) where
    pub told-stops : w.mode ≡ Out → (q : Packing) → q ≡ refused i → PackReply bs q
    told-stops m = stops bs i (reader_from p) t.head_read t.body_read t.pool_read t.nodes_read t.reached l (reader_from w) f (effect_at p.mode (get_or bs i 0)) refl (stage_of w.mode) refl (ap stage_of m)

    module _ (alive : ¬ (w.mode ≡ Out)) (e : Effect) (k : effect_number e ≡ effect_at p.mode (get_or bs i 0)) where
      goes : stage_of w.mode ≢ 0
      goes z = alive (stage-out w.mode z)

      pub told-nothing : e ≡ Nothing → Told bs (i + 1) w h b cs ns
      told-nothing o =
          record {
            head_read = t.head_read;
            body_read = t.body_read;
            pool_read = t.pool_read;
            nodes_read = t.nodes_read;
            reached = goes_on bs i (reader_from p) t.head_read t.body_read t.pool_read t.nodes_read t.reached l (reader_from w) f (effect_number e) k (stage_of w.mode) refl goes (ap effect_number o);
            head_is = t.head_is;
            body_is = t.body_is;
          }

      -- The head, where it is put a variable, and past a limit.
      column-to : e ≡ Column → (r : Option_of HeadWithin) → the_head r ≡ kept_head (put_column t.head_read (unwrap_or p.number 0)) → Told bs (i + 1) w r b cs ns
      column-to o r q =
          record {
            head_read = put_column t.head_read (unwrap_or p.number 0);
            body_read = t.body_read;
            pool_read = t.pool_read;
            nodes_read = t.nodes_read;
            reached = takes-column bs i (reader_from p) t.head_read t.body_read t.pool_read t.nodes_read t.reached l (reader_from w) f (effect_number e) k (stage_of w.mode) refl goes (ap effect_number o) (put_column t.head_read (unwrap_or p.number 0)) refl;
            head_is = q;
            body_is = t.body_is;
          }

      pub told-column : e ≡ Column → (g : HeadWithin) → h ≡ Some g → (n : ℕ) → n ≡ unwrap_or p.number 0 → (r : Option_of HeadWithin) → the_head r ≡ kept_head (put_column (head_from g) n) → Told bs (i + 1) w r b cs ns
      told-column o g s n m r q = column-to o r (q ∙ (λ j. kept_head (put_column (sym (head-some t.head_read (head_from g) (ap the_head (sym s) ∙ t.head_is)) j) (m j))))

      pub told-column-past : e ≡ Column → h ≡ None → Told bs (i + 1) w h b cs ns
      told-column-past o s = column-to o h (ap the_head s ∙ column-past t.head_read (unwrap_or p.number 0) (ap the_head (sym s) ∙ t.head_is))

      -- The goals, where a byte does something to them, and past a limit.
      module _ (o : ¬ (e ≡ Nothing)) (u : ¬ (e ≡ Column)) where
        goals-to : (g : Goals) → g ≡ body_step (effect_number e) t.body_read (unwrap_or p.number 0) t.pool_read t.nodes_read → (r : Option_of BodyWithin) (ds ms : List ℕ) → beside {A = List ℕ × List ℕ} r (ds, ms) ≡ within {A = List ℕ × List ℕ} g → Told bs (i + 1) w h r ds ms
        goals-to g q r ds ms s =
            record {
              head_read = t.head_read;
              body_read = g.0;
              pool_read = g.1.0;
              nodes_read = g.1.1;
              reached = takes-goals bs i (reader_from p) t.head_read t.body_read t.pool_read t.nodes_read t.reached l (reader_from w) f (effect_number e) k (stage_of w.mode) refl goes (λ z. o (nothing-zero e z)) (λ z. u (column-one e z)) g.0 g.1.0 g.1.1 q;
              head_is = t.head_is;
              body_is = s;
            }

        pub told-goals : (g : BodyWithin) → b ≡ Some g → (n : ℕ) → n ≡ unwrap_or p.number 0 → (r : Option_of BodyWithin) (ds ms : List ℕ) → beside {A = List ℕ × List ℕ} r (ds, ms) ≡ within {A = List ℕ × List ℕ} (body_step (effect_number e) (body_from g) n cs ns) → Told bs (i + 1) w h r ds ms
        told-goals g s n m r ds ms q =
            let y = within-some (t.body_read, (t.pool_read, t.nodes_read)) (body_from g, (cs, ns)) (ap (λ c. beside {A = List ℕ × List ℕ} c (cs, ns)) (sym s) ∙ t.body_is) in
            goals-to (body_step (effect_number e) (body_from g) n cs ns) (λ j. body_step (effect_number e) (sym y j).0 (m j) (sym y j).1.0 (sym y j).1.1) r ds ms q

        pub told-goals-past : b ≡ None → Told bs (i + 1) w h b cs ns
        told-goals-past s =
            let y = within-none (t.body_read, (t.pool_read, t.nodes_read)) (ap (λ c. beside {A = List ℕ × List ℕ} c (cs, ns)) (sym s) ∙ t.body_is) in
            goals-to (t.body_read, (t.pool_read, t.nodes_read)) (sym (ap (λ v. cond v (t.body_read, (t.pool_read, t.nodes_read)) (by_effect (effect_number e) t.body_read (unwrap_or p.number 0) t.pool_read t.nodes_read)) y)) b cs ns t.body_is

  -- The end of the text.
  module _ (l : i ≡ length bs) where
    pub told-early : ¬ (p.mode ≡ Done) → (q : Packing) → q ≡ refused (length bs) → PackReply bs q
    told-early m q e = reached-early bs i (draft_at (reader_from p) t.head_read t.body_read) t.pool_read t.nodes_read t.reached l (λ z. m (stage-done p.mode z)) q (e ∙ ap refused (sym l))

    module _ (m : p.mode ≡ Done) where
      all-read : (q : Packing) → q ≡ finished t.head_read t.body_read t.pool_read t.nodes_read (length bs) → PackReply bs q
      all-read q e =
          reached-done bs i (draft_at (reader_from p) t.head_read t.body_read) t.pool_read t.nodes_read t.reached l (ap stage_of m) q
          (e ∙ ap (finished t.head_read t.body_read t.pool_read t.nodes_read) (sym l))

      pub told-past-head : h ≡ None → (q : Packing) → q ≡ refused (length bs) → PackReply bs q
      told-past-head s q e = all-read q (ends-head t.head_read t.body_read t.pool_read t.nodes_read (length bs) (head-none t.head_read (ap the_head (sym s) ∙ t.head_is)) q e)

      pub told-past-body : b ≡ None → (q : Packing) → q ≡ refused (length bs) → PackReply bs q
      told-past-body s q e =
          let y = within-none (t.body_read, (t.pool_read, t.nodes_read)) (ap (λ c. beside {A = List ℕ × List ℕ} c (cs, ns)) (sym s) ∙ t.body_is) in
          all-read q (go t.head_read.over refl y e)
        where
          go : (o : Bool) → t.head_read.over ≡ o → t.body_read.over ≡ true → q ≡ refused (length bs) → q ≡ finished t.head_read t.body_read t.pool_read t.nodes_read (length bs)
          go true f y e = ends-head t.head_read t.body_read t.pool_read t.nodes_read (length bs) f q e
          go false f y e = ends-body t.head_read t.body_read t.pool_read t.nodes_read (length bs) f y q e

      module _ (g : HeadWithin) (s : h ≡ Some g) (d : BodyWithin) (u : b ≡ Some d) where
        head-at : t.head_read ≡ head_from g
        head-at = head-some t.head_read (head_from g) (ap the_head (sym s) ∙ t.head_is)

        goals-at : ◌≡◌ {A = Goals} (t.body_read, (t.pool_read, t.nodes_read)) (body_from d, (cs, ns))
        goals-at = within-some (t.body_read, (t.pool_read, t.nodes_read)) (body_from d, (cs, ns)) (ap (λ c. beside {A = List ℕ × List ℕ} c (cs, ns)) (sym u) ∙ t.body_is)

        pub told-ready : 1 ≤ d.nodes
        told-ready =
            let r = reached-ready bs i (draft_at (reader_from p) t.head_read t.body_read) t.pool_read t.nodes_read t.reached l (ap stage_of m) in
            subst (λ (c : Goals). 1 ≤ c.0.nodes) goals-at (r.2 (ap (λ (c : Goals). c.0.over) goals-at))

        pub told-done : (q : Packing) → q ≡ finished (head_from g) (body_from d) cs ns (length bs) → PackReply bs q
        told-done q e = all-read q (e ∙ (λ j. finished (sym head-at j) (sym goals-at j).0 (sym goals-at j).1.0 (sym goals-at j).1.1 (length bs)))

-- ---- laws that stand as they stood

module _ (bs : List ℕ) (i : ℕ) (d : Draft) (cs ns : List ℕ) (r : Reached bs i d cs ns) where
  pub reached-small : Small d.body
  reached-small = r.2.body_keeps.bounds
