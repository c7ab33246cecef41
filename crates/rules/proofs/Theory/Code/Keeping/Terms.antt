-- A goal's terms are kept: each is judged by the limits, and its 5 bits are those that it has with the pool of all values read.
use Rattle.std.specs.Prelude.{ℕ, suc, ◌+◌, ◌-◌, ◌≤◌, ◌<◌, ◌≡◌, refl, ◌⊎◌, Bool, true, false, cond, List, [], ◌∷◌, ◌++◌, map, length, get_or, set, take, replicate, eqb}
use Rattle.std.proofs.Common.{arith, sym, ap, subst, ◌∙◌, inl, inr, ⊎_elim, append-nil, append_assoc, length-append, length-set, get_or-set_same, get_or-set_other, eq-eqb, ne_eqb}
use Rattle.std.proofs.Math.Path.{subst⁻¹}
use Rattle.std.proofs.lemmas.List.{map-append, length-map}
use Rattle.std.proofs.Math.Seq.{take-append_seam}
use Rattle.std.proofs.lemmas.Bool.{lt-leb}
use Rattle.calculus.specs.Sets.{In, here, there, ◌⊆◌, union_of, member}
use Rattle.calculus.proofs.Theory.Sets.Laws.{in-nil, in_one, in_left, in_right, in-append, reflects-member}
use Rattle.calculus.specs.Lists.{padded}
use Rattle.calculus.proofs.Theory.Lists.Laws.{padded-put}
use Rattle.calculus.specs.Reflects.{Reflects, holds, fails}
use Rattle.calculus.proofs.Theory.Reflects.Laws.{reflects-eqb, reflects-ltb, reflects-leb, reflects-true, reflects-same}
use Rattle.calculus.specs.Satisfaction.{Pool}
use Rattle.query.specs.Reading.{max_nodes, max_constants}
use Rattle.query.specs.Packing.{term_code, words}
use Rattle.rules.specs.Grammar.{several, Term, variable, value, Goal}
use Rattle.rules.specs.Meaning.{term_variables, term_values, variables_in, values_in, added, pooled, place_in, max_terms, max_number, max_value}
use Rattle.rules.proofs.Theory.Meaning.Constants.{pooled-append, added-known, added_new, pooled-extends, in-pooled, place-below, place-missing, term_stable, matrix-stable}
use Rattle.rules.proofs.Theory.Code.Draft.Bounds.{set-each, small-unnamed}
use Rattle.rules.proofs.Theory.Code.Draft.Laws.{capped_le, capped-below}
use Rattle.rules.specs.Code.Automaton.{term_of}
use Rattle.rules.specs.Code.Draft.{Body, past, capped, body_of, overrun, Small, with_term, put_variable, put_place, put_constant, unnamed}
use Rattle.rules.specs.Code.Scan.{term_step, body_step}
use Rattle.rules.specs.Code.Keeping.{Account, account_of, values_of, variables_of, pool, goal_nodes, code_of, Fine, Stored, Keeps, KeepsAll}
use Rattle.rules.proofs.Theory.Code.Keeping.Laws.{union-last, keeps-overrun, within-limits, keeps-guarded}

-- ---- the place of a new value

-- A new value stands at the end.
place-last : (ps : Pool) (v : ℕ) → ¬ In v ps → place_in (ps ++ (v ∷ [])) v ≡ length ps
place-last [] v n = rw (eq-eqb v v refl)
place-last (c ∷ cs) v n = rw (ne_eqb v c (λ e. n (here e))) (ap suc (place-last cs v (λ i. n (there i))))

-- ---- variables seen

-- A variable is marked as seen: the marks are of the variables before it, and of it.
pub seen_more : (seen : List Bool) (x : ℕ) (xs ys : List ℕ) → length seen ≡ 16 → x < 16 → ((y : ℕ) → y < 16 → get_or seen y false ≡ member y xs)
    → In x ys → xs ⊆ ys → ((y : ℕ) → In y ys → (y ≡ x) ⊎ In y xs) → (y : ℕ) → y < 16 → get_or (set seen x true) y false ≡ member y ys
seen_more seen x xs ys l h s i f g y b = go (reflects-eqb y x)
  where
    go : {t : Bool} → Reflects (y ≡ x) t → get_or (set seen x true) y false ≡ member y ys
    go (holds e) = ap (λ z. get_or (set seen x true) z false) e ∙ get_or-set_same seen x true false (omega arith) ∙ sym (reflects-true (reflects-member y ys) (subst⁻¹ (λ z. In z ys) e i))
    go (fails n) =
        get_or-set_other seen x y true false n
        ∙ s y b
        ∙ reflects-same (reflects-member y xs) (reflects-member y ys) (f y) (λ j. ⊎_elim (λ e. absurd (n e)) (λ k. k) (g y j))

-- ---- what was stored with a pool stays with a grown one

-- Goals keep their nodes.
nodes-stable : (ps : Pool) (vs : List ℕ) (gs : List Goal) → values_in gs ⊆ ps → goal_nodes (pooled ps vs) gs ≡ goal_nodes ps gs
nodes-stable ps vs [] h = refl
nodes-stable ps vs (g ∷ gs) h = ap (λ φ. words φ 0) (matrix-stable ps vs (several g gs) h)

codes-stable : (ps : Pool) (vs : List ℕ) (ts : List Term) → union_of term_values ts ⊆ ps → map (code_of (pooled ps vs)) ts ≡ map (code_of ps) ts
codes-stable ps vs [] h = refl
codes-stable ps vs (t ∷ ts) h =
    λ i. term_code (term_stable ps vs t (λ v j. h v (in_left (union_of term_values ts) j)) i) ∷ codes-stable ps vs ts (λ v j. h v (in_right (term_values t) j)) i

-- ---- a term more

-- The account before the term t, and the account with it.
module _ (gs : List Goal) (d v : Bool) (r : ℕ) (ts : List Term) (t : Term) where
  abbrev earlier : Account
  earlier = account_of gs d v r ts

  abbrev later : Account
  later = account_of gs d false r (ts ++ (t ∷ []))

  values-later : values_of later ≡ values_of earlier ++ term_values t
  values-later = ap (λ vs. values_in gs ++ vs) (union-last term_values ts t) ∙ sym (append_assoc (values_in gs) (union_of term_values ts) (term_values t))

  variables-later : variables_of later ≡ variables_of earlier ++ term_variables t
  variables-later = ap (λ vs. variables_in gs ++ vs) (union-last term_variables ts t) ∙ sym (append_assoc (variables_in gs) (union_of term_variables ts) (term_variables t))

  pool-later : pool later ≡ pooled (pool earlier) (term_values t)
  pool-later = ap (pooled []) values-later ∙ pooled-append [] (values_of earlier) (term_values t)

  nodes-later : goal_nodes (pool later) gs ≡ goal_nodes (pool earlier) gs
  nodes-later =
      ap (λ ps. goal_nodes ps gs) pool-later
      ∙ nodes-stable (pool earlier) (term_values t) gs (λ w i. in-pooled [] (values_of earlier) w (in_left (union_of term_values ts) i))

  codes-later : map (code_of (pool later)) (ts ++ (t ∷ [])) ≡ map (code_of (pool earlier)) ts ++ (code_of (pool later) t ∷ [])
  codes-later =
      map-append (code_of (pool later)) ts (t ∷ [])
      ∙ ap (λ cs. cs ++ (code_of (pool later) t ∷ []))
      (ap (λ ps. map (code_of ps) ts) pool-later ∙ codes-stable (pool earlier) (term_values t) ts (λ w i. in-pooled [] (values_of earlier) w (in_right (values_in gs) i)))

  constants-later : length (pool earlier) ≤ length (pool later)
  constants-later =
      let e = pooled-extends (pool earlier) (term_values t) in
      omega (arith, ap length (pool-later ∙ e.1), length-append (pool earlier) e.0)

  -- A goal within the limits was so before its last term.
  pub fine-earlier : Fine later → Fine earlier
  fine-earlier f =
      record {
        few_terms = let n = f.few_terms in omega (arith, length-append ts (t ∷ []));
        few_goal_terms = f.few_goal_terms;
        small_relations = f.small_relations;
        small_variables = λ x i. f.small_variables x (subst⁻¹ (In x) variables-later (in_left (term_variables t) i));
        small_values = λ w i. f.small_values w (subst⁻¹ (In w) values-later (in_left (term_values t) i));
        few_constants = let n = f.few_constants in omega (arith, constants-later);
        few_nodes = let n = f.few_nodes in omega (arith, ap length nodes-later);
      }

  variables-in-term : Fine later → (x : ℕ) → In x (term_variables t) → x ≤ max_number
  variables-in-term f x i = f.small_variables x (subst⁻¹ (In x) variables-later (in_right (variables_of earlier) i))

  values-in-term : Fine later → (w : ℕ) → In w (term_values t) → w ≤ max_value
  values-in-term f w i = f.small_values w (subst⁻¹ (In w) values-later (in_right (values_of earlier) i))

  -- A goal within the limits stays so with a term that has room.
  fine-later : Fine earlier → length ts < max_terms → ((x : ℕ) → In x (term_variables t) → x ≤ max_number) → ((w : ℕ) → In w (term_values t) → w ≤ max_value)
      → length (pool later) ≤ max_constants → Fine later
  fine-later f room variables values constants =
      record {
        few_terms = omega (arith, length-append ts (t ∷ []));
        few_goal_terms = f.few_goal_terms;
        small_relations = f.small_relations;
        small_variables = λ x i. ⊎_elim (f.small_variables x) (variables x) (in-append (variables_of earlier) (subst (In x) variables-later i));
        small_values = λ w i. ⊎_elim (f.small_values w) (values w) (in-append (values_of earlier) (subst (In w) values-later i));
        few_constants = constants;
        few_nodes = let n = f.few_nodes in omega (arith, ap length nodes-later);
      }

  module _ (b : Body) (cs ns : List ℕ) (s : Stored earlier b cs ns) (room : length ts < max_terms) where
    terms-later : (code : ℕ) → code ≡ code_of (pool later) t → set b.terms b.count code ≡ padded max_terms 0 (map (code_of (pool later)) (ts ++ (t ∷ [])))
    terms-later code e =
        let l = length-map ts (code_of (pool earlier)) in
        (λ i. set (s.terms_are i) ((s.count_is ∙ sym l) i) (e i))
        ∙ padded-put max_terms 0 (map (code_of (pool earlier)) ts) (code_of (pool later) t) (omega arith)
        ∙ ap (padded max_terms 0) (sym codes-later)

    -- The same with one term more, and what follows an X if w.
    abbrev longer : Bool → ℕ → List Bool → ℕ → Body
    longer w code seen k = body_of b.denied w b.subject (set b.terms b.count code) (b.count + 1) seen k b.nodes b.over

    -- A term that has room is stored.
    stored-later : (w : Bool) (code : ℕ) (seen : List Bool) (k : ℕ) (ds : List ℕ) → w ≡ false → code ≡ code_of (pool later) t
        → length seen ≡ 16 → ((x : ℕ) → x < 16 → get_or seen x false ≡ member x (variables_of later)) → k ≡ length (pool later) → ds ≡ padded max_constants 0 (pool later)
        → Stored later (longer w code seen k) ds ns
    stored-later w code seen k ds named e l m n p =
        record {
          denied_is = s.denied_is;
          named_is = named;
          subject_is = s.subject_is;
          terms_are = terms-later code e;
          count_is = omega (arith, s.count_is, length-append ts (t ∷ []));
          seen_length = l;
          seen_is = m;
          constants_is = n;
          pool_is = p;
          nodes_is = s.nodes_is ∙ ap length (sym nodes-later);
          nodes_are = s.nodes_are ∙ ap (padded max_nodes 0) (sym nodes-later);
        }

    module _ (small : Small b) (o : b.over ≡ false) (f : Fine earlier) where
      -- A term that has room is kept.
      keeps-later : (w : Bool) (code : ℕ) (seen : List Bool) (k : ℕ) (ds : List ℕ) → w ≡ false → code ≡ code_of (pool later) t → code < 32
          → length seen ≡ 16 → ((x : ℕ) → x < 16 → get_or seen x false ≡ member x (variables_of later)) → k ≡ length (pool later) → ds ≡ padded max_constants 0 (pool later)
          → ((x : ℕ) → In x (term_variables t) → x ≤ max_number) → ((v : ℕ) → In v (term_values t) → v ≤ max_value) → k ≤ max_constants
          → Keeps later (longer w code seen k) ds ns
      keeps-later w code seen k ds named e h l m n p variables values constants =
          within-limits
          (record {
            count_small = let c = s.count_is in omega arith;
            terms_small = set-each (λ x. x < 32) b.terms b.count code h small.terms_small;
            constants_small = constants;
            nodes_small = small.nodes_small;
          })
          o
          (fine-later f room variables values (omega arith))
          (stored-later w code seen k ds named e l m n p)

-- ---- the number is the next term

-- What follows an X is a variable.
module _ (gs : List Goal) (d : Bool) (r : ℕ) (ts : List Term) (m : ℕ) (b : Body) (cs ns : List ℕ) (small : Small b) (o : b.over ≡ false)
    (f : Fine (account_of gs d true r ts)) (s : Stored (account_of gs d true r ts) b cs ns) (room : length ts < max_terms) where
  keeps-variable : Keeps (account_of gs d false r (ts ++ (variable m ∷ []))) (put_variable (unnamed b) (capped m)) cs ns
  keeps-variable = go (reflects-ltb max_number (capped m))
    where
      before : Account
      before = account_of gs d true r ts

      now : Account
      now = account_of gs d false r (ts ++ (variable m ∷ []))

      same-pool : pool before ≡ pool now
      same-pool = sym (pool-later gs d true r ts (variable m))

      among : (x : ℕ) → In x (variables_of now) → (x ≡ m) ⊎ In x (variables_of before)
      among x i = ⊎_elim (λ j. inr j) (λ j. inl (in_one j)) (in-append (variables_of before) (subst (In x) (variables-later gs d true r ts (variable m)) i))

      seen-now : m < 16 → (x : ℕ) → x < 16 → get_or (set b.seen m true) x false ≡ member x (variables_of now)
      seen-now h =
          let e = variables-later gs d true r ts (variable m) in
          seen_more b.seen m (variables_of before) (variables_of now) s.seen_length h s.seen_is
          (subst⁻¹ (In m) e (in_right (variables_of before) (here refl)))
          (λ x i. subst⁻¹ (In x) e (in_left (m ∷ []) i))
          among

      refused : max_number < capped m → ¬ Fine now
      refused l g = let h = variables-in-term gs d true r ts (variable m) g m (here refl) in omega (arith, capped_le m)

      kept : m ≤ max_number → Keeps now (with_term (unnamed b) m (set b.seen m true) b.constants) cs ns
      kept l =
          keeps-later gs d true r ts (variable m) b cs ns s room small o f false m (set b.seen m true) b.constants cs refl refl (omega arith)
          (length-set b.seen m true ∙ s.seen_length) (seen-now (omega arith))
          (s.constants_is ∙ ap length same-pool)
          (s.pool_is ∙ ap (padded max_constants 0) same-pool)
          (λ x i. omega (arith, in_one i))
          (λ w i. absurd (in-nil i))
          small.constants_small

      go : {t : Bool} → Reflects (max_number < capped m) t → Keeps now (cond t (overrun (unnamed b)) (with_term (unnamed b) (capped m) (set b.seen (capped m) true) b.constants)) cs ns
      go (holds l) = keeps-overrun (small-unnamed small) (refused l)
      go (fails n) =
          let e : capped m ≡ m = capped-below m (omega arith) in
          subst⁻¹ (λ x. Keeps now (with_term (unnamed b) x (set b.seen x true) b.constants) cs ns) e (kept (omega arith))

-- Any other number is a value.
module _ (gs : List Goal) (d : Bool) (r : ℕ) (ts : List Term) (m : ℕ) (b : Body) (cs ns : List ℕ) (small : Small b) (o : b.over ≡ false)
    (f : Fine (account_of gs d false r ts)) (s : Stored (account_of gs d false r ts) b cs ns) (room : length ts < max_terms) where
  abbrev before : Account
  before = account_of gs d false r ts

  abbrev now : Account
  now = account_of gs d false r (ts ++ (value m ∷ []))

  abbrev KeptNow : Body × List ℕ → Type 0
  KeptNow t = Keeps now t.0 t.1 ns

  pool-now : pool now ≡ added (pool before) m
  pool-now = pool-later gs d false r ts (value m)

  seen-before : (x : ℕ) → x < 16 → get_or b.seen x false ≡ member x (variables_of now)
  seen-before x h = s.seen_is x h ∙ ap (member x) (sym (variables-later gs d false r ts (value m) ∙ append-nil (variables_of before)))

  -- A value that is a constant of the rule already, or that has room among them.
  module _ (fits : m ≤ max_value) where
    kept-value : (k : ℕ) (ds : List ℕ) → k ≡ length (pool now) → ds ≡ padded max_constants 0 (pool now) → k ≤ max_constants → In m (pool now)
        → Keeps now (with_term b (16 + place_in (pool now) m) b.seen k) ds ns
    kept-value k ds e p h i =
        keeps-later gs d false r ts (value m) b cs ns s room small o f b.named (16 + place_in (pool now) m) b.seen k ds
        s.named_is refl (omega (arith, place-below (pool now) m i)) s.seen_length seen-before e p
        (λ x j. absurd (in-nil j)) (λ w j. omega (arith, in_one j)) h

    keeps-known : In m (pool before) → KeptNow (put_place b m (place_in (pool before) m) cs)
    keeps-known i =
        let same : pool now ≡ pool before = pool-now ∙ added-known (pool before) m i in
        let h = place-below (pool before) m i in let c = s.constants_is in let l = small.constants_small in
        rw (lt-leb max_constants (place_in (pool before) m) (omega arith), ne_eqb (place_in (pool before) m) b.constants (λ e. omega arith))
        (subst (λ ps. Keeps now (with_term b (16 + place_in ps m) b.seen b.constants) cs ns) same
        (kept-value b.constants cs (s.constants_is ∙ ap length (sym same)) (s.pool_is ∙ ap (padded max_constants 0) (sym same)) small.constants_small (subst⁻¹ (In m) same i)))

    keeps-new : ¬ In m (pool before) → KeptNow (put_place b m (length (pool before)) cs)
    keeps-new n = go (reflects-leb max_constants (length (pool before)))
      where
        more : pool now ≡ pool before ++ (m ∷ [])
        more = pool-now ∙ added_new (pool before) m n

        one_more : length (pool now) ≡ length (pool before) + 1
        one_more = ap length more ∙ length-append (pool before) (m ∷ [])

        refused : max_constants ≤ length (pool before) → ¬ Fine now
        refused l g = let h = g.few_constants in omega (arith, one_more)

        stored-new : Body × List ℕ
        stored-new = (with_term b (16 + length (pool before)) b.seen (b.constants + 1), set cs (length (pool before)) m)

        go : {t : Bool} → Reflects (max_constants ≤ length (pool before)) t
            → KeptNow (cond t (overrun b, cs) (cond (eqb (length (pool before)) b.constants) stored-new (with_term b (16 + length (pool before)) b.seen b.constants, cs)))
        go (holds l) = keeps-overrun small (refused l)
        go (fails l) =
            rw (eq-eqb (length (pool before)) b.constants (sym s.constants_is))
            (subst (λ p. Keeps now (with_term b (16 + p) b.seen (b.constants + 1)) (set cs (length (pool before)) m) ns) (ap (λ ps. place_in ps m) more ∙ place-last (pool before) m n)
            (kept-value (b.constants + 1) (set cs (length (pool before)) m) (omega (arith, s.constants_is, one_more))
            (ap (λ ds. set ds (length (pool before)) m) s.pool_is ∙ padded-put max_constants 0 (pool before) m (omega arith) ∙ ap (padded max_constants 0) (sym more))
            (omega (arith, s.constants_is)) (subst⁻¹ (In m) more (in_right (pool before) (here refl)))))

    keeps_placed : {t : Bool} → Reflects (In m (pool before)) t → KeptNow (put_place b m (place_in (pool before) m) cs)
    keeps_placed (holds i) = keeps-known i
    keeps_placed (fails n) = subst⁻¹ (λ p. KeptNow (put_place b m p cs)) (place-missing (pool before) m n) (keeps-new n)

  constants-before : take b.constants cs ≡ pool before
  constants-before = (λ i. take (s.constants_is i) (s.pool_is i)) ∙ take-append_seam (pool before) (replicate (max_constants - length (pool before)) 0)

  keeps-constant : KeptNow (put_constant b (capped m) cs)
  keeps-constant = go (reflects-leb past (capped m))
    where
      refused : past ≤ capped m → ¬ Fine now
      refused l g = let h = values-in-term gs d false r ts (value m) g m (here refl) in omega (arith, capped_le m)

      go : {t : Bool} → Reflects (past ≤ capped m) t → KeptNow (cond t (overrun b, cs) (put_place b (capped m) (place_in (take b.constants cs) (capped m)) cs))
      go (holds l) = keeps-overrun small (refused l)
      go (fails n) =
          let e : capped m ≡ m = capped-below m (omega arith) in
          subst⁻¹ (λ x. KeptNow (put_place b x (place_in (take b.constants cs) x) cs)) e
          (subst⁻¹ (λ ps. KeptNow (put_place b m (place_in ps m) cs)) constants-before (keeps_placed (omega (arith, e)) (reflects-member m (pool before))))

-- The number is the next term, where no limit is passed so far.
pub keeps-term_step : (gs : List Goal) (d v : Bool) (r : ℕ) (ts : List Term) (m : ℕ) (b : Body) (cs ns : List ℕ) → b.over ≡ false → Keeps (account_of gs d v r ts) b cs ns
    → KeepsAll (account_of gs d false r (ts ++ (term_of v m ∷ []))) (term_step b (capped m) cs ns)
keeps-term_step gs d v r ts m b cs ns o k = go (reflects-leb max_terms b.count)
  where
    later : Account
    later = account_of gs d false r (ts ++ (term_of v m ∷ []))

    KeptLater : Body × List ℕ → Type 0
    KeptLater t = Keeps later t.0 t.1 ns

    refused : max_terms ≤ b.count → ¬ Fine later
    refused l f = let h = f.few_terms in let c = (k.stored o).1.count_is in omega (arith, length-append ts (term_of v m ∷ []))

    named-term : Bool → Body × List ℕ
    named-term w = cond w (put_variable (unnamed b) (capped m), cs) (put_constant b (capped m) cs)

    named : (w : Bool) → Small b → Fine (account_of gs d w r ts) × Stored (account_of gs d w r ts) b cs ns → length ts < max_terms
        → Keeps (account_of gs d false r (ts ++ (term_of w m ∷ []))) (named-term w).0 (named-term w).1 ns
    named true small h room = keeps-variable gs d r ts m b cs ns small o h.0 h.1 room
    named false small h room = keeps-constant gs d r ts m b cs ns small o h.0 h.1 room

    go : {t : Bool} → Reflects (max_terms ≤ b.count) t → KeptLater (cond t (overrun b, cs) (named-term b.named))
    go (holds l) = keeps-overrun k.bounds (refused l)
    go (fails n) =
        let s = k.stored o in
        subst⁻¹ (λ w. KeptLater (named-term w)) s.1.named_is (named v k.bounds s (omega (arith, s.1.count_is)))

-- The number is the next term.
pub keeps-term : (gs : List Goal) (d v : Bool) (r : ℕ) (ts : List Term) (m : ℕ) (b : Body) (cs ns : List ℕ) → Keeps (account_of gs d v r ts) b cs ns
    → KeepsAll (account_of gs d false r (ts ++ (term_of v m ∷ []))) (body_step 5 b (capped m) cs ns)
keeps-term gs d v r ts m b cs ns k =
    keeps-guarded (account_of gs d v r ts) (account_of gs d false r (ts ++ (term_of v m ∷ []))) b cs ns (term_step b (capped m) cs ns)
    (fine-earlier gs d v r ts (term_of v m)) k (λ o. keeps-term_step gs d v r ts m b cs ns o k)
