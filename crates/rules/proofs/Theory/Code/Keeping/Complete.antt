-- A goal that is complete is kept: its nodes are added where there is room, and the next goal can be read.
use Rattle.std.specs.Prelude.{ℕ, zero, suc, ◌+◌, ◌-◌, ◌≤◌, ◌<◌, ◌≡◌, refl, ◌⊎◌, Bool, true, false, cond, List, [], ◌∷◌, ◌++◌, map, length, get_or, set, replicate, ltb}
use Rattle.std.proofs.Common.{arith, sym, ap, subst, ◌∙◌, inl, inr, ⊎_elim, append-nil, length-set, lt-ltb, le-ltb, ltb-false}
use Rattle.std.proofs.Math.Path.{subst⁻¹}
use Rattle.std.proofs.lemmas.Simd.{map-map}
use Rattle.std.proofs.lemmas.List.{length-map}
use Rattle.calculus.specs.Sets.{In, here, there, ◌⊆◌, union_of, member}
use Rattle.calculus.proofs.Theory.Sets.Laws.{in-nil, in_one, in_left, in_right, in-append}
use Rattle.calculus.specs.Lists.{padded}
use Rattle.calculus.specs.Reflects.{Reflects, holds as met, fails as missed}
use Rattle.calculus.proofs.Theory.Reflects.Laws.{reflects-ltb}
use Rattle.calculus.specs.Formula.{rel, conj}
use Rattle.calculus.specs.Satisfaction.{Pool}
use Rattle.query.specs.Nodes.{record_word, equality_word, not_word}
use Rattle.query.specs.Reading.{max_nodes, max_constants}
use Rattle.query.specs.Packing.{term_code, code_at, words}
use Rattle.query.proofs.Theory.Packing.Laws.{length-words}
use Rattle.rules.specs.Grammar.{Several, all, Term, Goal, equal}
use Rattle.rules.specs.Meaning.{term_variables, term_values, goal_relations, goal_variables, goal_values, relations_in, variables_in, values_in, pooled, term_in, goal_formula, conjoined, max_terms, max_number, crowded}
use Rattle.rules.proofs.Theory.Meaning.Laws.{conjoined-append}
use Rattle.rules.proofs.Theory.Code.Draft.Laws.{capped_le, capped-below}
use Rattle.rules.specs.Code.Automaton.{and_last, term_of, relation_goal}
use Rattle.rules.specs.Code.Draft.{Body, capped, overrun, Small, Nodes, append_goal, fresh_goal, settled, with_subject}
use Rattle.rules.specs.Code.Scan.{term_step, relation_step, equality_step, body_step}
use Rattle.rules.specs.Code.Keeping.{Account, account_of, idle, values_of, variables_of, pool, goal_nodes, code_of, Fine, Stored, Keeps, KeepsAll}
use Rattle.rules.proofs.Theory.Code.Keeping.Laws.{union-last, copies-each, past-limit, keeps-overrun, within-limits, keeps-guarded}
use Rattle.rules.proofs.Theory.Code.Keeping.Terms.{seen_more, fine-earlier, keeps-term_step}
use Rattle.rules.proofs.Theory.Code.Keeping.Nodes.{Laid, laid, no_room, own_nodes, next_nodes, append-laid, nodes-last}

-- ---- the limits before and after the goal is complete

-- Goals have no more nodes than with one goal more.
nodes-fewer : (ps : Pool) (gs : List Goal) (g : Goal) → length (goal_nodes ps gs) ≤ length (goal_nodes ps (gs ++ (g ∷ [])))
nodes-fewer ps [] g = omega arith
nodes-fewer ps (h ∷ hs) g =
    let φ = conjoined ps (goal_formula ps h) hs in let ψ = goal_formula ps g in
    let e : conjoined ps (goal_formula ps h) (hs ++ (g ∷ [])) ≡ conj φ ψ = conjoined-append ps (goal_formula ps h) hs (g ∷ []) in
    omega (arith, length-words φ 0, length-words (conj φ ψ) 0, ap (λ χ. length (words χ 0)) e)

-- The goal g is complete, after its last term.
module _ (gs : List Goal) (g : Goal) where
  abbrev complete : Account
  complete = idle (gs ++ (g ∷ []))

  values-complete : values_of complete ≡ values_in gs ++ goal_values g
  values-complete = append-nil (values_in (gs ++ (g ∷ []))) ∙ union-last goal_values gs g

  variables-complete : variables_of complete ≡ variables_in gs ++ goal_variables g
  variables-complete = append-nil (variables_in (gs ++ (g ∷ []))) ∙ union-last goal_variables gs g

  relations-complete : relations_in (gs ++ (g ∷ [])) ≡ relations_in gs ++ goal_relations g
  relations-complete = union-last goal_relations gs g

  relations-of-goal : Fine complete → (q : ℕ) → In q (goal_relations g) → q ≤ max_number
  relations-of-goal f q i = f.small_relations q (subst⁻¹ (In q) relations-complete (in_right (relations_in gs) i))

  variables-of-goal : Fine complete → (x : ℕ) → In x (goal_variables g) → x ≤ max_number
  variables-of-goal f x i = f.small_variables x (subst⁻¹ (In x) variables-complete (in_right (variables_in gs) i))

  module _ (d : Bool) (r : ℕ) (ts : List Term) (values : goal_values g ≡ union_of term_values ts) where
    abbrev pending : Account
    pending = account_of gs d false r ts

    values_same : values_of complete ≡ values_of pending
    values_same = values-complete ∙ ap (λ vs. values_in gs ++ vs) values

    pool-same : pool complete ≡ pool pending
    pool-same = ap (pooled []) values_same

    -- A rule within the limits was so before the goal was complete.
    fine-pending : length ts ≤ max_terms → union_of term_variables ts ⊆ goal_variables g → Fine complete → Fine pending
    fine-pending few variables f =
        record {
          few_terms = few;
          few_goal_terms = λ h i. f.few_goal_terms h (in_left (g ∷ []) i);
          small_relations = λ q i. f.small_relations q (subst⁻¹ (In q) relations-complete (in_left (goal_relations g) i));
          small_variables = λ x i. ⊎_elim (λ j. f.small_variables x (subst⁻¹ (In x) variables-complete (in_left (goal_variables g) j))) (λ j. variables-of-goal f x (variables x j)) (in-append (variables_in gs) i);
          small_values = λ v i. f.small_values v (subst⁻¹ (In v) values_same i);
          few_constants = subst (λ ps. length ps ≤ max_constants) pool-same f.few_constants;
          few_nodes = let n = f.few_nodes in omega (arith, nodes-fewer (pool complete) gs g, ap (λ ps. length (goal_nodes ps gs)) pool-same);
        }

    -- A rule within the limits stays so where the goal's own are kept, and its nodes have room.
    fine-complete : Fine pending → crowded g ≡ false → ((q : ℕ) → In q (goal_relations g) → q ≤ max_number) → ((x : ℕ) → In x (goal_variables g) → x ≤ max_number)
        → length (goal_nodes (pool complete) (gs ++ (g ∷ []))) ≤ max_nodes → Fine complete
    fine-complete f few relations variables nodes =
        record {
          few_terms = omega arith;
          few_goal_terms = λ h i. ⊎_elim (f.few_goal_terms h) (λ j. ap crowded (in_one j) ∙ few) (in-append gs i);
          small_relations = λ q i. ⊎_elim (f.small_relations q) (relations q) (in-append (relations_in gs) (subst (In q) relations-complete i));
          small_variables = λ x i. ⊎_elim (λ j. f.small_variables x (in_left (union_of term_variables ts) j)) (variables x) (in-append (variables_in gs) (subst (In x) variables-complete i));
          small_values = λ v i. f.small_values v (subst (In v) values_same i);
          few_constants = subst⁻¹ (λ ps. length ps ≤ max_constants) pool-same f.few_constants;
          few_nodes = nodes;
        }

-- ---- the goal's nodes are added

-- What holds where no limit is passed before the goal's nodes are added: its first node is w.
record Ready (gs : List Goal) (g : Goal) (w : ℕ) (b : Body) (cs ns : List ℕ) : Type 0 where
  named_is : b.named ≡ false
  words_are : (m : ℕ) → words (goal_formula (pool (idle (gs ++ (g ∷ [])))) g) m ≡ own_nodes w b.denied m
  seen_length : length b.seen ≡ 16
  seen_is : (x : ℕ) → x < 16 → get_or b.seen x false ≡ member x (variables_of (idle (gs ++ (g ∷ []))))
  constants_is : b.constants ≡ length (pool (idle (gs ++ (g ∷ []))))
  pool_is : cs ≡ padded max_constants 0 (pool (idle (gs ++ (g ∷ []))))
  nodes_is : b.nodes ≡ length (goal_nodes (pool (idle (gs ++ (g ∷ [])))) gs)
  nodes_are : ns ≡ padded max_nodes 0 (goal_nodes (pool (idle (gs ++ (g ∷ [])))) gs)
  fine_within : length (goal_nodes (pool (idle (gs ++ (g ∷ [])))) (gs ++ (g ∷ []))) ≤ max_nodes → Fine (idle (gs ++ (g ∷ [])))

module _ (gs : List Goal) (g : Goal) (w : ℕ) (b : Body) (cs ns : List ℕ) (small : Small b) where
  abbrev SettledTo : Nodes → Type 0
  SettledTo a = Keeps (complete gs g) (cond (ltb max_nodes a.0) (overrun b) (fresh_goal b a.0)) cs a.1

  small-fresh : (n : ℕ) → n ≤ max_nodes → Small (fresh_goal b n)
  small-fresh n h =
      record {
        count_small = omega arith;
        terms_small = copies-each (λ x. x < 32) max_terms 0 (omega arith);
        constants_small = small.constants_small;
        nodes_small = h;
      }

  -- Past a limit before.
  settled-past : b.over ≡ true → ¬ Fine (complete gs g) → (a : Nodes) → SettledTo a
  settled-past o n a = go (ltb max_nodes a.0) refl
    where
      go : (t : Bool) → ltb max_nodes a.0 ≡ t → Keeps (complete gs g) (cond t (overrun b) (fresh_goal b a.0)) cs a.1
      go true e = keeps-overrun small n
      go false e = past-limit (small-fresh a.0 (ltb-false max_nodes a.0 e)) o n

  module _ (o : b.over ≡ false) (ready : Ready gs g w b cs ns) where
    settled-laid : {a : Nodes} → Laid (goal_nodes (pool (complete gs g)) (gs ++ (g ∷ []))) a → SettledTo a
    settled-laid (laid h) =
        let n = length (goal_nodes (pool (complete gs g)) (gs ++ (g ∷ []))) in
        rw (le-ltb max_nodes n h)
        (within-limits (small-fresh n h) o (ready.fine_within h)
        (record {
          denied_is = refl;
          named_is = ready.named_is;
          subject_is = refl;
          terms_are = refl;
          count_is = refl;
          seen_length = ready.seen_length;
          seen_is = ready.seen_is;
          constants_is = ready.constants_is;
          pool_is = ready.pool_is;
          nodes_is = refl;
          nodes_are = refl;
        }))
    settled-laid {a} (no_room m n) = rw (lt-ltb max_nodes a.0 n) (keeps-overrun small (λ f. let l = f.few_nodes in omega arith))

    settled-within : SettledTo (append_goal w b.denied b.nodes ns)
    settled-within =
        let ws = goal_nodes (pool (complete gs g)) gs in
        settled-laid
        (subst⁻¹ (λ us. Laid us (append_goal w b.denied b.nodes ns)) (nodes-last (pool (complete gs g)) gs g w b.denied ready.words_are)
        (subst⁻¹ (λ (p : Nodes). Laid (ws ++ next_nodes w b.denied (length ws)) (append_goal w b.denied p.0 p.1)) (λ i. (ready.nodes_is i, ready.nodes_are i)) (append-laid w b.denied ws)))

  -- A complete goal's nodes are added.
  keeps-settled : (b.over ≡ true → ¬ Fine (complete gs g)) → (b.over ≡ false → Ready gs g w b cs ns) → KeepsAll (complete gs g) ((settled b w ns).0, (cs, (settled b w ns).1))
  keeps-settled judged ready = go b.over refl
    where
      go : (o : Bool) → b.over ≡ o → SettledTo (append_goal w b.denied b.nodes ns)
      go true e = settled-past e (judged e) (append_goal w b.denied b.nodes ns)
      go false e = settled-within e (ready e)

-- ---- a relation

getD-copies : (xs : List ℕ) (k i : ℕ) → get_or (xs ++ replicate k 0) i 0 ≡ get_or xs i 0
getD-copies [] k i = copies-each (λ x. x ≡ 0) k 0 refl i
getD-copies (x ∷ xs) k zero = refl
getD-copies (x ∷ xs) k (suc i) = getD-copies xs k i

values-related : (d : Bool) (r : ℕ) (us : Several Term) → goal_values (relation_goal d r us) ≡ union_of term_values (all us)
values-related true r us = refl
values-related false r us = refl

variables-related : (d : Bool) (r : ℕ) (us : Several Term) → goal_variables (relation_goal d r us) ≡ union_of term_variables (all us)
variables-related true r us = refl
variables-related false r us = refl

relations-related : (d : Bool) (r : ℕ) (us : Several Term) → goal_relations (relation_goal d r us) ≡ r ∷ []
relations-related true r us = refl
relations-related false r us = refl

crowded-related : (d : Bool) (r : ℕ) (us : Several Term) → crowded (relation_goal d r us) ≡ ltb max_terms (length (all us))
crowded-related true r us = refl
crowded-related false r us = refl

words-related : (ps : Pool) (d : Bool) (r : ℕ) (us : Several Term) (w : ℕ) → ((m : ℕ) → words (rel r (map (term_in ps) (all us))) m ≡ w ∷ [])
    → (m : ℕ) → words (goal_formula ps (relation_goal d r us)) m ≡ own_nodes w d m
words-related ps true r us w h m = ap (λ ws. ws ++ (not_word (m + 1 - 1) ∷ [])) (h m)
words-related ps false r us w h m = h m

fine-terms : (gs : List Goal) (d : Bool) (r : ℕ) (us : Several Term) → Fine (complete gs (relation_goal d r us)) → Fine (account_of gs d false r (all us))
fine-terms gs d r us f =
    fine-pending gs (relation_goal d r us) d r (all us) (values-related d r us)
    (ltb-false max_terms (length (all us)) (sym (crowded-related d r us) ∙ f.few_goal_terms (relation_goal d r us) (in_right gs (here refl))))
    (λ x i. subst⁻¹ (In x) (variables-related d r us) i)
    f

-- The terms of the relation have been read.
module _ (gs : List Goal) (d : Bool) (r : ℕ) (us : Several Term) (b : Body) (cs ns : List ℕ) (k : Keeps (account_of gs d false r (all us)) b cs ns) where
  abbrev related : Goal
  related = relation_goal d r us

  abbrev first_word : ℕ
  first_word = record_word b.subject b.count (get_or b.terms 0 0) (get_or b.terms 1 0) (get_or b.terms 2 0) (get_or b.terms 3 0)

  module _ (low : b.subject ≤ max_number) (o : b.over ≡ false) where
    abbrev kept : Stored (account_of gs d false r (all us)) b cs ns
    kept = (k.stored o).1

    same-pool : pool (complete gs related) ≡ pool (account_of gs d false r (all us))
    same-pool = pool-same gs related d r (all us) (values-related d r us)

    same_relation : b.subject ≡ r
    same_relation = kept.subject_is ∙ capped-below r (omega (arith, kept.subject_is))

    code_read : (i : ℕ) → code_at (map (term_in (pool (complete gs related))) (all us)) i ≡ get_or b.terms i 0
    code_read i =
        let codes = map (code_of (pool (account_of gs d false r (all us)))) (all us) in
        ap (λ xs. get_or xs i 0) (map-map term_code (term_in (pool (complete gs related))) (all us))
        ∙ ap (λ ps. get_or (map (code_of ps) (all us)) i 0) same-pool
        ∙ sym (ap (λ xs. get_or xs i 0) kept.terms_are ∙ getD-copies codes (max_terms - length codes) i)

    terms-counted : length (map (term_in (pool (complete gs related))) (all us)) ≡ b.count
    terms-counted = length-map (all us) (term_in (pool (complete gs related))) ∙ sym kept.count_is

    relation-words : (m : ℕ) → words (rel r (map (term_in (pool (complete gs related))) (all us))) m ≡ first_word ∷ []
    relation-words m = λ i. record_word (sym same_relation i) (terms-counted i) (code_read 0 i) (code_read 1 i) (code_read 2 i) (code_read 3 i) ∷ []

    relation-ready : Ready gs related first_word b cs ns
    relation-ready =
        record {
          named_is = kept.named_is;
          words_are = λ m. words-related (pool (complete gs related)) d r us first_word relation-words m ∙ ap (λ e. own_nodes first_word e m) (sym kept.denied_is);
          seen_length = kept.seen_length;
          seen_is = λ x h. kept.seen_is x h ∙ ap (member x) (sym (variables-complete gs related ∙ ap (λ xs. variables_in gs ++ xs) (variables-related d r us)));
          constants_is = kept.constants_is ∙ ap length (sym same-pool);
          pool_is = kept.pool_is ∙ ap (padded max_constants 0) (sym same-pool);
          nodes_is = kept.nodes_is ∙ ap (λ ps. length (goal_nodes ps gs)) (sym same-pool);
          nodes_are = kept.nodes_are ∙ ap (λ ps. padded max_nodes 0 (goal_nodes ps gs)) (sym same-pool);
          fine_within = λ n.
              fine-complete gs related d r (all us) (values-related d r us) (k.stored o).0
              (crowded-related d r us ∙ le-ltb max_terms (length (all us)) (k.stored o).0.few_terms)
              (λ q i. let e = in_one (subst (In q) (relations-related d r us) i) in omega (arith, same_relation))
              (λ x i. (k.stored o).0.small_variables x (in_right (variables_in gs) (subst (In x) (variables-related d r us) i)))
              n;
        }

  keeps-put-relation : KeepsAll (complete gs related) (relation_step (b, (cs, ns)))
  keeps-put-relation = go (reflects-ltb max_number b.subject)
    where
      refused : max_number < b.subject → (o : Bool) → b.over ≡ o → ¬ Fine (complete gs related)
      refused l true e f = k.judged e (fine-terms gs d r us f)
      refused l false e f =
          let h = relations-of-goal gs related f r (subst⁻¹ (In r) (relations-related d r us) (here refl)) in let s = (k.stored e).1.subject_is in
          omega (arith, capped_le r)

      go : {t : Bool} → Reflects (max_number < b.subject) t → KeepsAll (complete gs related) ((cond t (overrun b, ns) (settled b first_word ns)).0, (cs, (cond t (overrun b, ns) (settled b first_word ns)).1))
      go (met l) = keeps-overrun k.bounds (refused l b.over refl)
      go (missed n) = keeps-settled gs related first_word b cs ns k.bounds (λ o f. k.judged o (fine-terms gs d r us f)) (relation-ready (omega arith))

-- A last term makes one list of terms with those before it.
pub all-and-last : {A : Type 0} (xs : List A) (x : A) → all (and_last xs x) ≡ xs ++ (x ∷ [])
all-and-last [] x = refl
all-and-last (y ∷ ys) x = refl

-- The number is the last term of a relation.
pub keeps-relation : (gs : List Goal) (d v : Bool) (r : ℕ) (ts : List Term) (m : ℕ) (b : Body) (cs ns : List ℕ) → Keeps (account_of gs d v r ts) b cs ns
    → KeepsAll (idle (gs ++ (relation_goal d r (and_last ts (term_of v m)) ∷ []))) (body_step 6 b (capped m) cs ns)
keeps-relation gs d v r ts m b cs ns k =
    keeps-guarded (account_of gs d v r ts) (complete gs (relation_goal d r us)) b cs ns (relation_step (term_step b (capped m) cs ns)) back k next
  where
    us : Several Term
    us = and_last ts (term_of v m)

    read : b.over ≡ false → KeepsAll (account_of gs d false r (all us)) (term_step b (capped m) cs ns)
    read o = subst⁻¹ (λ ws. KeepsAll (account_of gs d false r ws) (term_step b (capped m) cs ns)) (all-and-last ts (term_of v m)) (keeps-term_step gs d v r ts m b cs ns o k)

    next : b.over ≡ false → KeepsAll (complete gs (relation_goal d r us)) (relation_step (term_step b (capped m) cs ns))
    next o = let t = term_step b (capped m) cs ns in keeps-put-relation gs d r us t.0 t.1.0 t.1.1 (read o)

    back : Fine (complete gs (relation_goal d r us)) → Fine (account_of gs d v r ts)
    back f = fine-earlier gs d v r ts (term_of v m) (subst (λ ws. Fine (account_of gs d false r ws)) (all-and-last ts (term_of v m)) (fine-terms gs d r us f))

-- ---- an equality

fine-term : (gs : List Goal) (x : ℕ) (t : Term) → Fine (complete gs (equal x t)) → Fine (account_of gs false false x (t ∷ []))
fine-term gs x t f = fine-pending gs (equal x t) false x (t ∷ []) refl (omega arith) (λ y i. in_right (x ∷ []) i) f

-- The term of the equality has been read.
module _ (gs : List Goal) (x : ℕ) (t : Term) (b : Body) (cs ns : List ℕ) (k : Keeps (account_of gs false false x (t ∷ [])) b cs ns) where
  abbrev equated : Goal
  equated = equal x t

  abbrev equation : ℕ
  equation = equality_word b.subject (get_or b.terms 0 0)

  small-subject : Small (with_subject b)
  small-subject = let s = k.bounds in record { count_small = s.count_small; terms_small = s.terms_small; constants_small = s.constants_small; nodes_small = s.nodes_small }

  module _ (low : b.subject ≤ max_number) (o : b.over ≡ false) where
    abbrev at-term : Stored (account_of gs false false x (t ∷ [])) b cs ns
    at-term = (k.stored o).1

    pool-kept : pool (complete gs equated) ≡ pool (account_of gs false false x (t ∷ []))
    pool-kept = pool-same gs equated false x (t ∷ []) refl

    same-variable : b.subject ≡ x
    same-variable = at-term.subject_is ∙ capped-below x (omega (arith, at-term.subject_is))

    equation-word : equality_word x (term_code (term_in (pool (complete gs equated)) t)) ≡ equation
    equation-word = λ i. equality_word (sym same-variable i) ((ap (λ ps. code_of ps t) pool-kept ∙ sym (ap (λ us. get_or us 0 0) at-term.terms_are)) i)

    equated-variables : (y : ℕ) → In y (variables_of (complete gs equated)) → (y ≡ b.subject) ⊎ In y (variables_of (account_of gs false false x (t ∷ [])))
    equated-variables y i =
        ⊎_elim (λ j. inr (in_left (union_of term_variables (t ∷ [])) j))
        (λ j. ⊎_elim (λ e. inl (in_one e ∙ sym same-variable)) (λ e. inr (in_right (variables_in gs) e)) (in-append (x ∷ []) j))
        (in-append (variables_in gs) (subst (In y) (variables-complete gs equated) i))

    among-equated : variables_of (account_of gs false false x (t ∷ [])) ⊆ variables_of (complete gs equated)
    among-equated y i =
        subst⁻¹ (In y) (variables-complete gs equated)
        (⊎_elim (λ j. in_left (goal_variables equated) j) (λ j. in_right (variables_in gs) (there j)) (in-append (variables_in gs) i))

    equated-seen : (y : ℕ) → y < 16 → get_or (set b.seen b.subject true) y false ≡ member y (variables_of (complete gs equated))
    equated-seen =
        seen_more b.seen b.subject (variables_of (account_of gs false false x (t ∷ []))) (variables_of (complete gs equated)) at-term.seen_length (omega arith) at-term.seen_is
        (subst⁻¹ (In b.subject) (variables-complete gs equated) (in_right (variables_in gs) (here same-variable)))
        among-equated
        equated-variables

    equality-ready : Ready gs equated equation (with_subject b) cs ns
    equality-ready =
        record {
          named_is = at-term.named_is;
          words_are = λ m. ap (λ w. w ∷ []) equation-word ∙ ap (λ e. own_nodes equation e m) (sym at-term.denied_is);
          seen_length = length-set b.seen b.subject true ∙ at-term.seen_length;
          seen_is = equated-seen;
          constants_is = at-term.constants_is ∙ ap length (sym pool-kept);
          pool_is = at-term.pool_is ∙ ap (padded max_constants 0) (sym pool-kept);
          nodes_is = at-term.nodes_is ∙ ap (λ ps. length (goal_nodes ps gs)) (sym pool-kept);
          nodes_are = at-term.nodes_are ∙ ap (λ ps. padded max_nodes 0 (goal_nodes ps gs)) (sym pool-kept);
          fine_within = λ n.
              fine-complete gs equated false x (t ∷ []) refl (k.stored o).0 refl (λ q i. absurd (in-nil i))
              (λ y i. ⊎_elim (λ j. let e = in_one j in omega (arith, same-variable)) (λ j. (k.stored o).0.small_variables y (in_right (variables_in gs) j)) (in-append (x ∷ []) i))
              n;
        }

  keeps-put-equality : KeepsAll (complete gs equated) (equality_step (b, (cs, ns)))
  keeps-put-equality = go (reflects-ltb max_number b.subject)
    where
      refused : max_number < b.subject → (o : Bool) → b.over ≡ o → ¬ Fine (complete gs equated)
      refused l true e f = k.judged e (fine-term gs x t f)
      refused l false e f = let h = variables-of-goal gs equated f x (here refl) in let s = (k.stored e).1.subject_is in omega (arith, capped_le x)

      go : {u : Bool} → Reflects (max_number < b.subject) u
          → KeepsAll (complete gs equated) ((cond u (overrun b, ns) (settled (with_subject b) equation ns)).0, (cs, (cond u (overrun b, ns) (settled (with_subject b) equation ns)).1))
      go (met l) = keeps-overrun k.bounds (refused l b.over refl)
      go (missed n) = keeps-settled gs equated equation (with_subject b) cs ns small-subject (λ o f. k.judged o (fine-term gs x t f)) (equality-ready (omega arith))

-- The number is the term of an equality.
pub keeps-equality : (gs : List Goal) (v : Bool) (x m : ℕ) (b : Body) (cs ns : List ℕ) → Keeps (account_of gs false v x []) b cs ns
    → KeepsAll (idle (gs ++ (equal x (term_of v m) ∷ []))) (body_step 7 b (capped m) cs ns)
keeps-equality gs v x m b cs ns k =
    keeps-guarded (account_of gs false v x []) (complete gs (equal x (term_of v m))) b cs ns (equality_step (term_step b (capped m) cs ns))
    (λ f. fine-earlier gs false v x [] (term_of v m) (fine-term gs x (term_of v m) f))
    k
    (λ o. let t = term_step b (capped m) cs ns in keeps-put-equality gs x (term_of v m) t.0 t.1.0 t.1.1 (keeps-term_step gs false v x [] m b cs ns o k))
