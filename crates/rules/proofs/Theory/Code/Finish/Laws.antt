-- The end of a rule that was kept: `finish-kept` says that the code's reply is the rule's packed query, or a refusal where a limit is overstepped.
use Rattle.std.specs.Prelude.{ℕ, ◌+◌, ◌*◌, ◌-◌, ◌≤◌, ◌<◌, ◌≡◌, refl, Bool, true, false, not, cond, List, [], ◌∷◌, ◌++◌, length, get_or, take, replicate}
use Rattle.std.proofs.Common.{suc-le-suc, arith, sym, ap, subst, ◌∙◌, ⊎_elim, append-nil, ltb-false, lt-ltb, le-ltb}
use Rattle.std.proofs.Math.Path.{subst⁻¹}
use Rattle.std.proofs.Math.Seq.{take-append_seam}
use Rattle.calculus.specs.Reflects.{Reflects, holds as met, fails as missed}
use Rattle.calculus.proofs.Theory.Reflects.Laws.{reflects-not, reflects-and, reflects-leb, decided}
use Rattle.calculus.specs.Sets.{Any, In, any_of, member}
use Rattle.calculus.proofs.Theory.Sets.Laws.{reflects-any, reflects-member}
use Rattle.calculus.specs.Lists.{padded}
use Rattle.calculus.specs.Formula.{Fmla, size}
use Rattle.causes.specs.Causes.{Done}
use Rattle.query.specs.Reading.{max_nodes, max_constants, query_of}
use Rattle.query.specs.Packing.{words, packed_bytes}
use Rattle.query.proofs.Theory.Packing.Laws.{size-positive, length-words}
use Rattle.query.specs.Code.Writing.{overlay}
use Rattle.query.proofs.Theory.Code.Writing.Laws.{front-padded}
use Rattle.rules.specs.Reply.{Packing, max_bytes, bytes_of, refused, packed, rule_packing}
use Rattle.rules.specs.Grammar.{Several, several, all, Goal, holds, fails, equal, Rule, rule}
use Rattle.rules.specs.Meaning.{goals, goal_terms, variables_in, values_in, pooled, pool_of, matrix, bound, formula_of, max_terms, crowded, overstepped}
use Rattle.rules.proofs.Theory.Meaning.Limits.{Within, within, not-overstepped}
use Rattle.rules.proofs.Theory.Meaning.Packing.{length-bytes-of, bytes-short}
use Rattle.rules.specs.Code.Scan.{Draft}
use Rattle.rules.specs.Code.Automaton.{done}
use Rattle.rules.specs.Code.Draft.{Head, Body, Nodes, Small}
use Rattle.rules.specs.Code.Keeping.{HeadFine, HeadStored, idle, pool, goal_nodes, Fine, Stored, Kept}
use Rattle.rules.specs.Code.Finish.{Variables, is_bound, bound_down, bind_all, packing_of, quantified_reply, finished}
use Rattle.rules.proofs.Theory.Code.Finish.Quantifiers.{size-quantified, nodes_of, bind-rule, bind-full}

-- ---- where no goal is being read

variables-idle : (gs : List Goal) → variables_in gs ++ [] ≡ variables_in gs
variables-idle gs = append-nil (variables_in gs)

values-idle : (gs : List Goal) → values_in gs ++ [] ≡ values_in gs
values-idle gs = append-nil (values_in gs)

pool-idle : (gs : List Goal) → pool (idle gs) ≡ pool_of gs
pool-idle gs = ap (pooled []) (values-idle gs)

-- The formula of the goals, before the quantifiers.
abbrev inner : Several Goal → Fmla
inner gs = matrix (pool_of (all gs)) gs

nodes-idle : (gs : Several Goal) → goal_nodes (pool (idle (all gs))) (all gs) ≡ words (inner gs) 0
nodes-idle (several g gs) = ap (λ cs. words (matrix cs (several g gs)) 0) (pool-idle (g ∷ gs))

count-idle : (gs : Several Goal) → length (goal_nodes (pool (idle (all gs))) (all gs)) ≡ size (inner gs)
count-idle gs = ap length (nodes-idle gs) ∙ length-words (inner gs) 0

-- ---- the limits, as the rule has them and as the code keeps them

few-uncrowded : (g : Goal) → length (goal_terms g) ≤ max_terms → crowded g ≡ false
few-uncrowded (holds r ts) h = le-ltb max_terms (length (all ts)) h
few-uncrowded (fails r ts) h = le-ltb max_terms (length (all ts)) h
few-uncrowded (equal x t) h = refl

uncrowded-few : (g : Goal) → crowded g ≡ false → length (goal_terms g) ≤ max_terms
uncrowded-few (holds r ts) e = ltb-false max_terms (length (all ts)) e
uncrowded-few (fails r ts) e = ltb-false max_terms (length (all ts)) e
uncrowded-few (equal x t) e = omega arith

-- A rule that breaks a limit is overstepped.
breaks-overstepped : (R : Rule) → ¬ Within R → overstepped R ≡ true
breaks-overstepped R n = go (overstepped R) refl
  where
    go : (t : Bool) → overstepped R ≡ t → t ≡ true
    go true e = refl
    go false e = absurd (n (within R e))

module _ (xs : List ℕ) (gs : Several Goal) where
  formula-size : size (formula_of (rule xs gs)) ≡ size (inner gs) + length (bound (rule xs gs))
  formula-size = size-quantified (bound (rule xs gs)) (inner gs)

  -- A rule within its limits keeps those of the head.
  within-head : Within (rule xs gs) → HeadFine xs
  within-head w = record { ascending = w.ascends; few = w.few_columns; small = λ x i. w.variables_fit x (w.stands x i) }

  -- It keeps those of the goals: the formula has no fewer nodes than the goals.
  within-goals : Within (rule xs gs) → Fine (idle (all gs))
  within-goals w =
      record {
        few_terms = omega arith;
        few_goal_terms = λ g i. few-uncrowded g (w.few_terms g i);
        small_relations = w.relations_fit;
        small_variables = λ x i. w.variables_fit x (subst (In x) (variables-idle (all gs)) i);
        small_values = λ v i. w.values_fit v (subst (In v) (values-idle (all gs)) i);
        few_constants = subst⁻¹ (λ cs. length cs ≤ max_constants) (pool-idle (all gs)) w.few_constants;
        few_nodes = omega (arith, count-idle gs, formula-size, w.few_nodes);
      }

  -- A rule that keeps both is within its limits where each variable of the head stands in a goal, and the nodes have room for the quantifiers.
  fine_within : HeadFine xs → Fine (idle (all gs)) → ((x : ℕ) → In x xs → In x (variables_in (all gs))) → size (formula_of (rule xs gs)) ≤ max_nodes → Within (rule xs gs)
  fine_within h f s n =
      record {
        ascends = h.ascending;
        stands = s;
        few_columns = h.few;
        few_terms = λ g i. uncrowded-few g (f.few_goal_terms g i);
        few_nodes = n;
        few_constants = subst (λ cs. length cs ≤ max_constants) (pool-idle (all gs)) f.few_constants;
        relations_fit = f.small_relations;
        variables_fit = λ x i. f.small_variables x (subst⁻¹ (In x) (variables-idle (all gs)) i);
        values_fit = λ v i. f.small_values v (subst⁻¹ (In v) (values-idle (all gs)) i);
      }

-- ---- what the code needs at the end of a rule

-- A rule that was kept can be finished: the head's variables, the counts and the last node are as the code's indices need them.
pub kept-ready : (R : Rule) (d : Draft) (cs ns : List ℕ) → Kept (done R) d cs ns
    → (d.head.over ≡ false → Variables d.head) × Small d.body × (d.body.over ≡ false → 1 ≤ d.body.nodes)
kept-ready (rule xs gs) d cs ns k = (head-ready, k.body_keeps.bounds, goals-ready)
  where
    head-ready : d.head.over ≡ false → Variables d.head
    head-ready e =
        let (fine, stored) = k.head_keeps.head_stored e in
        record { few = omega (arith, fine.few, stored.count_is); small = λ i. suc-le-suc (k.head_keeps.head_small i) }

    goals-ready : d.body.over ≡ false → 1 ≤ d.body.nodes
    goals-ready e = let (fine, stored) = k.body_keeps.stored e in omega (arith, stored.nodes_is, count-idle gs, size-positive (inner gs))

-- ---- the packed query

-- The reply with the constants cs and the nodes ns.
abbrev packing_with : List ℕ → List ℕ → ℕ → Packing
packing_with cs ns n = record { answer = Done; query = query_of cs ns; bytes = padded max_bytes 0 (packed_bytes cs ns); size = n }

-- Constants and nodes that are filled up with zeros are packed without these.
stored-packing : (cs ns : List ℕ) → length (packed_bytes cs ns) ≤ max_bytes
    → packing_of (padded max_constants 0 cs) (length cs) (padded max_nodes 0 ns) (length ns) ≡ packing_with cs ns (2 + 4 * length cs + 4 * length ns)
stored-packing cs ns h = λ i. record { answer = Done; query = query_of cs ns; bytes = bytes-are i; size = 2 + 4 * length cs + 4 * length ns }
  where
    bytes-are : overlay 0 (packed_bytes (take (length cs) (padded max_constants 0 cs)) (take (length ns) (padded max_nodes 0 ns))) (replicate max_bytes 0) ≡ padded max_bytes 0 (packed_bytes cs ns)
    bytes-are =
        (λ i. overlay 0 (packed_bytes (take-append_seam cs (replicate (max_constants - length cs) 0) i) (take-append_seam ns (replicate (max_nodes - length ns) 0) i)) (replicate max_bytes 0))
        ∙ front-padded max_bytes (packed_bytes cs ns) h

-- So a rule's constants and the nodes of its formula are packed to the rule's reply.
packed-stored : (R : Rule) → overstepped R ≡ false
    → packing_of (padded max_constants 0 (pool_of (goals R))) (length (pool_of (goals R))) (padded max_nodes 0 (words (formula_of R) 0)) (size (formula_of R)) ≡ packed R
packed-stored R e =
    ap (packing_of (padded max_constants 0 (pool_of (goals R))) (length (pool_of (goals R))) (padded max_nodes 0 (words (formula_of R) 0))) (sym (length-words (formula_of R) 0))
    ∙ stored-packing (pool_of (goals R)) (words (formula_of R) 0) (bytes-short R e)
    ∙ ap (packing_with (pool_of (goals R)) (words (formula_of R) 0)) sizes
  where
    sizes : 2 + 4 * length (pool_of (goals R)) + 4 * length (words (formula_of R) 0) ≡ length (bytes_of R)
    sizes = omega (arith, length-bytes-of R, length-words (formula_of R) 0)

-- ---- the end of a rule

reply-refused : (R : Rule) (n : ℕ) → ¬ Within R → refused n ≡ rule_packing R n
reply-refused R n k = sym (ap (λ t. cond t (refused n) (packed R)) (breaks-overstepped R k))

reply-packed : (R : Rule) (n : ℕ) → Within R → packed R ≡ rule_packing R n
reply-packed R n w = sym (ap (λ t. cond t (refused n) (packed R)) (not-overstepped R w))

-- Head and goals are stored: the head's variables that no goal has, and the quantifiers.
module _ (xs : List ℕ) (gs : Several Goal) (h : Head) (b : Body) (cs ns : List ℕ) (fine : HeadFine xs) (kept : HeadStored xs h) (fits : Fine (idle (all gs))) (stored : Stored (idle (all gs)) b cs ns) where
  columns_are : take h.count h.variables ≡ xs
  columns_are = (λ i. take (kept.count_is i) (kept.variables_are i)) ∙ take-append_seam xs (replicate (max_terms - length xs) 0)

  reflects-seen : (x : ℕ) → x < 16 → Reflects (In x (variables_in (all gs))) (get_or b.seen x false)
  reflects-seen x l = subst⁻¹ (Reflects (In x (variables_in (all gs)))) (stored.seen_is x l ∙ ap (member x) (variables-idle (all gs))) (reflects-member x (variables_in (all gs)))

  -- The test for a variable of the head that no goal has.
  reflects-missing : Reflects (Any (λ x. ¬ In x (variables_in (all gs))) xs) (any_of (λ x. not (get_or b.seen x false)) (take h.count h.variables))
  reflects-missing =
      subst⁻¹ (λ ys. Reflects (Any (λ x. ¬ In x (variables_in (all gs))) xs) (any_of (λ x. not (get_or b.seen x false)) ys)) columns_are
      (reflects-any (λ x. not (get_or b.seen x false)) xs (λ x i. reflects-not (reflects-seen x (suc-le-suc (fine.small x i)))))

  -- The test for a variable that is quantified.
  reflects-bound : (x : ℕ) → x < 16 → Reflects (In x (variables_in (all gs)) × ¬ In x xs) (is_bound h b.seen x)
  reflects-bound x l = reflects-and (reflects-seen x l) (reflects-not (subst⁻¹ (λ ys. Reflects (In x xs) (member x ys)) columns_are (reflects-member x xs)))

  goal-variables-small : (x : ℕ) → In x (variables_in (all gs)) → x < 16
  goal-variables-small x i = suc-le-suc (fits.small_variables x (subst⁻¹ (In x) (variables-idle (all gs)) i))

  -- The nodes with the quantifiers.
  abbrev all-nodes : Nodes
  all-nodes = bind_all (bound_down (is_bound h b.seen) 16) b.nodes ns

  all-nodes-from : all-nodes ≡ bind_all (bound_down (is_bound h b.seen) 16) (size (inner gs)) (padded max_nodes 0 (words (inner gs) 0))
  all-nodes-from = λ i. bind_all (bound_down (is_bound h b.seen) 16) ((stored.nodes_is ∙ count-idle gs) i) ((stored.nodes_are ∙ ap (padded max_nodes 0) (nodes-idle gs)) i)

  nodes-with-room : size (formula_of (rule xs gs)) ≤ max_nodes → all-nodes ≡ nodes_of (formula_of (rule xs gs))
  nodes-with-room l = all-nodes-from ∙ bind-rule (rule xs gs) (is_bound h b.seen) goal-variables-small reflects-bound (inner gs) l

  nodes-without-room : max_nodes < size (formula_of (rule xs gs)) → max_nodes < all-nodes.0
  nodes-without-room l =
      subst⁻¹ (λ a. max_nodes < a.0) all-nodes-from
      (bind-full (rule xs gs) (is_bound h b.seen) goal-variables-small reflects-bound (inner gs) (omega (arith, fits.few_nodes, count-idle gs)) l)

  module _ (n : ℕ) where
    packs : Within (rule xs gs) → quantified_reply b cs all-nodes n ≡ rule_packing (rule xs gs) n
    packs w =
        ap (λ a. quantified_reply b cs a n) (nodes-with-room w.few_nodes)
        ∙ ap (λ t. cond t (refused n) (packing_of cs b.constants (padded max_nodes 0 (words (formula_of (rule xs gs)) 0)) (size (formula_of (rule xs gs))))) (le-ltb max_nodes (size (formula_of (rule xs gs))) w.few_nodes)
        ∙ (λ i. packing_of ((stored.pool_is ∙ ap (padded max_constants 0) (pool-idle (all gs))) i) ((stored.constants_is ∙ ap length (pool-idle (all gs))) i) (padded max_nodes 0 (words (formula_of (rule xs gs)) 0)) (size (formula_of (rule xs gs))))
        ∙ packed-stored (rule xs gs) (not-overstepped (rule xs gs) w)
        ∙ reply-packed (rule xs gs) n w

    refuses : max_nodes < size (formula_of (rule xs gs)) → quantified_reply b cs all-nodes n ≡ rule_packing (rule xs gs) n
    refuses l =
        ap (λ t. cond t (refused n) (packing_of cs b.constants all-nodes.1 all-nodes.0)) (lt-ltb max_nodes all-nodes.0 (nodes-without-room l))
        ∙ reply-refused (rule xs gs) n (λ w. omega (arith, w.few_nodes))

    quantifies : ((x : ℕ) → In x xs → In x (variables_in (all gs))) → quantified_reply b cs all-nodes n ≡ rule_packing (rule xs gs) n
    quantifies s = go (reflects-leb (size (formula_of (rule xs gs))) max_nodes)
      where
        go : {t : Bool} → Reflects (size (formula_of (rule xs gs)) ≤ max_nodes) t → quantified_reply b cs all-nodes n ≡ rule_packing (rule xs gs) n
        go (met l) = packs (fine_within xs gs fine fits s l)
        go (missed k) = refuses (omega arith)

    -- The reply where no limit was passed so far.
    finish-stored : cond (any_of (λ x. not (get_or b.seen x false)) (take h.count h.variables)) (refused n) (quantified_reply b cs all-nodes n) ≡ rule_packing (rule xs gs) n
    finish-stored = go reflects-missing
      where
        go : {t : Bool} → Reflects (Any (λ x. ¬ In x (variables_in (all gs))) xs) t → cond t (refused n) (quantified_reply b cs all-nodes n) ≡ rule_packing (rule xs gs) n
        go (met s) = reply-refused (rule xs gs) n (λ w. s.2 (w.stands s.0 s.1))
        go (missed k) = quantifies (λ x i. ⊎_elim (λ j. j) (λ m. absurd (k (x, i, m))) (decided (reflects-member x (variables_in (all gs)))))

-- A rule that was kept is finished with its packed query, or with a refusal where it oversteps a limit.
pub finish-kept : (R : Rule) (d : Draft) (cs ns : List ℕ) (n : ℕ) → Kept (done R) d cs ns → finished d.head d.body cs ns n ≡ rule_packing R n
finish-kept (rule xs gs) d cs ns n k = go d.head.over refl d.body.over refl
  where
    go : (t : Bool) → d.head.over ≡ t → (u : Bool) → d.body.over ≡ u
        → cond t (refused n) (cond u (refused n) (cond (any_of (λ x. not (get_or d.body.seen x false)) (take d.head.count d.head.variables)) (refused n) (quantified_reply d.body cs (bind_all (bound_down (is_bound d.head d.body.seen) 16) d.body.nodes ns) n)))
        ≡ rule_packing (rule xs gs) n
    go true e u f = reply-refused (rule xs gs) n (λ w. k.head_keeps.head_judged e (within-head xs gs w))
    go false e true f = reply-refused (rule xs gs) n (λ w. k.body_keeps.judged f (within-goals xs gs w))
    go false e false f = let (fine, kept) = k.head_keeps.head_stored e in let (fits, stored) = k.body_keeps.stored f in finish-stored xs gs d.head d.body cs ns fine kept fits stored n
