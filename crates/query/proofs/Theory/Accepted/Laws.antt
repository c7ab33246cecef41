-- Every query that the reader accepts has what Accepted promises. And what a reply is, by its answer.
use Rattle.std.specs.Prelude.{ℕ, zero, suc, ◌+◌, ◌*◌, ◌-◌, ◌%◌, ◌<◌, ◌≤◌, ◌^◌, ◌≡◌, refl, Bool, true, false, not, ◌&&◌, cond, List, [], ◌∷◌, ◌++◌, map, length, get_or, take, replicate, T, leb, ltb, eqb}
use Rattle.std.proofs.Common.{arith, sym, ap, subst, ◌∙◌, true≢false, length-take, length-take-le, leb-false, ltb-false}
use Rattle.std.proofs.Math.Path.{subst⁻¹}
use Rattle.std.proofs.lemmas.List.{length-map, length-replicate}
use Rattle.std.proofs.Math.ListN.{get_or-append}
use Rattle.std.proofs.Math.Seq.{take-append_seam}
use Rattle.std.proofs.lemmas.Bool.{eqb-false}
use Rattle.calculus.specs.Sets.{In, here, there, any_of}
use Rattle.calculus.proofs.Theory.Sets.Laws.{from-map}
use Rattle.calculus.proofs.Theory.Lists.Laws.{length-tabulate, length-padded, getD-padded, place_of, or-fails, any-of-false, from-tabulate, from-replicate}
use Rattle.calculus.specs.Reflects.{Reflects, holds, fails}
use Rattle.calculus.proofs.Theory.Reflects.Laws.{reflects-T, reflects-false, reflects-eqb}
use Rattle.calculus.specs.Formula.{Term, var, con, Fmla, rel, size}
use Rattle.calculus.specs.Satisfaction.{Pool}
use Rattle.calculus.specs.Generators.{columns}
use Rattle.causes.specs.Causes.{Answer, Done, Refused, first_cause, widths_fit, AllClear}
use Rattle.causes.proofs.Theory.Causes.Laws.{width_fits, first_done, first_cause-done, when-clear, lowest-clear}
use Rattle.query.specs.declared.Query.{Query}
use Rattle.query.specs.Nodes.{relation, term_count, terms, variable, equal_term, left, right, under, children, uses, malformed, misplaced, is_stray, strays, mismatched}
use Rattle.query.specs.Decoding.{term_of, node_formula, formula_at, root}
use Rattle.query.proofs.Theory.Decoding.Laws.{Kind, is_truth, is_record, is_equality, is_not, is_and, is_or, is_exists, is_none, kind-of, formula-step, formula-stable, root-take}
use Rattle.query.specs.Reading.{max_nodes, max_constants, max_columns, count_of_nodes, count_of_constants, word_at, constants_of, nodes_of, header_checks, tree_checks, column_checks, read_checks, query_of, columns_of, refusal, accepted, read_reply, read_of, pool, nodes_in, formula}
use Rattle.query.proofs.Theory.Reading.Laws.{Headed, header-done}
use Rattle.query.specs.Packing.{words, pack, TermFits, var_fits, con_fits, Fits, truth_fits, rel_fits, eq_fits, neg_fits, conj_fits, disj_fits, exists_fits, Packable}
use Rattle.query.proofs.Theory.Packing.Bytes.{bytes-at}
use Rattle.query.proofs.Theory.Packing.Laws.{read-pack, pack-small}
use Rattle.query.specs.Accepted.{Accepted}
use Rattle.query.proofs.Theory.Accepted.Size.{root-size}

-- ---- tests that fail

pub confirmed : {A : Type 0} {b : Bool} → Reflects A b → not b ≡ false → A
confirmed (holds a) e = a
confirmed (fails n) e = absurd (true≢false e)

-- ---- the formula of a node without faults

term_fits : (k t : ℕ) → is_stray k t ≡ false → TermFits k (term_of t)
term_fits k t e = go (leb 16 t) e
  where
    go : (b : Bool) → b && leb k (t % 16) ≡ false → TermFits k (cond b (con (t % 16)) (var (t % 16)))
    go true e = con_fits (leb-false k (t % 16) e)
    go false e = var_fits {x = t % 16} (omega arith)

terms-fit : (k : ℕ) (xs : List ℕ) → any_of (is_stray k) xs ≡ false → (t : Term) → In t (map term_of xs) → TermFits k t
terms-fit k xs e t i = let r = from-map term_of xs i in subst⁻¹ (TermFits k) r.2 (term_fits k r.0 (any-of-false (is_stray k) xs e r.0 r.1))

module _ (ws : List ℕ) (k : ℕ) (widths : T (widths_fit ws)) where
  -- A record of relation r with the first n of four terms.
  record-fits : (r n : ℕ) (xs : List ℕ) → r < 16 → length xs ≡ 4 → (eqb (get_or ws r 0) 0 ≡ false) × (not (eqb n (get_or ws r 0)) ≡ false) → any_of (is_stray k) (take n xs) ≡ false → Fits ws k (rel r (map term_of (take n xs)))
  record-fits r n xs l four m s = rel_fits {r = r} {ts = map term_of (take n xs)} l (omega (arith, eqb-false (get_or ws r 0) 0 m.0, same, count)) (count ∙ same) (terms-fit k (take n xs) s)
    where
      same : n ≡ get_or ws r 0
      same = confirmed (reflects-eqb n (get_or ws r 0)) m.1

      count : length (map term_of (take n xs)) ≡ n
      count = length-map (take n xs) term_of ∙ length-take-le n xs (omega (arith, same, width_fits ws widths r))

  node-fits : (w : ℕ) (child : ℕ → Fmla) → malformed w ≡ false → strays k w ≡ false → mismatched ws w ≡ false → ((c : ℕ) → In c (children w) → Fits ws k (child c)) → Fits ws k (node_formula w child)
  node-fits w child f s m h = go (kind-of w)
    where
      go : Kind w → Fits ws k (node_formula w child)
      go (is_truth e) = rw e truth_fits
      go (is_record e) = rw e (record-fits (relation w) (term_count w) (terms w) (omega arith) refl (or-fails (eqb (get_or ws (relation w) 0) 0) (not (eqb (term_count w) (get_or ws (relation w) 0))) (rw e at m)) (rw e at s))
      go (is_equality e) = rw e (eq_fits {x = variable w} (omega arith) (term_fits k (equal_term w) (any-of-false (is_stray k) (equal_term w ∷ []) (rw e at s) (equal_term w) (here refl))))
      go (is_not e) = let r = rw e at h in rw e (neg_fits (r (left w) (here refl)))
      go (is_and e) = let r = rw e at h in rw e (conj_fits (r (left w) (here refl)) (r (right w) (there (here refl))))
      go (is_or e) = let r = rw e at h in rw e (disj_fits (r (left w) (here refl)) (r (right w) (there (here refl))))
      go (is_exists e) = let r = rw e at h in rw e (exists_fits {x = variable w} (omega arith) (r (under w) (here refl)))
      go (is_none j e) = absurd (true≢false (rw e at f))

-- The formulas of the first n nodes, each without faults and with its children below it, fit the widths.
module _ (ws : List ℕ) (k : ℕ) (ns : List ℕ) (n : ℕ) (widths : T (widths_fit ws))
    (below : (i : ℕ) → i < n → (c : ℕ) → In c (children (get_or ns i 0)) → c < i)
    (formed : (i : ℕ) → i < n → malformed (get_or ns i 0) ≡ false)
    (held : (i : ℕ) → i < n → strays k (get_or ns i 0) ≡ false)
    (matched : (i : ℕ) → i < n → mismatched ws (get_or ns i 0) ≡ false) where
  fits_below : (m : ℕ) → m ≤ n → (i : ℕ) → i < m → Fits ws k (formula_at ns i)
  fits_below zero l i h = absurd (omega arith)
  fits_below (suc m) l i h = subst⁻¹ (Fits ws k) (formula-step ns i (below i j)) (node-fits ws k widths (get_or ns i 0) (formula_at ns) (formed i j) (held i j) (matched i j) (λ c d. let b : c < i = below i j c d in fits_below m (omega arith) c (omega arith)))
    where
      j : i < n
      j = omega arith

-- ---- what the checks leave

-- The constants cs and the nodes ns have passed the checks.
pub record Checked (ws cs ns : List ℕ) : Type 0 where
  pub widths : T (widths_fit ws)
  pub some_node : 1 ≤ length ns
  pub few_nodes : length ns ≤ max_nodes
  pub few_constants : length cs ≤ max_constants
  pub formed : (i : ℕ) → i < length ns → malformed (get_or ns i 0) ≡ false
  pub placed : (i : ℕ) → i < length ns → misplaced ns i ≡ false
  pub constants_held : (i : ℕ) → i < length ns → strays (length cs) (get_or ns i 0) ≡ false
  pub relations_held : (i : ℕ) → i < length ns → mismatched ws (get_or ns i 0) ≡ false
  pub few_columns : length (columns (root ns)) ≤ max_columns
  pub constants_fit : (v : ℕ) → In v cs → v < 2 ^ 32

module _ (ws cs ns : List ℕ) (c : Checked ws cs ns) where
  placed-parts : (i : ℕ) → i < length ns → (any_of (leb i) (children (get_or ns i 0)) ≡ false) × (not (eqb (i + 1) (length ns)) && not (eqb (uses ns i) 1) ≡ false)
  placed-parts i h = or-fails (any_of (leb i) (children (get_or ns i 0))) (not (eqb (i + 1) (length ns)) && not (eqb (uses ns i) 1)) (c.placed i h)

  children_below : (i : ℕ) → i < length ns → (d : ℕ) → In d (children (get_or ns i 0)) → d < i
  children_below i h d m = leb-false i d (any-of-false (leb i) (children (get_or ns i 0)) (placed-parts i h).0 d m)

  once : (i : ℕ) → i + 1 < length ns → uses ns i ≡ 1
  once i h = confirmed (reflects-eqb (uses ns i) 1) (rw inner at (placed-parts i (omega arith)).1)
    where
      inner : eqb (i + 1) (length ns) ≡ false
      inner = reflects-false (reflects-eqb (i + 1) (length ns)) (λ e. omega arith)

  pub size-right : size (root ns) ≡ length ns
  size-right = root-size ns children_below once c.some_node

  fit-to-pack : Packable ws cs (root ns)
  fit-to-pack = record {
    fits = fits_below ws (length cs) ns (length ns) c.widths children_below c.formed c.constants_held c.relations_held (length ns) (omega arith) (length ns - 1) (omega (arith, c.some_node));
    few_nodes = omega (arith, size-right, c.few_nodes);
    few_constants = c.few_constants;
    constants_fit = c.constants_fit;
    few_columns = c.few_columns;
  }

-- ---- the query of constants and nodes

pub pool_of : (cs ns : List ℕ) → pool (query_of cs ns) ≡ cs
pool_of cs ns = take-append_seam cs (replicate (max_constants - length cs) 0)

pub nodes_of-query : (cs ns : List ℕ) → nodes_in (query_of cs ns) ≡ ns
nodes_of-query cs ns = take-append_seam ns (replicate (max_nodes - length ns) 0)

pub node_at : (cs ns : List ℕ) (i : ℕ) → i < length ns → get_or (query_of cs ns).nodes i 0 ≡ get_or ns i 0
node_at cs ns i h = get_or-append ns (replicate (max_nodes - length ns) 0) 0 i h

checked-accepted : (ws cs ns : List ℕ) → Checked ws cs ns → Accepted ws (query_of cs ns)
checked-accepted ws cs ns c = record {
  widths_right = c.widths;
  some_node = c.some_node;
  few_nodes = c.few_nodes;
  few_constants = c.few_constants;
  whole = (λ i. query_of (sym (pool_of cs ns) i) (sym (nodes_of-query cs ns) i));
  children_below = (λ i h d m. children_below ws cs ns c i h d (subst (λ w. In d (children w)) (node_at cs ns i h) m));
  child_once = (λ i h. rw nodes_of-query (once ws cs ns c i h));
  formed = (λ i h. ap malformed (node_at cs ns i h) ∙ c.formed i h);
  constants_held = (λ i h. ap (strays (length cs)) (node_at cs ns i h) ∙ c.constants_held i h);
  relations_held = (λ i h. ap (mismatched ws) (node_at cs ns i h) ∙ c.relations_held i h);
  size_is = ap (λ l. size (root l)) (nodes_of-query cs ns) ∙ size-right ws cs ns c;
  packable = subst⁻¹ (λ l. Packable ws l (formula (query_of cs ns))) (pool_of cs ns) (subst⁻¹ (λ l. Packable ws cs (root l)) (nodes_of-query cs ns) (fit-to-pack ws cs ns c));
}

-- ---- the reply, by its answer

-- A reader's reply carries its answer.
pub reply-answer : (a : Answer) (cs ns : List ℕ) → (read_reply a cs ns).answer ≡ a
reply-answer Done cs ns = refl
reply-answer (Refused n p) cs ns = refl

module _ (ws bs : List ℕ) where
  -- The reader's answer is the first of its causes.
  pub read-cause : (a : Answer) → (read_of ws bs).answer ≡ a → first_cause (read_checks ws bs) ≡ a
  read-cause a h = sym (reply-answer (first_cause (read_checks ws bs)) (constants_of bs) (nodes_of bs)) ∙ h

  reply-is : (a : Answer) → (read_of ws bs).answer ≡ a → read_of ws bs ≡ read_reply a (constants_of bs) (nodes_of bs)
  reply-is a h = ap (λ b. read_reply b (constants_of bs) (nodes_of bs)) (read-cause a h)

  pub read_done : (read_of ws bs).answer ≡ Done → read_of ws bs ≡ accepted (constants_of bs) (nodes_of bs)
  read_done h = reply-is Done h

  pub read-refused : (n p : ℕ) → (read_of ws bs).answer ≡ Refused n p → read_of ws bs ≡ refusal n p
  read-refused n p h = reply-is (Refused n p) h

  checks-clear : (read_of ws bs).answer ≡ Done → AllClear (read_checks ws bs)
  checks-clear h = first_cause-done (read_checks ws bs) (read-cause Done h)

  pub read-widths : (read_of ws bs).answer ≡ Done → T (widths_fit ws)
  read-widths h = confirmed (reflects-T (widths_fit ws)) (when-clear (not (widths_fit ws)) (checks-clear h).0)

  pub read-formula : (read_of ws bs).answer ≡ Done → formula (read_of ws bs).query ≡ root (nodes_of bs)
  read-formula h = ap (λ r. formula r.query) (read_done h) ∙ ap root (nodes_of-query (constants_of bs) (nodes_of bs))

  pub read-pool : (read_of ws bs).answer ≡ Done → pool (read_of ws bs).query ≡ constants_of bs
  read-pool h = ap (λ r. pool r.query) (read_done h) ∙ pool_of (constants_of bs) (nodes_of bs)

  pub read-headed : (read_of ws bs).answer ≡ Done → Headed bs
  read-headed h = header-done ws bs Done (sym (first_done (header_checks ws bs) (tree_checks ws (count_of_constants bs) (nodes_of bs) ++ column_checks (nodes_of bs)) (read-cause Done h))) refl

  tree-clear : (read_of ws bs).answer ≡ Done → AllClear (tree_checks ws (count_of_constants bs) (nodes_of bs) ++ column_checks (nodes_of bs))
  tree-clear h = (checks-clear h).1.1.1.1

  few-free : (read_of ws bs).answer ≡ Done → length (columns (root (nodes_of bs))) ≤ max_columns
  few-free h = ltb-false max_columns (length (columns (root (nodes_of bs)))) (when-clear (ltb max_columns (length (columns (root (nodes_of bs))))) (tree-clear h).1.1.1.1.0)

  -- An accepted query has at most four columns.
  pub read-few : (read_of ws bs).answer ≡ Done → length (columns (formula (read_of ws bs).query)) ≤ max_columns
  read-few h = subst⁻¹ (λ φ. length (columns φ) ≤ max_columns) (read-formula h) (few-free h)

  pub read-columns : (read_of ws bs).answer ≡ Done → (read_of ws bs).columns ≡ columns_of (columns (formula (read_of ws bs).query))
  read-columns h = ap (λ r. r.columns) (read_done h) ∙ ap (λ φ. columns_of (columns φ)) (sym (read-formula h))

-- ---- every accepted query

pub word_fits : (bs : List ℕ) → ((i : ℕ) → get_or bs i 0 < 256) → (i : ℕ) → word_at bs i < 2 ^ 32
word_fits bs b i = omega (arith, b i, b (i + 1), b (i + 2), b (i + 3))

pub constant-fits : (bs : List ℕ) → ((i : ℕ) → get_or bs i 0 < 256) → (v : ℕ) → In v (constants_of bs) → v < 2 ^ 32
constant-fits bs b v m = let r = from-tabulate (λ i. word_at bs (2 + 4 * i)) (count_of_constants bs) m in subst⁻¹ (λ x. x < 2 ^ 32) r.2 (word_fits bs b (2 + 4 * r.0))

constants-length : (bs : List ℕ) → length (constants_of bs) ≡ count_of_constants bs
constants-length bs = length-tabulate (λ i. word_at bs (2 + 4 * i)) (count_of_constants bs)

pub nodes-length : (bs : List ℕ) → length (nodes_of bs) ≡ count_of_nodes bs
nodes-length bs = length-tabulate (λ i. word_at bs (2 + 4 * count_of_constants bs + 4 * i)) (count_of_nodes bs)

module _ (ws bs : List ℕ) (h : (read_of ws bs).answer ≡ Done) where
  -- What the checks leave of the nodes, with as many constants, which are 32-bit numbers.
  checked-with : (cs : List ℕ) → length cs ≡ count_of_constants bs → ((v : ℕ) → In v cs → v < 2 ^ 32) → Checked ws cs (nodes_of bs)
  checked-with cs long small = record {
    widths = read-widths ws bs h;
    some_node = rw nodes-length (read-headed ws bs h).some_nodes;
    few_nodes = rw nodes-length (read-headed ws bs h).few_nodes;
    few_constants = subst⁻¹ (λ k. k ≤ max_constants) long (read-headed ws bs h).few_constants;
    formed = lowest-clear (λ i. malformed (get_or (nodes_of bs) i 0)) (length (nodes_of bs)) (tree-clear ws bs h).0;
    placed = lowest-clear (misplaced (nodes_of bs)) (length (nodes_of bs)) (tree-clear ws bs h).1.0;
    constants_held = (λ i l. subst⁻¹ (λ k. strays k (get_or (nodes_of bs) i 0) ≡ false) long (lowest-clear (λ j. strays (count_of_constants bs) (get_or (nodes_of bs) j 0)) (length (nodes_of bs)) (tree-clear ws bs h).1.1.0 i l));
    relations_held = lowest-clear (λ i. mismatched ws (get_or (nodes_of bs) i 0)) (length (nodes_of bs)) (tree-clear ws bs h).1.1.1.0;
    few_columns = few-free ws bs h;
    constants_fit = small;
  }

  -- Whatever the constants are, the formula has at most max_nodes nodes.
  pub read-size : size (formula (read_of ws bs).query) ≤ max_nodes
  read-size =
      let k : ℕ = count_of_constants bs in
      let c = checked-with (replicate k 0) (length-replicate {A = ℕ} k 0) (λ v i. subst⁻¹ (λ u. u < 2 ^ 32) (from-replicate k 0 i) (omega arith)) in
      subst⁻¹ (λ φ. size φ ≤ max_nodes) (read-formula ws bs h) (omega (arith, size-right ws (replicate k 0) (nodes_of bs) c, c.few_nodes))

  -- Where the constants are 32-bit numbers, the query read is an accepted one.
  module _ (small : (v : ℕ) → In v (constants_of bs) → v < 2 ^ 32) where
    pub read-checked : Checked ws (constants_of bs) (nodes_of bs)
    read-checked = checked-with (constants_of bs) (constants-length bs) small

    small-accepted : Accepted ws (read_of ws bs).query
    small-accepted = subst⁻¹ (λ r. Accepted ws r.query) (read_done ws bs h) (checked-accepted ws (constants_of bs) (nodes_of bs) read-checked)

-- The query read is an accepted one, where the bytes are bytes, and where the reader's array of constants is one of 32-bit numbers, as a caller sees it.
pub read-accepted : (ws bs : List ℕ) → ((i : ℕ) → get_or bs i 0 < 256) → (read_of ws bs).answer ≡ Done → Accepted ws (read_of ws bs).query
read-accepted ws bs b h = small-accepted ws bs h (constant-fits bs b)

pub reading-accepted : (ws bs : List ℕ) → ((i : ℕ) → get_or (read_of ws bs).query.constants i 0 < 2 ^ 32) → (read_of ws bs).answer ≡ Done → Accepted ws (read_of ws bs).query
reading-accepted ws bs f h = small-accepted ws bs h held
  where
    held : (v : ℕ) → In v (constants_of bs) → v < 2 ^ 32
    held v i =
        let r = place_of 0 (constants_of bs) i in
        let e = ap (λ q. get_or q.query.constants r.0 0) (read_done ws bs h) ∙ getD-padded max_constants 0 (constants_of bs) r.0 r.1 in
        subst⁻¹ (λ u. u < 2 ^ 32) (r.2 ∙ sym e) (f r.0)

-- ---- the packing of a formula

-- What is packed from a formula within the limits is an accepted query: that of its constants and words.
pub packed-accepted : (ws : List ℕ) (cs : Pool) (φ : Fmla) → T (widths_fit ws) → Packable ws cs φ → Accepted ws (query_of cs (words φ 0))
packed-accepted ws cs φ t p =
    let e = (read-pack ws cs φ t p).0 in
    subst (λ r. Accepted ws r.query) e (read-accepted ws (pack cs φ) (bytes-at (pack cs φ) (pack-small ws cs φ t p)) (ap (λ r. r.answer) e))

-- ---- the formula of a node

module _ (ws : List ℕ) (q : Query) (a : Accepted ws q) where
  pub formula-node : (i : ℕ) → i < q.node_count → formula_at q.nodes i ≡ node_formula (get_or q.nodes i 0) (formula_at q.nodes)
  formula-node i h = formula-step q.nodes i (a.children_below i h)

  pub formula-fits : (i : ℕ) → i < q.node_count → Fits ws q.constant_count (formula_at q.nodes i)
  formula-fits i h =
      fits_below ws q.constant_count q.nodes q.node_count a.widths_right a.children_below a.formed a.constants_held a.relations_held q.node_count (omega arith) i h

  nodes-few : length (nodes_in q) ≤ max_nodes
  nodes-few = simp length-take (omega (arith, a.few_nodes))

  pub nodes-length-is : length q.nodes ≡ max_nodes
  nodes-length-is = ap (λ r. length r.nodes) a.whole ∙ length-padded max_nodes 0 (nodes_in q) nodes-few

  pub formula-last : formula q ≡ formula_at q.nodes (q.node_count - 1)
  formula-last =
      let n : ℕ = q.node_count in
      let s : 1 ≤ n = a.some_node in
      root-take q.nodes n s (omega (arith, nodes-length-is, a.few_nodes)) ∙ formula-stable q.nodes n (n - 1) (omega arith)
