-- Laws of the reader's reply: the header's checks and those of the nodes, one by one as the code makes them.
use Rattle.std.specs.Prelude.{ℕ, ◌+◌, ◌*◌, ◌≤◌, ◌<◌, ◌≡◌, refl, ◌≢◌, Bool, true, false, not, ◌||◌, List, [], ◌∷◌, ◌++◌, length, get_or, take, drop, replicate, eqb, ltb, Option, Some, None, MatchOption}
use Rattle.std.proofs.Common.{arith, sym, ap, ◌∙◌, take_at, lt-ltb, le-ltb, ltb-false, eqb-true, eq-eqb, ne_eqb}
use Rattle.std.proofs.lemmas.Bool.{eqb-false, not-false}
use Rattle.calculus.specs.Lists.{tabulate, padded}
use Rattle.calculus.proofs.Theory.Lists.Laws.{length-tabulate, padded-tabulate, or-fails}
use Rattle.calculus.specs.Generators.{columns}
use Rattle.causes.specs.Causes.{Answer, Done, Refused, Check, check, first_cause, lowest, when, widths_fit, place, Finding, clear, met}
use Rattle.causes.proofs.Theory.Causes.Laws.{lowest-met, lowest-all-clear, then-done, then-refused, first-clear, place-then, place-when, place-lowest}
use Rattle.query.specs.Nodes.{malformed, misplaced, strays, mismatched}
use Rattle.query.specs.Decoding.{root}
use Rattle.query.specs.Reading.{max_nodes, max_constants, max_columns, version, count_of_nodes, count_of_constants, word_at, constants_of, nodes_of, header_checks, tree_checks, column_checks, read_checks, refusal, accepted, read_reply, read_of}
use Rattle.query.specs.Code.Judging.{finding_of, node_fault, found_at}
use Rattle.std.specs.List.{AllWithin, HoldsAt}

-- ---- the header

-- What the header's checks say where they find nothing.
pub record Headed (bs : List ℕ) : Type 0 where
  pub long : 2 ≤ length bs
  pub first : version bs ≡ 1
  pub some_nodes : 1 ≤ count_of_nodes bs
  pub few_nodes : count_of_nodes bs ≤ max_nodes
  pub few_constants : count_of_constants bs ≤ 16
  pub whole : length bs ≡ 2 + 4 * count_of_constants bs + 4 * count_of_nodes bs

abbrev length_checks : List ℕ → List Check
length_checks bs = check 5 (when (not (eqb (length bs) (2 + 4 * count_of_constants bs + 4 * count_of_nodes bs)))) ∷ []

abbrev bad_counts : List ℕ → Bool
bad_counts bs = eqb (count_of_nodes bs) 0 || ltb max_nodes (count_of_nodes bs) || ltb max_constants (count_of_constants bs)

abbrev bad_version : List ℕ → Bool
bad_version bs = ltb (length bs) 2 || not (eqb (version bs) 1)

pub header-done : (ws bs : List ℕ) (a : Answer) → a ≡ first_cause (header_checks ws bs) → a ≡ Done → Headed bs
header-done ws bs a e d =
    let s₁ = first-clear 1 (not (widths_fit ws)) (check 3 (when (bad_version bs)) ∷ check 4 (when (bad_counts bs)) ∷ length_checks bs) (sym e ∙ d) in
    let s₃ = first-clear 3 (bad_version bs) (check 4 (when (bad_counts bs)) ∷ length_checks bs) s₁.1 in
    let s₄ = first-clear 4 (bad_counts bs) (length_checks bs) s₃.1 in
    let s₅ = first-clear 5 (not (eqb (length bs) (2 + 4 * count_of_constants bs + 4 * count_of_nodes bs))) [] s₄.1 in
    let v = or-fails (ltb (length bs) 2) (not (eqb (version bs) 1)) s₃.0 in
    let c = or-fails (eqb (count_of_nodes bs) 0 || ltb max_nodes (count_of_nodes bs)) (ltb max_constants (count_of_constants bs)) s₄.0 in
    let n = or-fails (eqb (count_of_nodes bs) 0) (ltb max_nodes (count_of_nodes bs)) c.0 in
    headed-from bs (ltb-false (length bs) 2 v.0) (eqb-true (version bs) 1 (not-false (eqb (version bs) 1) v.1)) (eqb-false (count_of_nodes bs) 0 n.0) (ltb-false max_nodes (count_of_nodes bs) n.1) (ltb-false 16 (count_of_constants bs) c.1) (eqb-true (length bs) (2 + 4 * count_of_constants bs + 4 * count_of_nodes bs) (not-false (eqb (length bs) (2 + 4 * count_of_constants bs + 4 * count_of_nodes bs)) s₅.0))
  where
    headed-from : (bs : List ℕ) → 2 ≤ length bs → version bs ≡ 1 → count_of_nodes bs ≢ 0 → count_of_nodes bs ≤ max_nodes → count_of_constants bs ≤ 16 → length bs ≡ 2 + 4 * count_of_constants bs + 4 * count_of_nodes bs → Headed bs
    headed-from bs a v b c d e = record { long = a; first = v; some_nodes = omega arith; few_nodes = c; few_constants = d; whole = e }

-- ---- the nodes

-- A search upward comes to the lowest node that has the fault.
pub lowest-first : (faulty : ℕ → Bool) (n : ℕ) (r : Option ℕ)
    → MatchOption r ((k : ℕ) → k < n → faulty k ≡ false) (λ i. (i < n) × (faulty i ≡ true) × ((k : ℕ) → k < i → faulty k ≡ false))
    → finding_of r ≡ lowest faulty n
lowest-first faulty n None h = sym (lowest-all-clear faulty n h)
lowest-first faulty n (Some i) h = sym (lowest-met faulty i n (lowest-all-clear faulty i h.2) h.1 h.0)

-- The same of a search through a range.
pub lowest-range : (faulty : ℕ → Bool) (n : ℕ) (r : Option ℕ)
    → MatchOption r ((k : ℕ) → 0 ≤ k → k < n → faulty k ≡ false) (λ i. (0 ≤ i) × (i < n) × (faulty i ≡ true) × ((k : ℕ) → 0 ≤ k → k < i → faulty k ≡ false))
    → finding_of r ≡ lowest faulty n
lowest-range faulty n None h = lowest-first faulty n None (λ k l. h k (omega arith) l)
lowest-range faulty n (Some i) h = lowest-first faulty n (Some i) (h.1, h.2, λ k l. h.3 k (omega arith) l)

-- And of a list's elements.
pub lowest-position : (p : ℕ → Bool) (xs : List ℕ) (r : Option ℕ)
    → MatchOption r (AllWithin (λ x. p x ≡ false) xs 0 (length xs)) (λ i. (i < length xs) × HoldsAt (λ x. p x ≡ true) xs i × AllWithin (λ x. p x ≡ false) xs 0 i)
    → finding_of r ≡ lowest (λ i. p (get_or xs i 0)) (length xs)
lowest-position p xs None h = lowest-first (λ i. p (get_or xs i 0)) (length xs) None (λ k l. h k 0 (omega arith) (omega arith))
lowest-position p xs (Some i) h = lowest-first (λ i. p (get_or xs i 0)) (length xs) (Some i) (h.0, h.1 0, λ k l. h.2 k 0 (omega arith) (omega arith))

-- ---- the place

-- A reading names a node, or 0.
pub read-place : (ws bs : List ℕ) → place (first_cause (read_checks ws bs)) < max_nodes
read-place ws bs = go (first_cause (header_checks ws bs)) refl
  where
    ns : List ℕ
    ns = nodes_of bs

    rest : List Check
    rest = tree_checks ws (count_of_constants bs) ns ++ column_checks ns

    header : place (first_cause (header_checks ws bs)) < max_nodes
    header =
        place-when 1 (not (widths_fit ws)) (check 3 (when (bad_version bs)) ∷ check 4 (when (bad_counts bs)) ∷ length_checks bs)
        (place-when 3 (bad_version bs) (check 4 (when (bad_counts bs)) ∷ length_checks bs)
        (place-when 4 (bad_counts bs) (length_checks bs)
        (place-when 5 (not (eqb (length bs) (2 + 4 * count_of_constants bs + 4 * count_of_nodes bs))) [] (omega arith))))

    columns-place : place (first_cause (column_checks ns)) < max_nodes
    columns-place = place-when 10 (ltb max_columns (length (columns (root ns)))) [] (omega arith)

    tree : length ns ≤ max_nodes → place (first_cause rest) < max_nodes
    tree l =
        let mismatch = check 9 (lowest (λ i. mismatched ws (get_or ns i 0)) (length ns)) ∷ column_checks ns in
        let stray = check 8 (lowest (λ i. strays (count_of_constants bs) (get_or ns i 0)) (length ns)) ∷ mismatch in
        let misplace = check 7 (lowest (misplaced ns) (length ns)) ∷ stray in
        place-lowest 6 (λ i. malformed (get_or ns i 0)) (length ns) misplace l
        (place-lowest 7 (misplaced ns) (length ns) stray l
        (place-lowest 8 (λ i. strays (count_of_constants bs) (get_or ns i 0)) (length ns) mismatch l
        (place-lowest 9 (λ i. mismatched ws (get_or ns i 0)) (length ns) (column_checks ns) l columns-place)))

    go : (a : Answer) → first_cause (header_checks ws bs) ≡ a → place (first_cause (read_checks ws bs)) < max_nodes
    go Done e =
        let l : length ns ≤ max_nodes = omega (arith, length-tabulate (λ i. word_at bs (2 + 4 * count_of_constants bs + 4 * i)) (count_of_nodes bs), (header-done ws bs Done (sym e) refl).few_nodes) in
        place-then (header_checks ws bs) rest header (tree l)
    go (Refused n p) e = omega (arith, header, ap place e, ap place (then-refused (header_checks ws bs) rest n p e))

-- ---- the reply, as the code comes to it

module _ (ws bs : List ℕ) where
  replied : {a : Answer} → first_cause (read_checks ws bs) ≡ a → read_of ws bs ≡ read_reply a (constants_of bs) (nodes_of bs)
  replied e = ap (λ (a : Answer). read_reply a (constants_of bs) (nodes_of bs)) e

  abbrev trees : List Check
  trees = tree_checks ws (count_of_constants bs) (nodes_of bs)

  -- The header passes.
  module _ (h : Done ≡ first_cause (header_checks ws bs)) where
    pub refused-tree : {n p : ℕ} (a : Answer) → a ≡ first_cause trees → a ≡ Refused n p → refusal n p ≡ read_of ws bs
    refused-tree {n} {p} a e f = sym (replied (then-done (header_checks ws bs) (trees ++ column_checks (nodes_of bs)) (sym h) ∙ then-refused trees (column_checks (nodes_of bs)) n p (sym e ∙ f)))

    -- The nodes pass.
    module _ (t : Done ≡ first_cause trees) where
      columns-decide : first_cause (read_checks ws bs) ≡ first_cause (column_checks (nodes_of bs))
      columns-decide = then-done (header_checks ws bs) (trees ++ column_checks (nodes_of bs)) (sym h) ∙ then-done trees (column_checks (nodes_of bs)) (sym t)

      pub refused-columns : 4 < length (columns (root (nodes_of bs))) → refusal 10 0 ≡ read_of ws bs
      refused-columns m = sym (replied {a = Refused 10 0} (columns-decide ∙ rw (lt-ltb 4 (length (columns (root (nodes_of bs)))) m)))

      pub reply-accepted : length (columns (root (nodes_of bs))) ≤ 4 → accepted (constants_of bs) (nodes_of bs) ≡ read_of ws bs
      reply-accepted m = sym (replied {a = Done} (columns-decide ∙ rw (le-ltb 4 (length (columns (root (nodes_of bs)))) m)))

-- The header passes, and the counts are read.
pub record Fitting (bs : List ℕ) (n k : ℕ) : Type 0 where
  pub nodes : n ≡ count_of_nodes bs
  pub constants : k ≡ count_of_constants bs
  pub some_nodes : 1 ≤ n
  pub few_nodes : n ≤ max_nodes
  pub few_constants : k ≤ 16
  pub whole : length bs ≡ 2 + 4 * k + 4 * n

pub fitting : {bs : List ℕ} → Headed bs → (n k : ℕ) → n ≡ count_of_nodes bs → k ≡ count_of_constants bs → Fitting bs n k
fitting h n k en ek = record { nodes = en; constants = ek; some_nodes = omega arith; few_nodes = omega arith; few_constants = omega arith; whole = omega arith }

-- The lists as they are read: the counts' words, and zeros after them.
module _ {bs : List ℕ} {n k : ℕ} (f : Fitting bs n k) (out : List ℕ) where
  pub nodes-read : (z : List ℕ) → out ≡ tabulate (λ i. word_at bs (2 + 4 * k + 4 * i)) n ++ z → take n out ≡ nodes_of bs
  nodes-read z e =
      ap (take n) e
      ∙ take_at (tabulate (λ i. word_at bs (2 + 4 * k + 4 * i)) n) z n (length-tabulate (λ i. word_at bs (2 + 4 * k + 4 * i)) n)
      ∙ ap (λ (j : ℕ). tabulate (λ i. word_at bs (2 + 4 * j + 4 * i)) n) f.constants
      ∙ ap (tabulate (λ i. word_at bs (2 + 4 * count_of_constants bs + 4 * i))) f.nodes

  pub nodes-padded : out ≡ tabulate (λ i. word_at bs (2 + 4 * k + 4 * i)) n ++ drop n (replicate max_nodes 0) → out ≡ padded max_nodes 0 (nodes_of bs)
  nodes-padded e =
      e
      ∙ padded-tabulate (λ i. word_at bs (2 + 4 * k + 4 * i)) max_nodes n 0
      ∙ ap (λ (j : ℕ). padded max_nodes 0 (tabulate (λ i. word_at bs (2 + 4 * j + 4 * i)) n)) f.constants
      ∙ ap (λ (m : ℕ). padded max_nodes 0 (tabulate (λ i. word_at bs (2 + 4 * count_of_constants bs + 4 * i)) m)) f.nodes

  pub constants-padded : out ≡ tabulate (λ i. word_at bs (2 + 4 * i)) k ++ drop k (replicate 16 0) → out ≡ padded 16 0 (constants_of bs)
  constants-padded e =
      e
      ∙ padded-tabulate (λ i. word_at bs (2 + 4 * i)) 16 k 0
      ∙ ap (λ (j : ℕ). padded 16 0 (tabulate (λ i. word_at bs (2 + 4 * i)) j)) f.constants

-- ---- laws that stand as they stood

module _ (ws bs : List ℕ) (w : widths_fit ws ≡ true) where
  pub short : length bs < 2 → Refused 3 0 ≡ first_cause (header_checks ws bs)
  short h = rw (w, lt-ltb (length bs) 2 h)

  pub other-version : 2 ≤ length bs → version bs ≢ 1 → Refused 3 0 ≡ first_cause (header_checks ws bs)
  other-version h v = rw (w, le-ltb (length bs) 2 h, ne_eqb (version bs) 1 v)

-- The checks 1 and 3 are passed, and the counts are read.
pub record Counted (ws bs : List ℕ) (n k : ℕ) : Type 0 where
  pub widths : widths_fit ws ≡ true
  pub long : 2 ≤ length bs
  pub first : version bs ≡ 1
  pub nodes : n ≡ count_of_nodes bs
  pub constants : k ≡ count_of_constants bs

module _ {ws bs : List ℕ} {n k : ℕ} (c : Counted ws bs n k) where
  pub no-nodes : n ≡ 0 → Refused 4 0 ≡ first_cause (header_checks ws bs)
  no-nodes e = rw (c.widths, le-ltb (length bs) 2 c.long, c.first, eq-eqb (count_of_nodes bs) 0 (sym c.nodes ∙ e))

  some : n ≢ 0 → eqb (count_of_nodes bs) 0 ≡ false
  some m = ne_eqb (count_of_nodes bs) 0 (λ e. m (c.nodes ∙ e))

  few : n ≤ max_nodes → ltb max_nodes (count_of_nodes bs) ≡ false
  few m = le-ltb max_nodes (count_of_nodes bs) (omega arith)

  few_constants : k ≤ 16 → ltb 16 (count_of_constants bs) ≡ false
  few_constants m = le-ltb 16 (count_of_constants bs) (omega arith)

  pub many-nodes : n ≢ 0 → max_nodes < n → Refused 4 0 ≡ first_cause (header_checks ws bs)
  many-nodes m h = let l : max_nodes < count_of_nodes bs = omega arith in rw (c.widths, le-ltb (length bs) 2 c.long, c.first, some m, lt-ltb max_nodes (count_of_nodes bs) l)

  pub many-constants : n ≢ 0 → n ≤ max_nodes → 16 < k → Refused 4 0 ≡ first_cause (header_checks ws bs)
  many-constants m l h = let g : 16 < count_of_constants bs = omega arith in rw (c.widths, le-ltb (length bs) 2 c.long, c.first, some m, few l, lt-ltb 16 (count_of_constants bs) g)

  pub other_length : n ≢ 0 → n ≤ max_nodes → k ≤ 16 → length bs ≢ 2 + 4 * k + 4 * n → Refused 5 0 ≡ first_cause (header_checks ws bs)
  other_length m l h d = rw (c.widths, le-ltb (length bs) 2 c.long, c.first, some m, few l, few_constants h, ne_eqb (length bs) (2 + 4 * count_of_constants bs + 4 * count_of_nodes bs) (λ e. d (omega arith)))

  pub all-passed : n ≢ 0 → n ≤ max_nodes → k ≤ 16 → length bs ≡ 2 + 4 * k + 4 * n → Done ≡ first_cause (header_checks ws bs)
  all-passed m l h d = let e : length bs ≡ 2 + 4 * count_of_constants bs + 4 * count_of_nodes bs = omega arith in rw (c.widths, le-ltb (length bs) 2 c.long, c.first, some m, few l, few_constants h, eq-eqb (length bs) (2 + 4 * count_of_constants bs + 4 * count_of_nodes bs) e)

module _ (ws : List ℕ) (k : ℕ) (ns : List ℕ) where
  -- What the check of a cause, from 6 to 9, finds.
  abbrev pub fault : ℕ → Finding
  fault cause = lowest (node_fault cause ws k ns) (length ns)

  pub fault-met : (cause n r : ℕ) → length ns ≡ n → found_at r n ≡ lowest (node_fault cause ws k ns) n → r < n → fault cause ≡ met r
  fault-met cause n r l e h = ap (lowest (node_fault cause ws k ns)) l ∙ sym e ∙ rw (lt-ltb r n h)

  pub fault-clear : (cause n r : ℕ) → length ns ≡ n → found_at r n ≡ lowest (node_fault cause ws k ns) n → n ≤ r → fault cause ≡ clear
  fault-clear cause n r l e h = ap (lowest (node_fault cause ws k ns)) l ∙ sym e ∙ rw (le-ltb r n h)

  pub tree-6 : (p : ℕ) → fault 6 ≡ met p → Refused 6 p ≡ first_cause (tree_checks ws k ns)
  tree-6 p e = rw e

  pub tree-7 : (p : ℕ) → fault 6 ≡ clear → fault 7 ≡ met p → Refused 7 p ≡ first_cause (tree_checks ws k ns)
  tree-7 p c₆ e = rw (c₆, e)

  pub tree-8 : (p : ℕ) → fault 6 ≡ clear → fault 7 ≡ clear → fault 8 ≡ met p → Refused 8 p ≡ first_cause (tree_checks ws k ns)
  tree-8 p c₆ c₇ e = rw (c₆, c₇, e)

  pub tree-9 : (p : ℕ) → fault 6 ≡ clear → fault 7 ≡ clear → fault 8 ≡ clear → fault 9 ≡ met p → Refused 9 p ≡ first_cause (tree_checks ws k ns)
  tree-9 p c₆ c₇ c₈ e = rw (c₆, c₇, c₈, e)

  pub tree-done : fault 6 ≡ clear → fault 7 ≡ clear → fault 8 ≡ clear → fault 9 ≡ clear → Done ≡ first_cause (tree_checks ws k ns)
  tree-done c₆ c₇ c₈ c₉ = rw (c₆, c₇, c₈, c₉)

module _ (ws bs : List ℕ) where
  pub refused-header : {n p : ℕ} (a : Answer) → a ≡ first_cause (header_checks ws bs) → a ≡ Refused n p → refusal n p ≡ read_of ws bs
  refused-header {n} {p} a e f = sym (replied ws bs (then-refused (header_checks ws bs) (trees ws bs ++ column_checks (nodes_of bs)) n p (sym e ∙ f)))
