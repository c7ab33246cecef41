-- Laws of the propagated form: what a node does to the words so far gives the words of its propagated formula; and the form of an accepted query is an
-- accepted query of that formula, in packing's order.
use Rattle.std.specs.Prelude.{ℕ, ◌+◌, ◌-◌, ◌%◌, ◌≤◌, ◌<◌, ◌≡◌, refl, Bool, true, false, not, cond, List, [], ◌∷◌, ◌++◌, length, get_or, take, T, eqb, ltb}
use Rattle.std.proofs.Common.{zero-add, arith, sym, ap, subst, ◌∙◌, true≢false, append_assoc, length-append, take_at, get_or-append-add, ne_eqb}
use Rattle.std.proofs.lemmas.List.{get_or_at}
use Rattle.std.proofs.lemmas.Bool.{eqb-false}
use Rattle.calculus.specs.Sets.{member}
use Rattle.calculus.specs.Reflects.{Reflects, holds, fails}
use Rattle.calculus.proofs.Theory.Reflects.Laws.{reflects-leb}
use Rattle.calculus.specs.Formula.{Term, var, con, Fmla, truth, rel, eq, neg, conj, disj, exists, fv, size}
use Rattle.calculus.proofs.Theory.Order.Laws.{ltb-order, ascending-distinct, pigeonhole}
use Rattle.calculus.specs.Generators.{columns}
use Rattle.calculus.proofs.Theory.SafeRange.Result.{columns-members, columns-ascending}
use Rattle.calculus.specs.Propagation.{exists_if_free, is_truth, cp_eq, cp_neg, cp}
use Rattle.calculus.proofs.Theory.Propagation.Laws.{NegView, neg_truth, neg_other, neg-view, join, cp_join, JoinView, left_unit, left_zero, right_unit, right_zero, neither, join-view, ExistsView, kept, dropped, exists-view, fv-cp, size-cp}
use Rattle.causes.specs.Causes.{widths_fit}
use Rattle.query.specs.declared.Query.{Query}
use Rattle.query.specs.Nodes.{kind, variable, equal_term, malformed, mismatched, truth_rest, equality_rest, equality_word, not_word, join_word, exists_word}
use Rattle.query.proofs.Theory.Nodes.Words.{truth_of-fields, variable-small}
use Rattle.query.specs.Decoding.{term_of, node_formula, formula_in, formulas, formula_at, root}
use Rattle.query.proofs.Theory.Decoding.Laws.{Kind, is_truth as truth-kind, is_record, is_equality, is_not, is_and, is_or, is_exists, is_none, kind-of, formula-here}
use Rattle.query.specs.Reading.{max_nodes, max_constants, read_of, pool, formula}
use Rattle.query.specs.Packing.{term_code, words, pack, Fits, truth_fits, neg_fits, conj_fits, disj_fits, exists_fits, Packable}
use Rattle.query.proofs.Theory.Packing.Trees.{Tree, tree-decodes, tree-sound}
use Rattle.query.proofs.Theory.Packing.Laws.{size-positive, length-words, fits-room, words-tree, root-words, read-pack}
use Rattle.query.specs.Accepted.{Accepted}
use Rattle.query.proofs.Theory.Accepted.Laws.{pool_of, nodes_of-query, node_at, packed-accepted, formula-last, nodes-length-is}
use Rattle.query.proofs.Theory.Accepted.Order.{nonzero-false, record-again, equality-again, record-width}
use Rattle.verdict.specs.Form.{form_of}
use Rattle.verdict.specs.Code.Form.{IsForm, IsFormIn, last, true_word, settled, negated, joined, quantified}

-- The kind of an and, and that of an or.
abbrev pub join_kind : Bool → ℕ
join_kind true = 4
join_kind false = 5

-- ---- one word more

last_snoc : (xs : List ℕ) (w : ℕ) → last (xs ++ (w ∷ [])) ≡ w
last_snoc xs w = get_or_at xs w [] 0 (length (xs ++ (w ∷ [])) - 1) (omega (arith, length-append xs (w ∷ [])))

take_snoc : (xs : List ℕ) (w : ℕ) → take (length (xs ++ (w ∷ [])) - 1) (xs ++ (w ∷ [])) ≡ xs
take_snoc xs w = take_at xs (w ∷ []) (length (xs ++ (w ∷ [])) - 1) (omega (arith, length-append xs (w ∷ [])))

pub last-truth : (xs : List ℕ) (b : Bool) → last (xs ++ words (truth b) (length xs)) ≡ cond b true_word 0
last-truth xs b = last_snoc xs (cond b true_word 0)

-- ---- what a node does to words that end in a truth value, or in none

negated-truth : (b : Bool) (xs : List ℕ) → negated (xs ++ (cond b true_word 0 ∷ [])) ≡ xs ++ (cond (not b) true_word 0 ∷ [])
negated-truth true xs = rw (last_snoc xs true_word, take_snoc xs true_word)
negated-truth false xs = rw (last_snoc xs 0, take_snoc xs 0)

negated-other : (ys : List ℕ) → eqb (kind (last ys)) 0 ≡ false → negated ys ≡ ys ++ (not_word (length ys - 1) ∷ [])
negated-other ys e =
    let n = eqb-false (kind (last ys)) 0 e in
    rw (ne_eqb (last ys) 0 (λ z. n (ap kind z)), ne_eqb (last ys) true_word (λ z. n (ap kind z)))

joined-unit : (u : Bool) (at middle : ℕ) (ys : List ℕ) → length ys ≡ middle → joined (join_kind u) at middle (ys ++ (cond u true_word 0 ∷ [])) ≡ ys
joined-unit true at middle ys e = rw (last_snoc ys true_word, take_at ys (true_word ∷ []) middle e)
joined-unit false at middle ys e = rw (last_snoc ys 0, take_at ys (0 ∷ []) middle e)

joined-zero : (u : Bool) (at middle : ℕ) (xs ys : List ℕ) → length xs ≡ at
    → joined (join_kind u) at middle ((xs ++ ys) ++ (cond (not u) true_word 0 ∷ [])) ≡ xs ++ (cond (not u) true_word 0 ∷ [])
joined-zero true at middle xs ys e = rw (last_snoc (xs ++ ys) 0, append_assoc, take_at xs (ys ++ (0 ∷ [])) at e)
joined-zero false at middle xs ys e = rw (last_snoc (xs ++ ys) true_word, append_assoc, take_at xs (ys ++ (true_word ∷ [])) at e)

joined-other : (k at middle : ℕ) (ys : List ℕ) → eqb (kind (last ys)) 0 ≡ false → joined k at middle ys ≡ ys ++ (join_word k (middle - 1) (length ys - 1) ∷ [])
joined-other k at middle ys e = rw e

words-join : (u : Bool) (φ ψ : Fmla) (n : ℕ) → words (join u φ ψ) n ≡ words φ n ++ (words ψ (n + size φ) ++ (join_word (join_kind u) (n + size φ - 1) (n + size φ + size ψ - 1) ∷ []))
words-join true φ ψ n = refl
words-join false φ ψ n = refl

-- A node without faults is a truth value by its kind.
kind-truth : (w : ℕ) (child : ℕ → Fmla) → malformed w ≡ false → eqb (kind w) 0 ≡ is_truth (node_formula w child)
kind-truth w child f = go (kind-of w)
  where
    go : Kind w → eqb (kind w) 0 ≡ is_truth (node_formula w child)
    go (truth-kind e) = rw e
    go (is_record e) = rw e
    go (is_equality e) = rw e
    go (is_not e) = rw e
    go (is_and e) = rw e
    go (is_or e) = rw e
    go (is_exists e) = rw e
    go (is_none j e) = absurd (true≢false (rw e at f))

-- The word of an equality of the variable x with the term t.
equality-settled : (w x t n : ℕ) → x < 16 → w ≡ equality_word x (term_code (term_of t)) → words (cp_eq x (term_of t)) n ≡ cond (eqb x t) true_word w ∷ []
equality-settled w x t n h = go (reflects-leb 16 t)
  where
    kept-or-true : (b : Bool) → w ≡ equality_word x t → words (cond b (truth true) (eq x (var t))) n ≡ cond b true_word w ∷ []
    kept-or-true true e = refl
    kept-or-true false e = ap (λ u. u ∷ []) (sym e)

    go : {b : Bool} → Reflects (16 ≤ t) b → w ≡ equality_word x (term_code (cond b (con (t % 16)) (var (t % 16))))
        → words (cp_eq x (cond b (con (t % 16)) (var (t % 16)))) n ≡ cond (eqb x t) true_word w ∷ []
    go (holds l) e = rw (ne_eqb x t (λ d. omega arith)) (ap (λ u. u ∷ []) (sym e))
    go (fails l) e = let d : t % 16 ≡ t = omega arith in rw d (kept-or-true (eqb x t) (rw d at e))

-- ---- the words of a formula after others

module _ (ws : List ℕ) (k : ℕ) (fit : T (widths_fit ws)) (few : k ≤ max_constants) where
  module _ (xs : List ℕ) (φ : Fmla) where
    end_after : length (xs ++ words φ (length xs)) ≡ length xs + size φ
    end_after = length-append xs (words φ (length xs)) ∙ ap (λ n. length xs + n) (length-words φ (length xs))

    tree-after : Fits ws k φ → length xs + size φ ≤ max_nodes → Tree k (xs ++ words φ (length xs)) (length xs) (length xs + size φ - 1) φ
    tree-after f h = words-tree k few (xs ++ words φ (length xs)) φ (length xs) (fits-room ws k fit f) h (λ i l. get_or-append-add xs (words φ (length xs)) i 0)

    pub root-after : Fits ws k φ → length xs + size φ ≤ max_nodes → root (xs ++ words φ (length xs)) ≡ φ
    root-after f h = ap (λ n. formula_at (xs ++ words φ (length xs)) (n - 1)) end_after ∙ tree-decodes (tree-after f h)

    pub last-kind : Fits ws k φ → length xs + size φ ≤ max_nodes → eqb (kind (last (xs ++ words φ (length xs)))) 0 ≡ is_truth φ
    last-kind f h =
        let ns : List ℕ = xs ++ words φ (length xs) in
        let c : ℕ = length xs + size φ - 1 in
        let t = tree-after f h in
        let s : 1 ≤ size φ = size-positive φ in
        ap (λ n. eqb (kind (get_or ns (n - 1) 0)) 0) end_after
        ∙ kind-truth (get_or ns c 0) (formula_in (formulas ns c)) (tree-sound t c (omega arith) (omega arith)).formed
        ∙ ap is_truth (sym (formula-here ns c) ∙ tree-decodes t)

  pub negated-words : (xs : List ℕ) (φ : Fmla) → Fits ws k φ → length xs + size φ ≤ max_nodes → negated (xs ++ words φ (length xs)) ≡ xs ++ words (cp_neg φ) (length xs)
  negated-words xs φ = go (neg-view φ)
    where
      go : {φ χ : Fmla} → NegView φ χ → Fits ws k φ → length xs + size φ ≤ max_nodes → negated (xs ++ words φ (length xs)) ≡ xs ++ words χ (length xs)
      go (neg_truth b) f h = negated-truth b xs
      go (neg_other {φ} e) f h = negated-other (xs ++ words φ (length xs)) (last-kind xs φ f h ∙ e) ∙ rw (end_after xs φ, append_assoc)

  pub joined_words : (u : Bool) (xs : List ℕ) (φ ψ : Fmla) → Fits ws k φ → Fits ws k ψ → is_truth φ ≡ false → length xs + (size φ + size ψ) ≤ max_nodes
      → joined (join_kind u) (length xs) (length xs + size φ) ((xs ++ words φ (length xs)) ++ words ψ (length xs + size φ)) ≡ xs ++ words (cp_join u φ ψ) (length xs)
  joined_words u xs φ ψ = go (join-view u φ ψ)
    where
      go : {φ ψ χ : Fmla} → JoinView u φ ψ χ → Fits ws k φ → Fits ws k ψ → is_truth φ ≡ false → length xs + (size φ + size ψ) ≤ max_nodes
          → joined (join_kind u) (length xs) (length xs + size φ) ((xs ++ words φ (length xs)) ++ words ψ (length xs + size φ)) ≡ xs ++ words χ (length xs)
      go left_unit f g n h = absurd (true≢false n)
      go left_zero f g n h = absurd (true≢false n)
      go {φ} (right_unit e) f g n h = joined-unit u (length xs) (length xs + size φ) (xs ++ words φ (length xs)) (end_after xs φ)
      go {φ} (right_zero e) f g n h = joined-zero u (length xs) (length xs + size φ) xs (words φ (length xs)) refl
      go (neither {φ} {ψ} e d) f g n h =
          let m : ℕ = length xs + size φ in
          let ys : List ℕ = xs ++ words φ (length xs) in
          let l : length ys ≡ m = end_after xs φ in
          let o = subst (λ j. eqb (kind (last (ys ++ words ψ j))) 0 ≡ false) l (last-kind ys ψ g (omega arith) ∙ d) in
          let z : length (ys ++ words ψ m) ≡ m + size ψ = subst (λ j. length (ys ++ words ψ j) ≡ j + size ψ) l (end_after ys ψ) in
          joined-other (join_kind u) (length xs) m (ys ++ words ψ m) o ∙ rw (z, words-join, append_assoc, append_assoc)

  pub quantified-words : (x : ℕ) (xs : List ℕ) (φ : Fmla) → Fits ws k φ → length xs + size φ ≤ max_nodes → quantified x (xs ++ words φ (length xs)) ≡ xs ++ words (exists_if_free x φ) (length xs)
  quantified-words x xs φ f h = rw (root-after xs φ f h, end_after xs φ) (go (member x (fv φ)))
    where
      go : (b : Bool) → cond b ((xs ++ words φ (length xs)) ++ (exists_word x (length xs + size φ - 1) ∷ [])) (xs ++ words φ (length xs)) ≡ xs ++ words (cond b (exists x φ) φ) (length xs)
      go true = append_assoc xs (words φ (length xs)) (exists_word x (length xs + size φ - 1) ∷ [])
      go false = refl

  -- ---- the word of a leaf

  pub leaf-words : (w : ℕ) (child : ℕ → Fmla) (n : ℕ) → malformed w ≡ false → mismatched ws w ≡ false → kind w ≤ 1 → words (cp (node_formula w child)) n ≡ w ∷ []
  leaf-words w child n f m h = go (kind-of w)
    where
      go : Kind w → words (cp (node_formula w child)) n ≡ w ∷ []
      go (truth-kind e) = rw e (ap (λ u. u ∷ []) (sym (truth_of-fields w e (nonzero-false (truth_rest w) (rw e at f)))))
      go (is_record e) = rw e (ap (λ u. u ∷ []) (sym (record-again w e (record-width ws w fit m e) (rw e at f))))
      go (is_equality e) = absurd (omega arith)
      go (is_not e) = absurd (omega arith)
      go (is_and e) = absurd (omega arith)
      go (is_or e) = absurd (omega arith)
      go (is_exists e) = absurd (omega arith)
      go (is_none j e) = absurd (omega arith)

  pub equality-words : (w : ℕ) (child : ℕ → Fmla) (n : ℕ) → malformed w ≡ false → kind w ≡ 2 → words (cp (node_formula w child)) n ≡ settled w ∷ []
  equality-words w child n f e = rw e (equality-settled w (variable w) (equal_term w) n (variable-small w) (equality-again w e (nonzero-false (equality_rest w) (rw e at f))))

  -- ---- what propagation makes can be packed

  neg-fitted : {φ χ : Fmla} → NegView φ χ → Fits ws k φ → Fits ws k χ
  neg-fitted (neg_truth b) f = truth_fits
  neg-fitted (neg_other e) f = neg_fits f

  join-fitted : (u : Bool) {φ ψ χ : Fmla} → JoinView u φ ψ χ → Fits ws k φ → Fits ws k ψ → Fits ws k χ
  join-fitted u left_unit f g = g
  join-fitted u left_zero f g = truth_fits
  join-fitted u (right_unit e) f g = f
  join-fitted u (right_zero e) f g = truth_fits
  join-fitted true (neither e d) f g = conj_fits f g
  join-fitted false (neither e d) f g = disj_fits f g

  exists-fitted : {x : ℕ} {φ χ : Fmla} → ExistsView x φ χ → x < 16 → Fits ws k φ → Fits ws k χ
  exists-fitted (kept i) h f = exists_fits h f
  exists-fitted (dropped n) h f = f

  eq-fitted : (x : ℕ) (t : Term) → Fits ws k (eq x t) → Fits ws k (cp_eq x t)
  eq-fitted x (con p) f = f
  eq-fitted x (var y) f = go (eqb x y)
    where
      go : (b : Bool) → Fits ws k (cond b (truth true) (eq x (var y)))
      go true = truth_fits
      go false = f

  pub fits-cp : (φ : Fmla) → Fits ws k φ → Fits ws k (cp φ)
  fits-cp (truth b) f = f
  fits-cp (rel r ts) f = f
  fits-cp (eq x t) f = eq-fitted x t f
  fits-cp (neg φ) (neg_fits f) = neg-fitted (neg-view (cp φ)) (fits-cp φ f)
  fits-cp (conj φ ψ) (conj_fits f g) = join-fitted true (join-view true (cp φ) (cp ψ)) (fits-cp φ f) (fits-cp ψ g)
  fits-cp (disj φ ψ) (disj_fits f g) = join-fitted false (join-view false (cp φ) (cp ψ)) (fits-cp φ f) (fits-cp ψ g)
  fits-cp (exists x φ) (exists_fits h f) = exists-fitted (exists-view x (cp φ)) h (fits-cp φ f)

-- ---- the form of an accepted query

-- The free variables of the form are among the query's.
columns-cp : (φ : Fmla) → length (columns (cp φ)) ≤ length (columns φ)
columns-cp φ = pigeonhole (columns φ) (ascending-distinct ltb ltb-order (columns-ascending (cp φ))) (λ x i. (columns-members φ x).1 (fv-cp φ x ((columns-members (cp φ) x).0 i)))

module _ (ws : List ℕ) (q : Query) (a : Accepted ws q) where
  pub form-packable : Packable ws (pool q) (cp (formula q))
  form-packable = record {
    fits = fits-cp ws (length (pool q)) a.widths_right a.packable.few_constants (formula q) a.packable.fits;
    few_nodes = omega (arith, size-cp (formula q), a.packable.few_nodes);
    few_constants = a.packable.few_constants;
    constants_fit = a.packable.constants_fit;
    few_columns = omega (arith, columns-cp (formula q), a.packable.few_columns);
  }

  pub form-accepted : Accepted ws (form_of q)
  form-accepted = packed-accepted ws (pool q) (cp (formula q)) a.widths_right form-packable

  -- The form is what the reader makes of the packing of the propagated formula.
  pub form-packed : (read_of ws (pack (pool q) (cp (formula q)))).query ≡ form_of q
  form-packed = ap (λ r. r.query) (read-pack ws (pool q) (cp (formula q)) a.widths_right form-packable).0

  pub form_count : (form_of q).node_count ≤ q.node_count
  form_count = omega (arith, length-words (cp (formula q)) 0, size-cp (formula q), a.size_is)

  pub form_pool : pool (form_of q) ≡ pool q
  form_pool = pool_of (pool q) (words (cp (formula q)) 0)

  pub form-formula : formula (form_of q) ≡ cp (formula q)
  form-formula = ap root (nodes_of-query (pool q) (words (cp (formula q)) 0)) ∙ root-words ws (pool q) (cp (formula q)) a.widths_right form-packable

  pub form-root : formula_at (form_of q).nodes ((form_of q).node_count - 1) ≡ cp (formula q)
  form-root = sym (formula-last ws (form_of q) form-accepted) ∙ form-formula

  form-tree : Tree (length (pool q)) (form_of q).nodes 0 (0 + size (cp (formula q)) - 1) (cp (formula q))
  form-tree =
      words-tree (length (pool q)) a.packable.few_constants (form_of q).nodes (cp (formula q)) 0 (fits-room ws (length (pool q)) a.widths_right form-packable.fits)
      (omega (arith, form-packable.few_nodes))
      (λ i h. rw zero-add (node_at (pool q) (words (cp (formula q)) 0) i h))

  pub form_is : IsForm (form_of q).nodes (form_of q).node_count
  form_is = record {
    some_node = form-accepted.some_node;
    few_nodes = form-accepted.few_nodes;
    places = nodes-length-is ws (form_of q) form-accepted;
    formed = form-accepted.formed;
    ordered = (λ i h. (tree-sound form-tree i (omega arith) (omega (arith, length-words (cp (formula q)) 0))).ordered);
  }

-- The nodes of a form stand in the list of its places.
pub form_in : {nodes : List ℕ} {n : ℕ} → IsForm nodes n → IsFormIn nodes n
form_in f = record { some_node = f.some_node; few_nodes = f.few_nodes; places = omega (arith, f.places, f.few_nodes); formed = f.formed; ordered = f.ordered }
