-- Nodes in packing's order: the nodes of a node's formula stand one after the other and end at that node. `ordered-ends` is the induction principle for them: a
-- property that each kind of node preserves holds at every node.
use Rattle.std.specs.Prelude.{ℕ, zero, suc, ◌+◌, ◌-◌, ◌≤◌, ◌<◌, ◌≡◌, refl, false, List, [], ◌∷◌, map, get_or, take, eqb}
use Rattle.std.proofs.Common.{arith, subst, ◌∙◌, true≢false}
use Rattle.std.proofs.Math.Path.{subst⁻¹}
use Rattle.calculus.specs.Formula.{Fmla, truth, rel, eq, neg, conj, disj, exists, size}
use Rattle.query.specs.Nodes.{kind, truth_bit, relation, term_count, terms, variable, equal_term, left, right, under, children, malformed}
use Rattle.query.specs.Decoding.{term_of, node_formula, formula_at}
use Rattle.query.proofs.Theory.Decoding.Laws.{Kind, is_truth, is_record, is_equality, is_not, is_and, is_or, is_exists, is_none, kind-of, formula-step}
use Rattle.query.specs.Packing.{Ordered}
use Rattle.query.proofs.Theory.Packing.Trees.{ordered-below, after_one, after_two}

-- The nodes of φ are those from some m up to i, and P is so of φ and m.
abbrev pub Ends : (ℕ → Fmla → Type 0) → ℕ → Fmla → Type 0
Ends P i φ = (m : ℕ) × (m + size φ ≡ suc i) × P m φ

-- ---- the steps

module _ (ns : List ℕ) (n : ℕ) (P : ℕ → Fmla → Type 0) where
  -- Of node i, of kind k: without children; above φ, whose nodes are those from m on; and above φ and ψ.
  abbrev pub LeafKept : ℕ → (ℕ → Fmla) → Type 0
  LeafKept k made = (i : ℕ) → let w = get_or ns i 0 in i < n → kind w ≡ k → formula_at ns i ≡ made w → P i (made w)

  abbrev pub OneKept : ℕ → (ℕ → ℕ) → (ℕ → Fmla → Fmla) → Type 0
  OneKept k child up = (i m : ℕ) (φ : Fmla) → let w = get_or ns i 0 in i < n → kind w ≡ k → formula_at ns i ≡ up w φ → m + size φ ≡ i → child w ≡ m + size φ - 1 → P m φ → P m (up w φ)

  abbrev pub TwoKept : ℕ → (Fmla → Fmla → Fmla) → Type 0
  TwoKept k up =
      (i m : ℕ) (φ ψ : Fmla) → let w = get_or ns i 0 in i < n → kind w ≡ k → formula_at ns i ≡ up φ ψ
      → m + (size φ + size ψ) ≡ i → left w ≡ m + size φ - 1 → right w ≡ m + size φ + size ψ - 1 → P m φ → P (m + size φ) ψ → P m (up φ ψ)

  -- Every step keeps P.
  pub record Kept : Type 0 where
    pub truth-kept : LeafKept 0 (λ w. truth (eqb (truth_bit w) 1))
    pub record-kept : LeafKept 1 (λ w. rel (relation w) (map term_of (take (term_count w) (terms w))))
    pub equality-kept : LeafKept 2 (λ w. eq (variable w) (term_of (equal_term w)))
    pub not-kept : OneKept 3 left (λ w. neg)
    pub and_kept : TwoKept 4 conj
    pub or_kept : TwoKept 5 disj
    pub exists-kept : OneKept 6 under (λ w. exists (variable w))

-- ---- by course of values

module _ (ns : List ℕ) (n : ℕ) (P : ℕ → Fmla → Type 0) (kept : Kept ns n P) (formed : (i : ℕ) → i < n → malformed (get_or ns i 0) ≡ false) (ordered : (i : ℕ) → i < n → Ordered ns i (children (get_or ns i 0))) where
  -- Node i, where the nodes before it are known.
  module _ (i : ℕ) (h : i < n) (before : (c : ℕ) → c < i → Ends P c (formula_at ns c)) where
    abbrev w : ℕ
    w = get_or ns i 0

    leaf-ends : (k : ℕ) (made : ℕ → Fmla) → size (made w) ≡ 1 → LeafKept ns n P k made → kind w ≡ k → formula_at ns i ≡ made w → Ends P i (formula_at ns i)
    leaf-ends k made s keep e f = subst⁻¹ (Ends P i) f (i, omega arith, keep i h e f)

    one-ends : (k : ℕ) (child : ℕ → ℕ) (up : ℕ → Fmla → Fmla) → ((φ : Fmla) → size (up w φ) ≡ size φ + 1) → OneKept ns n P k child up
        → kind w ≡ k → formula_at ns i ≡ up w (formula_at ns (child w)) → Ordered ns i (child w ∷ []) → Ends P i (formula_at ns i)
    one-ends k child up s keep e f o =
        let φ : Fmla = formula_at ns (child w) in
        let g : child w + 1 ≡ i = after_one o in
        let r : Ends P (child w) φ = before (child w) (omega arith) in
        subst⁻¹ (Ends P i) f (r.0, omega (arith, s φ, r.1), keep i r.0 φ h e f (omega (arith, r.1)) (omega (arith, r.1)) r.2)

    two_ends : (k : ℕ) (up : Fmla → Fmla → Fmla) → ((φ ψ : Fmla) → size (up φ ψ) ≡ size φ + size ψ + 1) → TwoKept ns n P k up
        → kind w ≡ k → formula_at ns i ≡ up (formula_at ns (left w)) (formula_at ns (right w)) → Ordered ns i (left w ∷ right w ∷ []) → Ends P i (formula_at ns i)
    two_ends k up s keep e f o =
        let φ : Fmla = formula_at ns (left w) in
        let ψ : Fmla = formula_at ns (right w) in
        let g = after_two o in
        let r : Ends P (left w) φ = before (left w) (omega (arith, g.0, g.1)) in
        let q : Ends P (right w) ψ = before (right w) (omega (arith, g.1)) in
        let d : r.0 + (size φ + size ψ) ≡ i = omega (arith, r.1, g.0, g.1) in
        let b : q.0 ≡ r.0 + size φ = omega (arith, r.1, q.1, g.0) in
        subst⁻¹ (Ends P i) f (r.0, omega (arith, s φ ψ), keep i r.0 φ ψ h e f d (omega (arith, r.1)) (omega (arith, g.1)) r.2 (subst (λ m. P m ψ) b q.2))

    node-ends : formula_at ns i ≡ node_formula w (formula_at ns) → Ordered ns i (children w) → Kind w → Ends P i (formula_at ns i)
    node-ends f o (is_truth e) = leaf-ends 0 (λ w. truth (eqb (truth_bit w) 1)) refl kept.truth-kept e (f ∙ rw e)
    node-ends f o (is_record e) = leaf-ends 1 (λ w. rel (relation w) (map term_of (take (term_count w) (terms w)))) refl kept.record-kept e (f ∙ rw e)
    node-ends f o (is_equality e) = leaf-ends 2 (λ w. eq (variable w) (term_of (equal_term w))) refl kept.equality-kept e (f ∙ rw e)
    node-ends f o (is_not e) = one-ends 3 left (λ w. neg) (λ φ. refl) kept.not-kept e (f ∙ rw e) (rw e at o)
    node-ends f o (is_and e) = two_ends 4 conj (λ φ ψ. refl) kept.and_kept e (f ∙ rw e) (rw e at o)
    node-ends f o (is_or e) = two_ends 5 disj (λ φ ψ. refl) kept.or_kept e (f ∙ rw e) (rw e at o)
    node-ends f o (is_exists e) = one-ends 6 under (λ w. exists (variable w)) (λ φ. refl) kept.exists-kept e (f ∙ rw e) (rw e at o)
    node-ends f o (is_none k e) = absurd (true≢false (rw e at (formed i h)))

  ends-below : (b i : ℕ) → i < b → i < n → Ends P i (formula_at ns i)
  ends-below zero i g h = absurd (omega arith)
  ends-below (suc b) i g h =
      node-ends i h (λ c l. ends-below b c (omega arith) (omega arith)) (formula-step ns i (λ c j. ordered-below ns (ordered i h) j)) (ordered i h) (kind-of (get_or ns i 0))

  pub ordered-ends : (i : ℕ) → i < n → Ends P i (formula_at ns i)
  ordered-ends i h = ends-below n i h h

  -- Where all the nodes are the last one's, the first of them is node 0.
  pub whole-kept : 1 ≤ n → size (formula_at ns (n - 1)) ≡ n → P 0 (formula_at ns (n - 1))
  whole-kept p e =
      let r : Ends P (n - 1) (formula_at ns (n - 1)) = ordered-ends (n - 1) (omega arith) in
      let z : r.0 ≡ 0 = omega (arith, r.1) in
      subst (λ m. P m (formula_at ns (n - 1))) z r.2
