-- Nodes that stand as a formula's tree, left subtree first, then right, then the parent: they decode to the formula, and have no fault, the widths of
-- relations apart.
use Rattle.std.specs.Prelude.{ℕ, zero, suc, ◌+◌, ◌-◌, ◌≤◌, ◌<◌, ◌≡◌, refl, false, List, [], ◌∷◌, ◌++◌, length, get_or, take, leb}
use Rattle.std.proofs.Math.Decide.{dec_le, dec_lt}
use Rattle.std.proofs.Common.{arith, sym, ap, subst, ◌∙◌, append-nil, take-suc, eq-eqb, ne_eqb}
use Rattle.std.proofs.Math.Path.{subst⁻¹}
use Rattle.std.proofs.Math.Bool.{and-false}
use Rattle.std.proofs.Math.Seq.{take-length}
use Rattle.std.proofs.lemmas.Bool.{lt-leb}
use Rattle.calculus.specs.Sets.{In, here, there, any_of, union_of}
use Rattle.calculus.proofs.Theory.Sets.Laws.{in-nil, in_one, union-append}
use Rattle.calculus.specs.Formula.{Fmla, size}
use Rattle.causes.specs.Causes.{Check, check, first_cause, lowest}
use Rattle.causes.proofs.Theory.Causes.Laws.{lowest-all-clear}
use Rattle.query.specs.Nodes.{children, occurrences, uses, misplaced, malformed, strays, mismatched}
use Rattle.query.specs.Decoding.{formula_at, root}
use Rattle.query.proofs.Theory.Nodes.Sums.{sum_below, sum-below-only}
use Rattle.query.proofs.Theory.Nodes.Laws.{occurrences-append}
use Rattle.query.proofs.Theory.Decoding.Laws.{formula-step}
use Rattle.query.specs.Reading.{tree_checks}
use Rattle.query.specs.Packing.{Ordered, childless, after_child, after_both}
use Rattle.query.proofs.Theory.Packing.Fields.{Built}

-- The nodes n to c of ns are the tree of a formula, with the root c.
pub data Tree (k : ℕ) (ns : List ℕ) : ℕ → ℕ → Fmla → Type 0 where
  leaf : {n : ℕ} {φ : Fmla} → size φ ≡ 1 → Built k (get_or ns n 0) [] (λ f. φ) → Tree k ns n n φ
  one : {n c : ℕ} {φ : Fmla} (up : Fmla → Fmla) → size (up φ) ≡ size φ + 1 → Tree k ns n c φ → Built k (get_or ns (suc c) 0) (c ∷ []) (λ f. up (f c)) → Tree k ns n (suc c) (up φ)
  two : {n b c : ℕ} {φ ψ : Fmla} (up : Fmla → Fmla → Fmla) → size (up φ ψ) ≡ size φ + size ψ + 1 → Tree k ns n b φ → Tree k ns (suc b) c ψ
      → Built k (get_or ns (suc c) 0) (b ∷ c ∷ []) (λ f. up (f b) (f c)) → Tree k ns n (suc c) (up φ ψ)

-- ---- children are below

pub ordered-below : (ns : List ℕ) {i x : ℕ} {cs : List ℕ} → Ordered ns i cs → In x cs → x < i
ordered-below ns childless j = absurd (in-nil j)
ordered-below ns (after_child h) j = omega (arith, in_one j)
ordered-below ns (after_both g h) (here e) = omega arith
ordered-below ns (after_both g h) (there j) = omega (arith, in_one j)

-- Where an only child stands, and where two.
pub after_one : {ns : List ℕ} {i c : ℕ} → Ordered ns i (c ∷ []) → c + 1 ≡ i
after_one (after_child h) = h

pub after_two : {ns : List ℕ} {i l r : ℕ} → Ordered ns i (l ∷ r ∷ []) → (l + size (formula_at ns r) ≡ r) × (r + 1 ≡ i)
after_two (after_both g h) = (g, h)

below-clear : (i : ℕ) (cs : List ℕ) → ((x : ℕ) → In x cs → x < i) → any_of (leb i) cs ≡ false
below-clear i [] h = refl
below-clear i (c ∷ cs) h = rw (lt-leb i c (h c (here refl)), below-clear i cs (λ x j. h x (there j)))

-- What each node of a tree has by itself: no fault, the width of its relation apart, and its children in order before it.
pub record Sound (k : ℕ) (ns : List ℕ) (i : ℕ) : Type 0 where
  pub formed : malformed (get_or ns i 0) ≡ false
  pub ordered : Ordered ns i (children (get_or ns i 0))
  pub held : strays k (get_or ns i 0) ≡ false

above-one : {ns : List ℕ} (c : ℕ) → Ordered ns (suc c) (c ∷ [])
above-one c = after_child {c = c} (omega arith)

module _ {k : ℕ} {ns : List ℕ} where
  tree-spans : {n c : ℕ} {φ : Fmla} → Tree k ns n c φ → n + size φ ≡ suc c
  tree-spans (leaf z b) = omega arith
  tree-spans (one up z s b) = omega (arith, tree-spans s)
  tree-spans (two up z s t b) = omega (arith, tree-spans s, tree-spans t)

  above-two : {b c : ℕ} {ψ : Fmla} → Tree k ns (suc b) c ψ → formula_at ns c ≡ ψ → Ordered ns (suc c) (b ∷ c ∷ [])
  above-two {b} {c} t e = after_both {l = b} {r = c} (rw e (omega (arith, tree-spans t))) (omega arith)

  -- ---- the formula

  node-decodes : (i : ℕ) (cs : List ℕ) (φ : (ℕ → Fmla) → Fmla) → Built k (get_or ns i 0) cs φ → Ordered ns i cs → formula_at ns i ≡ φ (formula_at ns)
  node-decodes i cs φ b o = formula-step ns i (λ x j. ordered-below ns o (subst (In x) b.children_are j)) ∙ b.decoded (formula_at ns)

  -- The root's formula is the tree's.
  pub tree-decodes : {n c : ℕ} {φ : Fmla} → Tree k ns n c φ → formula_at ns c ≡ φ
  tree-decodes {n} (leaf {φ = φ} z b) = node-decodes n [] (λ f. φ) b childless
  tree-decodes (one {c = c} up z s b) = node-decodes (suc c) (c ∷ []) (λ f. up (f c)) b (above-one c) ∙ ap up (tree-decodes s)
  tree-decodes (two {b = a} {c} up z s t b) = node-decodes (suc c) (a ∷ c ∷ []) (λ f. up (f a) (f c)) b (above-two t (tree-decodes t)) ∙ (λ i. up (tree-decodes s i) (tree-decodes t i))

  -- ---- the faults of a node by itself

  node-sound : (i c : ℕ) (cs : List ℕ) {φ : (ℕ → Fmla) → Fmla} → Built k (get_or ns c 0) cs φ → Ordered ns c cs → c ≡ i → Sound k ns i
  node-sound i c cs b o e = subst (Sound k ns) e (record { formed = b.formed; ordered = subst⁻¹ (Ordered ns c) b.children_are o; held = b.held })

  -- No node of a tree has a fault by itself.
  pub tree-sound : {n c : ℕ} {φ : Fmla} → Tree k ns n c φ → (i : ℕ) → n ≤ i → i ≤ c → Sound k ns i
  tree-sound {n} (leaf z b) i h g = node-sound i n [] b childless (omega arith)
  tree-sound {n} (one {c = c} up z s b) i h g = go (dec_le i c) (λ l. tree-sound s i h l)
    where
      go : Dec (i ≤ c) → (i ≤ c → Sound k ns i) → Sound k ns i
      go (yes l) r = r l
      go (no l) r = node-sound i (suc c) (c ∷ []) b (above-one c) (omega arith)
  tree-sound {n} (two {b = a} {c} up z s t b) i h g = go (dec_le i a) (dec_le i c) (λ l. tree-sound s i h l) (λ l m. tree-sound t i l m)
    where
      go : Dec (i ≤ a) → Dec (i ≤ c) → (i ≤ a → Sound k ns i) → (suc a ≤ i → i ≤ c → Sound k ns i) → Sound k ns i
      go (yes l) d r q = r l
      go (no l) (yes m) r q = q (omega arith) m
      go (no l) (no m) r q = node-sound i (suc c) (a ∷ c ∷ []) b (above-two t (tree-decodes t)) (omega arith)

-- ---- each node but the root is a child exactly once

-- How often x is i, and how often it is a child of node i.
abbrev pub hits : ℕ → ℕ → ℕ
hits x i = occurrences x (i ∷ [])

abbrev pub uses_by : List ℕ → ℕ → ℕ → ℕ
uses_by ns x i = occurrences x (children (get_or ns i 0))

hits-itself : (x : ℕ) → hits x x ≡ 1
hits-itself x = rw (eq-eqb x x refl)

pub hits-other : (x i : ℕ) → (x ≡ i → ⊥) → hits x i ≡ 0
hits-other x i d = rw (ne_eqb x i d)

pub hits-once : (x n : ℕ) → x < n → sum_below (hits x) n ≡ 1
hits-once x n h = sum-below-only (hits x) x n (λ i d. hits-other x i (λ e. d (sym e))) h ∙ hits-itself x

uses-taken : (ns : List ℕ) (x m : ℕ) → m ≤ length ns → occurrences x (union_of children (take m ns)) ≡ sum_below (uses_by ns x) m
uses-taken ns x zero h = refl
uses-taken ns x (suc m) h =
    rw (take-suc ns m 0, union-append children (take m ns) (get_or ns m 0 ∷ []), occurrences-append x (union_of children (take m ns)) (union_of children (get_or ns m 0 ∷ [])), append-nil, uses-taken ns x m (omega arith))

pub uses-summed : (ns : List ℕ) (x : ℕ) → uses ns x ≡ sum_below (uses_by ns x) (length ns)
uses-summed ns x = ap (λ l. occurrences x (union_of children l)) (sym (take-length ns)) ∙ uses-taken ns x (length ns) (omega arith)

-- The children of the nodes n to c, with c, are the nodes n to c, each once.
abbrev pub Counts : List ℕ → ℕ → ℕ → Type 0
Counts ns n c = (x : ℕ) → sum_below (uses_by ns x) (suc c) + sum_below (hits x) n + hits x c ≡ sum_below (uses_by ns x) n + sum_below (hits x) (suc c)

module _ (ns : List ℕ) where
  pub counts-leaf : (c : ℕ) → children (get_or ns c 0) ≡ [] → Counts ns c c
  counts-leaf c e x = omega (arith, ap (occurrences x) e)

  pub counts-one : (n c : ℕ) → children (get_or ns (suc c) 0) ≡ c ∷ [] → Counts ns n c → Counts ns n (suc c)
  counts-one n c e s x = omega (arith, ap (occurrences x) e, s x)

  pub counts-two : (n b c : ℕ) → children (get_or ns (suc c) 0) ≡ b ∷ c ∷ [] → Counts ns n b → Counts ns (suc b) c → Counts ns n (suc c)
  counts-two n b c e s t x = omega (arith, ap (occurrences x) e, occurrences-append x (b ∷ []) (c ∷ []), s x, t x)

  -- Counted from node 0, each node but the last is a child once.
  pub counted-once : (c : ℕ) → Counts ns 0 c → length ns ≡ suc c → (x : ℕ) → x < c → uses ns x ≡ 1
  counted-once c s e x h = uses-summed ns x ∙ ap (sum_below (uses_by ns x)) e ∙ omega (arith, s x, hits-other x c (λ d. omega arith), hits-once x (suc c) (omega arith))

tree-counts : {k : ℕ} {ns : List ℕ} {n c : ℕ} {φ : Fmla} → Tree k ns n c φ → Counts ns n c
tree-counts {ns = ns} {n} (leaf z b) = counts-leaf ns n b.children_are
tree-counts {ns = ns} {n} (one {c = c} up z s b) = counts-one ns n c b.children_are (λ x. tree-counts s x)
tree-counts {ns = ns} {n} (two {b = a} {c} up z s t b) = counts-two ns n a c b.children_are (λ x. tree-counts s x) (λ x. tree-counts t x)

-- ---- the checks of the nodes find nothing, that of the widths apart

abbrev pub width_check : List ℕ → List ℕ → Check
width_check ws ns = check 9 (lowest (λ i. mismatched ws (get_or ns i 0)) (length ns))

module _ {k : ℕ} {ns : List ℕ} {c : ℕ} {φ : Fmla} (t : Tree k ns 0 c φ) (e : length ns ≡ suc c) where
  pub sound : (i : ℕ) → i < length ns → Sound k ns i
  sound i h = tree-sound t i (omega arith) (omega arith)

  none_above : (i : ℕ) → i < length ns → any_of (leb i) (children (get_or ns i 0)) ≡ false
  none_above i h = below-clear i (children (get_or ns i 0)) (λ x j. ordered-below ns (sound i h).ordered j)

  not-misplaced : (i : ℕ) → i < length ns → misplaced ns i ≡ false
  not-misplaced i h = go (dec_lt i c)
    where
      go : Dec (i < c) → misplaced ns i ≡ false
      go (yes l) = rw (none_above i h, counted-once ns c (λ x. tree-counts t x) e i l, and-false)
      go (no l) = rw (none_above i h, eq-eqb (i + 1) (length ns) (omega arith))

  -- Of the checks of the nodes only that of the widths can meet its cause.
  pub tree-clear : (ws : List ℕ) (rest : List Check) → first_cause (tree_checks ws k ns ++ rest) ≡ first_cause (width_check ws ns ∷ rest)
  tree-clear ws rest =
      rw (
        lowest-all-clear (λ i. malformed (get_or ns i 0)) (length ns) (λ i h. (sound i h).formed),
        lowest-all-clear (misplaced ns) (length ns) not-misplaced,
        lowest-all-clear (λ i. strays k (get_or ns i 0)) (length ns) (λ i h. (sound i h).held),
      )

  pub tree-root : root ns ≡ φ
  tree-root = let d : length ns - 1 ≡ c = omega arith in ap (formula_at ns) d ∙ tree-decodes t
