-- Laws of the values of the form's functions. An array holds the words so far, with zeros after them; what a function does to it is what a node does to the
-- words; and by the laws of the form, a node makes of its children's forms its own.
use Prim.Native.Nat.{ℕ, suc, ◌+◌, ◌-◌, ◌≤◌, ◌<◌}
use native.Mathlib.Omega.{arith}
use mathlib.Core.Path.{◌≡◌, refl, sym, ap, subst, subst⁻¹, ◌∙◌}
use mathlib.Core.Logic.{inl, inr}
use mathlib.Core.Bool.{Bool, true, false, true≢false, not, cond}
use mathlib.Core.List.{List, [], ◌∷◌, ◌++◌}
use lib.ListN.{length, get_or, take, drop, set, replicate, length-append, length-take}
use lib.Dec.{T, eqb}
use lib.Seq.{take-append_seam, drop-append_seam, drop-drop, take-suc, take-take, length-take-le, get_or-take}
use borrow.Author.Tests.{eq-eqb, ne_eqb}
use Rattle.calculus.specs.Sets.{In, here}
use Rattle.calculus.specs.Lists.{padded}
use Rattle.calculus.proofs.Theory.Lists.Laws.{length-padded, padded-over, padded-put}
use Rattle.calculus.specs.Formula.{Fmla, truth, neg, exists, size}
use Rattle.calculus.specs.Propagation.{is_truth as is-a-truth, cp}
use Rattle.calculus.proofs.Theory.Propagation.Laws.{TruthView, a_truth, no_truth, truth-view, join, cp_join, join-unit-left, join-zero-left, size-cp}
use Rattle.causes.specs.Causes.{widths_fit}
use Rattle.query.specs.Nodes.{kind, variable, equal_term, left, right, under, children, malformed, mismatched}
use Rattle.query.proofs.Theory.Nodes.Laws.{both-children}
use Rattle.query.specs.Code.Fields.{kind_of, IsNode}
use Rattle.query.specs.declared.node.Node.{Node}
use Rattle.query.specs.declared.node.Node.TheVariants.{Truth, Record, Equality, Not, Join, Exists, Unknown}
use Rattle.query.specs.declared.node.Connective.{Connective}
use Rattle.query.specs.declared.node.Connective.TheVariants.{And, Or}
use Rattle.query.specs.Decoding.{node_formula, formula_at}
use Rattle.query.specs.declared.Query.{Query}
use Rattle.query.specs.Reading.{max_nodes, max_constants, formula}
use Rattle.query.specs.Packing.{words, Fits}
use Rattle.query.proofs.Theory.Packing.Fields.{formed-kind}
use Rattle.query.proofs.Theory.Packing.Laws.{size-positive, length-words}
use Rattle.query.proofs.Theory.Accepted.Laws.{formula-node, formula-fits, formula-last}
use Rattle.std.proofs.lemmas.List.{replicate-append-replicate}
use borrow.Rule.Slice.PartMut.{put_mid}
use Rattle.verdict.specs.declared.form.Words.{Words}
use Rattle.verdict.specs.Form.{form_of}
use Rattle.verdict.specs.Code.Form.{IsAccepted, InQuery, held, IsHeld, written, last, true_word, settled, negated, joined, unit_word, quantified}
use Rattle.verdict.proofs.Theory.Form.Laws.{join_kind, last-truth, fits-cp, last-kind, negated-words, joined_words, quantified-words, leaf-words, equality-words}

-- ---- one element more

length-snoc : {A : Type 0} (ys : List A) (v : A) → length (ys ++ (v ∷ [])) ≡ length ys + 1
length-snoc ys v = length-append ys (v ∷ [])

-- The first i elements, the last of these apart.
take_last : (l : List ℕ) (i : ℕ) → 0 < i → i ≤ length l → take i l ≡ take (i - 1) l ++ (get_or l (i - 1) 0 ∷ [])
take_last l i h n = ap (λ k. take k l) next ∙ take-suc l (i - 1) 0 (omega arith)
  where
    next : i ≡ suc (i - 1)
    next = omega arith

-- ---- an array that holds words: (their number, the array) ≡ written words

module _ (out : List ℕ) (at : ℕ) where
  -- With zeros from `at` on.
  module _ (h : at ≤ max_nodes) (e : out ≡ padded max_nodes 0 (take at out)) where
    pub places : length out ≡ max_nodes
    places = ap length e ∙ length-padded max_nodes 0 (take at out) (omega (arith, length-take at out))

    pub held-front : (at, out) ≡ written (take at out)
    held-front = λ i. (sym (length-take-le at out (omega (arith, places))) i, e i)

  module _ (xs : List ℕ) (e : (at, out) ≡ written xs) where
    count_is : at ≡ length xs
    count_is = ap (λ p. p.0) e

    array-is : out ≡ padded max_nodes 0 xs
    array-is = ap (λ p. p.1) e

    front-is : take at out ≡ xs
    front-is = (λ i. take (count_is i) (array-is i)) ∙ take-append_seam xs (replicate (max_nodes - length xs) 0)

    pub held-again : out ≡ padded max_nodes 0 (take at out)
    held-again = array-is ∙ ap (padded max_nodes 0) (sym front-is)

    -- One word more.
    pub held_more : (w : ℕ) → at < max_nodes → (at + 1, set out at w) ≡ written (xs ++ (w ∷ []))
    held_more w h = λ i. (count i, array i)
      where
        count : at + 1 ≡ length (xs ++ (w ∷ []))
        count = ap (λ k. k + 1) count_is ∙ sym (length-snoc xs w)

        array : set out at w ≡ padded max_nodes 0 (xs ++ (w ∷ []))
        array = (λ i. set (array-is i) (count_is i) w) ∙ padded-put max_nodes 0 xs w (omega (arith, count_is))

-- As the code has them: one struct of both.
abbrev pub pair : Words → ℕ × List ℕ
pair w = (w.count, w.nodes)

abbrev pub struct_of : ℕ × List ℕ → Words
struct_of p = record { nodes = p.1; count = p.0 }

pub held-struct : (w : Words) (xs : List ℕ) → w ≡ held xs → IsHeld w
held-struct w xs e = e ∙ ap held (sym (front-is w.nodes w.count xs (ap pair e)))

-- The last of `end` words is written over.
module _ (out : List ℕ) (end : ℕ) (ys : List ℕ) (v : ℕ) (e : (end, out) ≡ written (ys ++ (v ∷ []))) where
  count_less : end - 1 ≡ length ys
  count_less = omega (arith, count_is out end (ys ++ (v ∷ [])) e, length-snoc ys v)

  held-over : (w : ℕ) → (end, set out (end - 1) w) ≡ written (ys ++ (w ∷ []))
  held-over w = λ i. (count i, array i)
    where
      count : end ≡ length (ys ++ (w ∷ []))
      count = count_is out end (ys ++ (v ∷ [])) e ∙ length-snoc ys v ∙ sym (length-snoc ys w)

      array : set out (end - 1) w ≡ padded max_nodes 0 (ys ++ (w ∷ []))
      array = (λ i. set (e i).1 (count_less i) w) ∙ padded-over max_nodes 0 ys v w

-- The last of them are dropped.
module _ (out : List ℕ) (at end : ℕ) (xs : List ℕ) (h : at ≤ end) (m : end ≤ max_nodes) (e : (end, out) ≡ written xs) where
  length_front : length (take at xs) ≡ at
  length_front = length-take-le at xs (omega (arith, count_is out end xs e))

  zeros_after : drop (end - at) (drop at out) ≡ replicate (max_nodes - end) 0
  zeros_after =
      drop-drop (end - at) at out
      ∙ ap (λ k. drop k out) (omega arith)
      ∙ (λ i. drop (count_is out end xs e i) (array-is out end xs e i))
      ∙ drop-append_seam xs (replicate (max_nodes - length xs) 0)
      ∙ ap (λ k. replicate (max_nodes - k) 0) (sym (count_is out end xs e))

  pub held_cut : (k : ℕ) → k ≡ end - at → (at, put_mid at (end - at) out (replicate k 0)) ≡ written (take at xs)
  held_cut k d = λ i. (sym length_front i, array i)
    where
      array : take at out ++ (replicate k 0 ++ drop (end - at) (drop at out)) ≡ padded max_nodes 0 (take at xs)
      array =
          (λ i. take-front i ++ (replicate k 0 ++ zeros_after i))
          ∙ ap (λ l. take at xs ++ l) (replicate-append-replicate k (max_nodes - end) 0)
          ∙ ap (λ j. take at xs ++ replicate j 0) (omega (arith, length_front))
        where
          take-front : take at out ≡ take at xs
          take-front = sym (take-take at end out h) ∙ ap (take at) (front-is out end xs e)

-- ---- the words up to `end`, and what a node does to them

module _ (out : List ℕ) (end : ℕ) (some : 1 ≤ end) (room : end < max_nodes) (e : out ≡ padded max_nodes 0 (take end out)) where
  held-end : (end, out) ≡ written (take end out)
  held-end = held-front out end (omega arith) e

  count : length (take end out) ≡ end
  count = sym (ap (λ p. p.0) held-end)

  last-is : last (take end out) ≡ get_or out (end - 1) 0
  last-is = ap (λ k. get_or (take end out) (k - 1) 0) count ∙ get_or-take end out (end - 1) 0 (omega arith)

  -- Another last word, and one word more.
  over : (w : ℕ) → (end, set out (end - 1) w) ≡ written (take (length (take end out) - 1) (take end out) ++ (w ∷ []))
  over w =
      held-over out end (take (end - 1) out) (get_or out (end - 1) 0) (held-end ∙ ap written (take_last out end some (omega (arith, places out end (omega arith) e)))) w
      ∙ ap (λ ys. written (ys ++ (w ∷ []))) (sym (take-take (end - 1) end out (omega arith)) ∙ ap (λ k. take (k - 1) (take end out)) (sym count))

  pub negated-false : get_or out (end - 1) 0 ≡ 0 → (end, set out (end - 1) true_word) ≡ written (negated (take end out))
  negated-false h = rw (eq-eqb (last (take end out)) 0 (last-is ∙ h)) (over true_word)

  pub negated-true : get_or out (end - 1) 0 ≡ true_word → (end, set out (end - 1) 0) ≡ written (negated (take end out))
  negated-true h = rw (last-is, h) (over 0)

-- ---- a form after other words

-- From `at` on, up to `end`.
pub record Grown (out : List ℕ) (at : ℕ) (φ : Fmla) (now : List ℕ) (end : ℕ) : Type 0 where
  pub ends : end ≡ at + size (cp φ)
  pub longer : at < end
  pub short : end ≤ at + size φ
  pub again : now ≡ padded max_nodes 0 (take end now)
  pub front : take end now ≡ take at out ++ words (cp φ) at

grown : (out : List ℕ) (at : ℕ) (φ : Fmla) (now : List ℕ) (end : ℕ) → at ≤ max_nodes → out ≡ padded max_nodes 0 (take at out) → (end, now) ≡ written (take at out ++ words (cp φ) at) → Grown out at φ now end
grown out at φ now end h e g = record {
  ends = ends;
  longer = omega (arith, ends, size-positive (cp φ));
  short = omega (arith, ends, size-cp φ);
  again = held-again now end (take at out ++ words (cp φ) at) g;
  front = front-is now end (take at out ++ words (cp φ) at) g;
}
  where
    ends : end ≡ at + size (cp φ)
    ends = omega (arith, ap (λ p. p.0) g, length-append (take at out) (words (cp φ) at), length-words (cp φ) at, ap (λ p. p.0) (held-front out at h e))

-- ---- a node by its kind

node-not : (w : ℕ) (child : ℕ → Fmla) → kind w ≡ 3 → node_formula w child ≡ neg (child (left w))
node-not w child e = rw e

node-exists : (w : ℕ) (child : ℕ → Fmla) → kind w ≡ 6 → node_formula w child ≡ exists (variable w) (child (under w))
node-exists w child e = rw e

node-join : (u : Bool) (w : ℕ) (child : ℕ → Fmla) → kind w ≡ join_kind u → node_formula w child ≡ join u (child (left w)) (child (right w))
node-join true w child e = rw e
node-join false w child e = rw e

node-both : (u : Bool) (w : ℕ) → kind w ≡ join_kind u → In (left w) (children w) × In (right w) (children w)
node-both true w e = both-children w (inl e)
node-both false w e = both-children w (inr e)

size-join : (u : Bool) (φ ψ : Fmla) → size (join u φ ψ) ≡ size φ + size ψ + 1
size-join true φ ψ = refl
size-join false φ ψ = refl

cp-of-join : (u : Bool) (φ ψ : Fmla) → cp (join u φ ψ) ≡ cp_join u (cp φ) (cp ψ)
cp-of-join true φ ψ = refl
cp-of-join false φ ψ = refl

-- The truth value that a connective drops.
abbrev pub drops : Connective → Bool
drops And = true
drops Or = false

pub kind-drops : (k : Connective) → kind_of k ≡ join_kind (drops k)
kind-drops And = refl
kind-drops Or = refl

-- What is left over: a truth value or a record.
pub leaf-kind : (w : ℕ) (n : Node) → IsNode w n → kind w < 7 → ((x t : ℕ) → n ≡ Equality x t → ⊥) → ((c : ℕ) → n ≡ Not c → ⊥) → ((k : Connective) (l r : ℕ) → n ≡ Join k l r → ⊥) → ((x c : ℕ) → n ≡ Exists x c → ⊥) → kind w ≤ 1
leaf-kind w (Truth b) h l e f g k = omega (arith, h.0)
leaf-kind w (Record a) h l e f g k = omega (arith, h.0)
leaf-kind w (Equality x t) h l e f g k = absurd (e x t refl)
leaf-kind w (Not c) h l e f g k = absurd (f c refl)
leaf-kind w (Join j m r) h l e f g k = absurd (g j m r refl)
leaf-kind w (Exists x c) h l e f g k = absurd (k x c refl)
leaf-kind w Unknown h l e f g k = absurd (omega arith)

pub no-truth-value : (w : ℕ) (n : Node) → IsNode w n → ((b : Bool) → n ≡ Truth b → ⊥) → kind w ≡ 0 → ⊥
no-truth-value w (Truth b) h f e = f b refl
no-truth-value w (Record a) h f e = omega (arith, h.0)
no-truth-value w (Equality x t) h f e = omega (arith, h.0)
no-truth-value w (Not c) h f e = omega (arith, h.0)
no-truth-value w (Join And m r) h f e = omega (arith, h.0)
no-truth-value w (Join Or m r) h f e = omega (arith, h.0)
no-truth-value w (Exists x c) h f e = omega (arith, h.0)
no-truth-value w Unknown h f e = omega arith

-- An equality as the test tells it.
pub settled-same : (w x t : ℕ) → x ≡ variable w → t ≡ equal_term w → x ≡ t → true_word ≡ settled w
settled-same w x t d e h = rw (eq-eqb (variable w) (equal_term w) (sym d ∙ h ∙ e))

pub settled-other : (w x t : ℕ) → x ≡ variable w → t ≡ equal_term w → (x ≡ t → ⊥) → w ≡ settled w
settled-other w x t d e h = rw (ne_eqb (variable w) (equal_term w) (λ f. h (d ∙ f ∙ sym e)))

-- ---- truth values, as formulas and as words

truth-is : {φ : Fmla} → TruthView φ → is-a-truth φ ≡ true → (b : Bool) × (φ ≡ truth b)
truth-is (a_truth b) e = (b, refl)
truth-is (no_truth n) e = absurd (true≢false (sym e ∙ n))

unit-of : (u : Bool) → unit_word (join_kind u) ≡ cond u true_word 0
unit-of true = refl
unit-of false = refl

same_truth : (b u : Bool) → cond b true_word 0 ≡ cond u true_word 0 → b ≡ u
same_truth true true e = refl
same_truth true false e = absurd (omega arith)
same_truth false true e = absurd (omega arith)
same_truth false false e = refl

other-truth : (b u : Bool) → (cond b true_word 0 ≡ cond u true_word 0 → ⊥) → b ≡ not u
other-truth true true n = absurd (n refl)
other-truth true false n = refl
other-truth false true n = refl
other-truth false false n = absurd (n refl)

-- ---- propagation of a node, from `at` on

-- What a call for node i asks for.
pub record Task (ns : List ℕ) (i : ℕ) (out : List ℕ) (at : ℕ) : Type 0 where
  pub inside : InQuery ns i
  pub room : at + size (formula_at ns i) ≤ max_nodes
  pub zeros : out ≡ padded max_nodes 0 (take at out)

-- And for its child c: besides, a word stays free for the parent.
pub record Child (ns : List ℕ) (i c at : ℕ) : Type 0 where
  pub below : c < i
  pub inside : InQuery ns c
  pub room : at + size (formula_at ns c) < max_nodes

-- As the call asks for it, at a measure that is i.
pub child-asks : {ns : List ℕ} {i c at t : ℕ} → i ≡ t → Child ns i c at → {A : Type 0} → A → (c < t) × (InQuery ns c × A × (at + size (formula_at ns c) ≤ max_nodes))
child-asks e a z = (omega (arith, a.below), (a.inside, z, omega (arith, a.room)))

-- Of what the code asks for.
pub task : {ns : List ℕ} {i : ℕ} {out : Words} → InQuery ns i × IsHeld out × (out.count + size (formula_at ns i) ≤ max_nodes) → Task ns i out.nodes out.count
task r = record { inside = r.0; room = r.2; zeros = ap (λ (w : Words). w.nodes) r.1 }

-- What it has done.
abbrev pub Done : List ℕ → ℕ → List ℕ → ℕ → ℕ × List ℕ → Type 0
Done ns i out at p = p ≡ written (take at out ++ words (cp (formula_at ns i)) at)

module _ {ns : List ℕ} {i : ℕ} {out : List ℕ} {at : ℕ} (k : Task ns i out at) where
  abbrev w : ℕ
  w = get_or ns i 0

  abbrev ws : List ℕ
  ws = k.inside.widths

  abbrev constants : ℕ
  constants = k.inside.query.constant_count

  abbrev fit : T (widths_fit ws)
  fit = k.inside.accepted.widths_right

  abbrev few : constants ≤ max_constants
  few = k.inside.accepted.few_constants

  -- ---- the node

  node-is : formula_at ns i ≡ node_formula w (formula_at ns)
  node-is = subst⁻¹ (λ l. formula_at l i ≡ node_formula (get_or l i 0) (formula_at l)) k.inside.nodes_are (formula-node ws k.inside.query k.inside.accepted i k.inside.within)

  formed : malformed w ≡ false
  formed = subst⁻¹ (λ l. malformed (get_or l i 0) ≡ false) k.inside.nodes_are (k.inside.accepted.formed i k.inside.within)

  matched : mismatched ws w ≡ false
  matched = subst⁻¹ (λ l. mismatched ws (get_or l i 0) ≡ false) k.inside.nodes_are (k.inside.accepted.relations_held i k.inside.within)

  pub node-kind : kind w < 7
  node-kind = formed-kind w formed

  -- ---- its children

  child-below : (c : ℕ) → In c (children w) → c < i
  child-below = subst⁻¹ (λ l. (c : ℕ) → In c (children (get_or l i 0)) → c < i) k.inside.nodes_are (k.inside.accepted.children_below i k.inside.within)

  child_fits : (c : ℕ) → In c (children w) → Fits ws constants (cp (formula_at ns c))
  child_fits c m =
      let b : c < i = child-below c m in
      fits-cp ws constants fit few (formula_at ns c)
      (subst⁻¹ (λ l. Fits ws constants (formula_at l c)) k.inside.nodes_are (formula-fits ws k.inside.query k.inside.accepted c (omega (arith, k.inside.within))))

  child : (c from : ℕ) → In c (children w) → from + size (formula_at ns c) < max_nodes → Child ns i c from
  child c from m r =
      let b : c < i = child-below c m in
      record { below = b; inside = record { widths = ws; query = k.inside.query; accepted = k.inside.accepted; nodes_are = k.inside.nodes_are; within = omega (arith, k.inside.within) }; room = r }

  -- ---- the words before it

  pub at-below : at < max_nodes
  at-below = omega (arith, k.room, size-positive (formula_at ns i))

  count_at : length (take at out) ≡ at
  count_at = sym (ap (λ p. p.0) (held-front out at (omega (arith, at-below)) k.zeros))

  -- A child's form after them.
  pub child-grown : (c : ℕ) {now : List ℕ} {end : ℕ} → Done ns c out at (end, now) → Grown out at (formula_at ns c) now end
  child-grown c {now} {end} g = grown out at (formula_at ns c) now end (omega (arith, at-below)) k.zeros g

  -- ---- a truth value, a record, an equality

  one_word : (v : ℕ) → words (cp (node_formula w (formula_at ns))) at ≡ v ∷ [] → {p : ℕ × List ℕ} → p ≡ written (take at out ++ (v ∷ [])) → Done ns i out at p
  one_word v f g = g ∙ ap (λ l. written (take at out ++ l)) (sym (ap (λ φ. words (cp φ) at) node-is ∙ f))

  pub leaf-done : kind w ≤ 1 → {p : ℕ × List ℕ} → p ≡ written (take at out ++ (w ∷ [])) → Done ns i out at p
  leaf-done h g = one_word w (leaf-words ws constants fit few w (formula_at ns) at formed matched h) g

  pub equality-done : kind w ≡ 2 → {v : ℕ} → v ≡ settled w → {p : ℕ × List ℕ} → p ≡ written (take at out ++ (v ∷ [])) → Done ns i out at p
  equality-done h {v} f g = one_word v (equality-words ws constants fit few w (formula_at ns) at formed h ∙ ap (λ u. u ∷ []) (sym f)) g

  -- ---- a node of one child

  -- Of node i with the formula χ: what it does to the words after which the child's form stands.
  module _ (c : ℕ) (m : In c (children w)) (χ : Fmla) (is : formula_at ns i ≡ χ) (one : size χ ≡ size (formula_at ns c) + 1) where
    one-asks : Child ns i c at
    one-asks = child c at m (omega (arith, k.room, ap size is, one))

    one-done : (step : List ℕ → List ℕ) → ((xs : List ℕ) → Fits ws constants (cp (formula_at ns c)) → length xs + size (cp (formula_at ns c)) ≤ max_nodes → step (xs ++ words (cp (formula_at ns c)) (length xs)) ≡ xs ++ words (cp χ) (length xs))
        → {now : List ℕ} {end : ℕ} → Done ns c out at (end, now) → {p : ℕ × List ℕ} → p ≡ written (step (take end now)) → Done ns i out at p
    one-done step law g n =
        n ∙ ap (λ l. written (step l)) (child-grown c g).front
        ∙ ap written (subst (λ l. step (take at out ++ words (cp (formula_at ns c)) l) ≡ take at out ++ words (cp χ) l) count_at
        (law (take at out) (child_fits c m) (omega (arith, count_at, size-cp (formula_at ns c), one-asks.room))))
        ∙ ap (λ φ. written (take at out ++ words (cp φ) at)) (sym is)

  module _ (h : kind w ≡ 3) where
    abbrev negation : Fmla
    negation = neg (formula_at ns (left w))

    not_is : formula_at ns i ≡ negation
    not_is = node-is ∙ node-not w (formula_at ns) h

    pub not-asks : Child ns i (left w) at
    not-asks = one-asks (left w) (rw h (here refl)) negation not_is refl

    pub not_done : {now : List ℕ} {end : ℕ} → Done ns (left w) out at (end, now) → {p : ℕ × List ℕ} → p ≡ written (negated (take end now)) → Done ns i out at p
    not_done = one-done (left w) (rw h (here refl)) negation not_is refl negated (λ xs. negated-words ws constants fit few xs (cp (formula_at ns (left w))))

  module _ (h : kind w ≡ 6) where
    abbrev quantification : Fmla
    quantification = exists (variable w) (formula_at ns (under w))

    exists-is : formula_at ns i ≡ quantification
    exists-is = node-is ∙ node-exists w (formula_at ns) h

    pub exists-asks : Child ns i (under w) at
    exists-asks = one-asks (under w) (rw h (here refl)) quantification exists-is refl

    pub exists-done : {now : List ℕ} {end : ℕ} → Done ns (under w) out at (end, now) → {p : ℕ × List ℕ} → p ≡ written (quantified (variable w) (take end now)) → Done ns i out at p
    exists-done = one-done (under w) (rw h (here refl)) quantification exists-is refl (quantified (variable w)) (λ xs. quantified-words ws constants fit few (variable w) xs (cp (formula_at ns (under w))))

  -- ---- an and, an or

  module _ (u : Bool) (h : kind w ≡ join_kind u) where
    join_is : formula_at ns i ≡ join u (formula_at ns (left w)) (formula_at ns (right w))
    join_is = node-is ∙ node-join u w (formula_at ns) h

    join-size : size (formula_at ns i) ≡ size (formula_at ns (left w)) + size (formula_at ns (right w)) + 1
    join-size = ap size join_is ∙ size-join u (formula_at ns (left w)) (formula_at ns (right w))

    pub left-asks : Child ns i (left w) at
    left-asks = child (left w) at (node-both u w h).0 (omega (arith, k.room, join-size))

    pub right-asks : (middle : ℕ) → middle ≤ at + size (formula_at ns (left w)) → Child ns i (right w) middle
    right-asks middle l = child (right w) middle (node-both u w h).1 (omega (arith, k.room, join-size))

    -- The left subtree's form stands there, up to `middle`; its last word is `first`.
    module _ (now : List ℕ) (middle : ℕ) (g : Done ns (left w) out at (middle, now)) where
      abbrev φ : Fmla
      φ = cp (formula_at ns (left w))

      abbrev ψ : Fmla
      ψ = cp (formula_at ns (right w))

      abbrev first : ℕ
      first = get_or now (middle - 1) 0

      -- Without it the words are as before.
      pub before_it : take at (take middle now) ≡ take at out
      before_it = (λ j. take (sym count_at j) ((child-grown (left w) g).front j)) ∙ take-append_seam (take at out) (words φ at)

      first_is : last (take at out ++ words φ (length (take at out))) ≡ first
      first_is =
          let r = child-grown (left w) g in
          ap (λ m. last (take at out ++ words φ m)) count_at
          ∙ ap last (sym r.front)
          ∙ last-is now middle (omega (arith, r.longer)) (omega (arith, r.short, left-asks.room)) r.again

      first_kind : eqb (kind first) 0 ≡ is-a-truth φ
      first_kind =
          ap (λ v. eqb (kind v) 0) (sym first_is)
          ∙ last-kind ws constants fit few (take at out) φ (child_fits (left w) (node-both u w h).0) (omega (arith, count_at, size-cp (formula_at ns (left w)), left-asks.room))

      join-form : cp (formula_at ns i) ≡ cp_join u φ ψ
      join-form = ap cp join_is ∙ cp-of-join u (formula_at ns (left w)) (formula_at ns (right w))

      -- It is a truth value: the one that is kept, or the one that is dropped.
      module _ (z : kind first ≡ 0) where
        value : (b : Bool) × (φ ≡ truth b)
        value = truth-is (truth-view φ) (sym first_kind ∙ eq-eqb (kind first) 0 z)

        first_word : first ≡ cond value.0 true_word 0
        first_word = sym first_is ∙ ap (λ χ. last (take at out ++ words χ (length (take at out)))) value.1 ∙ last-truth (take at out) value.0

        unit-is : unit_word (kind w) ≡ cond u true_word 0
        unit-is = ap unit_word h ∙ unit-of u

        pub left-done : (first ≡ unit_word (kind w) → ⊥) → Done ns i out at (middle, now)
        left-done f = g ∙ ap (λ χ. written (take at out ++ words χ at)) (kept ∙ sym (join-form ∙ ap (λ χ. cp_join u χ ψ) kept ∙ join-zero-left u ψ))
          where
            kept : φ ≡ truth (not u)
            kept = value.1 ∙ ap truth (other-truth value.0 u (λ e. f (first_word ∙ e ∙ sym unit-is)))

        module _ (e : first ≡ unit_word (kind w)) where
          dropped : φ ≡ truth u
          dropped = value.1 ∙ ap truth (same_truth value.0 u (sym first_word ∙ e ∙ unit-is))

          pub right-done : {p : ℕ × List ℕ} → Done ns (right w) out at p → Done ns i out at p
          right-done f =
              f ∙ ap (λ χ. written (take at out ++ words χ at)) (sym (join-form ∙ ap (λ χ. cp_join u χ ψ) dropped ∙ join-unit-left u ψ))

      -- It is none: the right subtree's form follows.
      pub both-grown : (fin : List ℕ) (end : ℕ) → Done ns (right w) now middle (end, fin) → Grown now middle (formula_at ns (right w)) fin end
      both-grown fin end f =
          let r = child-grown (left w) g in
          grown now middle (formula_at ns (right w)) fin end (omega (arith, r.short, left-asks.room)) r.again f

      pub join-done : (kind first ≡ 0 → ⊥) → (fin : List ℕ) (end : ℕ) → Done ns (right w) now middle (end, fin) → {p : ℕ × List ℕ} → p ≡ written (joined (kind w) at middle (take end fin)) → Done ns i out at p
      join-done z fin end f n =
          let r = child-grown (left w) g in
          n ∙ ap (λ l. written (joined (kind w) at middle l)) ((both-grown fin end f).front ∙ ap (λ l. l ++ words ψ middle) r.front)
          ∙ (λ j. written (joined (h j) at (r.ends j) ((take at out ++ words φ at) ++ words ψ (r.ends j))))
          ∙ ap written (subst (λ m. joined (join_kind u) m (m + size φ) ((take at out ++ words φ m) ++ words ψ (m + size φ)) ≡ take at out ++ words (cp_join u φ ψ) m) count_at
          (joined_words ws constants fit few u (take at out) φ ψ (child_fits (left w) (node-both u w h).0) (child_fits (right w) (node-both u w h).1) (sym first_kind ∙ ne_eqb (kind first) 0 z) (omega (arith, count_at, size-cp (formula_at ns (left w)), size-cp (formula_at ns (right w)), k.room, join-size))))
          ∙ ap (λ χ. written (take at out ++ words χ at)) (sym join-form)

-- ---- the form of a query

module _ (q : Query) (a : IsAccepted q) where
  pub root-asks : InQuery q.nodes (q.node_count - 1) × (0 + size (formula_at q.nodes (q.node_count - 1)) ≤ max_nodes)
  root-asks = (
    record { widths = a.0; query = q; accepted = a.1; nodes_are = refl; within = omega (arith, a.1.some_node) },
    omega (arith, ap size (formula-last a.0 q a.1), a.1.size_is, a.1.few_nodes),
  )

  -- The constants stay; the words stand in the array.
  abbrev query-with : ℕ × List ℕ → Query
  query-with p = record { constants = q.constants; constant_count = q.constant_count; nodes = p.1; node_count = p.0 }

  pub form_is : (p : ℕ × List ℕ) → p ≡ written (words (cp (formula_at q.nodes (q.node_count - 1))) 0) → query-with p ≡ form_of q
  form_is p e = λ j. record { constants = (a.1.whole j).constants; constant_count = (a.1.whole j).constant_count; nodes = (path j).1; node_count = (path j).0 }
    where
      path : p ≡ written (words (cp (formula q)) 0)
      path = e ∙ ap (λ φ. written (words (cp φ) 0)) (sym (formula-last a.0 q a.1))
