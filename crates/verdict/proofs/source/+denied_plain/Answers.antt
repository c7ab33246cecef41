-- `verdict::source::plain` and `denied` meet their contracts. Each way to return is one law of the generation order: the sets show which way the order takes, and
-- the calls give the nodes there.
use native.Mathlib.Omega.{arith}
use Prim.Native.Nat.{ℕ, ◌<◌}
use mathlib.Core.Path.{◌≡◌, refl, sym, ap, ◌∙◌}
use mathlib.Core.Logic.{◌⊎◌, inl, inr}
use mathlib.Core.Bool.{Bool}
use mathlib.Core.List.{List}
use lib.ListN.{get_or, length}
use Rattle.calculus.specs.Sets as sets
use Rattle.query.specs.Nodes.{kind, left, right, under, children}
use Rattle.query.specs.Code.Fields.{IsNode, kind_of}
use Rattle.query.specs.declared.node.Node.{Node}
use Rattle.query.specs.declared.node.Node.TheVariants.{Truth, Record, Equality, Not, Join, Exists, Unknown}
use Rattle.query.specs.declared.node.Connective.{Connective}
use Rattle.query.specs.declared.node.Connective.TheVariants.{And, Or}
use Rattle.query.proofs.Theory.Nodes.Laws.{children-not, children-exists, both-children}
use Rattle.verdict.specs.Bits.{has}
use Rattle.verdict.specs.Code.Form.{IsFormIn}
use Rattle.verdict.specs.declared.generate.Judged.{Judged}
use Rattle.verdict.specs.Code.Generating.{IsJudged, plain_bits, denied_bits, equated_set}
use Rattle.verdict.proofs.Theory.Code.Generating.Variables.{child-below}
use Rattle.verdict.proofs.Theory.Code.Generating.Sources as order
use Rattle.verdict.proofs.source.+denied_plain.Goals as goal

-- ---- of values: a node of none of the kinds that a match names

record_or-equality : (w : ℕ) (n : Node) → IsNode w n → kind w < 7 → ((c : ℕ) → n ≡ Not c → ⊥) → ((k : Connective) (l r : ℕ) → n ≡ Join k l r → ⊥) → ((x c : ℕ) → n ≡ Exists x c → ⊥) → ((b : Bool) → n ≡ Truth b → ⊥) → (kind w ≡ 1) ⊎ (kind w ≡ 2)
record_or-equality w (Truth b) h l e f g k = absurd (k b refl)
record_or-equality w (Record a) h l e f g k = inl h.0
record_or-equality w (Equality x t) h l e f g k = inr h.0
record_or-equality w (Not c) h l e f g k = absurd (e c refl)
record_or-equality w (Join j m r) h l e f g k = absurd (f j m r refl)
record_or-equality w (Exists x c) h l e f g k = absurd (g x c refl)
record_or-equality w Unknown h l e f g k = absurd (omega arith)

no-denial : (w : ℕ) (n : Node) → IsNode w n → ((c : ℕ) → n ≡ Not c → ⊥) → ((k : Connective) (l r : ℕ) → n ≡ Join k l r → ⊥) → (kind w ≡ 3 → ⊥) × (kind w ≡ 4 → ⊥) × (kind w ≡ 5 → ⊥)
no-denial w (Truth b) h e f = ((λ k. omega (arith, h.0)), (λ k. omega (arith, h.0)), (λ k. omega (arith, h.0)))
no-denial w (Record a) h e f = ((λ k. omega (arith, h.0)), (λ k. omega (arith, h.0)), (λ k. omega (arith, h.0)))
no-denial w (Equality x t) h e f = ((λ k. omega (arith, h.0)), (λ k. omega (arith, h.0)), (λ k. omega (arith, h.0)))
no-denial w (Not c) h e f = absurd (e c refl)
no-denial w (Join j l r) h e f = absurd (f j l r refl)
no-denial w (Exists x c) h e f = ((λ k. omega (arith, h.0)), (λ k. omega (arith, h.0)), (λ k. omega (arith, h.0)))
no-denial w Unknown h e f = ((λ k. omega arith), (λ k. omega arith), (λ k. omega arith))

-- ---- of values: a node and its children

-- An and or an or: a node with two children.
abbrev HasTwo : ℕ → Type 0
HasTwo w = (kind w ≡ 4) ⊎ (kind w ≡ 5)

two-of : (w : ℕ) (k : Connective) → kind w ≡ kind_of k → HasTwo w
two-of w And e = inl e
two-of w Or e = inr e

-- What a test shows of the set that a list holds at c.
shown : {b : Bool} {l m : List ℕ} (set c x : ℕ) → l ≡ m → get_or m c 0 ≡ set → b ≡ has 16 (get_or l c 0) x → has 16 set x ≡ b
shown set c x p q e = cc

-- What both functions ask for.
abbrev Asked : Judged → ℕ → ℕ → Type 0
Asked j i x = IsJudged j × (i < length j.nodes.now) × (x < 16)

module _ {j : Judged} {i x : ℕ} (g : Asked j i x) where
  abbrev ns : List ℕ
  ns = j.nodes.now

  abbrev word : ℕ
  word = get_or ns i 0

  -- A law of the generation order at node i.
  law : {P : List ℕ → ℕ → ℕ → ℕ → Type 0} → ((ns : List ℕ) (n i x : ℕ) → IsFormIn ns n → i < n → x < 16 → P ns n i x) → P ns (length ns) i x
  law l = l ns (length ns) i x g.0.form g.1 g.2

  -- A call with a child is below the measure and given what it asks for.
  to-child : {t c y : ℕ} → i ≡ t → sets.In c (children word) → y < 16 → (c < t) × Asked j c y
  to-child {t} {c} {y} e m s =
      let h : c < i = child-below g.0.form g.1 m in
      (omega arith, (g.0, omega (arith, g.1), s))

  to-not : {t : ℕ} → i ≡ t → kind word ≡ 3 → (left word < t) × Asked j (left word) x
  to-not e k = to-child e (rw (children-not word k) (sets.here refl)) g.2

  has-two : (k : Connective) → kind word ≡ kind_of k → HasTwo word
  has-two = two-of word

  to-left : {t : ℕ} → i ≡ t → HasTwo word → (left word < t) × Asked j (left word) x
  to-left e k = to-child e (both-children word k).0 g.2

  to-right : {t : ℕ} → i ≡ t → HasTwo word → (right word < t) × Asked j (right word) x
  to-right e k = to-child e (both-children word k).1 g.2

  to-exists : {t : ℕ} → i ≡ t → kind word ≡ 6 → (under word < t) × Asked j (under word) x
  to-exists e k = to-child e (rw (children-exists word k) (sets.here refl)) g.2

  -- What a test of the code shows: of node i, of its two children.
  plain-shown : {b : Bool} {c : ℕ} → c < length ns → b ≡ has 16 (get_or j.plains c 0) x → order.generates ns c x ≡ b
  plain-shown {b} {c} h = shown (plain_bits ns c) c x g.0.plains_are (order.plains_at ns (length ns) c h)

  denied-shown : {b : Bool} {c : ℕ} → c < length ns → b ≡ has 16 (get_or j.denieds c 0) x → order.generates_denied ns c x ≡ b
  denied-shown {b} {c} h = shown (denied_bits ns c) c x g.0.denieds_are (order.denieds-at ns (length ns) c h)

  plain-self : {b : Bool} → b ≡ has 16 (get_or j.plains i 0) x → order.generates ns i x ≡ b
  plain-self = plain-shown g.1

  denied-self : {b : Bool} → b ≡ has 16 (get_or j.denieds i 0) x → order.generates_denied ns i x ≡ b
  denied-self = denied-shown g.1

  plain-left : {b : Bool} → HasTwo word → b ≡ has 16 (get_or j.plains (left word) 0) x → order.generates ns (left word) x ≡ b
  plain-left k = plain-shown (to-left refl k).1.1

  plain_right : {b : Bool} → HasTwo word → b ≡ has 16 (get_or j.plains (right word) 0) x → order.generates ns (right word) x ≡ b
  plain_right k = plain-shown (to-right refl k).1.1

  -- That the right child equates x with a variable that the left one generates.
  equated-shown : {b : Bool} {set : ℕ} → HasTwo word → set ≡ equated_set (get_or ns (right word) 0) (get_or j.plains (left word) 0) → b ≡ has 16 set x → has 16 (equated_set (get_or ns (right word) 0) (plain_bits ns (left word))) x ≡ b
  equated-shown k d e =
      ap (λ u. has 16 (equated_set (get_or ns (right word) 0) u) x) (sym (ap (λ l. get_or l (left word) 0) g.0.plains_are ∙ order.plains_at ns (length ns) (left word) (to-left refl k).1.1))
      ∙ ap (λ u. has 16 u x) (sym d) ∙ sym e

  denied-left : {b : Bool} → HasTwo word → b ≡ has 16 (get_or j.denieds (left word) 0) x → order.generates_denied ns (left word) x ≡ b
  denied-left k = denied-shown (to-left refl k).1.1

-- ---- denied

pub denied-returns-then-not-is_in : goal.denied-returns-then-not-is_in
denied-returns-then-not-is_in t c = let g = c.requires in sym (law g order.denied-none (denied-self g c.if-not-is_in.ensures))

pub denied-plain-requires : goal.denied-plain-requires
denied-plain-requires t c = let e = c.in-Not.ensures in rw e.1 (to-not c.requires c.decreases e.0)

pub denied-returns-in-Not : goal.denied-returns-in-Not
denied-returns-in-Not t c = let e = c.in-Not.ensures in (rw e.1 at c.plain.ensures) ∙ sym (law c.requires order.denied-not e.0)

pub denied-denied-requires : goal.denied-denied-requires
denied-denied-requires t c = let e = c.in-Join.ensures in rw e.1 (to-left c.requires c.decreases (has-two c.requires c.in-Join.connective e.0))

pub denied-denied-requires-in-And : goal.denied-denied-requires-in-And
denied-denied-requires-in-And t c = let e = c.in-Join.ensures in rw e.3 (to-right c.requires c.decreases (has-two c.requires c.in-Join.connective e.0))

pub denied-returns-in-And : goal.denied-returns-in-And
denied-returns-in-And t c =
    let e = c.in-Join.ensures in let g = c.requires in
    rw (c.denied.ensures, c.denied-in-And.ensures, e.1, e.3) (sym (law g order.denied-and (e.0 ∙ ap kind_of c.in-And.is) (denied-self g c.if-not-is_in.ensures)))

pub denied-denied-requires-then-is_in : goal.denied-denied-requires-then-is_in
denied-denied-requires-then-is_in t c = let e = c.in-Join.ensures in rw e.1 (to-left c.requires c.decreases (has-two c.requires c.in-Join.connective e.0))

pub denied-returns-then-is_in : goal.denied-returns-then-is_in
denied-returns-then-is_in t c =
    let e = c.in-Join.ensures in let g = c.requires in let k = e.0 ∙ ap kind_of c.in-Or.is in
    (rw e.1 at c.denied-then-is_in.ensures) ∙ sym (law g order.denied-or-left k (denied-left g (inr k) (rw e.1 at c.if-is_in.ensures)))

pub denied-denied-requires-else-is_in : goal.denied-denied-requires-else-is_in
denied-denied-requires-else-is_in t c = let e = c.in-Join.ensures in rw e.3 (to-right c.requires c.decreases (has-two c.requires c.in-Join.connective e.0))

pub denied-returns-else-is_in : goal.denied-returns-else-is_in
denied-returns-else-is_in t c =
    let e = c.in-Join.ensures in let g = c.requires in let k = e.0 ∙ ap kind_of c.in-Or.is in
    (rw e.3 at c.denied-else-is_in.ensures) ∙ sym (law g order.denied-or-right k (denied-left g (inr k) (rw e.1 at c.if-is_in.ensures)))

pub denied-returns-in_default : goal.denied-returns-in_default
denied-returns-in_default t c =
    let g = c.requires in let n = no-denial (word g) c.of.result c.of.ensures c.in_default.not-Not c.in_default.not-Join in
    absurd (n.2 (law g order.denied-kind (denied-self g c.if-not-is_in.ensures) n.0 n.1))

-- ---- plain

pub plain-returns-then-not-is_in : goal.plain-returns-then-not-is_in
plain-returns-then-not-is_in t c = let g = c.requires in sym (law g order.nodes-none (plain-self g c.if-not-is_in.ensures))

pub plain-returns-in-Truth : goal.plain-returns-in-Truth
plain-returns-in-Truth t c = sym (law c.requires order.nodes-truth c.in-Truth.ensures.0)

pub plain-denied-requires : goal.plain-denied-requires
plain-denied-requires t c = let e = c.in-Not.ensures in rw e.1 (to-not c.requires c.decreases e.0)

pub plain-returns-in-Not : goal.plain-returns-in-Not
plain-returns-in-Not t c = let e = c.in-Not.ensures in (rw e.1 at c.denied.ensures) ∙ sym (law c.requires order.nodes-not e.0)

-- An and: its left child generates x.
pub plain-plain-requires : goal.plain-plain-requires
plain-plain-requires t c = let e = c.in-Join.ensures in rw e.1 (to-left c.requires c.decreases (has-two c.requires c.in-Join.connective e.0))

pub plain-returns-then-is_in : goal.plain-returns-then-is_in
plain-returns-then-is_in t c =
    let e = c.in-Join.ensures in let g = c.requires in let k : kind (word g) ≡ kind_of And = cc e.0 in
    (rw e.1 at c.plain.ensures) ∙ sym (law g order.nodes-and-left k (plain-left g (inl k) (rw e.1 at c.if-is_in.ensures)))

-- Its right child does.
pub plain-plain-requires-then-is_in-2 : goal.plain-plain-requires-then-is_in-2
plain-plain-requires-then-is_in-2 t c = let e = c.in-Join.ensures in rw e.3 (to-right c.requires c.decreases (has-two c.requires c.in-Join.connective e.0))

pub plain-returns-then-is_in-2 : goal.plain-returns-then-is_in-2
plain-returns-then-is_in-2 t c =
    let e = c.in-Join.ensures in let g = c.requires in let k = e.0 ∙ ap kind_of c.in-And.is in
    (rw e.3 at c.plain-then-is_in-2.ensures)
    ∙ sym (law g order.nodes-and-right k (plain-left g (inl k) (rw e.1 at c.if-is_in.ensures)) (plain_right g (inl k) (rw e.3 at c.if-is_in-2.ensures)))

-- Neither does: by an equality, x has the nodes from which the other side generates the variable that it is equated with.
pub plain-bounds-judged-right-in-And : goal.plain-bounds-judged-right-in-And
plain-bounds-judged-right-in-And t c = let e = c.in-Join.ensures in rw e.3 (to-right c.requires refl (has-two c.requires c.in-Join.connective e.0)).1.1

pub plain-bounds-judged-left-in-And-2 : goal.plain-bounds-judged-left-in-And-2
plain-bounds-judged-left-in-And-2 t c = let e = c.in-Join.ensures in rw e.1 (to-left c.requires refl (has-two c.requires c.in-Join.connective e.0)).1.1

pub plain-plain-requires-then-is_in-3 : goal.plain-plain-requires-then-is_in-3
plain-plain-requires-then-is_in-3 t c =
    let e = c.in-Join.ensures in let g = c.requires in let k = e.0 ∙ ap kind_of c.in-And.is in
    let by = law g order.nodes-and-by-right k (plain-left g (inl k) (rw e.1 at c.if-is_in.ensures)) (plain_right g (inl k) (rw e.3 at c.if-is_in-2.ensures)) (equated-shown g (inl k) (rw (e.1, e.3) at c.equated-carried.ensures) c.if-is_in-3.ensures) in
    rw (c.other.ensures, e.1, e.3) (to-child g c.decreases (both-children (word g) (inl k)).0 by.0)

pub plain-returns-then-is_in-3 : goal.plain-returns-then-is_in-3
plain-returns-then-is_in-3 t c =
    let e = c.in-Join.ensures in let g = c.requires in let k = e.0 ∙ ap kind_of c.in-And.is in
    let by = law g order.nodes-and-by-right k (plain-left g (inl k) (rw e.1 at c.if-is_in.ensures)) (plain_right g (inl k) (rw e.3 at c.if-is_in-2.ensures)) (equated-shown g (inl k) (rw (e.1, e.3) at c.equated-carried.ensures) c.if-is_in-3.ensures) in
    (rw (c.other.ensures, e.1, e.3) at c.plain-then-is_in-3.ensures) ∙ sym by.1

pub plain-plain-requires-in-And : goal.plain-plain-requires-in-And
plain-plain-requires-in-And t c =
    let e = c.in-Join.ensures in let g = c.requires in let k = e.0 ∙ ap kind_of c.in-And.is in
    let by = law g order.nodes-and-by-left k (plain-self g c.if-not-is_in.ensures) (plain-left g (inl k) (rw e.1 at c.if-is_in.ensures)) (plain_right g (inl k) (rw e.3 at c.if-is_in-2.ensures)) (equated-shown g (inl k) (rw (e.1, e.3) at c.equated-carried.ensures) c.if-is_in-3.ensures) in
    rw (c.other-in-And.ensures, e.1, e.3) (to-child g c.decreases (both-children (word g) (inl k)).1 by.0)

pub plain-returns-else-is_in-3 : goal.plain-returns-else-is_in-3
plain-returns-else-is_in-3 t c =
    let e = c.in-Join.ensures in let g = c.requires in let k = e.0 ∙ ap kind_of c.in-And.is in
    let by = law g order.nodes-and-by-left k (plain-self g c.if-not-is_in.ensures) (plain-left g (inl k) (rw e.1 at c.if-is_in.ensures)) (plain_right g (inl k) (rw e.3 at c.if-is_in-2.ensures)) (equated-shown g (inl k) (rw (e.1, e.3) at c.equated-carried.ensures) c.if-is_in-3.ensures) in
    (rw (c.other-in-And.ensures, e.1, e.3) at c.plain-in-And.ensures) ∙ sym by.1

-- An or, an exists, and what is left over.
pub plain-plain-requires-in-Or : goal.plain-plain-requires-in-Or
plain-plain-requires-in-Or t c = let e = c.in-Join.ensures in rw e.1 (to-left c.requires c.decreases (has-two c.requires c.in-Join.connective e.0))

pub plain-plain-requires-in-Or-2 : goal.plain-plain-requires-in-Or-2
plain-plain-requires-in-Or-2 t c = let e = c.in-Join.ensures in rw e.3 (to-right c.requires c.decreases (has-two c.requires c.in-Join.connective e.0))

pub plain-returns-in-Or : goal.plain-returns-in-Or
plain-returns-in-Or t c =
    let e = c.in-Join.ensures in let g = c.requires in
    rw (c.plain-in-Or.ensures, c.plain-in-Or-2.ensures, e.1, e.3) (sym (law g order.nodes-or (e.0 ∙ ap kind_of c.in-Or.is) (plain-self g c.if-not-is_in.ensures)))

pub plain-plain-requires-in-Exists : goal.plain-plain-requires-in-Exists
plain-plain-requires-in-Exists t c = let e = c.in-Exists.ensures in rw e.3 (to-exists c.requires c.decreases e.0)

pub plain-returns-in-Exists : goal.plain-returns-in-Exists
plain-returns-in-Exists t c =
    let e = c.in-Exists.ensures in let g = c.requires in
    (rw e.3 at c.plain-in-Exists.ensures) ∙ sym (law g order.nodes-exists e.0 (plain-self g c.if-not-is_in.ensures))

pub plain-returns-in_default : goal.plain-returns-in_default
plain-returns-in_default t c =
    let g = c.requires in let d = c.in_default in
    c.node_bit.ensures ∙ sym (law g order.nodes-leaf (plain-self g c.if-not-is_in.ensures) (record_or-equality (word g) c.of.result c.of.ensures (law g order.kind-known) d.not-Not d.not-Join d.not-Exists d.not-Truth))
