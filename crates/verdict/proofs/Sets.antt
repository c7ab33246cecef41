-- Laws of values that the proofs of `generate` hand their facts to: a node of the kinds that a match leaves over, what an equation of two variables equates,
-- and the loop over nodes.
use Prim.Native.Nat.{ℕ, zero, suc, ◌+◌, ◌<◌}
use native.Mathlib.Omega.{arith}
use mathlib.Core.Path.{◌≡◌, refl, ap, ◌∙◌}
use mathlib.Core.List.{List, [], ◌∷◌}
use lib.ListN.{get_or, set}
use lib.Bits.{bit_and, bit_or}
use Rattle.calculus.specs.Sets.{In}
use Rattle.calculus.specs.Lists.{tabulate, padded}
use Rattle.calculus.proofs.Theory.Lists.Laws.{padded-at, padded-next}
use Rattle.query.specs.Nodes.{kind, left, right, children}
use Rattle.query.specs.Reading.{max_nodes}
use Rattle.query.specs.Code.Fields.{IsNode}
use Rattle.query.specs.declared.node.Node.{Node}
use Rattle.query.specs.declared.node.Node.TheVariants.{Truth, Record, Equality, Not, Join, Exists, Unknown}
use Rattle.query.specs.declared.node.Connective.TheVariants.{And, Or}
use Rattle.verdict.specs.Code.Form.{IsFormIn}
use Rattle.verdict.specs.Code.Generating.{plain_bits, denied_bits, plain_in, denied_in}
use Rattle.verdict.proofs.Theory.Code.Generating.Variables.{child-below, plain-in-same, denied_in-same, plain_step, denied-step}

-- ---- a node of none of the kinds that a match names

pub no-exists : (w : ℕ) (n : Node) → IsNode w n → ((x c : ℕ) → n ≡ Exists x c → ⊥) → kind w ≡ 6 → ⊥
no-exists w (Truth b) h f e = omega (arith, h.0)
no-exists w (Record a) h f e = omega (arith, h.0)
no-exists w (Equality x t) h f e = omega (arith, h.0)
no-exists w (Not c) h f e = omega (arith, h.0)
no-exists w (Join And l r) h f e = omega (arith, h.0)
no-exists w (Join Or l r) h f e = omega (arith, h.0)
no-exists w (Exists x c) h f e = f x c refl
no-exists w Unknown h f e = omega arith

-- ---- the last kind: what 32 bits leave past the others

-- A node of none of the seven kinds is of the eighth: the field has three bits.
pub kind-seven : (w : ℕ) → w < 4294967296 → (kind w ≡ 0 → ⊥) → (kind w ≡ 1 → ⊥) → (kind w ≡ 2 → ⊥) → (kind w ≡ 3 → ⊥) → (kind w ≡ 4 → ⊥) → (kind w ≡ 5 → ⊥) → (kind w ≡ 6 → ⊥) → kind w ≡ 7
kind-seven w h = go (kind w) (omega arith)
  where
    go : (k : ℕ) → k < 8 → (k ≡ 0 → ⊥) → (k ≡ 1 → ⊥) → (k ≡ 2 → ⊥) → (k ≡ 3 → ⊥) → (k ≡ 4 → ⊥) → (k ≡ 5 → ⊥) → (k ≡ 6 → ⊥) → k ≡ 7
    go zero l p q r s t u v = absurd (p refl)
    go (suc zero) l p q r s t u v = absurd (q refl)
    go (suc (suc zero)) l p q r s t u v = absurd (r refl)
    go (suc (suc (suc zero))) l p q r s t u v = absurd (s refl)
    go (suc (suc (suc (suc zero)))) l p q r s t u v = absurd (t refl)
    go (suc (suc (suc (suc (suc zero))))) l p q r s t u v = absurd (u refl)
    go (suc (suc (suc (suc (suc (suc zero)))))) l p q r s t u v = absurd (v refl)
    go (suc (suc (suc (suc (suc (suc (suc k))))))) l p q r s t u v = omega arith

-- ---- a node that is no not, and, or

-- Its denied set is empty.
pub denied-none : (w : ℕ) (plains denieds : ℕ → ℕ) → (kind w ≡ 3 → ⊥) → (kind w ≡ 4 → ⊥) → (kind w ≡ 5 → ⊥) → denied_in w plains denieds ≡ 0
denied-none w plains denieds = go (kind w)
  where
    go : (k : ℕ) → (k ≡ 3 → ⊥) → (k ≡ 4 → ⊥) → (k ≡ 5 → ⊥) → get_or (0 ∷ 0 ∷ 0 ∷ plains (left w) ∷ bit_and (denieds (left w)) (denieds (right w)) ∷ bit_or (denieds (left w)) (denieds (right w)) ∷ 0 ∷ []) k 0 ≡ 0
    go zero p q r = refl
    go (suc zero) p q r = refl
    go (suc (suc zero)) p q r = refl
    go (suc (suc (suc zero))) p q r = absurd (p refl)
    go (suc (suc (suc (suc zero)))) p q r = absurd (q refl)
    go (suc (suc (suc (suc (suc zero))))) p q r = absurd (r refl)
    go (suc (suc (suc (suc (suc (suc zero)))))) p q r = refl
    go (suc (suc (suc (suc (suc (suc (suc k))))))) p q r = refl

-- ---- the loop over nodes: the arrays hold the sets of the first i, and zeros after them

abbrev pub first_sets : (ℕ → ℕ) → ℕ → List ℕ
first_sets f i = padded max_nodes 0 (tabulate f i)

module _ (ns : List ℕ) (n i : ℕ) (plains denieds : List ℕ) (p : plains ≡ first_sets (plain_bits ns) i) (d : denieds ≡ first_sets (denied_bits ns) i) where
  -- One node more: the sets of its children are there, and what is made of them is its set.
  module _ (f : IsFormIn ns n) (h : i < n) where
    of-children : (c : ℕ) → In c (children (get_or ns i 0)) → (get_or plains c 0 ≡ plain_bits ns c) × (get_or denieds c 0 ≡ denied_bits ns c)
    of-children c j =
        let l = child-below f h j in
        (ap (λ xs. get_or xs c 0) p ∙ padded-at max_nodes 0 (plain_bits ns) i c l, ap (λ xs. get_or xs c 0) d ∙ padded-at max_nodes 0 (denied_bits ns) i c l)

    next : (g : ℕ → ℕ) (l : List ℕ) (r : ℕ) → l ≡ first_sets g i → r ≡ g i → set l i r ≡ first_sets g (i + 1)
    next g l r q e = (λ j. set (q j) i (e j)) ∙ padded-next max_nodes 0 g i (omega (arith, f.few_nodes))

    pub plain-next : (r : ℕ) → r ≡ plain_in (get_or ns i 0) (λ c. get_or ns c 0) (λ c. get_or plains c 0) (λ c. get_or denieds c 0) → set plains i r ≡ first_sets (plain_bits ns) (i + 1)
    plain-next r e =
        next (plain_bits ns) plains r p
        (e ∙ plain-in-same (get_or ns i 0) (λ c. get_or ns c 0) (λ c. get_or plains c 0) (plain_bits ns) (λ c. get_or denieds c 0) (denied_bits ns) of-children ∙ plain_step ns n i f h)

    pub denied-next : (r : ℕ) → r ≡ denied_in (get_or ns i 0) (λ c. get_or plains c 0) (λ c. get_or denieds c 0) → set denieds i r ≡ first_sets (denied_bits ns) (i + 1)
    denied-next r e =
        next (denied_bits ns) denieds r d
        (e ∙ denied_in-same (get_or ns i 0) (λ c. get_or plains c 0) (plain_bits ns) (λ c. get_or denieds c 0) (denied_bits ns) of-children ∙ denied-step ns n i f h)
