-- Safe-range queries: 000, 2.9, and what documents 01 and 02 make of it. Definitions only; the laws are in SafeRange/.
use Rattle.std.specs.Prelude.{ℕ, ◌≡◌}
use Rattle.calculus.specs.Sets.{In}
use Rattle.calculus.specs.Formula.{Fmla, exists, fv, node, nodes}
use Rattle.calculus.specs.Propagation.{cp}
use Rattle.calculus.specs.Generation.{Generated}
use Rattle.calculus.specs.Ranging.{Ranged}

-- ---- 000's definitions

-- 000: Exists y Qy ∈ sub Q (2.4), at some node.
abbrev pub HasNode : Fmla → Fmla → Type 0
HasNode φ χ = (n : ℕ) × In (node n χ) (nodes φ 0)

-- 000: x ∈ nongens Q.
abbrev pub Nongen : Fmla → ℕ → Type 0
Nongen φ x = In x (fv φ) × ¬ Generated x φ

-- 000: rrf Q, nongens Q = {}.
abbrev pub Rrf : Fmla → Type 0
Rrf φ = (x : ℕ) → ¬ Nongen φ x

-- 000: rrb Q.
abbrev pub Rrb : Fmla → Type 0
Rrb φ = (y : ℕ) (ψ : Fmla) → HasNode φ (exists y ψ) → Generated y ψ

-- 000: sr Q, of a formula as it stands.
abbrev pub Sr : Fmla → Type 0
Sr φ = Rrf φ × Rrb φ

-- ---- the verdict

-- The variable of each exists of φ is generated in its child, in document 02's sense.
abbrev pub BoundRanged : Fmla → Type 0
BoundRanged φ = (y : ℕ) (ψ : Fmla) → HasNode φ (exists y ψ) → Ranged y ψ

-- Safe-range, as document 01 widens 000: the free variables of the query as read are generated in its form, and so is the variable of each exists of
-- the form in its child; generated in document 02's sense.
abbrev pub SafeRange : Fmla → Type 0
SafeRange φ = ((x : ℕ) → In x (fv φ) → Ranged x (cp φ)) × BoundRanged (cp φ)

-- The formula χ is an exists whose variable isn't generated in its child.
abbrev pub Unranged : Fmla → Type 0
Unranged χ = (z : ℕ) × (ψ : Fmla) × (χ ≡ exists z ψ) × ¬ Ranged z ψ

-- ---- the verdict before document 02

-- Safe-range by document 01 alone, with 000's generation: what "safe before" means.
abbrev pub SafeBefore : Fmla → Type 0
SafeBefore φ = ((x : ℕ) → In x (fv φ) → Generated x (cp φ)) × Rrb (cp φ)
