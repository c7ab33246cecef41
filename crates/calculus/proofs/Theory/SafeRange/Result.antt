-- The verdict is safe-range, and a safe-range query is never endless: each value of each of its rows is known.
-- A row's value is that of a column; the column is generated in the form; so the value comes from a leaf of the form.
use Rattle.std.specs.Prelude.{ℕ, ◌≡◌, refl, ◌↔◌, Bool, cond, List, [], ◌∷◌, ltb}
use Rattle.std.proofs.Common.{ap, subst, ⊎_elim}
use Rattle.std.proofs.Math.Path.{subst⁻¹}
use Rattle.calculus.specs.Sets.{In, here, ◌⊆◌}
use Rattle.calculus.proofs.Theory.Sets.Laws.{in-nil, in_one, in-select, from-select, in-union, from-union, in-cond}
use Rattle.calculus.specs.Reflects.{Reflects, holds, fails}
use Rattle.calculus.proofs.Theory.Reflects.Laws.{reflects, reflected, reflects-false, reflects-map, reflects-and}
use Rattle.calculus.specs.Formula.{Fmla, truth, rel, eq, neg, conj, disj, exists, fv, Node, node, nodes}
use Rattle.calculus.specs.Satisfaction.{Pool, Database, Sat, Known, known}
use Rattle.calculus.proofs.Theory.Satisfaction.Laws.{known-means}
use Rattle.calculus.specs.Propagation.{cp}
use Rattle.calculus.proofs.Theory.Propagation.Laws.{cp-sat, known-cp}
use Rattle.calculus.specs.Ranging.{Ranged}
use Rattle.calculus.specs.Generators.{plain, is_none, columns, unranged_node, verdict, is_empty, safe}
use Rattle.calculus.proofs.Theory.Generators.Laws.{reflects-none, generated-decided, generated-known}
use Rattle.calculus.specs.SafeRange.{SafeRange, Unranged}
use Rattle.calculus.specs.Order.{Ascending}
use Rattle.calculus.proofs.Theory.Order.Laws.{ltb-order, sort-members, sort-ascending}
use Rattle.calculus.specs.Rows.{Row, row_env, RowSat, Endless, endless, listed}
use Rattle.calculus.proofs.Theory.Rows.Laws.{row_env-column}
use Rattle.calculus.specs.Evaluation.{rows_over, query_result}
use Rattle.calculus.proofs.Theory.Evaluation.Laws.{endless-exactly, endless-reflects}

-- ---- columns

pub columns-members : (φ : Fmla) (x : ℕ) → In x (columns φ) ↔ In x (fv φ)
columns-members φ x = sort-members ltb ltb-order (fv φ) x

pub columns-ascending : (φ : Fmla) → Ascending ltb (columns φ)
columns-ascending φ = sort-ascending ltb ltb-order (fv φ)

pub fv-columns : (φ : Fmla) → fv φ ⊆ columns φ
fv-columns φ x = (columns-members φ x).1

-- ---- the verdict

reflects-empty : (xs : List ℕ) → Reflects ((x : ℕ) → ¬ In x xs) (is_empty xs)
reflects-empty [] = holds (λ x i. in-nil i)
reflects-empty (x ∷ xs) = fails (λ n. n x (here refl))

-- What the report of the free variables holds.
pub ungenerated-means : (φ : Fmla) (x : ℕ) → In x (verdict φ).ungenerated ↔ (In x (fv φ) × ¬ Ranged x (cp φ))
ungenerated-means φ x = (
  λ i. let s = from-select test (columns φ) i in ((columns-members φ x).0 s.0, reflected (reflects-none (cp φ) 0 x) s.1),
  λ h. in-select test ((columns-members φ x).1 h.0) (reflects (reflects-none (cp φ) 0 x) h.1),
)
  where
    test : ℕ → Bool
    test u = is_none (plain (cp φ) 0 u)

from-unranged : (n k : ℕ) (χ : Fmla) → In k (unranged_node (node n χ)) → (k ≡ n) × Unranged χ
from-unranged n k (truth b) i = absurd (in-nil i)
from-unranged n k (rel r ts) i = absurd (in-nil i)
from-unranged n k (eq x t) i = absurd (in-nil i)
from-unranged n k (neg φ) i = absurd (in-nil i)
from-unranged n k (conj φ ψ) i = absurd (in-nil i)
from-unranged n k (disj φ ψ) i = absurd (in-nil i)
from-unranged n k (exists z ψ) i =
    ⊎_elim (λ h. (in_one h.1, (z, ψ, refl, reflected (reflects-none ψ 0 z) h.0))) (λ h. absurd (in-nil h.1)) (in-cond (is_none (plain ψ 0 z)) i)

in-unranged : (n : ℕ) (χ : Fmla) → Unranged χ → In n (unranged_node (node n χ))
in-unranged n χ u = subst⁻¹ (λ ω. In n (unranged_node (node n ω))) u.2 (go (reflects-none u.1 0 u.0))
  where
    go : {b : Bool} → Reflects (¬ Ranged u.0 u.1) b → In n (cond b (n ∷ []) [])
    go (holds m) = here refl
    go (fails k) = absurd (k u.3)

-- What the report of the exists nodes holds.
pub unranged-means : (φ : Fmla) (k : ℕ) → In k (verdict φ).unranged ↔ ((χ : Fmla) × In (node k χ) (nodes (cp φ) 0) × Unranged χ)
unranged-means φ k = (λ i. let s = from-union unranged_node (nodes (cp φ) 0) i in at-node s.0 s.1 s.2, λ s. in-union unranged_node s.1 (in-unranged k s.0 s.2))
  where
    at-node : (u : Node) → In u (nodes (cp φ) 0) → In k (unranged_node u) → (χ : Fmla) × In (node k χ) (nodes (cp φ) 0) × Unranged χ
    at-node (node n χ) i j = let s = from-unranged n k χ j in (χ, subst⁻¹ (λ m. In (node m χ) (nodes (cp φ) 0)) s.0 i, s.1)

-- The verdict is safe-range.
pub safe-reflects : (φ : Fmla) → Reflects (SafeRange φ) (safe (verdict φ))
safe-reflects φ = reflects-map sound complete (reflects-and (reflects-empty (verdict φ).ungenerated) (reflects-empty (verdict φ).unranged))
  where
    Reports : Type 0
    Reports = ((x : ℕ) → ¬ In x (verdict φ).ungenerated) × ((k : ℕ) → ¬ In k (verdict φ).unranged)

    sound : Reports → SafeRange φ
    sound h = (
      λ x i. ⊎_elim (λ g. g) (λ n. absurd (h.0 x ((ungenerated-means φ x).1 (i, n)))) (generated-decided x (cp φ)),
      λ y ψ u. ⊎_elim (λ g. g) (λ n. absurd (h.1 u.0 ((unranged-means φ u.0).1 (exists y ψ, u.1, (y, ψ, refl, n))))) (generated-decided y ψ),
    )

    complete : SafeRange φ → Reports
    complete s = (
      λ x i. let h = (ungenerated-means φ x).0 i in h.1 (s.0 x h.0),
      λ k i. let h = (unranged-means φ k).0 i in h.2.3 (s.1 h.2.0 h.2.1 (k, subst (λ χ. In (node k χ) (nodes (cp φ) 0)) h.2.2 h.1)),
    )

-- ---- rows of a safe-range query

module _ (pool : Pool) (D : Database) (φ : Fmla) (s : SafeRange φ) where
  -- Every value of every row is in a record of a relation that the query names, or is a constant of it.
  pub safe-values : (w : Row) → RowSat pool D φ (columns φ) w → (v : ℕ) → In v w → Known pool D φ v
  safe-values w a v i = subst (Known pool D φ) col.2 ((known-means pool D φ (row_env (columns φ) w c)).0 (known-cp pool D φ (row_env (columns φ) w c) (generated-known pool D c (cp φ) generated (row_env (columns φ) w) holds-form)))
    where
      col : (c : ℕ) × In c (columns φ) × (row_env (columns φ) w c ≡ v)
      col = row_env-column (columns φ) w (columns-ascending φ) a.0 v i

      c : ℕ
      c = col.0

      generated : Ranged c (cp φ)
      generated = s.0 c ((columns-members φ c).0 col.1)

      holds-form : Sat pool D (cp φ) (row_env (columns φ) w)
      holds-form = (cp-sat pool D φ (row_env (columns φ) w)).1 a.1

  -- A safe-range query is never endless.
  pub safe-not-endless : ¬ Endless pool D φ (columns φ)
  safe-not-endless e = let h = (endless-exactly pool D φ (columns φ) (fv-columns φ)).0 e in h.2.2 (safe-values h.0 h.1 h.2.0 h.2.1)

  -- The rows of a safe-range query are listed: by `rows-members` all that satisfy it over all whole numbers, and no other.
  pub safe-listed : query_result pool D φ (columns φ) ≡ listed (rows_over pool D (known pool D φ) φ (columns φ))
  safe-listed = ap (λ b. cond b endless (listed (rows_over pool D (known pool D φ) φ (columns φ)))) (reflects-false (endless-reflects pool D (known pool D φ) φ (columns φ) (λ v i. i) (fv-columns φ)) safe-not-endless)
