-- The formula of accepted nodes has as many nodes as there are numbers: the sizes of all nodes add up to their number and the sizes of all children, and
-- every node but the last is a child once.
use Rattle.std.specs.Prelude.{ℕ, zero, suc, ◌+◌, ◌-◌, ◌<◌, ◌≡◌, refl, Bool, true, false, cond, List, [], ◌∷◌, length, get_or, eqb}
use Rattle.std.proofs.Common.{arith, sym, ap, subst, ◌∙◌, eq-eqb, ne_eqb}
use Rattle.calculus.specs.Sets.{In, here, there, union_of}
use Rattle.calculus.proofs.Theory.Sets.Laws.{from-union}
use Rattle.calculus.proofs.Theory.Lists.Laws.{place_of}
use Rattle.calculus.specs.Formula.{Fmla, size}
use Rattle.query.specs.Nodes.{children, occurrences, uses}
use Rattle.query.proofs.Theory.Nodes.Sums.{total, sum_below, total-append, sum-below-same, sum-below-zero, sum-below-add, sum-below-only, sum-of-places}
use Rattle.query.specs.Decoding.{node_formula, formula_at, root}
use Rattle.query.proofs.Theory.Decoding.Laws.{Kind, is_truth, is_record, is_equality, is_not, is_and, is_or, is_exists, is_none, kind-of, formula-step}

-- ---- the sum over a list, by how often each number stands in it

-- v, so many times.
abbrev repeated : ℕ → ℕ → ℕ
repeated zero v = 0
repeated (suc j) v = v + repeated j v

repeated-next : (b : Bool) (j v : ℕ) → repeated (cond b (suc j) j) v ≡ cond b v 0 + repeated j v
repeated-next true j v = refl
repeated-next false j v = omega arith

only_at : (f : ℕ → ℕ) (x m : ℕ) → x < m → sum_below (λ k. cond (eqb k x) (f k) 0) m ≡ f x
only_at f x m h = sum-below-only (λ k. cond (eqb k x) (f k) 0) x m (λ i d. rw (ne_eqb i x d)) h ∙ rw (eq-eqb x x refl)

total-counted : (f : ℕ → ℕ) (xs : List ℕ) (m : ℕ) → ((x : ℕ) → In x xs → x < m) → total f xs ≡ sum_below (λ k. repeated (occurrences k xs) (f k)) m
total-counted f [] m h = sym (sum-below-zero (λ k. 0) m (λ i l. refl))
total-counted f (x ∷ xs) m h = simp repeated-next (omega (arith, sum-below-add (λ k. cond (eqb k x) (f k) 0) (λ k. repeated (occurrences k xs) (f k)) m, only_at f x m (h x (here refl)), total-counted f xs m (λ y i. h y (there i))))

-- In a list of the numbers below m, each once, the sum is that below m.
total-once : (f : ℕ → ℕ) (xs : List ℕ) (m : ℕ) → ((x : ℕ) → In x xs → x < m) → ((k : ℕ) → k < m → occurrences k xs ≡ 1) → total f xs ≡ sum_below f m
total-once f xs m h once = total-counted f xs m h ∙ sum-below-same (λ k. repeated (occurrences k xs) (f k)) f m (λ k l. rw (once k l) (omega arith))

-- ---- sizes

node-size : (w : ℕ) (child : ℕ → Fmla) → size (node_formula w child) ≡ total (λ c. size (child c)) (children w) + 1
node-size w child = go (kind-of w)
  where
    go : Kind w → size (node_formula w child) ≡ total (λ c. size (child c)) (children w) + 1
    go (is_truth e) = rw e
    go (is_record e) = rw e
    go (is_equality e) = rw e
    go (is_not e) = rw e (omega arith)
    go (is_and e) = rw e (omega arith)
    go (is_or e) = rw e (omega arith)
    go (is_exists e) = rw e (omega arith)
    go (is_none k e) = rw e

total-children : (f : ℕ → ℕ) (ns : List ℕ) → total (λ w. total f (children w) + 1) ns ≡ total f (union_of children ns) + length ns
total-children f [] = refl
total-children f (w ∷ ns) = omega (arith, total-append f (children w) (union_of children ns), total-children f ns)

abbrev size_at : List ℕ → ℕ → ℕ
size_at ns i = size (formula_at ns i)

-- Children below their parents, and each node but the last a child once.
module _ (ns : List ℕ) (below : (i : ℕ) → i < length ns → (c : ℕ) → In c (children (get_or ns i 0)) → c < i) (once : (i : ℕ) → i + 1 < length ns → uses ns i ≡ 1) where
  size-of-node : (i : ℕ) → i < length ns → size_at ns i ≡ total (size_at ns) (children (get_or ns i 0)) + 1
  size-of-node i h = ap size (formula-step ns i (below i h)) ∙ node-size (get_or ns i 0) (formula_at ns)

  -- The sizes of all nodes.
  sizes : sum_below (size_at ns) (length ns) ≡ total (size_at ns) (union_of children ns) + length ns
  sizes = sum-below-same (size_at ns) (λ i. total (size_at ns) (children (get_or ns i 0)) + 1) (length ns) size-of-node ∙ sum-of-places (λ w. total (size_at ns) (children w) + 1) ns ∙ total-children (size_at ns) ns

  child-below : (m : ℕ) → length ns ≡ suc m → (c : ℕ) → In c (union_of children ns) → c < m
  child-below m e c i = go (from-union children ns i)
    where
      go : (w : ℕ) × In w ns × In c (children w) → c < m
      go r = let p = place_of 0 ns r.1 in let l : c < p.0 = below p.0 p.1 c (subst (λ w. In c (children w)) p.2 r.2) in omega arith

  -- The sizes of all children.
  child-sizes : (m : ℕ) → length ns ≡ suc m → total (size_at ns) (union_of children ns) ≡ sum_below (size_at ns) m
  child-sizes m e = total-once (size_at ns) (union_of children ns) m (child-below m e) (λ k l. once k (omega arith))

  last-size : (m : ℕ) → length ns ≡ suc m → size_at ns m ≡ length ns
  last-size m e = omega (arith, sizes, child-sizes m e, ap (sum_below (size_at ns)) e)

  pub root-size : 0 < length ns → size (root ns) ≡ length ns
  root-size h = last-size (length ns - 1) (omega arith)
