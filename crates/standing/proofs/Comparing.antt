-- The derived comparisons of rows in their places are those of their values.
use Rattle.std.specs.Prelude.{ℕ, ◌<◌, ◌≡◌, Bool, false, not, ◌&&◌, ◌||◌, Option, Some, eqb, ltb}
use Rattle.std.proofs.Common.{Ordering, Less, Equal, Greater, arith, sym, lt-ltb, le-ltb, eq-eqb, ne_eqb}
use Rattle.std.specs.Ordering.{MatchOrdering, nat_cmp, partial_ordering_then, is_le, is_some_and, partial_le}
use Rattle.std.specs.Cmp.{ranks}
use Rattle.std.proofs.Math.Bool.{and-true}
use Rattle.calculus.specs.Sets.{same_list}
use Rattle.calculus.specs.Rows.{row_below}
use Rattle.standing.specs.declared.Quad.{Quad}
use Rattle.standing.specs.Code.View.{values_of}
use Rattle.standing.specs.contracts.QuadPartialOrd.TheImpl.{partial_cmp-value}

-- Two values, and then what the later ones come to.
le-next : (v w : ℕ) (p : Option Ordering) (b : Bool) → is_some_and is_le p ≡ not b → is_some_and is_le (partial_ordering_then (Some (nat_cmp v w)) p) ≡ not (ltb w v || (eqb w v && b))
le-next v w p b h = go (nat_cmp v w) (ranks v w)
  where
    go : (o : Ordering) → MatchOrdering o (v < w) (v ≡ w) (w < v) → is_some_and is_le (partial_ordering_then (Some o) p) ≡ not (ltb w v || (eqb w v && b))
    go Less l = rw (le-ltb w v (omega arith), ne_eqb w v (λ e. omega arith))
    go Equal e = rw (le-ltb w v (omega arith), eq-eqb w v (sym e), h)
    go Greater l = rw (lt-ltb w v l)

-- The last value: no other is left to differ.
le-last : (v w : ℕ) → is_some_and is_le (Some (nat_cmp v w)) ≡ not (ltb w v || (eqb w v && false))
le-last v w = go (nat_cmp v w) (ranks v w)
  where
    go : (o : Ordering) → MatchOrdering o (v < w) (v ≡ w) (w < v) → is_le o ≡ not (ltb w v || (eqb w v && false))
    go Less l = rw (le-ltb w v (omega arith), ne_eqb w v (λ e. omega arith))
    go Equal e = rw (le-ltb w v (omega arith), eq-eqb w v (sym e))
    go Greater l = rw (lt-ltb w v l)

-- A row is no more than another where the other is not below it.
pub quad-le : (x y : Quad) → partial_le partial_cmp-value.it x y ≡ not (row_below (values_of y) (values_of x))
quad-le x y = le-next x.first y.first _ _ (le-next x.second y.second _ _ (le-next x.third y.third _ _ (le-last x.fourth y.fourth)))

-- Rows are the same where their values are.
pub quad-same : (x y : Quad) → (eqb x.first y.first && (eqb x.second y.second && (eqb x.third y.third && eqb x.fourth y.fourth))) ≡ same_list (values_of x) (values_of y)
quad-same x y = λ i. eqb x.first y.first && (eqb x.second y.second && (eqb x.third y.third && sym (and-true (eqb x.fourth y.fourth)) i))
