-- Document 01's generation order, "From formula to verdict", with document 02's Point 3: of the sets that the rules allow (Ranging) it takes one, and names the
-- leaf nodes before 000's substitution and quantifiers. Definitions only; the laws are in Generators/Laws.antt.
use Rattle.std.specs.Prelude.{ℕ, ◌+◌, Bool, true, false, ◌&&◌, cond, List, [], ◌∷◌, ◌++◌, map, eqb, ltb}
use Rattle.std.proofs.Math.Option.{Option, none, some}
use Rattle.calculus.specs.Sets.{member, select, union_of}
use Rattle.calculus.specs.Order.{sort}
use Rattle.calculus.specs.Formula.{var, con, Fmla, truth, rel, eq, neg, conj, disj, exists, fv, fv_terms, size, Node, node, nodes}
use Rattle.calculus.specs.Propagation.{cp}

-- What a node answers for a variable: that it doesn't generate it, or the numbers of the leaf nodes from which it does. False generates
-- every variable from no node, so `some []` is not `none`.
abbrev pub Leaves : Type 0
Leaves = Option (List ℕ)

-- The leaf n, where the test holds.
abbrev pub leaf_where : Bool → ℕ → Leaves
leaf_where b n = cond b (some (n ∷ [])) none

-- The leaves of the first child where it generates the variable, else those of the second.
abbrev pub first : Leaves → Leaves → Leaves
first (some l) m = some l
first none m = m

-- The leaves of both children, united, where both generate the variable.
abbrev pub both : Leaves → Leaves → Leaves
both (some l) (some m) = some (l ++ m)
both (some l) none = none
both none (some m) = none
both none none = none

-- The other variable, where an equality of the variables y and z equates x with another.
abbrev pub other_of : ℕ → ℕ → ℕ → Option ℕ
other_of y z x = cond (eqb y z) none (cond (eqb x y) (some z) (cond (eqb x z) (some y) none))

abbrev pub equated : Fmla → ℕ → Option ℕ
equated (truth b) x = none
equated (rel r ts) x = none
equated (eq y (var z)) x = other_of y z x
equated (eq y (con p)) x = none
equated (neg φ) x = none
equated (conj φ ψ) x = none
equated (disj φ ψ) x = none
equated (exists z φ) x = none

-- The leaves of the variable that x is equated with, where there is one.
abbrev pub through : Option ℕ → (ℕ → Leaves) → Leaves
through (some y) f = f y
through none f = none

-- The order; beside each clause is its sentence in document 01, and of an and's last step what document 02 says. "A node is judged plainly, or as denied
-- when it stands under a not."
-- `plain φ n x`: the leaves that generate x in φ, whose nodes are numbered from n. `denied φ n x`: the same where φ stands under a not.
abbrev mutual
  pub plain : Fmla → ℕ → ℕ → Leaves
  -- "true generates none"
  plain (truth true) n x = none
  -- "False generates every variable, from no node"
  plain (truth false) n x = some []
  -- "A record generates each variable among its terms, from itself."
  plain (rel r ts) n x = leaf_where (member x (fv_terms ts)) n
  -- "Variable equals variable: none."
  plain (eq y (var z)) n x = none
  -- "Variable equals constant: the same."
  plain (eq y (con p)) n x = leaf_where (eqb x y) n
  -- "or as denied when it stands under a not"
  plain (neg φ) n x = denied φ n x
  -- "Plain and: left, else right, else, where the right child equates the variable with another, as left generates that other." Document 02: else, where the
  -- left child equates it with another, as right generates that other.
  plain (conj φ ψ) n x =
      first (plain φ n x)
      (first (plain ψ (n + size φ) x)
      (first (through (equated ψ x) (λ y. plain φ n y))
      (through (equated φ x) (λ y. plain ψ (n + size φ) y))))
  -- "Plain or: both children, nodes united."
  plain (disj φ ψ) n x = both (plain φ n x) (plain ψ (n + size φ) x)
  -- "Exists: its child, for another variable than the bound one."
  plain (exists z φ) n x = cond (eqb x z) none (plain φ n x)

  pub denied : Fmla → ℕ → ℕ → Leaves
  -- "Any other denied node: none."
  denied (truth b) n x = none
  denied (rel r ts) n x = none
  denied (eq y t) n x = none
  -- "Denied not: its child plainly."
  denied (neg φ) n x = plain φ n x
  -- "Denied and: both denied, united."
  denied (conj φ ψ) n x = both (denied φ n x) (denied ψ (n + size φ) x)
  -- "Denied or: left denied, else right denied."
  denied (disj φ ψ) n x = first (denied φ n x) (denied ψ (n + size φ) x)
  -- "Any other denied node: none."
  denied (exists z φ) n x = none

-- Columns: the free variables of the query as read, ascending.
abbrev pub columns : Fmla → List ℕ
columns φ = sort ltb (fv φ)

-- Whether a node answers "none".
abbrev pub is_none : Leaves → Bool
is_none none = true
is_none (some l) = false

-- The leaf nodes of an answer; no node where it is "none".
abbrev pub leaves : Leaves → List ℕ
leaves none = []
leaves (some l) = l

-- The number of a node that is an exists whose variable isn't generated in its child. The child is numbered from 0 here, wherever it stands: that changes the
-- leaves' numbers only, and all that is asked is whether the answer is "none" (`none-anywhere` in the laws).
abbrev pub unranged_node : Node → List ℕ
unranged_node (node n (truth b)) = []
unranged_node (node n (rel r ts)) = []
unranged_node (node n (eq x t)) = []
unranged_node (node n (neg φ)) = []
unranged_node (node n (conj φ ψ)) = []
unranged_node (node n (disj φ ψ)) = []
unranged_node (node n (exists z φ)) = cond (is_none (plain φ 0 z)) (n ∷ []) []

-- Document 01's verdict on a query: its columns, the generator nodes of each, the free variables that aren't generated in the form, and
-- the exists nodes of the form whose variable isn't generated in their child.
pub record Verdict : Type 0 where
  pub columns_read : List ℕ
  pub generators : List (List ℕ)
  pub ungenerated : List ℕ
  pub unranged : List ℕ

abbrev pub verdict : Fmla → Verdict
verdict φ =
    record {
      columns_read = columns φ;
      generators = map (λ x. leaves (plain (cp φ) 0 x)) (columns φ);
      ungenerated = select (λ x. is_none (plain (cp φ) 0 x)) (columns φ);
      unranged = union_of unranged_node (nodes (cp φ) 0);
    }

abbrev pub is_empty : List ℕ → Bool
is_empty [] = true
is_empty (x ∷ xs) = false

-- Safe-range: both reports are empty.
abbrev pub safe : Verdict → Bool
safe v = is_empty v.ungenerated && is_empty v.unranged
