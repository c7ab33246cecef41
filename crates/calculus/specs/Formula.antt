-- Formulas of the relational calculus: 000, 2.1 and 2.2. Definitions only; the laws are in Formula/Laws.antt.
-- A constant is a place in a pool of values: a query keeps its pool, and two places may hold one value.
use Rattle.std.specs.Prelude.{ℕ, ◌+◌, Bool, List, [], ◌∷◌, ◌++◌}
use Rattle.calculus.specs.Sets.{union_of, remove}

-- A variable by its number, or a constant by its place (000: Var, Const).
pub data Term : Type 0 where
  var : ℕ → Term
  con : ℕ → Term

-- 000's fmla: Bool, Pred, Eq, Neg, Conj, Disj, Exists. Document 01's node kinds: truth, record, equality, not, and, or, exists.
pub data Fmla : Type 0 where
  truth : Bool → Fmla
  rel : ℕ → List Term → Fmla
  eq : ℕ → Term → Fmla
  neg : Fmla → Fmla
  conj : Fmla → Fmla → Fmla
  disj : Fmla → Fmla → Fmla
  exists : ℕ → Fmla → Fmla

-- 000: fv_term_set, fv_terms_set.
abbrev pub fv_term : Term → List ℕ
fv_term (var x) = x ∷ []
fv_term (con p) = []

abbrev pub fv_terms : List Term → List ℕ
fv_terms ts = union_of fv_term ts

-- The free variables.
abbrev pub fv : Fmla → List ℕ
fv (truth b) = []
fv (rel r ts) = fv_terms ts
fv (eq x t) = x ∷ fv_term t
fv (neg φ) = fv φ
fv (conj φ ψ) = fv φ ++ fv ψ
fv (disj φ ψ) = fv φ ++ fv ψ
fv (exists z φ) = remove z (fv φ)

-- The union, over the records and equalities of a formula, of what f gives of a record and g of an equality.
abbrev pub gather : (ℕ → List Term → List ℕ) → (ℕ → Term → List ℕ) → Fmla → List ℕ
gather f g (truth b) = []
gather f g (rel r ts) = f r ts
gather f g (eq x t) = g x t
gather f g (neg φ) = gather f g φ
gather f g (conj φ ψ) = gather f g φ ++ gather f g ψ
gather f g (disj φ ψ) = gather f g φ ++ gather f g ψ
gather f g (exists z φ) = gather f g φ

-- The relations that a formula names.
abbrev pub relations : Fmla → List ℕ
relations φ = gather (λ r ts. r ∷ []) (λ x t. []) φ

-- The places of the constants that a formula uses.
abbrev pub places_term : Term → List ℕ
places_term (var x) = []
places_term (con p) = p ∷ []

abbrev pub places : Fmla → List ℕ
places φ = gather (λ r ts. union_of places_term ts) (λ x t. places_term t) φ

-- The number of nodes.
abbrev pub size : Fmla → ℕ
size (truth b) = 1
size (rel r ts) = 1
size (eq x t) = 1
size (neg φ) = size φ + 1
size (conj φ ψ) = size φ + size ψ + 1
size (disj φ ψ) = size φ + size ψ + 1
size (exists z φ) = size φ + 1

-- A node of a formula: its number, and the subformula that it is the root of.
pub data Node : Type 0 where
  node : ℕ → Fmla → Node

-- The number of a node.
abbrev pub number_of : Node → ℕ
number_of (node n φ) = n

-- The nodes in document 01's order, numbered from n: left subtree, right subtree, parent. Without the numbers, 000's `sub` (2.4).
abbrev pub nodes : Fmla → ℕ → List Node
nodes (truth b) n = node n (truth b) ∷ []
nodes (rel r ts) n = node n (rel r ts) ∷ []
nodes (eq x t) n = node n (eq x t) ∷ []
nodes (neg φ) n = nodes φ n ++ (node (n + size φ) (neg φ) ∷ [])
nodes (conj φ ψ) n = nodes φ n ++ nodes ψ (n + size φ) ++ (node (n + (size φ + size ψ)) (conj φ ψ) ∷ [])
nodes (disj φ ψ) n = nodes φ n ++ nodes ψ (n + size φ) ++ (node (n + (size φ + size ψ)) (disj φ ψ) ∷ [])
nodes (exists z φ) n = nodes φ n ++ (node (n + size φ) (exists z φ) ∷ [])
