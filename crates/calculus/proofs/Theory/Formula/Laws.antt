-- Laws of the nodes of a formula: they are numbered one after the other, and which formulas they hold doesn't depend on where the numbers start.
use Rattle.std.specs.Prelude.{ℕ, zero, suc, ◌+◌, ◌<◌, ◌≡◌, refl, ◌⊎◌, List, [], ◌∷◌, ◌++◌, map}
use Rattle.std.proofs.Common.{add-zero, zero-add, suc-add, add-suc, arith, sym, ap, subst, ◌∙◌, inl, inr, ⊎_elim}
use Rattle.std.proofs.lemmas.List.{map-append}
use Rattle.calculus.specs.Sets.{In, here, there, ◌⊆◌}
use Rattle.calculus.proofs.Theory.Sets.Laws.{in-nil, in_one, in_left, in_right, in-append, in_map}
use Rattle.calculus.specs.Formula.{Fmla, truth, rel, eq, neg, conj, disj, exists, size, Node, node, nodes, number_of}
use Rattle.calculus.specs.Lists.{run}

-- The nodes of a formula ω with the children φ and ψ.
abbrev pub joined : Fmla → Fmla → Fmla → ℕ → List Node
joined ω φ ψ n = nodes φ n ++ nodes ψ (n + size φ) ++ (node (n + (size φ + size ψ)) ω ∷ [])

pub left-node : (ω φ ψ : Fmla) (n : ℕ) → nodes φ n ⊆ joined ω φ ψ n
left-node ω φ ψ n u i = in_left (node (n + (size φ + size ψ)) ω ∷ []) (in_left (nodes ψ (n + size φ)) i)

pub right-node : (ω φ ψ : Fmla) (n : ℕ) → nodes ψ (n + size φ) ⊆ joined ω φ ψ n
right-node ω φ ψ n u i = in_left (node (n + (size φ + size ψ)) ω ∷ []) (in_right (nodes φ n) i)

-- ---- the numbers

run-append : (n j k : ℕ) → run n (j + k) ≡ run n j ++ run (n + j) k
run-append n zero k = ap (run n) (zero-add k) ∙ ap (λ m. run m k) (sym (add-zero n))
run-append n (suc j) k = ap (run n) (suc-add j k) ∙ ap (λ l. n ∷ l) (run-append (suc n) j k ∙ ap (λ m. run (suc n) j ++ run m k) (suc-add n j ∙ sym (add-suc n j)))

run-last : (n k : ℕ) → run n (k + 1) ≡ run n k ++ ((n + k) ∷ [])
run-last n k = run-append n k 1

above : (ω φ : Fmla) (n : ℕ) → map number_of (nodes φ n) ≡ run n (size φ) → map number_of (nodes φ n ++ (node (n + size φ) ω ∷ [])) ≡ run n (size φ + 1)
above ω φ n h = map-append number_of (nodes φ n) (node (n + size φ) ω ∷ []) ∙ ap (λ l. l ++ ((n + size φ) ∷ [])) h ∙ sym (run-last n (size φ))

joined_numbers : (ω φ ψ : Fmla) (n : ℕ) → map number_of (nodes φ n) ≡ run n (size φ) → map number_of (nodes ψ (n + size φ)) ≡ run (n + size φ) (size ψ) → map number_of (joined ω φ ψ n) ≡ run n (size φ + size ψ + 1)
joined_numbers ω φ ψ n h k =
    map-append number_of (nodes φ n ++ nodes ψ (n + size φ)) (node (n + (size φ + size ψ)) ω ∷ [])
    ∙ ap (λ l. l ++ ((n + (size φ + size ψ)) ∷ [])) (map-append number_of (nodes φ n) (nodes ψ (n + size φ)) ∙ (λ i. h i ++ k i) ∙ sym (run-append n (size φ) (size ψ)))
    ∙ sym (run-last n (size φ + size ψ))

-- The numbers of the nodes go up by one from n: document 01's "left subtree first, then right, then the parent".
pub nodes-numbers : (φ : Fmla) (n : ℕ) → map number_of (nodes φ n) ≡ run n (size φ)
nodes-numbers (truth b) n = refl
nodes-numbers (rel r ts) n = refl
nodes-numbers (eq x t) n = refl
nodes-numbers (neg φ) n = above (neg φ) φ n (nodes-numbers φ n)
nodes-numbers (conj φ ψ) n = joined_numbers (conj φ ψ) φ ψ n (nodes-numbers φ n) (nodes-numbers ψ (n + size φ))
nodes-numbers (disj φ ψ) n = joined_numbers (disj φ ψ) φ ψ n (nodes-numbers φ n) (nodes-numbers ψ (n + size φ))
nodes-numbers (exists z φ) n = above (exists z φ) φ n (nodes-numbers φ n)

in-run : {k : ℕ} (n m : ℕ) → In k (run n m) → k < n + m
in-run n zero i = absurd (in-nil i)
in-run n (suc m) (here e) = omega arith
in-run n (suc m) (there i) = omega (arith, in-run (suc n) m i)

-- Each node's number is below n plus the number of nodes.
pub node-below : (φ χ : Fmla) (n k : ℕ) → In (node k χ) (nodes φ n) → k < n + size φ
node-below φ χ n k i = in-run n (size φ) (subst (In k) (nodes-numbers φ n) (in_map number_of i))

-- ---- which formulas are at the nodes

-- The subformula at a node.
abbrev pub formula_of : Node → Fmla
formula_of (node n φ) = φ

-- Some node of the list is χ.
abbrev pub Has : Fmla → List Node → Type 0
Has χ ns = (n : ℕ) × In (node n χ) ns

pub has_left : {χ : Fmla} {ns : List Node} (ms : List Node) → Has χ ns → Has χ (ns ++ ms)
has_left ms h = (h.0, in_left ms h.1)

pub has_right : {χ : Fmla} (ns : List Node) {ms : List Node} → Has χ ms → Has χ (ns ++ ms)
has_right ns h = (h.0, in_right ns h.1)

pub from_one : {χ φ : Fmla} {n : ℕ} → Has χ (node n φ ∷ []) → χ ≡ φ
from_one h = ap formula_of (in_one h.1)

pub from-append : {χ : Fmla} (ns : List Node) {ms : List Node} → Has χ (ns ++ ms) → Has χ ns ⊎ Has χ ms
from-append ns h = ⊎_elim (λ i. inl (h.0, i)) (λ i. inr (h.0, i)) (in-append ns h.1)

has-one-map : {χ φ : Fmla} {n : ℕ} (m : ℕ) → Has χ (node n φ ∷ []) → Has χ (node m φ ∷ [])
has-one-map m h = (m, here (ap (node m) (from_one h)))

has-append-map : {χ : Fmla} (ns us : List Node) {ms vs : List Node} → (Has χ ns → Has χ us) → (Has χ ms → Has χ vs) → Has χ (ns ++ ms) → Has χ (us ++ vs)
has-append-map ns us {vs = vs} f g h = ⊎_elim (λ a. has_left vs (f a)) (λ b. has_right us (g b)) (from-append ns h)

-- What node-shift says of φ, for the clauses with two children.
abbrev Shifts : Fmla → Type 0
Shifts φ = (n m : ℕ) (χ : Fmla) → Has χ (nodes φ n) → Has χ (nodes φ m)

joined-shift : (ω φ ψ : Fmla) → Shifts φ → Shifts ψ → (n m : ℕ) (χ : Fmla) → Has χ (joined ω φ ψ n) → Has χ (joined ω φ ψ m)
joined-shift ω φ ψ f g n m χ = has-append-map (nodes φ n ++ nodes ψ (n + size φ)) (nodes φ m ++ nodes ψ (m + size φ)) below (has-one-map (m + (size φ + size ψ)))
  where
    below : Has χ (nodes φ n ++ nodes ψ (n + size φ)) → Has χ (nodes φ m ++ nodes ψ (m + size φ))
    below = has-append-map (nodes φ n) (nodes φ m) (f n m χ) (g (n + size φ) (m + size φ) χ)

-- The subformulas don't depend on where the numbering starts.
pub node-shift : (φ : Fmla) (n m : ℕ) (χ : Fmla) → ((k : ℕ) × In (node k χ) (nodes φ n)) → (k : ℕ) × In (node k χ) (nodes φ m)
node-shift (truth b) n m χ = has-one-map m
node-shift (rel r ts) n m χ = has-one-map m
node-shift (eq x t) n m χ = has-one-map m
node-shift (neg φ) n m χ = has-append-map (nodes φ n) (nodes φ m) (node-shift φ n m χ) (has-one-map (m + size φ))
node-shift (conj φ ψ) n m χ = joined-shift (conj φ ψ) φ ψ (node-shift φ) (node-shift ψ) n m χ
node-shift (disj φ ψ) n m χ = joined-shift (disj φ ψ) φ ψ (node-shift φ) (node-shift ψ) n m χ
node-shift (exists z φ) n m χ = has-append-map (nodes φ n) (nodes φ m) (node-shift φ n m χ) (has-one-map (m + size φ))
