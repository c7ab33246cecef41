-- The formula that packed nodes stand for. Definitions only; the laws are in Decoding/Laws.antt.
-- Nodes are decoded in order of their numbers, each from the formulas of the nodes before it; a child field that is not below its node stands for false.
use Rattle.std.specs.Prelude.{ℕ, zero, suc, ◌-◌, ◌%◌, false, cond, List, [], ◌∷◌, ◌++◌, map, length, get_or, take, eqb, leb}
use Rattle.calculus.specs.Formula.{Term, var, con, Fmla, truth, rel, eq, neg, conj, disj, exists}
use Rattle.query.specs.Nodes.{by_kind, truth_bit, relation, term_count, terms, variable, equal_term, left, right, under}

-- A term: 1 bit (0 variable, 1 constant), and 4 bits of variable number or place among the constants.
abbrev pub term_of : ℕ → Term
term_of t = cond (leb 16 t) (con (t % 16)) (var (t % 16))

-- The formula of a node, given those of its children.
abbrev pub node_formula : ℕ → (ℕ → Fmla) → Fmla
node_formula w child =
    by_kind
    (truth (eqb (truth_bit w) 1))
    (rel (relation w) (map term_of (take (term_count w) (terms w))))
    (eq (variable w) (term_of (equal_term w)))
    (neg (child (left w)))
    (conj (child (left w)) (child (right w)))
    (disj (child (left w)) (child (right w)))
    (exists (variable w) (child (under w)))
    (truth false)
    w

abbrev pub formula_in : List Fmla → ℕ → Fmla
formula_in φs c = get_or φs c (truth false)

-- The formulas of the nodes before, and that of the node w after them.
abbrev pub extended : List Fmla → ℕ → List Fmla
extended φs w = φs ++ (node_formula w (formula_in φs) ∷ [])

-- The formulas of the first n nodes.
abbrev pub formulas : List ℕ → ℕ → List Fmla
formulas ns zero = []
formulas ns (suc n) = extended (formulas ns n) (get_or ns n 0)

-- The formula of node i.
abbrev pub formula_at : List ℕ → ℕ → Fmla
formula_at ns i = formula_in (formulas ns (suc i)) i

-- The formula of the last node, the root.
abbrev pub root : List ℕ → Fmla
root ns = formula_at ns (length ns - 1)
