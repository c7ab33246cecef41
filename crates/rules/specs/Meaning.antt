-- What a rule means, and the query that it is packed into: document 02, Point 1. Definitions only; the laws are in Meaning/.
use Rattle.std.specs.Prelude.{ℕ, zero, suc, ◌≡◌, Bool, false, not, ◌||◌, cond, List, [], ◌∷◌, ◌++◌, map, length, get_or, eqb, ltb}
use Rattle.calculus.specs.Sets.{In, any_of, all_of, select, union_of, member}
use Rattle.calculus.specs.Order.{is-ascending, sort}
use Rattle.calculus.specs.Formula.{var, con, Fmla, rel, eq, neg, conj, exists, size, Term as FmlaTerm}
use Rattle.calculus.specs.Satisfaction.{Pool, fact, Database, Env}
use Rattle.calculus.specs.Rows.{Row}
use Rattle.query.specs.Reading.{max_nodes, max_constants}
use Rattle.rules.specs.Grammar.{Several, several, all, Term, variable, value, Goal, holds, fails, equal, Rule, rule}

-- ---- the parts of a rule

abbrev pub head : Rule → List ℕ
head (rule xs gs) = xs

abbrev pub goals : Rule → List Goal
goals (rule xs gs) = all gs

-- The terms of a goal, in their order.
abbrev pub goal_terms : Goal → List Term
goal_terms (holds r ts) = all ts
goal_terms (fails r ts) = all ts
goal_terms (equal x t) = variable x ∷ t ∷ []

abbrev pub goal_relations : Goal → List ℕ
goal_relations (holds r ts) = r ∷ []
goal_relations (fails r ts) = r ∷ []
goal_relations (equal x t) = []

abbrev pub term_variables : Term → List ℕ
term_variables (variable x) = x ∷ []
term_variables (value v) = []

abbrev pub term_values : Term → List ℕ
term_values (variable x) = []
term_values (value v) = v ∷ []

abbrev pub goal_variables : Goal → List ℕ
goal_variables g = union_of term_variables (goal_terms g)

abbrev pub goal_values : Goal → List ℕ
goal_values g = union_of term_values (goal_terms g)

-- The relations, variables and values of goals, in the order of the text.
abbrev pub relations_in : List Goal → List ℕ
relations_in gs = union_of goal_relations gs

abbrev pub variables_in : List Goal → List ℕ
variables_in gs = union_of goal_variables gs

abbrev pub values_in : List Goal → List ℕ
values_in gs = union_of goal_values gs

-- ---- its rows, from the rule alone

-- The number that a term stands for where the variables have these numbers.
abbrev pub term_value : Env → Term → ℕ
term_value σ (variable x) = σ x
term_value σ (value v) = v

-- The record that a relation's terms stand for is held.
abbrev pub Held : Database → Env → ℕ → Several Term → Type 0
Held D σ r ts = In (fact r (map (term_value σ) (all ts))) D

-- The goal is true.
abbrev pub GoalTrue : Database → Env → Goal → Type 0
GoalTrue D σ (holds r ts) = Held D σ r ts
GoalTrue D σ (fails r ts) = ¬ Held D σ r ts
GoalTrue D σ (equal x t) = σ x ≡ term_value σ t

-- A row of the rule: some whole numbers for the variables, the row's for those of the head, make every goal true.
abbrev pub RuleRow : Database → Rule → Row → Type 0
RuleRow D R w = (σ : Env) × (map σ (head R) ≡ w) × ((g : Goal) → In g (goals R) → GoalTrue D σ g)

-- ---- its query

-- "Constants enter the pool once each, by first use."
abbrev pub added : Pool → ℕ → Pool
added pool v = cond (member v pool) pool (pool ++ (v ∷ []))

abbrev pub pooled : Pool → List ℕ → Pool
pooled pool [] = pool
pooled pool (v ∷ vs) = pooled (added pool v) vs

abbrev pub pool_of : List Goal → Pool
pool_of gs = pooled [] (values_in gs)

-- The first place of a value in the pool; the pool's length where it is in none.
abbrev pub place_in : Pool → ℕ → ℕ
place_in [] v = zero
place_in (c ∷ cs) v = cond (eqb v c) zero (suc (place_in cs v))

abbrev pub term_in : Pool → Term → FmlaTerm
term_in pool (variable x) = var x
term_in pool (value v) = con (place_in pool v)

abbrev pub goal_formula : Pool → Goal → Fmla
goal_formula pool (holds r ts) = rel r (map (term_in pool) (all ts))
goal_formula pool (fails r ts) = neg (rel r (map (term_in pool) (all ts)))
goal_formula pool (equal x t) = eq x (term_in pool t)

-- "joins goals with and from the left": φ and the first goal, that and the second ..
abbrev pub conjoined : Pool → Fmla → List Goal → Fmla
conjoined pool φ [] = φ
conjoined pool φ (g ∷ gs) = conjoined pool (conj φ (goal_formula pool g)) gs

abbrev pub matrix : Pool → Several Goal → Fmla
matrix pool (several g gs) = conjoined pool (goal_formula pool g) gs

-- "the goals' variables absent from the head", ascending.
abbrev pub bound : Rule → List ℕ
bound R = select (λ x. not (member x (head R))) (sort ltb (variables_in (goals R)))

-- Exists for each variable, the first outermost.
abbrev pub quantified : List ℕ → Fmla → Fmla
quantified [] φ = φ
quantified (x ∷ xs) φ = exists x (quantified xs φ)

-- "puts exists around .., the highest number innermost".
abbrev pub formula_of : Rule → Fmla
formula_of (rule xs gs) = quantified (bound (rule xs gs)) (matrix (pool_of (all gs)) gs)

-- ---- the limits: terms of a head or a relation, numbers of a relation or variable, values

abbrev pub max_terms : ℕ
max_terms = 4

abbrev pub max_number : ℕ
max_number = 15

abbrev pub max_value : ℕ
max_value = 4294967295

-- A relation's terms are too many. An equality's never are.
abbrev pub crowded : Goal → Bool
crowded (holds r ts) = ltb max_terms (length (all ts))
crowded (fails r ts) = ltb max_terms (length (all ts))
crowded (equal x t) = false

-- Document 02's cause 20 in text of the grammar: "a head not as stated, over 4 terms in head or goal, 64 nodes or 16 constants, a relation or variable
-- over 15, or a value over 4,294,967,295". A head is as stated where its variables ascend, so are distinct, and each stands in a goal.
abbrev pub overstepped : Rule → Bool
overstepped R =
    not (is-ascending ltb (head R))
    || not (all_of (λ x. member x (variables_in (goals R))) (head R))
    || ltb max_terms (length (head R))
    || any_of crowded (goals R)
    || ltb max_nodes (size (formula_of R))
    || ltb max_constants (length (pool_of (goals R)))
    || any_of (ltb max_number) (relations_in (goals R))
    || any_of (ltb max_number) (head R ++ variables_in (goals R))
    || any_of (ltb max_value) (values_in (goals R))

-- ---- the widths of the relations

-- A goal's relation has as many terms as its records have values. An equality has no relation.
abbrev pub goal_allowed : List ℕ → Goal → Type 0
goal_allowed ws (holds r ts) = length (all ts) ≡ get_or ws r 0
goal_allowed ws (fails r ts) = length (all ts) ≡ get_or ws r 0
goal_allowed ws (equal x t) = Unit {0}

-- The widths allow the rule's relations: each has as many terms as its records have values.
abbrev pub Allowed : List ℕ → Rule → Type 0
Allowed ws R = (g : Goal) → In g (goals R) → goal_allowed ws g
