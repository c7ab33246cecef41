-- The fields of a node as the code hands them on, in the words of Nodes, and tests of its terms. Definitions only; the laws are in Fields/Laws.antt.
use Rattle.std.specs.Prelude.{ℕ, ◌<◌, ◌≡◌, Bool, eqb}
use Rattle.query.specs.declared.node.Parts.{Parts}
use Rattle.query.specs.declared.node.Node.{Node}
use Rattle.query.specs.declared.node.Node.TheVariants.{Truth, Record, Equality, Not, Join, Exists, Unknown}
use Rattle.query.specs.declared.node.Connective.TheVariants.{And, Or}
use Rattle.query.specs.declared.node.Connective.{Connective}
use Rattle.query.specs.Nodes.{kind, by_kind, truth_bit, relation, term_count, terms, variable, equal_term, left, right, under, truth_rest, record_rest, equality_rest, not_rest, join_rest, exists_rest}
use Rattle.query.specs.Reading.{max_nodes}

abbrev pub fields_of : ℕ → Parts
fields_of w =
    record {
      kind = kind w;
      truth = truth_bit w;
      relation = relation w;
      count = term_count w;
      terms = terms w;
      variable = variable w;
      term = equal_term w;
      left = left w;
      right = right w;
      under = under w;
    }

-- What reading the node w gives: its fields. Its children are numbers of nodes, and its variable or relation is one of the sixteen.
pub record NodeOf (w : ℕ) (f : Parts) : Type 0 where
  pub reads : f ≡ fields_of w
  pub left_fits : f.left < max_nodes
  pub right_fits : f.right < max_nodes
  pub under_fits : f.under < max_nodes
  pub variable_fits : f.variable < 16
  pub relation_fits : f.relation < 16

-- The bits past the fields of a node's kind.
abbrev pub rest_of : ℕ → ℕ
rest_of w = by_kind (truth_rest w) (record_rest w) (equality_rest w) (not_rest w) (join_rest w) (join_rest w) (exists_rest w) 0 w

-- A test as it is.
abbrev pub itself : Bool → Bool
itself b = b

-- ---- a node, taken apart

-- The kind of an and, and of an or.
abbrev pub kind_of : Connective → ℕ
kind_of And = 4
kind_of Or = 5

-- What taking the node w apart gives: what it is by its kind, with the fields of that kind. Its children are numbers of nodes, its variable or relation is one
-- of the sixteen, and its term has room in 5 bits.
abbrev pub IsNode : ℕ → Node → Type 0
IsNode w (Truth b) = (kind w ≡ 0) × (b ≡ eqb (truth_bit w) 1)
IsNode w (Record a) = (kind w ≡ 1) × (a.relation ≡ relation w) × (a.relation < 16) × (a.count ≡ term_count w) × (a.terms ≡ terms w)
IsNode w (Equality x t) = (kind w ≡ 2) × (x ≡ variable w) × (x < 16) × (t ≡ equal_term w) × (t < 32)
IsNode w (Not c) = (kind w ≡ 3) × (c ≡ left w) × (c < max_nodes)
IsNode w (Join k l r) = (kind w ≡ kind_of k) × (l ≡ left w) × (l < max_nodes) × (r ≡ right w) × (r < max_nodes)
IsNode w (Exists x c) = (kind w ≡ 6) × (x ≡ variable w) × (x < 16) × (c ≡ under w) × (c < max_nodes)
IsNode w Unknown = 6 < kind w
