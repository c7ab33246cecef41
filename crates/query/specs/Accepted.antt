-- What the reader promises of an accepted query. Definitions only; that every accepted query has it is in Accepted/Laws.antt.
use Rattle.std.specs.Prelude.{ℕ, ◌+◌, ◌≤◌, ◌<◌, ◌≡◌, false, List, get_or, T}
use Rattle.calculus.specs.Sets.{In}
use Rattle.calculus.specs.Formula.{size}
use Rattle.causes.specs.Causes.{widths_fit}
use Rattle.query.specs.declared.Query.{Query}
use Rattle.query.specs.Nodes.{children, uses, malformed, strays, mismatched}
use Rattle.query.specs.Packing.{Packable}
use Rattle.query.specs.Reading.{max_nodes, max_constants, pool, nodes_in, formula, query_of}

-- A query that the reader accepts for relations of the widths ws.
pub record Accepted (ws : List ℕ) (q : Query) : Type 0 where
  pub widths_right : T (widths_fit ws)
  pub some_node : 1 ≤ q.node_count
  pub few_nodes : q.node_count ≤ max_nodes
  pub few_constants : q.constant_count ≤ max_constants
  -- places past the counts are zero
  pub whole : q ≡ query_of (pool q) (nodes_in q)
  -- each child's number is below its parent's, and each node but the last is a child exactly once
  pub children_below : (i : ℕ) → i < q.node_count → (c : ℕ) → In c (children (get_or q.nodes i 0)) → c < i
  pub child_once : (i : ℕ) → i + 1 < q.node_count → uses (nodes_in q) i ≡ 1
  -- a known kind with nothing set past its fields, constants of the pool, present relations with as many terms as their width
  pub formed : (i : ℕ) → i < q.node_count → malformed (get_or q.nodes i 0) ≡ false
  pub constants_held : (i : ℕ) → i < q.node_count → strays q.constant_count (get_or q.nodes i 0) ≡ false
  pub relations_held : (i : ℕ) → i < q.node_count → mismatched ws (get_or q.nodes i 0) ≡ false
  -- its formula has as many nodes, and can be packed again
  pub size_is : size (formula q) ≡ q.node_count
  pub packable : Packable ws (pool q) (formula q)
