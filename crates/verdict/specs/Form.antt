-- The propagated form of a query: document 01, "From formula to verdict". Definitions only; the laws are in Form/Laws.antt.
use Rattle.calculus.specs.Propagation.{cp}
use Rattle.query.specs.declared.Query.{Query}
use Rattle.query.specs.Reading.{pool, formula, query_of}
use Rattle.query.specs.Packing.{words}

-- The form of a query: its constants, and the nodes of its propagated formula, left subtree first, then right, then the parent.
abbrev pub form_of : Query → Query
form_of q = query_of (pool q) (words (cp (formula q)) 0)
