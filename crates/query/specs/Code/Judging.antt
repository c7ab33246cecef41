-- How the code judges nodes: for each cause a search for the lowest node with its fault, and the uses of all nodes counted in one pass. Definitions only; the laws
-- are those of Nodes and Reading.
use Rattle.std.specs.Prelude.{ℕ, ◌+◌, ◌-◌, Bool, false, cond, List, [], ◌∷◌, get_or, ltb, Option, Some, None}
use Rattle.calculus.specs.Lists.{tabulate}
use Rattle.causes.specs.Causes.{Finding, clear, met}
use Rattle.query.specs.Nodes.{children, malformed, occurrences, misplaced, strays, mismatched}
use Rattle.query.specs.Reading.{max_nodes}

-- What a search for the lowest node with a fault finds.
abbrev pub finding_of : Option ℕ → Finding
finding_of (Some i) = met i
finding_of None = clear

-- The fault of the causes 6 to 9, by the cause's number. Laws of Reading speak of it.
abbrev pub node_fault : ℕ → List ℕ → ℕ → List ℕ → ℕ → Bool
node_fault cause ws k ns i =
    get_or (malformed (get_or ns i 0) ∷ misplaced ns i ∷ strays k (get_or ns i 0) ∷ mismatched ws (get_or ns i 0) ∷ []) (cause - 6) false

-- The same of a search that answers n where it finds nothing.
abbrev pub found_at : ℕ → ℕ → Finding
found_at i n = cond (ltb i n) (met i) clear

-- The uses so far, and those by the node w.
abbrev pub counted_with : List ℕ → ℕ → List ℕ
counted_with counts w = tabulate (λ c. get_or counts c 0 + occurrences c (children w)) max_nodes
