-- Bytes and numbers written over a list, from a place of it on. Definitions only; the laws are in Writing/Laws.antt.
use Rattle.std.specs.Prelude.{ℕ, suc, ◌+◌, ◌≤◌, List, [], ◌∷◌, length, set}
use Rattle.query.specs.declared.Query.{Query}
use Rattle.query.specs.Reading.{max_nodes, max_constants}

-- The list with xs in the places from `at` on, as far as it reaches.
abbrev pub overlay : ℕ → List ℕ → List ℕ → List ℕ
overlay at [] ys = ys
overlay at (x ∷ xs) ys = overlay (suc at) xs (set ys at x)

-- The place after bytes that are written from a place on, and the list with them.
abbrev pub wrote : ℕ → List ℕ → List ℕ → ℕ × List ℕ
wrote at xs ys = (at + length xs, overlay at xs ys)

-- A query within the limits.
abbrev pub Few : Query → Type 0
Few q = (q.node_count ≤ max_nodes) × (q.constant_count ≤ max_constants)
