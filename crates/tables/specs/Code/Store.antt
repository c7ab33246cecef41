-- How the code writes a record place. Definitions only; the laws are in Store/Places.antt.
use Rattle.std.specs.Prelude.{ℕ, ◌+◌, ◌*◌, List, set}
use Rattle.tables.specs.declared.Record.{Record}

-- Four values, from place a on.
abbrev pub set_four : List ℕ → ℕ → ℕ → ℕ → ℕ → ℕ → List ℕ
set_four vs a p q r s = set (set (set (set vs a p) (a + 1) q) (a + 2) r) (a + 3) s

-- The values with those of r at place i.
abbrev pub set_values : List ℕ → ℕ → Record → List ℕ
set_values vs i r = set_four vs (4 * i) r.first r.second r.third r.fourth
