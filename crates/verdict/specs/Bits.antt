-- Sets of numbers as one number, a bit for each, number 0 highest: document 01's 64-bit and 16-bit numbers. Definitions only; the laws are in Bits/Laws.antt.
use Rattle.std.specs.Prelude.{ℕ, zero, suc, ◌+◌, ◌*◌, Bool, cond, List, [], ◌∷◌}
use Rattle.std.specs.Int.Bits.{bit_and}
use Rattle.calculus.specs.Sets.{member}
use Rattle.query.specs.Nodes.{nonzero}
use Rattle.query.specs.Reading.{max_nodes}

abbrev pub bit : Bool → ℕ
bit b = cond b 1 0

-- The set of the numbers below k that pass the test, as a number of k bits.
unfoldable pub bits : (ℕ → Bool) → ℕ → ℕ
bits f zero = 0
bits f (suc k) = bits f k * 2 + bit (f k)

-- The set of the members of a list that are below k, as a number of k bits.
abbrev pub mask : ℕ → List ℕ → ℕ
mask k xs = bits (λ n. member n xs) k

-- A set of nodes: 64 bits, node 0 highest.
abbrev pub node_mask : List ℕ → ℕ
node_mask xs = mask max_nodes xs

-- A set of variables: 16 bits, variable 0 highest.
abbrev pub variable_mask : List ℕ → ℕ
variable_mask xs = mask 16 xs

-- Whether x is in a set of numbers below k: its bit is set.
abbrev pub has : ℕ → ℕ → ℕ → Bool
has k set x = nonzero (bit_and set (mask k (x ∷ [])))
