-- Numbers in decimal, as ASCII bytes. Definitions only; the laws are in Decimal/Laws.antt.
use Rattle.std.specs.Prelude.{ℕ, zero, suc, ◌+◌, ◌/◌, ◌%◌, cond, List, [], ◌∷◌, ◌++◌, ltb}

-- The last k decimal digits of a number. Where k places are enough for it, and at least one, these are all its digits, without zeros in front.
abbrev pub digits : ℕ → ℕ → List ℕ
digits zero n = []
digits (suc k) n = cond (ltb n 10) [] (digits k (n / 10)) ++ ((48 + n % 10) ∷ [])

-- All digits of a number: n + 1 places are always enough.
unfoldable pub numeral : ℕ → List ℕ
numeral n = digits (suc n) n
