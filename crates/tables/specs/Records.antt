-- Records: document 01, "Tables and records". Definitions only; the laws are in Records/Laws.antt.
use Rattle.std.specs.Prelude.{ℕ, Bool, ◌&&◌, List, [], ◌∷◌, get_or, take, drop, eqb, ltb}
use Rattle.calculus.specs.Sets.{all_of, same_list}
use Rattle.calculus.specs.Order.{lexicographic}
use Rattle.calculus.specs.Satisfaction.{Fact, fact}
use Rattle.tables.specs.declared.Record.{Record}

-- The record of a relation and four values.
abbrev pub record_of_parts : ℕ → ℕ → ℕ → ℕ → ℕ → Record
record_of_parts k p q r s = record { relation = k; first = p; second = q; third = r; fourth = s }

-- The four values.
abbrev pub values_of : Record → List ℕ
values_of r = r.first ∷ r.second ∷ r.third ∷ r.fourth ∷ []

-- The relation, and the four values after it.
abbrev pub numbers_of : Record → List ℕ
numbers_of r = r.relation ∷ values_of r

-- The record of an unused place: all zero.
abbrev pub blank : Record
blank = record_of_parts 0 0 0 0 0

-- Records are ordered by relation, then by values from the first.
abbrev pub record_below : Record → Record → Bool
record_below r s = lexicographic (numbers_of r) (numbers_of s)

abbrev pub same_record : Record → Record → Bool
same_record r s = same_list (numbers_of r) (numbers_of s)

abbrev pub is_blank : Record → Bool
is_blank r = same_record r blank

-- The width of the record's relation; 0 for one that is absent.
abbrev pub width : List ℕ → Record → ℕ
width ws r = get_or ws r.relation 0

-- The relation is one of the sixteen and present, and the values past its width are zero. Where not, cause 13 is met.
abbrev pub fits : List ℕ → Record → Bool
fits ws r = ltb r.relation 16 && ltb 0 (width ws r) && all_of (eqb 0) (drop (width ws r) (values_of r))

-- The fact that a record states: its relation, and its values cut to the width.
abbrev pub fact_of : List ℕ → Record → Fact
fact_of ws r = fact r.relation (take (width ws r) (values_of r))
