-- The store: document 01, "Tables and records", and causes 1, 2 and 15. Definitions only; the laws are in Store/.
use Rattle.std.specs.Prelude.{ℕ, ◌+◌, ◌*◌, ◌≤◌, ◌-◌, ◌≡◌, Bool, true, not, ◌&&◌, List, [], ◌∷◌, map, length, get_or, take, drop, replicate, leb, ltb, T}
use Rattle.calculus.specs.Sets.{all_of, union_of, In}
use Rattle.calculus.specs.Lists.{tabulate, padded}
use Rattle.calculus.specs.Order.{is-ascending, Ascending}
use Rattle.calculus.specs.Satisfaction.{Database}
use Rattle.causes.specs.Causes.{Answer, Check, check, first_cause, when, widths_fit}
use Rattle.tables.specs.declared.Record.{Record}
use Rattle.tables.specs.declared.Store.{Store}
use Rattle.tables.specs.Records.{values_of, blank, record_below, is_blank, fits, fact_of}

-- The number of record places.
abbrev pub capacity : ℕ
capacity = 256

-- The record at place i of the two arrays.
abbrev pub record_at : List ℕ → List ℕ → ℕ → Record
record_at rs vs i =
    record {
      relation = get_or rs i 0;
      first = get_or vs (4 * i) 0;
      second = get_or vs (4 * i + 1) 0;
      third = get_or vs (4 * i + 2) 0;
      fourth = get_or vs (4 * i + 3) 0;
    }

-- All record places, in order.
unfoldable pub places : List ℕ → List ℕ → List Record
places rs vs = tabulate (record_at rs vs) capacity

abbrev pub places_of : Store → List Record
places_of s = places s.relations s.values

-- The records held, and the places past the count.
abbrev pub held : Store → List Record
held s = take s.count (places_of s)

abbrev pub unused : Store → List Record
unused s = drop s.count (places_of s)

-- The store's meaning: the facts that its records state.
abbrev pub facts : Store → Database
facts s = map (fact_of s.widths) (held s)

-- Whether a record that isn't held has room beside those that are: fewer than 256 are held. Where not, cause 15 is met.
abbrev pub has_room : Record → List Record → Bool
has_room r ps = ltb (length ps) capacity

-- Whether there is room for all these records: each has room beside those after it.
abbrev pub have_room : List Record → Bool
have_room [] = true
have_room (r ∷ ps) = has_room r ps && have_room ps

-- The layout: a count of at most 256 places, room for the records, which are of present relations and zero past their widths, strictly ascending;
-- places past the count all zero.
abbrev pub in_layout : Store → Bool
in_layout s = leb s.count capacity && have_room (held s) && all_of (fits s.widths) (held s) && is-ascending record_below (held s) && all_of is_blank (unused s)

-- The layout as a proposition; `reflects-layout` in the laws: the test decides it.
pub record Layout (s : Store) : Type 0 where
  pub count_fits : s.count ≤ 256
  pub room : T (have_room (held s))
  pub all_fit : (r : Record) → In r (held s) → T (fits s.widths r)
  pub ascending : Ascending record_below (held s)
  pub rest_blank : unused s ≡ replicate (256 - s.count) blank

-- Causes 1 and 2.
abbrev pub store_checks : Store → List Check
store_checks s = check 1 (when (not (widths_fit s.widths))) ∷ check 2 (when (not (in_layout s))) ∷ []

abbrev pub judgement : Store → Answer
judgement s = first_cause (store_checks s)

-- The store of the given places, widths and count.
abbrev pub of_places : List ℕ → List Record → ℕ → Store
of_places ws ps n = record { widths = ws; relations = map (λ p. p.relation) ps; values = union_of values_of ps; count = n }

-- The store that holds these records.
abbrev pub store_of : List ℕ → List Record → Store
store_of ws rs = of_places ws (padded capacity blank rs) (length rs)

-- The store without relations and records.
abbrev pub no_store : Store
no_store = store_of (replicate 16 0) []
