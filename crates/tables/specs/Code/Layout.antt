-- How the code judges the records of a store: in runs of one relation each. Definitions only; the laws are in the proofs' Runs.antt.
use Rattle.std.specs.Prelude.{ℕ, ◌-◌, ◌≤◌, ◌<◌, ◌≡◌, Bool, true, false, ◌&&◌, cond, List, drop, eqb, leb}
use Rattle.calculus.specs.Sets.{all_of}
use Rattle.calculus.specs.Order.{is-ascending}
use Rattle.tables.specs.declared.Record.{Record}
use Rattle.tables.specs.Records.{record_of_parts, values_of, record_below, fits}

-- The greatest value at place k, from 1 for the second value on: 0 past the width w.
abbrev pub top_of : ℕ → ℕ → ℕ
top_of w k = cond (leb w k) 0 4294967295

-- The greatest record of relation k, whose width is w.
abbrev pub highest_of : ℕ → ℕ → Record
highest_of k w = record_of_parts k 4294967295 (top_of w 1) (top_of w 2) (top_of w 3)

-- Whether a record is of the limit's relation, and no value from the second on is above the limit's.
abbrev pub within : Record → Record → Bool
within limit r = eqb r.relation limit.relation && leb r.second limit.second && leb r.third limit.third && leb r.fourth limit.fourth

-- Whether the record at place i goes on with a run of relation k, whose width is w.
abbrev pub goes_on : ℕ → ℕ → (ℕ → Record) → ℕ → Bool
goes_on k w at i = eqb (at i).relation k && all_of (eqb 0) (drop w (values_of (at i))) && record_below (at (i - 1)) (at i)

-- The first place after the start that doesn't go on, or the count.
pub record RunTo (goes : ℕ → Bool) (start count end : ℕ) : Type 0 where
  pub further : start < end
  pub ends : end ≤ count
  pub runs : (i : ℕ) → start < i → i < end → goes i ≡ true
  pub stops : end < count → goes end ≡ false

-- Whether records fit the widths and are strictly ascending.
abbrev pub orderly : List ℕ → List Record → Bool
orderly ws rs = all_of (fits ws) rs && is-ascending record_below rs
