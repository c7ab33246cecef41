-- Causes 12 to 19 as a put or removal judges them, and what it makes of the records. Each row of document 01's table has one definition here, which the replies
-- use. The ledger cites none of them but says the same in document 01's words; Ledger/Ties.antt shows that the two agree.
use Rattle.std.specs.Prelude.{ℕ, ◌*◌, ◌^◌, Bool, true, false, not, ◌||◌, List, [], ◌∷◌, ltb, leb}
use Rattle.calculus.specs.Sets.{any_of}
use Rattle.calculus.specs.Order.{insert}
use Rattle.causes.specs.Causes.{Check, check, when}
use Rattle.tables.specs.declared.Record.{Record}
use Rattle.tables.specs.Records.{record_below, fits}
use Rattle.tables.specs.Store.{has_room}
use Rattle.tables.specs.Change.{is_held, without}
use Rattle.standing.specs.declared.View.{View}
use Rattle.standing.specs.View.{max_rows, suits}

-- What a call does to the records: a kind of call, with the record where it has one.
pub data Action : Type 0 where
  put : Record → Action
  removal : Record → Action

-- The action of a call that is told whether it removes its record.
abbrev pub action_of : Bool → Record → Action
action_of true r = removal r
action_of false r = put r

-- Cause 12: not in the layout, or other columns.
abbrev pub view_checks : View → List ℕ → List Check
view_checks v cols = check 12 (when (not (suits v cols))) ∷ []

-- Causes 13 to 16, by the widths and the records held.
abbrev pub record_checks : Action → List ℕ → List Record → List Check
record_checks (put r) ws held =
    check 13 (when (not (fits ws r))) ∷ check 14 (when (is_held r held)) ∷ check 15 (when (not (has_room r held))) ∷ []
record_checks (removal r) ws held = check 13 (when (not (fits ws r))) ∷ check 16 (when (not (is_held r held))) ∷ []

-- The records after the call: its record is added in its place, or taken out.
abbrev pub records_after : Action → List Record → List Record
records_after (put r) held = insert record_below r held
records_after (removal r) held = without r held

-- Cause 17: over `max_rows` rows, or one of the three counts past what 64 bits hold.
abbrev pub is_over : ℕ → Bool
is_over rows = ltb max_rows rows

abbrev pub is_past : ℕ → Bool
is_past n = leb (2 ^ 64) n

-- Causes 17 to 19, where so many rows of k columns joined and left, and the buffers have the lengths a and b.
abbrev pub report_checks : Bool → List ℕ → ℕ → ℕ → ℕ → ℕ → ℕ → List Check
report_checks over counts k joined left a b =
    check 17 (when (over || any_of is_past counts)) ∷ check 18 (when (ltb a (joined * k))) ∷ check 19 (when (ltb b (left * k))) ∷ []
