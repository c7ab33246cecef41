-- A store filled from a list of records: document 01, "A store is also filled from the recorder's lent list of records". Definitions only; the laws
-- are in Fill/Laws.antt.
use Rattle.std.specs.Prelude.{ℕ, not, ◌&&◌, List, [], ◌∷◌}
use Rattle.calculus.specs.Order.{insert}
use Rattle.causes.specs.Causes.{Answer, Done, Refused, Check, check, first_cause, when, widths_fit}
use Rattle.tables.specs.declared.Record.{Record}
use Rattle.tables.specs.Change.{Changed, is_held}
use Rattle.tables.specs.Records.{record_below, fits}
use Rattle.tables.specs.Store.{has_room, store_of, no_store}

-- A refused filling hands back no store.
abbrev pub refused_filling : ℕ → ℕ → Changed
refused_filling n p = record { answer = Refused n p; store = no_store }

-- A filling that goes on with c where nothing is refused.
abbrev pub unless_refused : Answer → Changed → Changed
unless_refused Done c = c
unless_refused (Refused n p) c = refused_filling n p

-- The causes that a record meets in its turn, with these records held: 13, then 15; a repeat takes no place.
abbrev pub fill_checks : List ℕ → List Record → Record → List Check
fill_checks ws ps r = check 13 (when (not (fits ws r))) ∷ check 15 (when (not (is_held r ps) && not (has_room r ps))) ∷ []

-- The rest of a filling, with these records held: each record in turn meets its causes, or joins them; a repeat is kept once.
abbrev pub fill_from : List ℕ → List Record → List Record → Changed
fill_from ws ps [] = record { answer = Done; store = store_of ws ps }
fill_from ws ps (r ∷ rs) = unless_refused (first_cause (fill_checks ws ps r)) (fill_from ws (insert record_below r ps) rs)

-- Filling meets 1, and starts from no records.
abbrev pub fill_reply : List ℕ → List Record → Changed
fill_reply ws rs = unless_refused (first_cause (check 1 (when (not (widths_fit ws))) ∷ [])) (fill_from ws [] rs)
