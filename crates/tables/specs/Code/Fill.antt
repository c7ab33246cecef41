-- How the code fills a store: one record after the other. Definitions only; Fill/Laws.antt shows that it comes to document 01's filling (`fill-collects`).
use Rattle.std.specs.Prelude.{ℕ, ◌≡◌, not, cond, List, [], ◌∷◌, eqb, ltb, Result, Ok, Err}
use Rattle.causes.specs.Causes.{Answer, Done, Refused, check, first_cause, when, widths_fit}
use Rattle.causes.specs.declared.Refusal.{Refusal}
use Rattle.tables.specs.declared.Record.{Record}
use Rattle.tables.specs.declared.Store.{Store}
use Rattle.tables.specs.Change.{Changed, changed_of}
use Rattle.tables.specs.Store.{capacity, store_of, no_store}
use Rattle.tables.specs.Fill.{refused_filling, unless_refused}
use Rattle.tables.specs.Code.Change.{insertion}

-- A filling before its first record.
abbrev pub beginning : List ℕ → Changed
beginning ws = unless_refused (first_cause (check 1 (when (not (widths_fit ws))) ∷ [])) (record { answer = Done; store = store_of ws [] })

-- A put as filling takes it: one refused as a repeat leaves the filling as it was, any other refusal ends it.
abbrev pub merged : Changed → Answer → Changed → Changed
merged f Done c = c
merged f (Refused n p) c = cond (eqb n 14) f (refused_filling n p)

-- A filling with one record more. One that is refused stays so. A store whose count is past the places, which no filling has, ends it with cause 2.
abbrev pub collected_into : Changed → Answer → Record → Changed
collected_into f (Refused n p) r = f
collected_into f Done r = cond (ltb capacity f.store.count) (refused_filling 2 0) (merged f (insertion f.store r).answer (insertion f.store r))

abbrev pub collected : Changed → Record → Changed
collected f r = collected_into f f.answer r

-- That a filling, as it is handed back, is what a definition says. Its refusal is made of a cause, as `From` says.
abbrev pub Refilled : {E : Type 0} → (Refusal → E → Type 0) → Changed → Result Store E → Type 0
Refilled gives c (Ok t) = c ≡ record { answer = Done; store = t }
Refilled gives c (Err e) = (cause : Refusal) × (c ≡ changed_of no_store (Err cause)) × gives cause e

-- A filling as document 01 has it, by what its refusal tells.
abbrev pub filling_of : {E : Type 0} → (E → Changed) → Result Store E → Changed
filling_of told (Ok s) = record { answer = Done; store = s }
filling_of told (Err e) = told e

-- A filling with one record more, whatever its refusal carries. One that is refused stays so.
abbrev pub CollectedBy : {E : Type 0} → (Refusal → E → Type 0) → Result Store E → Record → Result Store E → Type 0
CollectedBy gives (Ok s) r now = Refilled gives (collected (record { answer = Done; store = s }) r) now
CollectedBy gives (Err e) r now = now ≡ Err e

abbrev pub collect_all : Changed → List Record → Changed
collect_all f [] = f
collect_all f (r ∷ rs) = collect_all (collected f r) rs
