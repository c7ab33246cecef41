-- How the code puts and removes a record. Definitions only; Change/Laws.antt shows that for a store in the layout it comes to the same as the replies of Change.
use Rattle.std.specs.Prelude.{ℕ, suc, ◌≡◌, ◌+◌, ◌-◌, Bool, false, not, cond, List, [], ◌∷◌, ◌++◌, take, drop, Result, Ok, Err}
use Rattle.causes.specs.declared.Refusal.{Refusal}
use Rattle.causes.specs.Causes.{Done, check, first_cause, when}
use Rattle.tables.specs.declared.Record.{Record}
use Rattle.tables.specs.declared.Store.{Store}
use Rattle.tables.specs.Change.{Changed, changed_of, reply, rank}
use Rattle.tables.specs.Records.{record_below, same_record, fits, blank}
use Rattle.tables.specs.Store.{capacity, places_of, held, has_room, of_places}

-- Whether r stands at its place.
abbrev pub found : Record → List Record → Bool
found r [] = false
found r (p ∷ ps) = cond (record_below p r) (found r ps) (same_record p r)

-- The place where r stands; as an error, where it would stand.
abbrev pub located : Store → Record → Result ℕ ℕ
located s r = cond (found r (held s)) (Ok (rank r (held s))) (Err (rank r (held s)))

-- The places with r at place k, and the records from there on one place up; the last one falls out.
abbrev pub raised : List Record → ℕ → Record → List Record
raised ps k r = take capacity (take k ps ++ (r ∷ drop k ps))

-- The places without the record at place k, those past it one place down, and the last place blank.
abbrev pub lowered : List Record → ℕ → List Record
lowered ps k = take k ps ++ drop (suc k) ps ++ (blank ∷ [])

abbrev pub insertion : Store → Record → Changed
insertion s r =
    reply
    (first_cause (check 13 (when (not (fits s.widths r))) ∷ check 14 (when (found r (held s))) ∷ check 15 (when (not (has_room r (held s)))) ∷ []))
    s
    (of_places s.widths (raised (places_of s) (rank r (held s)) r) (s.count + 1))

-- That r has joined a lent store, whose value is t now; where it is refused, the store is as it was.
abbrev pub Joined : {A : Type 0} → Store → Record → Result A Refusal → Store → Type 0
Joined s r (Ok a) t = record { answer = Done; store = t } ≡ insertion s r
Joined s r (Err c) t = (changed_of s (Err c) ≡ insertion s r) × (t ≡ s)

abbrev pub deletion : Store → Record → Changed
deletion s r =
    reply
    (first_cause (check 13 (when (not (fits s.widths r))) ∷ check 16 (when (not (found r (held s)))) ∷ []))
    s
    (of_places s.widths (lowered (places_of s) (rank r (held s))) (s.count - 1))
