-- One record put or removed: document 01, causes 13 to 16. Definitions only; the laws are in Change/Laws.antt.
use Rattle.std.specs.Prelude.{ℕ, zero, suc, Bool, not, cond, List, [], ◌∷◌, Result, Ok, Err}
use Rattle.calculus.specs.Sets.{any_of, select}
use Rattle.calculus.specs.Order.{insert}
use Rattle.causes.specs.Causes.{Answer, Done, Refused, check, first_cause, when, widths_fit, refusal_of}
use Rattle.tables.specs.declared.Record.{Record}
use Rattle.tables.specs.declared.Store.{Store}
use Rattle.tables.specs.Records.{record_below, same_record, fits}
use Rattle.tables.specs.Store.{held, has_room, in_layout, store_of}
use Rattle.causes.specs.declared.Refusal.{Refusal}

-- What a call answers, and the store after it.
pub record Changed : Type 0 where
  pub answer : Answer
  pub store : Store

-- What a call on the store s comes to by what it hands back: the store after it, or a refusal, and the store is as it was.
abbrev pub changed_of : Store → Result Store Refusal → Changed
changed_of s (Ok t) = record { answer = Done; store = t }
changed_of s (Err r) = record { answer = refusal_of r; store = s }

-- Whether a record is among those held.
abbrev pub is_held : Record → List Record → Bool
is_held r ps = any_of (same_record r) ps

-- The records without r.
abbrev pub without : Record → List Record → List Record
without r ps = select (λ p. not (same_record r p)) ps

-- A call's reply: on a refusal the store as it was, else what the work gives.
abbrev pub reply : Answer → Store → Store → Changed
reply Done s t = record { answer = Done; store = t }
reply (Refused n p) s t = record { answer = Refused n p; store = s }

-- A put: the record joins those held, in its place. Causes 1, 2, 13, 14, 15.
abbrev pub put_reply : Store → Record → Changed
put_reply s r =
    reply
    (first_cause
    (check 1 (when (not (widths_fit s.widths)))
    ∷ check 2 (when (not (in_layout s)))
    ∷ check 13 (when (not (fits s.widths r)))
    ∷ check 14 (when (is_held r (held s)))
    ∷ check 15 (when (not (has_room r (held s))))
    ∷ []))
    s
    (store_of s.widths (insert record_below r (held s)))

-- A removal: the record is taken out of those held. Causes 1, 2, 13, 16.
abbrev pub removal_reply : Store → Record → Changed
removal_reply s r =
    reply
    (first_cause
    (check 1 (when (not (widths_fit s.widths)))
    ∷ check 2 (when (not (in_layout s)))
    ∷ check 13 (when (not (fits s.widths r)))
    ∷ check 16 (when (not (is_held r (held s))))
    ∷ []))
    s
    (store_of s.widths (without r (held s)))

-- ---- what the laws are stated with

-- The number of records below r that stand before any other: r's place in an ascending list.
abbrev pub rank : Record → List Record → ℕ
rank r [] = zero
rank r (p ∷ ps) = cond (record_below p r) (suc (rank r ps)) zero
