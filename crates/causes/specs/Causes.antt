-- Document 01's table of refusals, "When a call declines": checks run by number, and the first cause met is answered.
-- Definitions only; the laws are in Causes/Laws.antt.
use Rattle.std.specs.Prelude.{ℕ, zero, suc, ◌≡◌, ◌↔◌, Bool, true, false, cond, ◌&&◌, List, [], ◌∷◌, leb, ltb, Result, Ok, Err}
use Rattle.calculus.specs.Sets.{all_of}
use Rattle.causes.specs.declared.Refusal.{Refusal}
use Rattle.causes.specs.declared.Refusal.TheVariants as refusal

-- What a call answers, in document 01's words: it was worked on, or declined with a cause's number and a place.
pub data Answer : Type 0 where
  Done : Answer
  Refused : ℕ → ℕ → Answer

-- The number in the table of each cause that the code can name; the last is document 02's.
abbrev pub number_of : Refusal → ℕ
number_of refusal.Width = 1
number_of refusal.StoreLayout = 2
number_of refusal.Version = 3
number_of refusal.Counts = 4
number_of refusal.Length = 5
number_of (refusal.Malformed node) = 6
number_of (refusal.Misplaced node) = 7
number_of (refusal.Stray node) = 8
number_of (refusal.Mismatched node) = 9
number_of refusal.Columns = 10
number_of refusal.Unsafe = 11
number_of refusal.ListLayout = 12
number_of refusal.RecordLayout = 13
number_of refusal.Held = 14
number_of refusal.StoreFull = 15
number_of refusal.NotHeld = 16
number_of refusal.ListFull = 17
number_of refusal.FirstBuffer = 18
number_of refusal.SecondBuffer = 19
number_of (refusal.Text at) = 20

-- The place that is handed back with it.
abbrev pub place_of : Refusal → ℕ
place_of refusal.Width = 0
place_of refusal.StoreLayout = 0
place_of refusal.Version = 0
place_of refusal.Counts = 0
place_of refusal.Length = 0
place_of (refusal.Malformed node) = node
place_of (refusal.Misplaced node) = node
place_of (refusal.Stray node) = node
place_of (refusal.Mismatched node) = node
place_of refusal.Columns = 0
place_of refusal.Unsafe = 0
place_of refusal.ListLayout = 0
place_of refusal.RecordLayout = 0
place_of refusal.Held = 0
place_of refusal.StoreFull = 0
place_of refusal.NotHeld = 0
place_of refusal.ListFull = 0
place_of refusal.FirstBuffer = 0
place_of refusal.SecondBuffer = 0
place_of (refusal.Text at) = at

abbrev pub refusal_of : Refusal → Answer
refusal_of r = Refused (number_of r) (place_of r)

-- The answer of a call that hands back a value or the cause that it meets.
abbrev pub answer_of : {A : Type 0} → Result A Refusal → Answer
answer_of (Ok a) = Done
answer_of (Err r) = refusal_of r

-- What a check finds: nothing, or its cause, at a place.
pub data Finding : Type 0 where
  clear : Finding
  met : ℕ → Finding

-- A check: the cause's number, and what is found.
pub data Check : Type 0 where
  check : ℕ → Finding → Check

-- The answer of checks in order: the number and place of the first cause met.
abbrev pub first_cause : List Check → Answer
first_cause [] = Done
first_cause (check n clear ∷ cs) = first_cause cs
first_cause (check n (met p) ∷ cs) = Refused n p

-- A cause that names no place is met at place 0.
abbrev pub when : Bool → Finding
when b = cond b (met 0) clear

-- The first of two findings that is a cause.
abbrev pub or_else : Finding → Finding → Finding
or_else clear g = g
or_else (met p) g = met p

-- A cause of nodes is met at the lowest of the nodes below n that has the fault.
abbrev pub lowest : (ℕ → Bool) → ℕ → Finding
lowest faulty zero = clear
lowest faulty (suc n) = or_else (lowest faulty n) (cond (faulty n) (met n) clear)

-- No width is above 4: cause 1 is not met.
abbrev pub widths_fit : List ℕ → Bool
widths_fit ws = all_of (λ w. leb w 4) ws

-- Whether the call was worked on.
abbrev pub is_done : Answer → Bool
is_done Done = true
is_done (Refused n p) = false

-- Document 01's number and place of an answer; 0 and 0 where the call was worked on.
abbrev pub number : Answer → ℕ
number Done = 0
number (Refused n p) = n

abbrev pub place : Answer → ℕ
place Done = 0
place (Refused n p) = p

-- ---- what the laws are stated with

-- Every check is clear.
abbrev pub AllClear : List Check → Type 0
AllClear [] = Unit {0}
AllClear (check n f ∷ cs) = (f ≡ clear) × AllClear cs

-- Every check has a number above 0.
abbrev pub numbered : List Check → Bool
numbered [] = true
numbered (check n f ∷ cs) = ltb 0 n && numbered cs

-- P holds of exactly one number: that of the first cause that the checks meet, 0 for none. The checks name no place.
pub record Judged (P : ℕ → Type 0) (cs : List Check) : Type 0 where
  pub number_is : (a : ℕ) → P a ↔ (a ≡ number (first_cause cs))
  pub place_is : place (first_cause cs) ≡ 0
