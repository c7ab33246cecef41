-- The automaton's places as the code has them: what follows a byte, without what has been read.
use Rattle.std.specs.Prelude.{ℕ, Bool, true, cond, List, [], ◌∷◌, get_or, eqb}
use Rattle.rules.specs.declared.mode.Mode.{Mode}
use Rattle.rules.specs.declared.mode.Effect.{Effect}
use Rattle.rules.specs.declared.mode.Effect.TheVariants as effect
use Rattle.rules.specs.declared.mode.Mode.TheVariants.{Out, Start, Letter, ColumnDue, Column, Closed, Colon, GoalDue, DenialN, DenialNo, DenialNot, Denial, Relation, TermDue, Term, Ended, Subject, Spaced, Equals, OtherDue, Other, Done}

-- The mode beside the first of these bytes that is b.
abbrev pub picked : ℕ → List (ℕ × Mode) → Mode
picked b [] = Out
picked b (t ∷ ts) = cond (eqb b t.0) t.1 (picked b ts)

-- The bytes that can follow; 0, 48 in ASCII, stands for every digit.
abbrev pub turns : Mode → List (ℕ × Mode)
turns Out = []
turns Start = (113, Letter) ∷ []
turns Letter = (40, ColumnDue) ∷ (58, Colon) ∷ []
turns ColumnDue = (88, Column) ∷ []
turns Column = (48, Column) ∷ (44, ColumnDue) ∷ (41, Closed) ∷ []
turns Closed = (58, Colon) ∷ []
turns Colon = (45, GoalDue) ∷ []
turns GoalDue = (88, Subject) ∷ (114, Relation) ∷ (110, DenialN) ∷ []
turns DenialN = (111, DenialNo) ∷ []
turns DenialNo = (116, DenialNot) ∷ []
turns DenialNot = (32, Denial) ∷ []
turns Denial = (114, Relation) ∷ []
turns Relation = (48, Relation) ∷ (40, TermDue) ∷ []
turns TermDue = (48, Term) ∷ (88, Term) ∷ []
turns Term = (48, Term) ∷ (44, TermDue) ∷ (41, Ended) ∷ []
turns Ended = (44, GoalDue) ∷ (46, Done) ∷ []
turns Subject = (48, Subject) ∷ (32, Spaced) ∷ []
turns Spaced = (61, Equals) ∷ []
turns Equals = (32, OtherDue) ∷ []
turns OtherDue = (48, Other) ∷ (88, Other) ∷ []
turns Other = (48, Other) ∷ (44, GoalDue) ∷ (46, Done) ∷ []
turns Done = []

abbrev pub next_mode : Mode → ℕ → Mode
next_mode m b = picked b (turns m)

-- What a byte that is no digit does, by number: 1 the number is a variable of the head, 2 the goal is denied, 3 the number is the goal's relation or the variable
-- before its =, 4 an X stands before the number that follows, 5 the number is a term, 6 it is the last term of a relation, 7 the term of an equality.
abbrev pub effect_of : Mode → ℕ → ℕ
effect_of Out b = 0
effect_of Start b = 0
effect_of Letter b = 0
effect_of ColumnDue b = 0
effect_of Column b = 1
effect_of Closed b = 0
effect_of Colon b = 0
effect_of GoalDue b = 0
effect_of DenialN b = 0
effect_of DenialNo b = 0
effect_of DenialNot b = 0
effect_of Denial b = 2
effect_of Relation b = 3
effect_of TermDue b = 4
effect_of Term b = cond (eqb b 41) 6 5
effect_of Ended b = 0
effect_of Subject b = 3
effect_of Spaced b = 0
effect_of Equals b = 0
effect_of OtherDue b = 4
effect_of Other b = 7
effect_of Done b = 0

-- The number of each effect that the code can name.
abbrev pub effect_number : Effect → ℕ
effect_number effect.Nothing = 0
effect_number effect.Column = 1
effect_number effect.Denied = 2
effect_number effect.Subject = 3
effect_number effect.Named = 4
effect_number effect.Term = 5
effect_number effect.Relation = 6
effect_number effect.Equality = 7

-- Whether a byte can do so: all but 0, 2 and 4 are of a number, so a digit of it must have been read.
abbrev pub suits : ℕ → Bool → Bool
suits e started = get_or (true ∷ started ∷ true ∷ started ∷ true ∷ []) e started

-- 0 where no rule can go on, 2 where it has ended, else 1.
abbrev pub stage_of : Mode → ℕ
stage_of Out = 0
stage_of Start = 1
stage_of Letter = 1
stage_of ColumnDue = 1
stage_of Column = 1
stage_of Closed = 1
stage_of Colon = 1
stage_of GoalDue = 1
stage_of DenialN = 1
stage_of DenialNo = 1
stage_of DenialNot = 1
stage_of Denial = 1
stage_of Relation = 1
stage_of TermDue = 1
stage_of Term = 1
stage_of Ended = 1
stage_of Subject = 1
stage_of Spaced = 1
stage_of Equals = 1
stage_of OtherDue = 1
stage_of Other = 1
stage_of Done = 2
