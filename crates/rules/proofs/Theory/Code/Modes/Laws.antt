-- Modes and effects by their numbers.
use Rattle.std.specs.Prelude.{◌≡◌, refl, ℕ, zero, suc, ◌≢◌, Bool}
use Rattle.std.proofs.Common.{arith}
use Rattle.rules.specs.declared.mode.Mode.{Mode}
use Rattle.rules.specs.declared.mode.Mode.TheVariants.{Out, Start, Letter, ColumnDue, Column, Closed, Colon, GoalDue, DenialN, DenialNo, DenialNot, Denial, Relation, TermDue, Term, Ended, Subject, Spaced, Equals, OtherDue, Other, Done}
use Rattle.rules.specs.declared.mode.Effect.{Effect}
use Rattle.rules.specs.declared.mode.Effect.TheVariants as effect
use Rattle.rules.specs.Code.Modes.{stage_of, effect_number, suits}

-- Only one mode has no rule go on, and in only one it has ended.
pub stage-out : (m : Mode) → stage_of m ≡ 0 → m ≡ Out
stage-out Out e = refl
stage-out Start e = absurd (omega arith)
stage-out Letter e = absurd (omega arith)
stage-out ColumnDue e = absurd (omega arith)
stage-out Column e = absurd (omega arith)
stage-out Closed e = absurd (omega arith)
stage-out Colon e = absurd (omega arith)
stage-out GoalDue e = absurd (omega arith)
stage-out DenialN e = absurd (omega arith)
stage-out DenialNo e = absurd (omega arith)
stage-out DenialNot e = absurd (omega arith)
stage-out Denial e = absurd (omega arith)
stage-out Relation e = absurd (omega arith)
stage-out TermDue e = absurd (omega arith)
stage-out Term e = absurd (omega arith)
stage-out Ended e = absurd (omega arith)
stage-out Subject e = absurd (omega arith)
stage-out Spaced e = absurd (omega arith)
stage-out Equals e = absurd (omega arith)
stage-out OtherDue e = absurd (omega arith)
stage-out Other e = absurd (omega arith)
stage-out Done e = absurd (omega arith)

pub stage-done : (m : Mode) → stage_of m ≡ 2 → m ≡ Done
stage-done Out e = absurd (omega arith)
stage-done Start e = absurd (omega arith)
stage-done Letter e = absurd (omega arith)
stage-done ColumnDue e = absurd (omega arith)
stage-done Column e = absurd (omega arith)
stage-done Closed e = absurd (omega arith)
stage-done Colon e = absurd (omega arith)
stage-done GoalDue e = absurd (omega arith)
stage-done DenialN e = absurd (omega arith)
stage-done DenialNo e = absurd (omega arith)
stage-done DenialNot e = absurd (omega arith)
stage-done Denial e = absurd (omega arith)
stage-done Relation e = absurd (omega arith)
stage-done TermDue e = absurd (omega arith)
stage-done Term e = absurd (omega arith)
stage-done Ended e = absurd (omega arith)
stage-done Subject e = absurd (omega arith)
stage-done Spaced e = absurd (omega arith)
stage-done Equals e = absurd (omega arith)
stage-done OtherDue e = absurd (omega arith)
stage-done Other e = absurd (omega arith)
stage-done Done e = refl

-- Only one effect is 0, and only one is 1.
pub nothing-zero : (e : Effect) → effect_number e ≡ 0 → e ≡ effect.Nothing
nothing-zero effect.Nothing k = refl
nothing-zero effect.Column k = absurd (omega arith)
nothing-zero effect.Denied k = absurd (omega arith)
nothing-zero effect.Subject k = absurd (omega arith)
nothing-zero effect.Named k = absurd (omega arith)
nothing-zero effect.Term k = absurd (omega arith)
nothing-zero effect.Relation k = absurd (omega arith)
nothing-zero effect.Equality k = absurd (omega arith)

pub column-one : (e : Effect) → effect_number e ≡ 1 → e ≡ effect.Column
column-one effect.Nothing k = absurd (omega arith)
column-one effect.Column k = refl
column-one effect.Denied k = absurd (omega arith)
column-one effect.Subject k = absurd (omega arith)
column-one effect.Named k = absurd (omega arith)
column-one effect.Term k = absurd (omega arith)
column-one effect.Relation k = absurd (omega arith)
column-one effect.Equality k = absurd (omega arith)

-- ---- laws that stand as they stood

-- All effects but three are of a number.
pub suits-other : (e : ℕ) (started : Bool) → e ≢ 0 → e ≢ 2 → e ≢ 4 → suits e started ≡ started
suits-other zero started a b c = absurd (a refl)
suits-other (suc zero) started a b c = refl
suits-other (suc (suc zero)) started a b c = absurd (b refl)
suits-other (suc (suc (suc zero))) started a b c = refl
suits-other (suc (suc (suc (suc zero)))) started a b c = absurd (c refl)
suits-other (suc (suc (suc (suc (suc n))))) started a b c = refl
