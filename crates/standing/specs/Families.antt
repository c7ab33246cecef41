-- The lists that are kept over one store, each under its index: whoever opened it. A tool with one sensor ring keeps one list. Definitions only; the laws are
-- in Families/Laws.antt.
use Rattle.std.specs.Prelude.{ℕ, ◌≡◌, cond, eqb}
use Rattle.std.proofs.Math.Option.{Option, none, some}

-- For each index what is kept of its list, if it was opened.
abbrev pub Family : Type 0 → Type 0
Family A = ℕ → Option A

-- No list was opened.
abbrev pub no_list : {A : Type 0} → Family A
no_list i = none

-- The family with x at the index i, and every other list as it was.
abbrev pub with_list : {A : Type 0} → ℕ → A → Family A → Family A
with_list i x f = λ j. cond (eqb j i) (some x) (f j)

-- P holds of every list that was opened.
abbrev pub Every : {A : Type 0} → (A → Type 0) → Family A → Type 0
Every P f = (i : ℕ) (x : _) → f i ≡ some x → P x

-- Of one list in two families: both have it, and P holds of the two, or neither has it.
pub data Paired {A B : Type 0} (P : A → B → Type 0) : Option A → Option B → Type 0 where
  neither : Paired P none none
  both : {x : A} {y : B} → P x y → Paired P (some x) (some y)
