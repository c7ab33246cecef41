-- A test beside what it tests: one lemma for a test says both that it is sound and that it is complete. Definitions only; the laws are in Reflects/Laws.antt.
use Rattle.std.specs.Prelude.{Bool, true, false}

-- `Reflects A b`: the test b answers whether A holds.
pub data Reflects (A : Type 0) : Bool → Type 0 where
  holds : A → Reflects A true
  fails : ¬ A → Reflects A false
