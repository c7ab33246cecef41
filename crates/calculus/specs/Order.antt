-- Strictly ascending lists, over any test for "is below". Definitions only; the laws are in Order/Laws.antt.
use Rattle.std.specs.Prelude.{ℕ, ◌≡◌, Bool, true, false, ◌&&◌, ◌||◌, cond, List, [], ◌∷◌, T, eqb, ltb}
use Rattle.calculus.specs.Sets.{In}

-- The laws of a strict total order.
pub record StrictOrder {A : Type 0} (below : A → A → Bool) : Type 0 where
  pub irreflexive : (x : A) → ¬ T (below x x)
  pub transitive : (x y z : A) → T (below x y) → T (below y z) → T (below x z)
  pub total : (x y : A) → ¬ T (below x y) → ¬ T (below y x) → x ≡ y

module _ {A : Type 0} (below : A → A → Bool) where
  -- Each element is below all that follow it.
  pub data Ascending : List A → Type 0 where
    nothing : Ascending []
    before : {x : A} {xs : List A} → ((y : A) → In y xs → T (below x y)) → Ascending xs → Ascending (x ∷ xs)

  -- Whether each element is below the next.
  abbrev pub leads : A → List A → Bool
  leads x [] = true
  leads x (y ∷ ys) = below x y

  abbrev pub is-ascending : List A → Bool
  is-ascending [] = true
  is-ascending (x ∷ xs) = leads x xs && is-ascending xs

  -- x put in its place in an ascending list, once.
  abbrev pub insert : A → List A → List A
  insert x [] = x ∷ []
  insert x (y ∷ ys) = cond (below x y) (x ∷ y ∷ ys) (cond (below y x) (y ∷ insert x ys) (y ∷ ys))

  -- The members of a list, ascending, each once.
  abbrev pub sort : List A → List A
  sort [] = []
  sort (x ∷ xs) = insert x (sort xs)

-- The order of number lists by the first place at which they differ; a list is below those that go on from it.
abbrev pub lexicographic : List ℕ → List ℕ → Bool
lexicographic [] [] = false
lexicographic [] (w ∷ ws) = true
lexicographic (v ∷ vs) [] = false
lexicographic (v ∷ vs) (w ∷ ws) = ltb v w || (eqb v w && lexicographic vs ws)
