-- Finite sets, written as lists: a list stands for the set of its members, and neither order nor repeats count.
-- Definitions only; the laws are in Sets/Laws.antt.
use Rattle.std.specs.Prelude.{ℕ, zero, suc, max, ◌≡◌, Bool, true, false, not, ◌&&◌, ◌||◌, cond, List, [], ◌∷◌, ◌++◌, eqb}

-- x is a member.
pub data In {A : Type 0} (x : A) : List A → Type 0 where
  here : {y : A} {ys : List A} → x ≡ y → In x (y ∷ ys)
  there : {y : A} {ys : List A} → In x ys → In x (y ∷ ys)

module _ {A : Type 0} where
  infix 4 ◌⊆◌
  -- Every member of the first is one of the second.
  abbrev pub ◌⊆◌ : List A → List A → Type 0
  xs ⊆ ys = (x : A) → In x xs → In x ys

  -- Some member has the property.
  abbrev pub Any : (A → Type 0) → List A → Type 0
  Any P xs = (x : A) × In x xs × P x

  -- Some member passes the test.
  abbrev pub any_of : (A → Bool) → List A → Bool
  any_of p [] = false
  any_of p (x ∷ xs) = p x || any_of p xs

  -- Every member passes the test.
  abbrev pub all_of : (A → Bool) → List A → Bool
  all_of p [] = true
  all_of p (x ∷ xs) = p x && all_of p xs

  -- The members that pass the test, in their order.
  abbrev pub select : (A → Bool) → List A → List A
  select p [] = []
  select p (x ∷ xs) = cond (p x) (x ∷ select p xs) (select p xs)

-- The union of f x over the members x.
abbrev pub union_of : {A B : Type 0} → (A → List B) → List A → List B
union_of f [] = []
union_of f (x ∷ xs) = f x ++ union_of f xs

-- Whether a number is a member.
abbrev pub member : ℕ → List ℕ → Bool
member x xs = any_of (eqb x) xs

-- The set without x.
abbrev pub remove : ℕ → List ℕ → List ℕ
remove x ys = select (λ y. not (eqb y x)) ys

-- The least number above every member: a number outside the set.
abbrev pub fresh : List ℕ → ℕ
fresh [] = zero
fresh (x ∷ xs) = max (suc x) (fresh xs)

-- Whether two lists are the same, by a test for their elements.
abbrev pub same_by : {A : Type 0} → (A → A → Bool) → List A → List A → Bool
same_by same [] [] = true
same_by same [] (y ∷ ys) = false
same_by same (x ∷ xs) [] = false
same_by same (x ∷ xs) (y ∷ ys) = same x y && same_by same xs ys

-- Whether two lists of numbers are the same.
abbrev pub same_list : List ℕ → List ℕ → Bool
same_list xs ys = same_by eqb xs ys
