-- Laws of finite sets as lists.
use Rattle.std.specs.Prelude.{ℕ, suc, ◌<◌, ◌≤◌, ◌≡◌, refl, ◌↔◌, ◌⊎◌, ◌≢◌, Bool, true, false, not, cond, List, [], ◌∷◌, ◌++◌, map, T, eqb}
use Rattle.std.proofs.Common.{lt_irrefl, lt_of_lt_of_le, sym, ap, subst, inl, inr, ⊎_elim, append_assoc}
use Rattle.std.proofs.Math.Nat.{le-max_left, le-max_right}
use Rattle.std.proofs.Math.Path.{subst⁻¹}
use Rattle.calculus.specs.Sets.{Any, In, here, there, ◌⊆◌, any_of, all_of, select, union_of, member, remove, fresh, same_by, same_list}
use Rattle.calculus.specs.Reflects.{Reflects, holds, fails}
use Rattle.calculus.proofs.Theory.Reflects.Laws.{reflects, reflected, reflects-map, reflects-not, reflects-and, reflects-or, reflects-eqb}

pub in-nil : {A : Type 0} {x : A} → ¬ In x []
in-nil = elim [ ]

-- ---- members

-- A member is the first or one of the rest.
pub in-cons : {A : Type 0} {x y : A} {ys : List A} → In x (y ∷ ys) → (x ≡ y) ⊎ In x ys
in-cons (here e) = inl e
in-cons (there i) = inr i

pub in_rest : {A : Type 0} {x y : A} {ys : List A} → In x (y ∷ ys) → x ≢ y → In x ys
in_rest (here e) n = absurd (n e)
in_rest (there i) n = i

pub in_one : {A : Type 0} {x y : A} → In x (y ∷ []) → x ≡ y
in_one (here e) = e
in_one (there i) = absurd (in-nil i)

-- A subset stays one where the same element is put before both.
pub subset-cons : {A : Type 0} (x : A) {xs ys : List A} → xs ⊆ ys → (x ∷ xs) ⊆ (x ∷ ys)
subset-cons x s y (here e) = here e
subset-cons x s y (there i) = there (s y i)

pub same-cons : {A : Type 0} (x : A) {xs ys : List A} → ((y : A) → In y xs ↔ In y ys) → (y : A) → In y (x ∷ xs) ↔ In y (x ∷ ys)
same-cons x m y = (subset-cons x (λ z. (m z).0) y, subset-cons x (λ z. (m z).1) y)

-- The first two may change places.
pub subset-swap : {A : Type 0} (x y : A) (zs : List A) → (x ∷ y ∷ zs) ⊆ (y ∷ x ∷ zs)
subset-swap x y zs z (here e) = there (here e)
subset-swap x y zs z (there i) = ⊎_elim (λ e. here e) (λ j. there (there j)) (in-cons i)

-- ---- _++_

pub in_left : {A : Type 0} {x : A} {xs : List A} (ys : List A) → In x xs → In x (xs ++ ys)
in_left ys (here e) = here e
in_left ys (there i) = there (in_left ys i)

pub in_right : {A : Type 0} {x : A} (xs : List A) {ys : List A} → In x ys → In x (xs ++ ys)
in_right [] i = i
in_right (y ∷ xs) i = there (in_right xs i)

pub in-append : {A : Type 0} {x : A} (xs : List A) {ys : List A} → In x (xs ++ ys) → In x xs ⊎ In x ys
in-append [] i = inr i
in-append (y ∷ xs) (here e) = inl (here e)
in-append {x = x} (y ∷ xs) {ys} (there i) = go (in-append xs i)
  where
    go : In x xs ⊎ In x ys → In x (y ∷ xs) ⊎ In x ys
    go (inl j) = inl (there j)
    go (inr j) = inr j

pub in-append-map : {A B : Type 0} {x : A} {y : B} (xs : List A) {ys : List A} (us : List B) {vs : List B} → (In x xs → In y us) → (In x ys → In y vs) → In x (xs ++ ys) → In y (us ++ vs)
in-append-map {x = x} {y} xs {ys} us {vs} f g i = go (in-append xs i)
  where
    go : In x xs ⊎ In x ys → In y (us ++ vs)
    go (inl j) = in_left vs (f j)
    go (inr j) = in_right us (g j)

-- ---- map, union_of, select

pub in_map : {A B : Type 0} (f : A → B) {x : A} {xs : List A} → In x xs → In (f x) (map f xs)
in_map f (here e) = here (ap f e)
in_map f (there i) = there (in_map f i)

pub from-map : {A B : Type 0} (f : A → B) {y : B} (xs : List A) → In y (map f xs) → (x : A) × In x xs × (y ≡ f x)
from-map f [] i = absurd (in-nil i)
from-map f (x ∷ xs) (here e) = (x, here refl, e)
from-map f (x ∷ xs) (there i) = let r = from-map f xs i in (r.0, there r.1, r.2)

pub in-union : {A B : Type 0} (f : A → List B) {x : A} {y : B} {xs : List A} → In x xs → In y (f x) → In y (union_of f xs)
in-union f {y = y} {xs = z ∷ xs} (here e) i = in_left (union_of f xs) (subst (λ u. In y (f u)) e i)
in-union f {xs = z ∷ xs} (there j) i = in_right (f z) (in-union f j i)
in-union {A = A} {B = B} f {y = y} {xs = []} x6 i = elim x6 [ ]

pub from-union : {A B : Type 0} (f : A → List B) {y : B} (xs : List A) → In y (union_of f xs) → (x : A) × In x xs × In y (f x)
from-union f [] i = absurd (in-nil i)
from-union {A} f {y} (x ∷ xs) i = ⊎_elim (λ j. (x, here refl, j)) (λ j. later (from-union f xs j)) (in-append (f x) i)
  where
    later : (z : A) × In z xs × In y (f z) → (z : A) × In z (x ∷ xs) × In y (f z)
    later r = (r.0, there r.1, r.2)

pub union-append : {A B : Type 0} (f : A → List B) (xs ys : List A) → union_of f (xs ++ ys) ≡ union_of f xs ++ union_of f ys
union-append f [] ys = refl
union-append f (x ∷ xs) ys = rw (union-append f xs ys) (sym (append_assoc (f x) (union_of f xs) (union_of f ys)))

-- A choice by a test, as a lemma by cases of the test.
pub in-cond : {A : Type 0} {x : A} {xs ys : List A} (b : Bool) → In x (cond b xs ys) → (T b × In x xs) ⊎ (T (not b) × In x ys)
in-cond true i = inl (tt, i)
in-cond false i = inr (tt, i)

pub in-select : {A : Type 0} (p : A → Bool) {x : A} {xs : List A} → In x xs → T (p x) → In x (select p xs)
in-select p {x} {xs = y ∷ xs} (here e) t = go (p y) (subst (λ u. T (p u)) e t)
  where
    go : (b : Bool) → T b → In x (cond b (y ∷ select p xs) (select p xs))
    go true s = here e
    go false s = absurd s
in-select p {x} {xs = y ∷ xs} (there i) t = go (p y) (in-select p i t)
  where
    go : (b : Bool) → In x (select p xs) → In x (cond b (y ∷ select p xs) (select p xs))
    go true j = there j
    go false j = j
in-select {A = A} p {x = x} {xs = []} x6 t = elim x6 [ ]

pub from-select : {A : Type 0} (p : A → Bool) {x : A} (xs : List A) → In x (select p xs) → In x xs × T (p x)
from-select p [] i = absurd (in-nil i)
from-select {A} p {x} (y ∷ xs) i = go (p y) (λ t. t) (λ j. from-select p xs j) i
  where
    Found : List A → Type 0
    Found l = In x l × T (p x)

    top : T (p y) → (In x (select p xs) → Found xs) → In x (y ∷ select p xs) → Found (y ∷ xs)
    top t r (here e) = (here e, subst (λ u. T (p u)) (sym e) t)
    top t r (there j) = (there (r j).0, (r j).1)

    go : (b : Bool) → (T b → T (p y)) → (In x (select p xs) → Found xs) → In x (cond b (y ∷ select p xs) (select p xs)) → Found (y ∷ xs)
    go true k r j = top (k tt) r j
    go false k r j = (there (r j).0, (r j).1)

-- ---- tests

pub reflects-any : {A : Type 0} {P : A → Type 0} (p : A → Bool) (xs : List A) → ((x : A) → In x xs → Reflects (P x) (p x)) → Reflects (Any P xs) (any_of p xs)
reflects-any p [] r = fails (λ s. in-nil s.1)
reflects-any {A} {P} p (x ∷ xs) r = reflects-map join split (reflects-or (r x (here refl)) (reflects-any p xs (λ y i. r y (there i))))
  where
    join : P x ⊎ Any P xs → Any P (x ∷ xs)
    join (inl h) = (x, here refl, h)
    join (inr s) = (s.0, there s.1, s.2)

    split_at : (y : A) → In y (x ∷ xs) → P y → P x ⊎ Any P xs
    split_at y (here e) h = inl (subst P e h)
    split_at y (there i) h = inr (y, i, h)

    split : Any P (x ∷ xs) → P x ⊎ Any P xs
    split s = split_at s.0 s.1 s.2

-- A member is found by a test for equality.
pub reflects-in : {A : Type 0} (same : A → A → Bool) → ((x y : A) → Reflects (x ≡ y) (same x y)) → (x : A) (xs : List A) → Reflects (In x xs) (any_of (same x) xs)
reflects-in same r x xs = reflects-map found (λ i. (x, i, refl)) (reflects-any (same x) xs (λ y i. r x y))
  where
    found : Any (λ y. x ≡ y) xs → In x xs
    found s = subst⁻¹ (λ u. In u xs) s.2 s.1

pub reflects-member : (x : ℕ) (xs : List ℕ) → Reflects (In x xs) (member x xs)
reflects-member x xs = reflects-in eqb reflects-eqb x xs

pub reflects-all : {A : Type 0} {P : A → Type 0} (p : A → Bool) (xs : List A) → ((x : A) → Reflects (P x) (p x)) → Reflects ((x : A) → In x xs → P x) (all_of p xs)
reflects-all p [] r = holds (λ x i. absurd (in-nil i))
reflects-all {A} {P} p (x ∷ xs) r = reflects-map join (λ h. (h x (here refl), λ y i. h y (there i))) (reflects-and (r x) (reflects-all p xs r))
  where
    join-at : P x × ((y : A) → In y xs → P y) → (y : A) → In y (x ∷ xs) → P y
    join-at h y (here e) = subst P (sym e) h.0
    join-at h y (there i) = h.1 y i

    join : P x × ((y : A) → In y xs → P y) → (y : A) → In y (x ∷ xs) → P y
    join h = join-at h

module _ {A : Type 0} where
  abbrev tail_of : List A → List A
  tail_of [] = []
  tail_of (x ∷ xs) = xs

  abbrev head_of : A → List A → A
  head_of d [] = d
  head_of d (x ∷ xs) = x

  abbrev is-cons : List A → Type 0
  is-cons [] = ⊥
  is-cons (x ∷ xs) = Unit {0}

  pub reflects-same-by : (same : A → A → Bool) → ((x y : A) → Reflects (x ≡ y) (same x y)) → (xs ys : List A) → Reflects (xs ≡ ys) (same_by same xs ys)
  reflects-same-by same r [] [] = holds refl
  reflects-same-by same r [] (y ∷ ys) = fails (λ e. subst⁻¹ is-cons e tt)
  reflects-same-by same r (x ∷ xs) [] = fails (λ e. subst is-cons e tt)
  reflects-same-by same r (x ∷ xs) (y ∷ ys) = reflects-map (λ h i. h.0 i ∷ h.1 i) (λ e. (ap (head_of x) e, ap tail_of e)) (reflects-and (r x y) (reflects-same-by same r xs ys))

pub reflects-same_list : (xs ys : List ℕ) → Reflects (xs ≡ ys) (same_list xs ys)
reflects-same_list = reflects-same-by eqb reflects-eqb

-- ---- remove

pub in_remove : {x z : ℕ} {xs : List ℕ} → In x xs → x ≢ z → In x (remove z xs)
in_remove {x} {z} i n = in-select (λ y. not (eqb y z)) i (reflects (reflects-not (reflects-eqb x z)) n)

pub from-remove : {x z : ℕ} (xs : List ℕ) → In x (remove z xs) → In x xs × (x ≢ z)
from-remove {x} {z} xs i = let r = from-select (λ y. not (eqb y z)) xs i in (r.0, reflected (reflects-not (reflects-eqb x z)) r.1)

-- ---- fresh

pub fresh-above : {x : ℕ} (xs : List ℕ) → In x xs → x < fresh xs
fresh-above (y ∷ xs) (here e) = subst (λ u. suc u ≤ fresh (y ∷ xs)) (sym e) (le-max_left (suc y) (fresh xs))
fresh-above (y ∷ xs) (there i) = lt_of_lt_of_le (fresh-above xs i) (le-max_right (suc y) (fresh xs))
fresh-above [] x'' = elim x'' [ ]

pub fresh-out : (xs : List ℕ) → ¬ In (fresh xs) xs
fresh-out xs i = lt_irrefl (fresh xs) (fresh-above xs i)
