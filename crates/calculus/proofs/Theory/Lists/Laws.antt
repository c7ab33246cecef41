-- Laws of lists made of a function's values, and of tests of their elements.
use Rattle.std.specs.Prelude.{ℕ, zero, suc, ◌+◌, ◌<◌, ◌≤◌, ◌-◌, ◌≡◌, refl, Bool, ◌&&◌, ◌||◌, true, false, cond, List, [], ◌∷◌, ◌++◌, map, length, get_or, drop, replicate, take, set, T}
use Rattle.std.proofs.Common.{suc-le-suc, arith, ap, ◌∙◌, sym, add-one, drop_of_length-le, length-append, drop-cons, ext_get_or, zero-add, suc-add}
use Rattle.std.proofs.Math.Bool.{or-true}
use Rattle.std.proofs.lemmas.List.{length-replicate, set_at}
use Rattle.std.proofs.Math.ListN.{get_or-append}
use Rattle.std.proofs.Math.Seq.{take-append-add, append_snoc, set-append_seam}
use Rattle.calculus.specs.Sets.{all_of, any_of, In, here, there, select}
use Rattle.calculus.specs.Lists.{tabulate, padded}
use Rattle.calculus.specs.Reflects.{Reflects, holds}
use Rattle.calculus.proofs.Theory.Reflects.Laws.{reflects-map, reflects-and}
use Rattle.std.proofs.Math.Nat.{sub-zero, zero-sub, suc-sub-suc}

module _ {A : Type 0} where
  pub length-tabulate : (f : ℕ → A) (n : ℕ) → length (tabulate f n) ≡ n
  length-tabulate f zero = refl
  length-tabulate f (suc n) = ap suc (length-tabulate (λ i. f (suc i)) n)

  pub get_d_tabulate : (f : ℕ → A) (n i : ℕ) (d : A) → i < n → get_or (tabulate f n) i d ≡ f i
  get_d_tabulate f zero i d h = absurd (omega arith)
  get_d_tabulate f (suc n) zero d h = refl
  get_d_tabulate f (suc n) (suc i) d h = get_d_tabulate (λ j. f (suc j)) n i d (omega arith)

  pub length-padded : (n : ℕ) (z : A) (xs : List A) → length xs ≤ n → length (padded n z xs) ≡ n
  length-padded n z xs h = length-append xs (replicate (n - length xs) z) ∙ simp length-replicate (omega arith)

-- ---- a test of every element, or of some, decided by the elements from the i-th on

module _ {A : Type 0} (p : A → Bool) (xs : List A) (i : ℕ) (d : A) (h : i < length xs) where
  pub all_drop : all_of p (drop i xs) ≡ p (get_or xs i d) && all_of p (drop (i + 1) xs)
  all_drop = rw (add-one, drop-cons xs i d)

  pub any-drop : any_of p (drop i xs) ≡ p (get_or xs i d) || any_of p (drop (i + 1) xs)
  any-drop = rw (add-one, drop-cons xs i d)

module _ {A : Type 0} (p : A → Bool) (xs : List A) (i : ℕ) (d : A) where
  -- The i-th element fails the test, or passes it, or there is none.
  pub all-stops : i < length xs → p (get_or xs i d) ≡ false → all_of p (drop i xs) ≡ false
  all-stops h e = all_drop p xs i d h ∙ rw e

  pub all-goes : i < length xs → p (get_or xs i d) ≡ true → all_of p (drop i xs) ≡ all_of p (drop (i + 1) xs)
  all-goes h e = all_drop p xs i d h ∙ rw e

  pub all-ends : length xs ≤ i → all_of p (drop i xs) ≡ true
  all-ends h = ap (all_of p) (drop_of_length-le xs {i = i} h)

-- A test of what was read at a place, as a test of the place.
pub tested : {A : Type 0} (p : A → Bool) {x y : A} {b : Bool} → b ≡ p x → x ≡ y → p y ≡ b
tested p e f = sym (e ∙ ap p f)

-- ---- copies of one element

-- A test for z, passed by every element: the list is copies of z.
pub reflects-replicate : {A : Type 0} (p : A → Bool) (z : A) → ((x : A) → Reflects (x ≡ z) (p x)) → (xs : List A) → Reflects (xs ≡ replicate (length xs) z) (all_of p xs)
reflects-replicate p z r [] = holds refl
reflects-replicate p z r (x ∷ xs) = reflects-map (λ h i. h.0 i ∷ h.1 i) (λ e. (cc, cc)) (reflects-and (r x) (reflects-replicate p z r xs))

pub take-replicate : {A : Type 0} (m n : ℕ) (z : A) → m ≤ n → take m (replicate n z) ≡ replicate m z
take-replicate zero n z h = refl
take-replicate (suc m) zero z h = absurd (omega arith)
take-replicate (suc m) (suc n) z h = ap (λ zs. z ∷ zs) (take-replicate m n z (omega arith))

-- A list with enough copies of z after it, cut to n elements.
pub take-padded : {A : Type 0} (n k : ℕ) (z : A) (xs : List A) → length xs ≤ n → n ≤ length xs + k → take n (xs ++ replicate k z) ≡ padded n z xs
take-padded n k z xs h l =
    let e : n ≡ length xs + (n - length xs) = omega arith in
    ap (λ m. take m (xs ++ replicate k z)) e ∙ take-append-add xs (replicate k z) (n - length xs) ∙ ap (λ zs. xs ++ zs) (take-replicate (n - length xs) k z (omega arith))

-- ---- select

-- A test that every member passes selects all.
pub select-all : {A : Type 0} (p : A → Bool) (xs : List A) → ((x : A) → In x xs → T (p x)) → select p xs ≡ xs
select-all p [] h = refl
select-all {A} p (x ∷ xs) h = go (p x) (h x (here refl)) (select-all p xs (λ y i. h y (there i)))
  where
    go : (b : Bool) → T b → select p xs ≡ xs → cond b (x ∷ select p xs) (select p xs) ≡ x ∷ xs
    go true t e = ap (λ ys. x ∷ ys) e
    go false t e = absurd t

-- Two tests that agree on the members.
pub select-same : {A : Type 0} (p q : A → Bool) (xs : List A) → ((x : A) → In x xs → p x ≡ q x) → select p xs ≡ select q xs
select-same p q [] h = refl
select-same p q (x ∷ xs) h = λ j. cond (h x (here refl) j) (x ∷ select-same p q xs (λ y i. h y (there i)) j) (select-same p q xs (λ y i. h y (there i)) j)

-- Selecting from mapped elements is mapping the selected.
pub select-map : {A B : Type 0} (p : B → Bool) (f : A → B) (xs : List A) → select p (map f xs) ≡ map f (select (λ x. p (f x)) xs)
select-map p f [] = refl
select-map {A} {B} p f (x ∷ xs) = go (p (f x)) (select-map p f xs)
  where
    go : (b : Bool) → select p (map f xs) ≡ map f (select (λ y. p (f y)) xs) → cond b (f x ∷ select p (map f xs)) (select p (map f xs)) ≡ map f (cond b (x ∷ select (λ y. p (f y)) xs) (select (λ y. p (f y)) xs))
    go true e = ap (λ r. f x ∷ r) e
    go false e = e

pub select-append : {A : Type 0} (p : A → Bool) (xs ys : List A) → select p (xs ++ ys) ≡ select p xs ++ select p ys
select-append p [] ys = refl
select-append {A} p (x ∷ xs) ys = go (p x) (select-append p xs ys)
  where
    go : (b : Bool) → select p (xs ++ ys) ≡ select p xs ++ select p ys → cond b (x ∷ select p (xs ++ ys)) (select p (xs ++ ys)) ≡ cond b (x ∷ select p xs) (select p xs) ++ select p ys
    go true e = ap (λ l. x ∷ l) e
    go false e = e

-- ---- the parts of a test

pub or-fails : (a b : Bool) → a || b ≡ false → (a ≡ false) × (b ≡ false)
or-fails true b e = (e, cc)
or-fails false b e = (refl, e)

pub and-holds : (a b : Bool) → T (a && b) → T a × T b
and-holds true b t = (tt, t)
and-holds false b t = absurd t

module _ {A : Type 0} (p : A → Bool) where
  -- A test that no member passes.
  pub any-of-false : (xs : List A) → any_of p xs ≡ false → (x : A) → In x xs → p x ≡ false
  any-of-false (y ∷ xs) e x (here q) = rw q (or-fails (p y) (any_of p xs) e).0
  any-of-false (y ∷ xs) e x (there i) = any-of-false xs (or-fails (p y) (any_of p xs) e).1 x i
  any-of-false [] e x x4 = elim x4 [ ]

  -- A test that every element passes, and what stands for a missing one.
  pub all-of-getD : (xs : List A) (d : A) → T (all_of p xs) → T (p d) → (i : ℕ) → T (p (get_or xs i d))
  all-of-getD [] d t s i = s
  all-of-getD (x ∷ xs) d t s zero = (and-holds (p x) (all_of p xs) t).0
  all-of-getD (x ∷ xs) d t s (suc i) = all-of-getD xs d (and-holds (p x) (all_of p xs) t).1 s i

-- ---- the places of members

module _ {A : Type 0} where
  pub from-tabulate : (f : ℕ → A) (n : ℕ) {x : A} → In x (tabulate f n) → (i : ℕ) × (i < n) × (x ≡ f i)
  from-tabulate f (suc n) (here e) = (0, omega arith, e)
  from-tabulate f (suc n) (there i) = let r = from-tabulate (λ j. f (suc j)) n i in (suc r.0, suc-le-suc r.1, r.2)
  from-tabulate f zero x3 = elim x3 [ ]

  pub place_of : (d : A) {x : A} (xs : List A) → In x xs → (i : ℕ) × (i < length xs) × (x ≡ get_or xs i d)
  place_of d (y ∷ xs) (here e) = (0, omega arith, e)
  place_of d (y ∷ xs) (there i) = let r = place_of d xs i in (suc r.0, suc-le-suc r.1, r.2)
  place_of d [] x'' = elim x'' [ ]

  -- The element at a place below n is one of the first n.
  pub in_take : (d : A) (xs : List A) (n c : ℕ) → c < n → c < length xs → In (get_or xs c d) (take n xs)
  in_take d [] n c h l = absurd (omega arith)
  in_take d (x ∷ xs) zero c h l = absurd (omega arith)
  in_take d (x ∷ xs) (suc n) zero h l = here refl
  in_take d (x ∷ xs) (suc n) (suc c) h l = there (in_take d xs n c (omega arith) (omega arith))

  pub from-take : {x : A} (n : ℕ) (xs : List A) → In x (take n xs) → In x xs
  from-take (suc n) (y ∷ xs) (here e) = here e
  from-take (suc n) (y ∷ xs) (there i) = there (from-take n xs i)
  from-take zero xs x'' = elim x'' [ ]
  from-take (suc n) [] x4 = elim x4 [ ]

-- ---- a list that is filled from the front, and one that is known by its elements

module _ {A : Type 0} where
  pub tabulate-next : (f : ℕ → A) (n : ℕ) → tabulate f (suc n) ≡ tabulate f n ++ (f n ∷ [])
  tabulate-next f zero = refl
  tabulate-next f (suc n) = ap {B = List A} (λ r. f zero ∷ r) (tabulate-next (λ i. f (suc i)) n)

  pub tabulate-fill : (f : ℕ → A) (l : List A) (i : ℕ) (d : A) → i < length l → set (tabulate f i ++ drop i l) i (f i) ≡ tabulate f (i + 1) ++ drop (i + 1) l
  tabulate-fill f l i d h = rw (add-one, drop-cons l i d) (set_at (tabulate f i) (get_or l i d) (drop (suc i) l) (f i) i (length-tabulate f i) ∙ sym (ap (λ (r : List A). r ++ drop (suc i) l) (tabulate-next f i) ∙ append_snoc (tabulate f i) (f i) (drop (suc i) l)))

  pub tabulate-of : (f : ℕ → A) (l : List A) (n : ℕ) (d : A) → length l ≡ n → ((i : ℕ) → i < n → get_or l i d ≡ f i) → l ≡ tabulate f n
  tabulate-of f l n d e h = ext_get_or d l (tabulate f n) (e ∙ sym (length-tabulate f n)) (λ i b. let m : i < n = omega arith in h i m ∙ sym (get_d_tabulate f n i d m))

  pub four-of : (xs : List A) (d : A) → length xs ≡ 4 → xs ≡ get_or xs 0 d ∷ get_or xs 1 d ∷ get_or xs 2 d ∷ get_or xs 3 d ∷ []
  four-of xs d h = tabulate-of (λ i. get_or xs i d) xs 4 d h (λ i l. refl)

-- ---- an element that passes the test, among the first n or the others

module _ {A : Type 0} (p : A → Bool) (d : A) where
  pub any-take-at : (xs : List A) (n k : ℕ) → k < n → k < length xs → p (get_or xs k d) ≡ true → any_of p (take n xs) ≡ true
  any-take-at [] n k h l e = absurd (omega arith)
  any-take-at (x ∷ xs) zero k h l e = absurd (omega arith)
  any-take-at (x ∷ xs) (suc n) zero h l e = rw e
  any-take-at (x ∷ xs) (suc n) (suc k) h l e = rw (any-take-at xs n k (omega arith) (omega arith) e) (or-true (p x))

  pub any-drop-at : (xs : List A) (n k : ℕ) → n ≤ k → k < length xs → p (get_or xs k d) ≡ true → any_of p (drop n xs) ≡ true
  any-drop-at [] n k h l e = absurd (omega arith)
  any-drop-at (x ∷ xs) zero zero h l e = rw e
  any-drop-at (x ∷ xs) zero (suc k) h l e = rw (any-drop-at xs zero k (omega arith) (omega arith) e) (or-true (p x))
  any-drop-at (x ∷ xs) (suc n) zero h l e = absurd (omega arith)
  any-drop-at (x ∷ xs) (suc n) (suc k) h l e = any-drop-at xs n k (omega arith) (omega arith) e

-- ---- the first places of a list of copies are written over

module _ {A : Type 0} where
  pub drop-replicate : (n k : ℕ) (z : A) → drop k (replicate n z) ≡ replicate (n - k) z
  drop-replicate n zero z = rw sub-zero
  drop-replicate zero (suc k) z = rw zero-sub
  drop-replicate (suc n) (suc k) z = drop-replicate n k z ∙ rw suc-sub-suc

  pub padded-tabulate : (f : ℕ → A) (n k : ℕ) (z : A) → tabulate f k ++ drop k (replicate n z) ≡ padded n z (tabulate f k)
  padded-tabulate f n k z = rw (drop-replicate n k z, length-tabulate f k)

-- ---- two functions that agree, and a list in two parts

module _ {A : Type 0} where
  pub tabulate-same : (f g : ℕ → A) (n : ℕ) → ((i : ℕ) → f i ≡ g i) → tabulate f n ≡ tabulate g n
  tabulate-same f g n h = λ j. tabulate (λ i. h i j) n

  pub tabulate-append : (f : ℕ → A) (k n : ℕ) → tabulate f (k + n) ≡ tabulate f k ++ tabulate (λ i. f (k + i)) n
  tabulate-append f zero n = simp zero-add
  tabulate-append f (suc k) n = simp suc-add (ap (λ l. f zero ∷ l) (tabulate-append (λ i. f (suc i)) k n))

-- ---- a padded list: its places, and what writing to them does

module _ {A : Type 0} (n : ℕ) (z : A) where
  -- A place that holds an element, and a place that holds a function's value.
  pub getD-padded : (xs : List A) (c : ℕ) → c < length xs → get_or (padded n z xs) c z ≡ get_or xs c z
  getD-padded xs c h = get_or-append xs (replicate (n - length xs) z) z c h

  pub padded-at : (f : ℕ → A) (i c : ℕ) → c < i → get_or (padded n z (tabulate f i)) c z ≡ f c
  padded-at f i c h = getD-padded (tabulate f i) c (omega (arith, length-tabulate f i)) ∙ get_d_tabulate f i c z h

  module _ (xs : List A) where
    -- The last element is written over.
    pub padded-over : (v w : A) → set (padded n z (xs ++ (v ∷ []))) (length xs) w ≡ padded n z (xs ++ (w ∷ []))
    padded-over v w =
        ap (λ ys. set ys (length xs) w) (append_snoc xs v (replicate (n - length (xs ++ (v ∷ []))) z))
        ∙ set-append_seam xs v (replicate (n - length (xs ++ (v ∷ []))) z) w
        ∙ ap (λ k. xs ++ (w ∷ replicate (n - k) z)) (length-append xs (v ∷ []) ∙ sym (length-append xs (w ∷ [])))
        ∙ sym (append_snoc xs w (replicate (n - length (xs ++ (w ∷ []))) z))

    -- The last element is what fills the rest.
    pub padded-fill : length xs < n → padded n z (xs ++ (z ∷ [])) ≡ padded n z xs
    padded-fill h =
        let e : suc (n - length (xs ++ (z ∷ []))) ≡ n - length xs = omega (arith, length-append xs (z ∷ [])) in
        append_snoc xs z (replicate (n - length (xs ++ (z ∷ []))) z)
        ∙ ap (λ k. xs ++ replicate k z) e

    -- One element more.
    pub padded-put : (w : A) → length xs < n → set (padded n z xs) (length xs) w ≡ padded n z (xs ++ (w ∷ []))
    padded-put w h = ap (λ ys. set ys (length xs) w) (sym (padded-fill h)) ∙ padded-over z w

  pub padded-next : (f : ℕ → A) (i : ℕ) → i < n → set (padded n z (tabulate f i)) i (f i) ≡ padded n z (tabulate f (i + 1))
  padded-next f i h =
      ap (λ k. set (padded n z (tabulate f i)) k (f i)) (sym (length-tabulate f i))
      ∙ padded-put (tabulate f i) (f i) (omega (arith, length-tabulate f i))
      ∙ ap (padded n z) (sym (tabulate-next f i) ∙ ap (tabulate f) (sym (add-one i)))

-- Every member of a list of copies is what was copied.
pub from-replicate : {A : Type 0} (n : ℕ) (r : A) {w : A} → In w (replicate n r) → w ≡ r
from-replicate (suc n) r (here e) = e
from-replicate (suc n) r (there i) = from-replicate n r i
from-replicate {A = A} zero r {w = w} x' = elim x' [ ]
