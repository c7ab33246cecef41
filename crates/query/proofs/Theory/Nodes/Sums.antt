-- Sums over the numbers below n, and over a list.
use Rattle.std.specs.Prelude.{ℕ, zero, suc, ◌+◌, ◌<◌, ◌≡◌, refl, ◌≢◌, List, [], ◌∷◌, ◌++◌, length, get_or}
use Rattle.std.proofs.Math.Decide.{dec_lt}
use Rattle.std.proofs.Common.{arith, ap, ◌∙◌}

-- The sum of f over a list.
abbrev pub total : (ℕ → ℕ) → List ℕ → ℕ
total f [] = 0
total f (x ∷ xs) = f x + total f xs

-- f 0 + f 1 + .. + f (n - 1).
abbrev pub sum_below : (ℕ → ℕ) → ℕ → ℕ
sum_below f zero = 0
sum_below f (suc n) = sum_below f n + f n

pub total-append : (f : ℕ → ℕ) (xs ys : List ℕ) → total f (xs ++ ys) ≡ total f xs + total f ys
total-append f [] ys = omega arith
total-append f (x ∷ xs) ys = omega (arith, total-append f xs ys)

pub sum-below-same : (f g : ℕ → ℕ) (n : ℕ) → ((i : ℕ) → i < n → f i ≡ g i) → sum_below f n ≡ sum_below g n
sum-below-same f g zero h = refl
sum-below-same f g (suc n) h = omega (arith, h n (omega arith), sum-below-same f g n (λ i l. h i (omega arith)))

pub sum-below-zero : (f : ℕ → ℕ) (n : ℕ) → ((i : ℕ) → i < n → f i ≡ 0) → sum_below f n ≡ 0
sum-below-zero f zero h = refl
sum-below-zero f (suc n) h = omega (arith, h n (omega arith), sum-below-zero f n (λ i l. h i (omega arith)))

pub sum-below-add : (f g : ℕ → ℕ) (n : ℕ) → sum_below (λ i. f i + g i) n ≡ sum_below f n + sum_below g n
sum-below-add f g zero = omega arith
sum-below-add f g (suc n) = omega (arith, sum-below-add f g n)

-- The sum of a function that is 0 but at x.
pub sum-below-only : (f : ℕ → ℕ) (x n : ℕ) → ((i : ℕ) → i ≢ x → f i ≡ 0) → x < n → sum_below f n ≡ f x
sum-below-only f x zero o h = absurd (omega arith)
sum-below-only f x (suc n) o h = go (dec_lt x n) (sum-below-only f x n o)
  where
    go : Dec (x < n) → (x < n → sum_below f n ≡ f x) → sum_below f (suc n) ≡ f x
    go (yes l) r = omega (arith, r l, o n (λ e. omega arith))
    go (no l) r = let e : x ≡ n = omega arith in omega (arith, sum-below-zero f n (λ i j. o i (λ d. omega arith)), ap f e)

-- The sum over a list, by what stands at each place.
pub sum-of-places : (f : ℕ → ℕ) (xs : List ℕ) → sum_below (λ i. f (get_or xs i 0)) (length xs) ≡ total f xs
sum-of-places f [] = refl
sum-of-places f (x ∷ xs) = first (λ i. f (get_or (x ∷ xs) i 0)) (length xs) ∙ ap (λ n. f x + n) (sum-of-places f xs)
  where
    first : (g : ℕ → ℕ) (n : ℕ) → sum_below g (suc n) ≡ g zero + sum_below (λ i. g (suc i)) n
    first g zero = omega arith
    first g (suc n) = omega (arith, first g n)
