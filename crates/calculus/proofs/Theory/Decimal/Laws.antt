-- Laws of numbers in decimal: a digit, a digit more, how many there are, and induction by the last digit.
use Rattle.std.specs.Prelude.{ℕ, zero, suc, ◌+◌, ◌*◌, ◌≤◌, ◌<◌, ◌^◌, ◌/◌, ◌%◌, ◌≡◌, refl, Bool, true, false, cond, [], ◌∷◌, ◌++◌, length, ltb}
use Rattle.std.proofs.Common.{subst, arith, pow-suc, length-append}
use Rattle.calculus.specs.Reflects.{Reflects, holds, fails}
use Rattle.calculus.proofs.Theory.Reflects.Laws.{reflects-ltb, reflects-true, reflects-false}
use Rattle.calculus.specs.Decimal.{digits, numeral}

-- Any bound above the number gives the same digits.
digits_same : (k m n : ℕ) → n < k → n < m → digits k n ≡ digits m n
digits_same zero m n h l = absurd (omega arith)
digits_same (suc k) zero n h l = absurd (omega arith)
digits_same (suc k) (suc m) n h l = λ i. go (reflects-ltb n 10) (digits_same k m (n / 10)) i ++ ((48 + n % 10) ∷ [])
  where
    go : {b : Bool} → Reflects (n < 10) b → (n / 10 < k → n / 10 < m → digits k (n / 10) ≡ digits m (n / 10)) → cond b [] (digits k (n / 10)) ≡ cond b [] (digits m (n / 10))
    go (holds s) r = refl
    go (fails g) r = r (omega arith) (omega arith)

-- No more digits than asked for.
pub length_digits : (k n : ℕ) → length (digits k n) ≤ k
length_digits zero n = omega arith
length_digits (suc k) n = go (ltb n 10) (length_digits k (n / 10))
  where
    go : (b : Bool) → length (digits k (n / 10)) ≤ k → length (cond b [] (digits k (n / 10)) ++ ((48 + n % 10) ∷ [])) ≤ suc k
    go true l = omega arith
    go false l = omega (arith, l, length-append (digits k (n / 10)) ((48 + n % 10) ∷ []))

-- Without its last digit, a number has one digit less.
pub without-last : (k n : ℕ) → n < 10 ^ suc k → n / 10 < 10 ^ k
without-last k n h = omega (arith, pow-suc 10 k)

-- Where as many digits as asked for are enough, they are those of any bound above the number.
enough-same : (k m n : ℕ) → n < 10 ^ suc k → n < m → digits (suc k) n ≡ digits m n
enough-same k zero n h l = absurd (omega arith)
enough-same zero (suc m) n h l =
    let s : ltb n 10 ≡ true = reflects-true (reflects-ltb n 10) (omega arith) in
    rw (s)
enough-same (suc k) (suc m) n h l = λ i. go (reflects-ltb n 10) (enough-same k m (n / 10) (without-last (suc k) n h)) i ++ ((48 + n % 10) ∷ [])
  where
    go : {b : Bool} → Reflects (n < 10) b → (n / 10 < m → digits (suc k) (n / 10) ≡ digits m (n / 10)) → cond b [] (digits (suc k) (n / 10)) ≡ cond b [] (digits m (n / 10))
    go (holds s) r = refl
    go (fails g) r = r (omega arith)

-- The digits of a number that has no more than asked for.
pub digits-enough : (k n : ℕ) → n < 10 ^ suc k → digits (suc k) n ≡ numeral n
unfolding numeral
digits-enough k n h = enough-same k (suc n) n h (omega arith)

-- A number below 10 is one digit.
pub numeral-digit : (d : ℕ) → d < 10 → numeral d ≡ (48 + d) ∷ []
unfolding numeral
numeral-digit d h =
    let e : d % 10 ≡ d = omega arith in
    λ i. cond (reflects-true (reflects-ltb d 10) h i) [] (digits d (d / 10)) ++ ((48 + e i) ∷ [])

-- A digit after a number other than 0 makes ten times the number and the digit.
pub numeral-more : (n d : ℕ) → 0 < n → d < 10 → numeral (n * 10 + d) ≡ numeral n ++ ((48 + d) ∷ [])
unfolding numeral
numeral-more n d p h =
    let front : (n * 10 + d) / 10 ≡ n = omega arith in
    let last : (n * 10 + d) % 10 ≡ d = omega arith in
    let more : ltb (n * 10 + d) 10 ≡ false = reflects-false (reflects-ltb (n * 10 + d) 10) (omega arith) in
    rw (more, front, last, digits_same (n * 10 + d) (suc n) n (omega arith) (omega arith))

-- What holds of every digit, and of a number with a digit more, holds of every number.
pub numeral-induction : (P : ℕ → Type 0) → ((d : ℕ) → d < 10 → P d) → ((n d : ℕ) → 0 < n → d < 10 → P n → P (n * 10 + d)) → (n : ℕ) → P n
numeral-induction P digit more n = below (suc n) n (omega arith)
  where
    by_size : (n : ℕ) {b : Bool} → Reflects (n < 10) b → (10 < suc n → P (n / 10)) → P n
    by_size n (holds s) r = digit n s
    by_size n (fails g) r =
        let e : n / 10 * 10 + n % 10 ≡ n = omega arith in
        subst P e (more (n / 10) (n % 10) (omega arith) (omega arith) (r (omega arith)))

    below : (k n : ℕ) → n < k → P n
    below zero n h = absurd (omega arith)
    below (suc k) n h = by_size n (reflects-ltb n 10) (λ g. below k (n / 10) (omega arith))
