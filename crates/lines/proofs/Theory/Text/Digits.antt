-- Laws of a number's digits: they read back as the number, are digits, and have no zero in front.
use Rattle.std.specs.Prelude.{ℕ, zero, suc, ◌+◌, ◌*◌, ◌-◌, ◌≤◌, ◌<◌, ◌^◌, ◌/◌, ◌%◌, ◌≡◌, refl, Bool, cond, List, [], ◌∷◌, ◌++◌, length, get_or, ltb}
use Rattle.std.proofs.Common.{sym, ◌∙◌, ⊎_elim, arith, length-append}
use Rattle.std.proofs.Math.ListN.{get_or-append}
use Rattle.calculus.specs.Reflects.{Reflects, holds, fails}
use Rattle.calculus.proofs.Theory.Reflects.Laws.{reflects-ltb}
use Rattle.calculus.specs.Sets.{In}
use Rattle.calculus.proofs.Theory.Sets.Laws.{in-nil, in_one, in-append, in-cond}
use Rattle.calculus.specs.Decimal.{digits}
use Rattle.calculus.proofs.Theory.Decimal.Laws.{without-last}
use Rattle.lines.specs.Text.{decimal, reading_from}

-- One digit more.
reading-snoc : (n : ℕ) (ds : List ℕ) (d : ℕ) → reading_from n (ds ++ (d ∷ [])) ≡ reading_from n ds * 10 + (d - 48)
reading-snoc n [] d = refl
reading-snoc n (c ∷ ds) d = reading-snoc (n * 10 + (c - 48)) ds d

digits-read : (k n : ℕ) → n < 10 ^ k → reading_from 0 (digits k n) ≡ n
digits-read zero n h = omega arith
digits-read (suc k) n h = reading-snoc 0 (cond (ltb n 10) [] (digits k (n / 10))) (48 + n % 10) ∙ go (reflects-ltb n 10) (digits-read k (n / 10) (without-last k n h))
  where
    go : {b : Bool} → Reflects (n < 10) b → reading_from 0 (digits k (n / 10)) ≡ n / 10 → reading_from 0 (cond b [] (digits k (n / 10))) * 10 + (48 + n % 10 - 48) ≡ n
    go (holds l) e = omega arith
    go (fails g) e = omega (arith, e)

-- The digits of a number read back as the number.
pub decimal-reads : (n : ℕ) → n < 10 ^ 10 → reading_from 0 (decimal n) ≡ n
unfolding decimal
decimal-reads n h = digits-read 10 n h

digits-range : (k n d : ℕ) → In d (digits k n) → (48 ≤ d) × (d ≤ 57)
digits-range zero n d i = absurd (in-nil i)
digits-range (suc k) n d i =
    ⊎_elim
    (λ j. ⊎_elim (λ c. absurd (in-nil c.1)) (λ c. digits-range k (n / 10) d c.1) (in-cond (ltb n 10) j))
    (λ j. let e : d ≡ 48 + n % 10 = in_one j in (omega arith, omega arith))
    (in-append (cond (ltb n 10) [] (digits k (n / 10))) i)

-- Each digit of a number is one of 0 to 9.
pub decimal-digits : (n d : ℕ) → In d (decimal n) → (48 ≤ d) × (d ≤ 57)
unfolding decimal
decimal-digits n d i = digits-range 10 n d i

-- A number that is not 0 has a digit.
some-digit : (k n : ℕ) → n < 10 ^ k → 0 < n → 0 < length (digits k n)
some-digit zero n h p = absurd (omega arith)
some-digit (suc k) n h p = omega (arith, length-append (cond (ltb n 10) [] (digits k (n / 10))) ((48 + n % 10) ∷ []))

digits-front : (k n : ℕ) → n < 10 ^ k → get_or (digits k n) 0 0 ≡ 48 → n ≡ 0
digits-front zero n h e = omega arith
digits-front (suc k) n h e = go (reflects-ltb n 10) (digits-front k (n / 10) (without-last k n h)) e
  where
    go : {b : Bool} → Reflects (n < 10) b → (get_or (digits k (n / 10)) 0 0 ≡ 48 → n / 10 ≡ 0) → get_or (cond b [] (digits k (n / 10)) ++ ((48 + n % 10) ∷ [])) 0 0 ≡ 48 → n ≡ 0
    go (holds l) r f = omega arith
    go (fails g) r f =
        let s : 0 < length (digits k (n / 10)) = some-digit k (n / 10) (without-last k n h) (omega arith) in
        omega (arith, r (sym (get_or-append (digits k (n / 10)) ((48 + n % 10) ∷ []) 0 0 s) ∙ f))

-- The first digit is 0 for the number 0 only.
pub decimal-front : (n : ℕ) → n < 10 ^ 10 → get_or (decimal n) 0 0 ≡ 48 → n ≡ 0
unfolding decimal
decimal-front n h e = digits-front 10 n h e
