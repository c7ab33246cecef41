-- Laws of sets as numbers: union and intersection are by bits, a bit tells membership, and zero is the empty set.
use Rattle.std.specs.Prelude.{ℕ, zero, suc, ◌+◌, ◌*◌, ◌-◌, ◌/◌, ◌%◌, ◌≤◌, ◌<◌, ◌^◌, max, min, ◌≡◌, refl, Bool, true, false, not, ◌&&◌, ◌||◌, List, [], ◌∷◌, ◌++◌, eqb}
use Rattle.std.proofs.Common.{arith, sym, ap, subst, ◌∙◌, true≢false, eq-eqb, ne_eqb}
use Rattle.std.proofs.Math.Decide.{dec_lt}
use Rattle.std.proofs.Math.Bool.{and-false}
use Rattle.std.specs.Int.Bits.{bit_and, bit_or, and_step, or_step}
use Rattle.calculus.specs.Sets.{In, here, member}
use Rattle.calculus.specs.Reflects.{Reflects, holds, fails}
use Rattle.calculus.proofs.Theory.Reflects.Laws.{reflects-eqb}
use Rattle.calculus.specs.Generators.{is_empty}
use Rattle.query.proofs.Theory.Code.Free.Laws.{member-append}
use Rattle.query.specs.Nodes.{nonzero}
use Rattle.verdict.specs.Bits.{bit, bits, mask, has}
use Rattle.verdict.specs.Code.Generating.{without}

-- ---- one number more

pub bits-suc : (f : ℕ → Bool) (k : ℕ) → bits f (suc k) ≡ bits f k * 2 + bit (f k)
unfolding bits
bits-suc f k = refl

pub bits_none : (f : ℕ → Bool) → bits f zero ≡ 0
unfolding bits
bits_none f = refl

-- Tests that agree below k have one set.
pub bits-same : (f g : ℕ → Bool) (k : ℕ) → ((n : ℕ) → n < k → f n ≡ g n) → bits f k ≡ bits g k
bits-same f g zero h = bits_none f ∙ sym (bits_none g)
bits-same f g (suc k) h = bits-suc f k ∙ (λ i. bits-same f g k (λ n l. h n (omega arith)) i * 2 + bit (h k (omega arith) i)) ∙ sym (bits-suc g k)

-- ---- union and intersection

bit-small : (b : Bool) → bit b < 2
bit-small true = omega arith
bit-small false = omega arith

bit-or : (a b : Bool) → max (bit a) (bit b) ≡ bit (a || b)
bit-or true true = refl
bit-or true false = refl
bit-or false true = refl
bit-or false false = refl

bit-and : (a b : Bool) → min (bit a) (bit b) ≡ bit (a && b)
bit-and true true = refl
bit-and true false = refl
bit-and false true = refl
bit-and false false = refl

half : (n : ℕ) (b : Bool) → (n * 2 + bit b) / 2 ≡ n
half n b = omega (arith, bit-small b)

parity : (n : ℕ) (b : Bool) → (n * 2 + bit b) % 2 ≡ bit b
parity n b = omega (arith, bit-small b)

or-next : (m n : ℕ) (a b : Bool) → bit_or (m * 2 + bit a) (n * 2 + bit b) ≡ bit_or m n * 2 + bit (a || b)
or-next m n a b = or_step (m * 2 + bit a) (n * 2 + bit b) ∙ (λ i. bit_or (half m a i) (half n b i) * 2 + max (parity m a i) (parity n b i)) ∙ ap (λ c. bit_or m n * 2 + c) (bit-or a b)

and-next : (m n : ℕ) (a b : Bool) → bit_and (m * 2 + bit a) (n * 2 + bit b) ≡ bit_and m n * 2 + bit (a && b)
and-next m n a b = and_step (m * 2 + bit a) (n * 2 + bit b) ∙ (λ i. bit_and (half m a i) (half n b i) * 2 + min (parity m a i) (parity n b i)) ∙ ap (λ c. bit_and m n * 2 + c) (bit-and a b)

pub bits-or : (f g : ℕ → Bool) (k : ℕ) → bit_or (bits f k) (bits g k) ≡ bits (λ n. f n || g n) k
bits-or f g zero = (λ i. bit_or (bits_none f i) (bits_none g i)) ∙ sym (bits_none (λ n. f n || g n))
bits-or f g (suc k) = (λ i. bit_or (bits-suc f k i) (bits-suc g k i)) ∙ or-next (bits f k) (bits g k) (f k) (g k) ∙ ap (λ m. m * 2 + bit (f k || g k)) (bits-or f g k) ∙ sym (bits-suc (λ n. f n || g n) k)

pub bits-and : (f g : ℕ → Bool) (k : ℕ) → bit_and (bits f k) (bits g k) ≡ bits (λ n. f n && g n) k
bits-and f g zero = (λ i. bit_and (bits_none f i) (bits_none g i)) ∙ sym (bits_none (λ n. f n && g n))
bits-and f g (suc k) = (λ i. bit_and (bits-suc f k i) (bits-suc g k i)) ∙ and-next (bits f k) (bits g k) (f k) (g k) ∙ ap (λ m. m * 2 + bit (f k && g k)) (bits-and f g k) ∙ sym (bits-suc (λ n. f n && g n) k)

-- The union of the sets of two lists is the set of one after the other.
pub mask_append : (k : ℕ) (xs ys : List ℕ) → bit_or (mask k xs) (mask k ys) ≡ mask k (xs ++ ys)
mask_append k xs ys = bits-or (λ n. member n xs) (λ n. member n ys) k ∙ bits-same (λ n. member n xs || member n ys) (λ n. member n (xs ++ ys)) k (λ n h. sym (member-append n xs ys))

-- The union of two sets that are known to be those of lists.
pub mask-joined : (k m n : ℕ) (xs ys : List ℕ) → m ≡ mask k xs → n ≡ mask k ys → bit_or m n ≡ mask k (xs ++ ys)
mask-joined k m n xs ys d e = (λ i. bit_or (d i) (e i)) ∙ mask_append k xs ys

-- ---- zero, and all

pub bits-empty : (f : ℕ → Bool) (k : ℕ) → ((n : ℕ) → n < k → f n ≡ false) → bits f k ≡ 0
bits-empty f zero h = bits_none f
bits-empty f (suc k) h = bits-suc f k ∙ (λ i. bits-empty f k (λ n l. h n (omega arith)) i * 2 + bit (h k (omega arith) i))

pub mask-nil : (k : ℕ) → mask k [] ≡ 0
mask-nil k = bits-empty (λ n. false) k (λ n h. refl)

-- What zero says of each number.
pub bits-zero : (f : ℕ → Bool) (k : ℕ) → bits f k ≡ 0 → (n : ℕ) → n < k → f n ≡ false
bits-zero f zero e n h = absurd (omega arith)
bits-zero f (suc k) e n h = go (dec_lt n k) (λ l. bits-zero f k (omega (arith, sym (bits-suc f k) ∙ e)) n l)
  where
    bit-zero : (b : Bool) → bit b ≡ 0 → b ≡ false
    bit-zero true z = absurd (omega arith)
    bit-zero false z = refl

    go : Dec (n < k) → (n < k → f n ≡ false) → f n ≡ false
    go (yes l) r = r l
    go (no l) r = let d : k ≡ n = omega arith in subst (λ m. f m ≡ false) d (bit-zero (f k) (omega (arith, sym (bits-suc f k) ∙ e)))

-- The complement.
bit_not : (b : Bool) → bit (not b) + bit b ≡ 1
bit_not true = refl
bit_not false = refl

pub bits-not : (f : ℕ → Bool) (k : ℕ) → bits (λ n. not (f n)) k + bits f k + 1 ≡ 2 ^ k
bits-not f zero = (λ i. bits_none (λ n. not (f n)) i + bits_none f i + 1)
bits-not f (suc k) = omega (arith, bits-suc (λ n. not (f n)) k, bits-suc f k, bits-not f k, bit_not (f k))

pub bits-all : (f : ℕ → Bool) (k : ℕ) → ((n : ℕ) → n < k → f n ≡ true) → bits f k + 1 ≡ 2 ^ k
bits-all f k h = omega (arith, bits-not f k, bits-empty (λ n. not (f n)) k (λ n l. ap not (h n l)))

-- Below 2 to the power of their number.
pub bits_small : (f : ℕ → Bool) (k : ℕ) → bits f k < 2 ^ k
bits_small f k = omega (arith, bits-not f k)

-- ---- one member

-- Below k, the set of x alone is one bit; past it there is none.
pub mask_one : (k x : ℕ) → x < k → mask k (x ∷ []) ≡ 2 ^ (k - 1 - x)
mask_one zero x h = absurd (omega arith)
mask_one (suc k) x h = bits-suc (λ n. member n (x ∷ [])) k ∙ go (dec_lt x k) (λ l. mask_one k x l)
  where
    go : Dec (x < k) → (x < k → mask k (x ∷ []) ≡ 2 ^ (k - 1 - x)) → mask k (x ∷ []) * 2 + bit (member k (x ∷ [])) ≡ 2 ^ (suc k - 1 - x)
    go (yes l) r =
        let d : suc k - 1 - x ≡ suc (k - 1 - x) = omega arith in
        rw (ne_eqb k x (λ e. omega arith), d) (omega (arith, r l))
    go (no l) r =
        let d : suc k - 1 - x ≡ 0 = omega arith in
        rw (eq-eqb k x (omega arith), d, bits-empty (λ n. member n (x ∷ [])) k (λ n m. rw (ne_eqb n x (λ e. omega arith))))

pub mask-past : (k x : ℕ) → k ≤ x → mask k (x ∷ []) ≡ 0
mask-past k x h = bits-empty (λ n. member n (x ∷ [])) k (λ n l. rw (ne_eqb n x (λ e. omega arith)))

-- A number below k is in the set where it passes the test.
pub has-bits : (f : ℕ → Bool) (k x : ℕ) → x < k → has k (bits f k) x ≡ f x
has-bits f k x h = ap nonzero (bits-and f (λ n. member n (x ∷ [])) k) ∙ go (f x) refl
  where
    itself : member x (x ∷ []) ≡ true
    itself = rw (eq-eqb x x refl)

    some : f x ≡ true → (m : ℕ) → bits (λ n. f n && member n (x ∷ [])) k ≡ m → nonzero m ≡ true
    some e zero z = absurd (true≢false (sym (λ i. e i && itself i) ∙ bits-zero (λ n. f n && member n (x ∷ [])) k z x h))
    some e (suc m) z = ap not (ne_eqb (suc m) 0 (λ d. omega arith))

    none_of : {b : Bool} → f x ≡ false → (n : ℕ) → Reflects (n ≡ x) b → (f n && (b || false)) ≡ false
    none_of e n (holds d) = rw (d, e)
    none_of e n (fails d) = and-false (f n)

    go : (b : Bool) → f x ≡ b → nonzero (bits (λ n. f n && member n (x ∷ [])) k) ≡ b
    go true e = some e (bits (λ n. f n && member n (x ∷ [])) k) refl
    go false e = ap nonzero (bits-empty (λ n. f n && member n (x ∷ [])) k (λ n l. none_of e n (reflects-eqb n x)))

-- Two tests with one set agree below k: the set says which numbers pass.
pub bits-injective : (f g : ℕ → Bool) (k : ℕ) → bits f k ≡ bits g k → (n : ℕ) → n < k → f n ≡ g n
bits-injective f g k e n h = sym (has-bits f k n h) ∙ ap (λ s. has k s n) e ∙ has-bits g k n h

-- The set without x.
pub without-bits : (f : ℕ → Bool) (k x : ℕ) → without k (bits f k) x ≡ bits (λ n. not (eqb n x) && f n) k
without-bits f k x =
    ap (bit_and (bits f k)) complement
    ∙ bits-and f (λ n. not (member n (x ∷ []))) k
    ∙ bits-same (λ n. f n && not (member n (x ∷ []))) (λ n. not (eqb n x) && f n) k (λ n h. swap (f n) (eqb n x))
  where
    complement : 2 ^ k - 1 - mask k (x ∷ []) ≡ bits (λ n. not (member n (x ∷ []))) k
    complement = omega (arith, bits-not (λ n. member n (x ∷ [])) k)

    swap : (a b : Bool) → (a && not (b || false)) ≡ (not b && a)
    swap true true = refl
    swap true false = refl
    swap false true = refl
    swap false false = refl

-- ---- the empty set

-- A set of numbers below k is zero exactly where it is empty.
pub mask-empty : (k : ℕ) (xs : List ℕ) → ((x : ℕ) → In x xs → x < k) → eqb (mask k xs) 0 ≡ is_empty xs
mask-empty k [] h = rw (mask-nil k)
mask-empty k (x ∷ xs) h = ne_eqb (mask k (x ∷ xs)) 0 (λ e. true≢false (sym present ∙ bits-zero (λ n. member n (x ∷ xs)) k e x (h x (here refl))))
  where
    present : member x (x ∷ xs) ≡ true
    present = rw (eq-eqb x x refl)
