-- Laws of tests beside what they test: from the test to what it tests and back, by the shape of what is tested, and for numbers.
use Rattle.std.specs.Prelude.{ℕ, suc, ◌<◌, ◌≤◌, ◌≡◌, refl, ◌⊎◌, Bool, true, false, not, ◌&&◌, ◌||◌, T, eqb, leb, ltb}
use Rattle.std.proofs.Common.{subst, inl, inr, eqb→eq, leb→le, le→leb}
use Rattle.std.proofs.Math.Path.{subst⁻¹}
use Rattle.std.proofs.Math.Dec.{eqb_refl}
use Rattle.calculus.specs.Reflects.{Reflects, holds, fails}

-- A test reflects that it is true.
pub reflects-T : (b : Bool) → Reflects (T b) b
reflects-T true = holds tt
reflects-T false = fails (λ t. t)

-- What a test reflects, and its value, in either direction.
pub reflected : {A : Type 0} {b : Bool} → Reflects A b → T b → A
reflected (holds a) t = a
reflected (fails n) t = absurd t

pub reflects : {A : Type 0} {b : Bool} → Reflects A b → A → T b
reflects (holds a) x = tt
reflects (fails n) x = absurd (n x)

pub reflects-false : {A : Type 0} {b : Bool} → Reflects A b → ¬ A → b ≡ false
reflects-false (holds a) n = absurd (n a)
reflects-false (fails m) n = refl

pub reflects-true : {A : Type 0} {b : Bool} → Reflects A b → A → b ≡ true
reflects-true (holds a) x = refl
reflects-true (fails n) x = absurd (n x)

-- What a test whose value is known shows.
pub confirmed-by : {A : Type 0} {b : Bool} → b ≡ true → Reflects A b → A
confirmed-by e r = reflected r (subst⁻¹ T e tt)

pub refuted : {A : Type 0} {b : Bool} → b ≡ false → Reflects A b → ¬ A
refuted e r x = subst T e (reflects r x)

-- What is reflected is decided.
pub decided : {A : Type 0} {b : Bool} → Reflects A b → A ⊎ (¬ A)
decided (holds a) = inl a
decided (fails n) = inr n

pub reflects-map : {A B : Type 0} {b : Bool} → (A → B) → (B → A) → Reflects A b → Reflects B b
reflects-map f g (holds a) = holds (f a)
reflects-map f g (fails n) = fails (λ y. n (g y))

pub reflects-not : {A : Type 0} {b : Bool} → Reflects A b → Reflects (¬ A) (not b)
reflects-not (holds a) = fails (λ n. n a)
reflects-not (fails n) = holds n

pub reflects-and : {A B : Type 0} {a b : Bool} → Reflects A a → Reflects B b → Reflects (A × B) (a && b)
reflects-and (holds x) (holds y) = holds (x, y)
reflects-and (holds x) (fails n) = fails (λ p. n p.1)
reflects-and (fails n) r = fails (λ p. n p.0)

pub reflects-or : {A B : Type 0} {a b : Bool} → Reflects A a → Reflects B b → Reflects (A ⊎ B) (a || b)
reflects-or (holds x) r = holds (inl x)
reflects-or (fails n) (holds y) = holds (inr y)
reflects-or {A} {B} (fails n) (fails m) = fails neither
  where
    neither : ¬ (A ⊎ B)
    neither (inl x) = n x
    neither (inr y) = m y

pub reflects-eqb : (m n : ℕ) → Reflects (m ≡ n) (eqb m n)
reflects-eqb m n = reflects-map (eqb→eq m n) (λ e. subst (λ (k : ℕ). T (eqb m k)) e (eqb_refl m)) (reflects-T (eqb m n))

pub reflects-ltb : (m n : ℕ) → Reflects (m < n) (ltb m n)
reflects-ltb m n = reflects-map (leb→le (suc m) n) (le→leb (suc m) n) (reflects-T (ltb m n))

pub reflects-leb : (m n : ℕ) → Reflects (m ≤ n) (leb m n)
reflects-leb m n = reflects-map (leb→le m n) (le→leb m n) (reflects-T (leb m n))

-- Two tests of the same.
pub reflects-same : {A B : Type 0} {a b : Bool} → Reflects A a → Reflects B b → (A → B) → (B → A) → a ≡ b
reflects-same (holds x) (holds y) f g = refl
reflects-same (holds x) (fails n) f g = absurd (n (f x))
reflects-same (fails n) (holds y) f g = absurd (n (g y))
reflects-same (fails n) (fails m) f g = refl
