-- Equivalences, by the shape of the two sides. With the library's Iff.not and Iff.and they go through a formula's cases.
use Rattle.std.specs.Prelude.{ℕ, ◌≡◌, ◌↔◌, ◌⊎◌}
use Rattle.std.proofs.Common.{sym, subst, ◌∙◌, inl, inr, ⊎_elim}

pub iff-path : {A : Type 0} (P : A → Type 0) {a b : A} → a ≡ b → P a ↔ P b
iff-path P e = (subst P e, subst P (sym e))

pub iff-eq : {a b c d : ℕ} → a ≡ c → b ≡ d → (a ≡ b) ↔ (c ≡ d)
iff-eq p q = (λ e. sym p ∙ e ∙ q, λ e. p ∙ e ∙ sym q)

pub iff-either : {A B C D : Type 0} → A ↔ C → B ↔ D → (A ⊎ B) ↔ (C ⊎ D)
iff-either f g = (⊎_elim (λ a. inl (f.0 a)) (λ b. inr (g.0 b)), ⊎_elim (λ c. inl (f.1 c)) (λ d. inr (g.1 d)))

pub iff_some : {P Q : ℕ → Type 0} → ((v : ℕ) → P v ↔ Q v) → ((v : ℕ) × P v) ↔ ((v : ℕ) × Q v)
iff_some f = (λ p. (p.0, (f p.0).0 p.1), λ q. (q.0, (f q.0).1 q.1))
