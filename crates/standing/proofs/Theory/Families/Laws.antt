-- Laws of a family: the list at the index that was written is the new one, every other stays.
use Rattle.std.specs.Prelude.{ℕ, ◌≡◌, refl, ◌≢◌, Bool, true, false, cond, eqb}
use Rattle.std.proofs.Common.{sym, ap, subst, ◌∙◌}
use Rattle.std.proofs.Math.Path.{fun_ext}
use Rattle.std.proofs.Math.Option.{Option, some, some-injective, none-ne-some}
use Rattle.calculus.specs.Reflects.{Reflects, holds, fails}
use Rattle.calculus.proofs.Theory.Reflects.Laws.{reflects-eqb, reflects-true, reflects-false}
use Rattle.standing.specs.Families.{Family, no_list, with_list, Every, Paired, neither, both}

module _ {A : Type 0} where
  pub with-own : (i : ℕ) (x : A) (f : Family A) → with_list i x f i ≡ some x
  with-own i x f = ap (λ b. cond b (some x) (f i)) (reflects-true (reflects-eqb i i) refl)

  pub with-other : (i j : ℕ) (x : A) (f : Family A) → j ≢ i → with_list i x f j ≡ f j
  with-other i j x f n = ap (λ b. cond b (some x) (f j)) (reflects-false (reflects-eqb j i) n)

  -- A list written as it was leaves the family.
  pub with-same : (i : ℕ) (x : A) (f : Family A) → f i ≡ some x → with_list i x f ≡ f
  with-same i x f e = fun_ext (λ j. go j (reflects-eqb j i))
    where
      go : (j : ℕ) {b : Bool} → Reflects (j ≡ i) b → cond b (some x) (f j) ≡ f j
      go j (holds h) = sym (ap f h ∙ e)
      go j (fails n) = refl

  -- What stands at one index is one thing.
  pub one_list : (f : Family A) (i : ℕ) {x y : A} → f i ≡ some x → f i ≡ some y → x ≡ y
  one_list f i {x} {y} a b = some-injective x y (sym a ∙ b)

  module _ (P : A → Type 0) where
    pub every-none : Every P no_list
    every-none i x e = absurd (none-ne-some x e)

    pub every-with : (i : ℕ) (x : A) {f : Family A} → P x → Every P f → Every P (with_list i x f)
    every-with i x {f} p all j y = go (eqb j i)
      where
        go : (b : Bool) → cond b (some x) (f j) ≡ some y → P y
        go true e = subst P (some-injective x y e) p
        go false e = all j y e

module _ {A B : Type 0} (P : A → B → Type 0) where
  pub paired-with : (i : ℕ) {x : A} {y : B} {f : Family A} {g : Family B} → P x y → ((j : ℕ) → Paired P (f j) (g j)) → (j : ℕ) → Paired P (with_list i x f j) (with_list i y g j)
  paired-with i {x} {y} {f} {g} p all j = go (eqb j i)
    where
      go : (b : Bool) → Paired P (cond b (some x) (f j)) (cond b (some y) (g j))
      go true = both p
      go false = all j

  -- Where the second family has the list, so has the first.
  pub paired_at : {o : Option A} {u : Option B} → Paired P o u → (y : B) → u ≡ some y → (x : A) × (o ≡ some x) × P x y
  paired_at neither y e = absurd (none-ne-some y e)
  paired_at (both {x = x} {y = z} p) y e = (x, refl, subst (P x) (some-injective z y e) p)
