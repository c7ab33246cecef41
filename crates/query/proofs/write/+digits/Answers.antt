-- `query::write::digits` meets its contract. What the branch leaves is written: all digits but the last, which comes after them.
use native.Mathlib.Omega.{arith}
use Prim.Native.Nat.{ℕ, zero, suc, ◌+◌, ◌-◌, ◌/◌, ◌%◌, ◌≤◌, ◌<◌}
use mir.Syntax.{w64}
use mir.Val.{Fits}
use mathlib.Core.Path.{◌≡◌, refl, sym, ap, ◌∙◌}
use mathlib.Core.Logic.{◌≢◌, ⊎_elim}
use mathlib.Core.Bool.{cond}
use mathlib.Core.List.{List, [], ◌∷◌, ◌++◌}
use lib.ListN.{length, length-append}
use lib.Dec.{ltb}
use Rattle.std.proofs.lemmas.Bool.{cases_lt}
use Rattle.calculus.proofs.Theory.Reflects.Laws.{reflects-ltb, reflects-true, reflects-false}
use Rattle.calculus.specs.Decimal.{digits}
use Rattle.calculus.proofs.Theory.Decimal.Laws.{length_digits}
use Rattle.query.specs.Code.Writing.{wrote}
use Rattle.query.proofs.Theory.Code.Writing.Laws.{wrote_none, wrote-byte, wrote-end, wrote-length}
use Rattle.query.proofs.write.+digits.Goals as goal

-- ---- the digits but the last

abbrev front : ℕ → ℕ → List ℕ
front k n = cond (ltb n 10) [] (digits (k - 1) (n / 10))

front-some : (k n : ℕ) → 10 ≤ n → front k n ≡ digits (k - 1) (n / 10)
front-some k n h = ap (λ b. cond b [] (digits (k - 1) (n / 10))) (reflects-false (reflects-ltb n 10) (omega arith))

front-none : (k n : ℕ) → n < 10 → front k n ≡ []
front-none k n h = ap (λ b. cond b [] (digits (k - 1) (n / 10))) (reflects-true (reflects-ltb n 10) h)

-- The last one is that of the rest by ten.
digits-front : (k n : ℕ) → k ≢ 0 → digits k n ≡ front k n ++ ((48 + n % 10) ∷ [])
digits-front zero n h = absurd (h refl)
digits-front (suc k) n h =
    let e : k ≡ suc k - 1 = omega arith in
    ap (λ j. cond (ltb n 10) [] (digits j (n / 10)) ++ ((48 + n % 10) ∷ [])) e

length_front : (k n : ℕ) → k ≢ 0 → length (front k n) + 1 ≤ k
length_front k n h = omega (arith, length_digits k n, ap length (digits-front k n h), length-append (front k n) ((48 + n % 10) ∷ []))

-- ---- after the branch

module _ (at k n : ℕ) (out left : List ℕ) (end : ℕ) (some : 10 ≤ n → (end, left) ≡ wrote at (digits (k - 1) (n / 10)) out) (same : n < 10 → end ≡ at) (kept : n < 10 → left ≡ out) where
  written : (end, left) ≡ wrote at (front k n) out
  written =
      ⊎_elim
      (λ l. (λ i. (same l i, kept l i)) ∙ wrote_none at out ∙ ap (λ d. wrote at d out) (sym (front-none k n l)))
      (λ h. some h ∙ ap (λ d. wrote at d out) (sym (front-some k n h)))
      (cases_lt n 10)

  length_left : length left ≡ length out
  length_left = wrote-length at end (front k n) out left written

  -- There is a place for the last one.
  ends : k ≢ 0 → end + 1 ≤ at + k
  ends h = omega (arith, wrote-end at end (front k n) out left written, length_front k n h)

  within : k ≢ 0 → at + k ≤ length out → end < length left
  within h l = omega (arith, ends h, length_left)

pub bounds-out-end : goal.bounds-out-end
bounds-out-end t c =
    let a = c.args in
    within a.at a.k a.n a.out.now _ _ (λ h. grind arith) (λ h. grind arith) (λ h. grind arith) c.if-k-eq0.false c.requires.1

-- The place after the last one fits its type.
fits : (at k n end : ℕ) → (10 ≤ n → end ≡ at + length (digits (k - 1) (n / 10))) → (n < 10 → end ≡ at) → k ≢ 0 → k ≤ 20 → at ≤ 1000000 → Fits w64 (end + 1)
fits at k n end some same h l m = let g = length_digits (k - 1) (n / 10) in ⊎_elim (λ s. let e = same s in record { fits = omega arith }) (λ s. let e = some s in record { fits = omega arith }) (cases_lt n 10)

pub overflow_add-result : goal.overflow_add-result
overflow_add-result t c = let a = c.args in fits a.at a.k a.n _ (λ h. grind (arith, wrote-end)) (λ h. grind arith) c.if-k-eq0.false c.requires.0 c.requires.2

pub returns : goal.returns
returns t c =
    let a = c.args in
    wrote-byte a.at _ (front a.k a.n) a.out.now _ (48 + a.n % 10) (written a.at a.k a.n a.out.now _ _ (λ h. grind arith) (λ h. grind arith) (λ h. grind arith))
    ∙ ap (λ r. wrote a.at r a.out.now) (sym (digits-front a.k a.n c.if-k-eq0.false))
