-- What `all` and `any` over a slice come to: `all_of` and `any_of` of its elements. In an answer, for `xs.iter().all(|x| ..)` with the test p:
--     returns c = all-in p c.args.xs.now _ c.all.ensures.ran c.iter.ensures.rest (λ x q k. search (rules, tests)) (λ x q k. search (rules, tests))
use Rattle.std.specs.Prelude.{ℕ, zero, suc, ◌<◌, ◌≡◌, refl, Bool, true, false, ◌&&◌, ◌||◌, List, [], ◌∷◌, length, Option, MatchOption}
use Rattle.std.specs.Bool.{MatchBool}
use Rattle.std.specs.Iterator.{YieldsThen}
use Rattle.std.specs.List.{AllWithin, HoldsAt, FoldsTo}
use Rattle.std.specs.Fn.{Called}
use Rattle.std.specs.Slice.Iter.{iter_rest}
use Rattle.std.proofs.Common.{arith, sym, ap, ◌∙◌, Iter}
use Rattle.std.proofs.iter.Yields.{fronts}
use Rattle.std.proofs.lemmas.Iterator.{cases_from_all, cases_from_any, YieldsList-from_slice}
use Rattle.std.proofs.Math.Bool.{and-false, or-true}
use denote.Param.Members.{Mut}
use denote.Ref.{Bor}
use Rattle.calculus.specs.Sets.{any_of, all_of}

pub all-met : {A : Type 0} (p : A → Bool) (xs : List A) (r : Bool)
    → MatchBool r (AllWithin (λ x. p x ≡ true) xs 0 (length xs)) ((k : ℕ) × (k < length xs) × HoldsAt (λ x. p x ≡ false) xs k)
    → r ≡ all_of p xs
all-met p [] true h = refl
all-met p [] false h = absurd (omega (arith, h.1))
all-met p (x ∷ xs) true h =
    let e : p x ≡ true = h 0 x (omega arith) (omega arith) in
    let i : true ≡ all_of p xs = all-met p xs true (λ k d l u. h (suc k) d (omega arith) (omega (arith, u))) in
    ap (λ b. b && true) (sym e) ∙ ap (λ b. p x && b) i
all-met p (x ∷ xs) false (zero, l, q) = ap (λ b. b && all_of p xs) (sym (q x))
all-met p (x ∷ xs) false (suc k, l, q) = sym (and-false (p x)) ∙ ap (λ b. p x && b) (all-met p xs false (k, omega (arith, l), q))

pub any-met : {A : Type 0} (p : A → Bool) (xs : List A) (r : Bool)
    → MatchBool r ((k : ℕ) × (k < length xs) × HoldsAt (λ x. p x ≡ true) xs k) (AllWithin (λ x. p x ≡ false) xs 0 (length xs))
    → r ≡ any_of p xs
any-met p [] false h = refl
any-met p [] true h = absurd (omega (arith, h.1))
any-met p (x ∷ xs) false h =
    let e : p x ≡ false = h 0 x (omega arith) (omega arith) in
    let i : false ≡ any_of p xs = any-met p xs false (λ k d l u. h (suc k) d (omega arith) (omega (arith, u))) in
    ap (λ b. b || false) (sym e) ∙ ap (λ b. p x || b) i
any-met p (x ∷ xs) true (zero, l, q) = ap (λ b. b || any_of p xs) (sym (q x))
any-met p (x ∷ xs) true (suc k, l, q) = sym (or-true (p x)) ∙ ap (λ b. p x || b) (any-met p xs true (k, omega (arith, l), q))

module _ {A F : Type 0} {g : Mut F (Bor A × Unit {0}) Bool} (p : A → Bool) (xs : List A) {s u : Iter A} {f : F} (r : Bool) where
  pub all-in : ((ys : List (Bor A)) × (o : Option (Bor A)) × (j : F) × YieldsThen fronts s ys o u × FoldsTo (λ q x q'. Called g q (x, tt) true q') f ys j
      × MatchOption o (r ≡ true) (λ x. (r ≡ false) × ((h : F) × Called g j (x, tt) false h)))
      → iter_rest s ≡ xs
      → ((x : Bor A) (q : F) → Called g f (x, tt) true q → (q ≡ f) × (p x.now ≡ true))
      → ((x : Bor A) (q : F) → Called g f (x, tt) false q → p x.now ≡ false)
      → r ≡ all_of p xs
  all-in ran e hit miss = all-met p xs r (cases_from_all _ _ r (λ x. p x ≡ true) (λ x. p x ≡ false) ran (YieldsList-from_slice xs e) hit miss)

  pub any-in : ((ys : List (Bor A)) × (o : Option (Bor A)) × (j : F) × YieldsThen fronts s ys o u × FoldsTo (λ q x q'. Called g q (x, tt) false q') f ys j
      × MatchOption o (r ≡ false) (λ x. (r ≡ true) × ((h : F) × Called g j (x, tt) true h)))
      → iter_rest s ≡ xs
      → ((x : Bor A) (q : F) → Called g f (x, tt) true q → p x.now ≡ true)
      → ((x : Bor A) (q : F) → Called g f (x, tt) false q → (q ≡ f) × (p x.now ≡ false))
      → r ≡ any_of p xs
  any-in ran e hit miss = any-met p xs r (cases_from_any _ _ r (λ x. p x ≡ true) (λ x. p x ≡ false) ran (YieldsList-from_slice xs e) hit miss)
