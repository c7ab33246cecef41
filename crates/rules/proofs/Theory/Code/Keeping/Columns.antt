-- The head's variables are kept: a variable read is judged as `HeadFine` does, and stored where it may follow.
use Rattle.std.specs.Prelude.{ℕ, ◌+◌, ◌≤◌, ◌<◌, ◌≡◌, refl, ◌⊎◌, Bool, true, false, cond, List, [], ◌∷◌, ◌++◌, set, T, ltb}
use Rattle.std.proofs.Common.{arith, sym, ap, ◌∙◌, inl, inr, ⊎_elim, true≢false, length-append, ltb→lt, lt→ltb}
use Rattle.std.proofs.Math.Path.{subst⁻¹}
use Rattle.calculus.specs.Sets.{In, here, there}
use Rattle.calculus.proofs.Theory.Sets.Laws.{in-nil, in_one, in_left, in_right, in-append}
use Rattle.calculus.proofs.Theory.Lists.Laws.{padded-put}
use Rattle.calculus.specs.Order.{Ascending, nothing, before}
use Rattle.calculus.specs.Reflects.{Reflects, holds, fails}
use Rattle.calculus.proofs.Theory.Reflects.Laws.{reflects-ltb, reflects-leb, reflects-or}
use Rattle.rules.specs.Meaning.{max_terms, max_number}
use Rattle.rules.proofs.Theory.Code.Draft.Bounds.{set-each}
use Rattle.rules.proofs.Theory.Code.Draft.Laws.{capped_le, capped-below}
use Rattle.rules.specs.Code.Draft.{Head, capped, head_of, put_column, empty_head}
use Rattle.rules.specs.Code.Keeping.{HeadFine, HeadStored, HeadKeeps}
use Rattle.rules.proofs.Theory.Code.Keeping.Laws.{copies-each}

-- ---- ascending numbers with one more at the end

ascending-front : (xs : List ℕ) (x : ℕ) → Ascending ltb (xs ++ (x ∷ [])) → Ascending ltb xs
ascending-front [] x a = nothing
ascending-front (y ∷ ys) x (before h a) = before (λ z i. h z (in_left (x ∷ []) i)) (ascending-front ys x a)

ascending-to-last : (xs : List ℕ) (x : ℕ) → Ascending ltb (xs ++ (x ∷ [])) → (y : ℕ) → In y xs → y < x
ascending-to-last (z ∷ zs) x (before h a) y (here e) = subst⁻¹ (λ u. u < x) e (ltb→lt z x (h x (in_right zs (here refl))))
ascending-to-last (z ∷ zs) x (before h a) y (there i) = ascending-to-last zs x a y i
ascending-to-last [] x _ y x5 = elim x5 [ ]

ascending-last : (xs : List ℕ) (x : ℕ) → Ascending ltb xs → ((y : ℕ) → In y xs → y < x) → Ascending ltb (xs ++ (x ∷ []))
ascending-last [] x a h = before (λ y i. absurd (in-nil i)) nothing
ascending-last (z ∷ zs) x (before k a) h = before below (ascending-last zs x a (λ y i. h y (there i)))
  where
    below : (y : ℕ) → In y (zs ++ (x ∷ [])) → T (ltb z y)
    below y i = ⊎_elim (λ j. k y j) (λ j. lt→ltb z y (subst⁻¹ (λ u. z < u) (in_one j) (h z (here refl)))) (in-append zs i)

-- ---- the start

-- Nothing has been read.
pub head-starts : HeadKeeps [] empty_head
head-starts =
    record {
      head_small = copies-each (λ x. x ≤ max_number) max_terms 0 (omega arith);
      head_judged = λ e. absurd (true≢false (sym e));
      head_stored = λ e. (fine, stored);
    }
  where
    fine : HeadFine []
    fine = record { ascending = nothing; few = omega arith; small = λ x i. absurd (in-nil i) }

    stored : HeadStored [] empty_head
    stored = record { variables_are = refl; count_is = refl; below_least = λ x i. absurd (in-nil i); least_is = inl refl }

-- ---- a variable more

module _ (xs : List ℕ) (x : ℕ) where
  -- A head whose variables are as they must be was so before the last one.
  fine-front : HeadFine (xs ++ (x ∷ [])) → HeadFine xs
  fine-front f =
      record {
        ascending = ascending-front xs x f.ascending;
        few = let s = f.few in omega (arith, length-append xs (x ∷ []));
        small = λ y i. f.small y (in_left (x ∷ []) i);
      }

  module _ (h : Head) (fine : HeadFine xs) (stored : HeadStored xs h) where
    -- What the code tests for keeps the variable out.
    barred : ((capped x < h.least) ⊎ (max_number < capped x)) ⊎ (max_terms ≤ h.count) → ¬ HeadFine (xs ++ (x ∷ []))
    barred (inl (inl l)) f = ⊎_elim (λ e. omega arith) (λ e. high e.0 e.1 e.2) stored.least_is
      where
        high : (y : ℕ) → In y xs → h.least ≡ y + 1 → ⊥
        high y i e = let s = fine.small y i in let b = ascending-to-last xs x f.ascending y i in omega (arith, capped-below x (omega arith))
    barred (inl (inr l)) f = let s = f.small x (in_right xs (here refl)) in omega (arith, capped_le x)
    barred (inr l) f = let s = f.few in let c = stored.count_is in omega (arith, length-append xs (x ∷ []))

    module _ (least : h.least ≤ capped x) (low : capped x ≤ max_number) (room : h.count < max_terms) where
      same : capped x ≡ x
      same = capped-below x (omega arith)

      above : (y : ℕ) → In y xs → y < x
      above y i = let b = stored.below_least y i in omega (arith, same)

      fine-last : HeadFine (xs ++ (x ∷ []))
      fine-last =
          record {
            ascending = ascending-last xs x fine.ascending above;
            few = let c = stored.count_is in omega (arith, length-append xs (x ∷ []));
            small = λ y i. ⊎_elim (fine.small y) (λ j. omega (arith, same, in_one j)) (in-append xs i);
          }

      stored_last : HeadStored (xs ++ (x ∷ [])) (head_of (set h.variables h.count (capped x)) (h.count + 1) (capped x + 1) h.over)
      stored_last =
          record {
            variables_are = (λ i. set (stored.variables_are i) (stored.count_is i) (same i)) ∙ padded-put max_terms 0 xs x (omega (arith, stored.count_is));
            count_is = omega (arith, stored.count_is, length-append xs (x ∷ []));
            below_least = λ y i. ⊎_elim (λ j. omega (arith, above y j, same)) (λ j. omega (arith, same, in_one j)) (in-append xs i);
            least_is = inr (x, in_right xs (here refl), ap (λ n. n + 1) same);
          }

-- A variable more in the head.
pub head-column : (xs : List ℕ) (h : Head) (x : ℕ) → HeadKeeps xs h → HeadKeeps (xs ++ (x ∷ [])) (put_column h (capped x))
head-column xs h x k = go (reflects-or (reflects-or (reflects-ltb (capped x) h.least) (reflects-ltb max_number (capped x))) (reflects-leb max_terms h.count))
  where
    Barred : Type 0
    Barred = ((capped x < h.least) ⊎ (max_number < capped x)) ⊎ (max_terms ≤ h.count)

    refuses : Barred → (o : Bool) → h.over ≡ o → ¬ HeadFine (xs ++ (x ∷ []))
    refuses s true e f = k.head_judged e (fine-front xs x f)
    refuses s false e f = let t = k.head_stored e in barred xs x h t.0 t.1 s f

    go : {t : Bool} → Reflects Barred t → HeadKeeps (xs ++ (x ∷ []))
        (cond t (head_of h.variables h.count h.least true) (head_of (set h.variables h.count (capped x)) (h.count + 1) (capped x + 1) h.over))
    go (holds s) = record { head_small = k.head_small; head_judged = λ e. refuses s h.over refl; head_stored = λ e. absurd (true≢false e) }
    go (fails n) =
        record {
          head_small = set-each (λ y. y ≤ max_number) h.variables h.count (capped x) low k.head_small;
          head_judged = λ e f. k.head_judged e (fine-front xs x f);
          head_stored = λ e. let t = k.head_stored e in (fine-last xs x h t.0 t.1 least low room, stored_last xs x h t.0 t.1 least low room);
        }
      where
        least : h.least ≤ capped x
        least = let l : ¬ (capped x < h.least) = λ l. n (inl (inl l)) in omega arith

        low : capped x ≤ max_number
        low = let l : ¬ (max_number < capped x) = λ l. n (inl (inr l)) in omega arith

        room : h.count < max_terms
        room = let l : ¬ (max_terms ≤ h.count) = λ l. n (inr l) in omega arith
