-- Laws of ascending lists: an ascending list is settled by its members, and `sort` gives the one that has the members of a list.
-- Of lists without an order: a list with no repeats is counted by its members.
use Rattle.std.specs.Prelude.{ℕ, zero, suc, ◌+◌, ◌-◌, ◌<◌, ◌≤◌, ◌≡◌, refl, ◌↔◌, ◌⊎◌, ◌≢◌, Bool, true, false, not, ◌&&◌, ◌||◌, cond, List, [], ◌∷◌, length, get_or, drop, T, eqb, ltb}
use Rattle.std.proofs.Common.{zero-le, suc-le-suc, lt_irrefl, lt_trans, le_antisymm, arith, sym, ap, subst, ◌∙◌, inl, inr, length-drop, take_all, drop-cons, le-ltb, eq-eqb, ne_eqb}
use Rattle.std.proofs.Math.Path.{subst⁻¹}
use Rattle.std.proofs.Math.Logic.Iff
use Rattle.std.proofs.Math.Bool.{and-true, and-false, or-false}
use Rattle.std.proofs.lemmas.Bool.{not-true, not-false}
use Rattle.calculus.specs.Sets.{In, here, there, ◌⊆◌, select, same_list}
use Rattle.calculus.proofs.Theory.Sets.Laws.{in-nil, in_rest, subset-cons, same-cons, subset-swap, in-select, from-select}
use Rattle.calculus.proofs.Theory.Lists.Laws.{in_take}
use Rattle.calculus.specs.Reflects.{Reflects, holds, fails}
use Rattle.calculus.proofs.Theory.Reflects.Laws.{reflected, reflects, reflects-T, reflects-map, reflects-and, reflects-or, reflects-eqb, reflects-ltb}
use Rattle.calculus.specs.Order.{StrictOrder, Ascending, nothing, before, insert, sort, lexicographic, leads, is-ascending}

pub ltb-order : StrictOrder ltb
ltb-order = record { irreflexive = irreflexive; transitive = transitive; total = total }
  where
    irreflexive : (x : ℕ) → ¬ T (ltb x x)
    irreflexive x t = lt_irrefl x (reflected (reflects-ltb x x) t)

    transitive : (x y z : ℕ) → T (ltb x y) → T (ltb y z) → T (ltb x z)
    transitive x y z s t = reflects (reflects-ltb x z) (lt_trans (reflected (reflects-ltb x y) s) (reflected (reflects-ltb y z) t))

    between : (x y : ℕ) → ¬ (x < y) → ¬ (y < x) → x ≡ y
    between x y s t = omega arith

    total : (x y : ℕ) → ¬ T (ltb x y) → ¬ T (ltb y x) → x ≡ y
    total x y s t = between x y (λ h. s (reflects (reflects-ltb x y) h)) (λ h. t (reflects (reflects-ltb y x) h))

-- ---- the order of number lists

-- What it is for v ∷ vs to be below w ∷ ws.
abbrev pub Before : ℕ → List ℕ → ℕ → List ℕ → Type 0
Before v vs w ws = (v < w) ⊎ ((v ≡ w) × T (lexicographic vs ws))

pub reflects-lexicographic : (v : ℕ) (vs : List ℕ) (w : ℕ) (ws : List ℕ) → Reflects (Before v vs w ws) (lexicographic (v ∷ vs) (w ∷ ws))
reflects-lexicographic v vs w ws = reflects-or (reflects-ltb v w) (reflects-and (reflects-eqb v w) (reflects-T (lexicographic vs ws)))

pub lexicographic-irreflexive : (vs : List ℕ) → ¬ T (lexicographic vs vs)
lexicographic-irreflexive [] t = t
lexicographic-irreflexive (v ∷ vs) t = go (lexicographic-irreflexive vs) (reflected (reflects-lexicographic v vs v vs) t)
  where
    go : ¬ T (lexicographic vs vs) → ¬ Before v vs v vs
    go r (inl h) = lt_irrefl v h
    go r (inr h) = r h.1

pub lexicographic-transitive : (us vs ws : List ℕ) → T (lexicographic us vs) → T (lexicographic vs ws) → T (lexicographic us ws)
lexicographic-transitive [] [] ws s t = t
lexicographic-transitive [] (v ∷ vs) [] s t = t
lexicographic-transitive [] (v ∷ vs) (w ∷ ws) s t = tt
lexicographic-transitive (u ∷ us) [] ws s t = absurd s
lexicographic-transitive (u ∷ us) (v ∷ vs) [] s t = t
lexicographic-transitive (u ∷ us) (v ∷ vs) (w ∷ ws) s t = reflects (reflects-lexicographic u us w ws) (go (lexicographic-transitive us vs ws) (reflected (reflects-lexicographic u us v vs) s) (reflected (reflects-lexicographic v vs w ws) t))
  where
    go : (T (lexicographic us vs) → T (lexicographic vs ws) → T (lexicographic us ws)) → Before u us v vs → Before v vs w ws → Before u us w ws
    go r (inl h) (inl k) = inl (lt_trans h k)
    go r (inl h) (inr k) = inl (subst (λ n. u < n) k.0 h)
    go r (inr h) (inl k) = inl (subst⁻¹ (λ n. n < w) h.0 k)
    go r (inr h) (inr k) = inr (h.0 ∙ k.0, r h.1 k.1)

pub lexicographic-total : (vs ws : List ℕ) → ¬ T (lexicographic vs ws) → ¬ T (lexicographic ws vs) → vs ≡ ws
lexicographic-total [] [] s t = refl
lexicographic-total [] (w ∷ ws) s t = absurd (s tt)
lexicographic-total (v ∷ vs) [] s t = absurd (t tt)
lexicographic-total (v ∷ vs) (w ∷ ws) s t = go (lexicographic-total vs ws) (λ h. s (reflects (reflects-lexicographic v vs w ws) h)) (λ h. t (reflects (reflects-lexicographic w ws v vs) h))
  where
    heads : ¬ Before v vs w ws → ¬ Before w ws v vs → v ≡ w
    heads f g = ltb-order.total v w (λ h. f (inl (reflected (reflects-ltb v w) h))) (λ h. g (inl (reflected (reflects-ltb w v) h)))

    go : (¬ T (lexicographic vs ws) → ¬ T (lexicographic ws vs) → vs ≡ ws) → ¬ Before v vs w ws → ¬ Before w ws v vs → v ∷ vs ≡ w ∷ ws
    go r f g = let e = heads f g in let q = r (λ h. f (inr (e, h))) (λ h. g (inr (sym e, h))) in λ i. e i ∷ q i

pub lexicographic-order : StrictOrder lexicographic
lexicographic-order = record { irreflexive = lexicographic-irreflexive; transitive = lexicographic-transitive; total = lexicographic-total }

-- ---- insert and sort

module _ {A : Type 0} (below : A → A → Bool) where
  pub from-insert : (x : A) (ys : List A) → insert below x ys ⊆ (x ∷ ys)
  from-insert x [] z i = i
  from-insert x (y ∷ ys) z i = go (below x y) (below y x) (from-insert x ys) i
    where
      go : (b c : Bool) → insert below x ys ⊆ (x ∷ ys) → In z (cond b (x ∷ y ∷ ys) (cond c (y ∷ insert below x ys) (y ∷ ys))) → In z (x ∷ y ∷ ys)
      go true c r j = j
      go false true r j = subset-swap y x ys z (subset-cons y r z j)
      go false false r j = there j

  -- The members that pass a test stay in order.
  pub ascending-select : (p : A → Bool) {xs : List A} → Ascending below xs → Ascending below (select p xs)
  ascending-select p nothing = nothing
  ascending-select p (before {x} {xs} h a) = go (p x) (ascending-select p a)
    where
      go : (b : Bool) → Ascending below (select p xs) → Ascending below (cond b (x ∷ select p xs) (select p xs))
      go true r = before (λ y i. h y (from-select p xs i).0) r
      go false r = r

  -- The first of an ascending list is the least.
  pub ascending-least : {x y : A} {ys : List A} → Ascending below (y ∷ ys) → In x (y ∷ ys) → (x ≡ y) ⊎ T (below y x)
  ascending-least a (here e) = inl e
  ascending-least {x} (before h a) (there i) = inr (h x i)

module _ {A : Type 0} (below : A → A → Bool) (order : StrictOrder below) where
  -- What is below differs, and is not above.
  pub below-differs : (x y : A) → T (below x y) → x ≢ y
  below-differs x y t e = order.irreflexive y (subst (λ u. T (below u y)) e t)

  pub below_one_way : (x y : A) → T (below x y) → ¬ T (below y x)
  below_one_way x y s t = order.irreflexive x (order.transitive x y x s t)

  pub in_insert : (x : A) (ys : List A) → (x ∷ ys) ⊆ insert below x ys
  in_insert x [] z i = i
  in_insert x (y ∷ ys) z i = go (reflects-T (below x y)) (reflects-T (below y x)) (in_insert x ys) i
    where
      same : x ≡ y → In z (x ∷ y ∷ ys) → In z (y ∷ ys)
      same e (here f) = here (f ∙ e)
      same e (there j) = j

      go : {b c : Bool} → Reflects (T (below x y)) b → Reflects (T (below y x)) c → (x ∷ ys) ⊆ insert below x ys → In z (x ∷ y ∷ ys) → In z (cond b (x ∷ y ∷ ys) (cond c (y ∷ insert below x ys) (y ∷ ys)))
      go (holds s) t r j = j
      go (fails s) (holds t) r j = subset-cons y r z (subset-swap x y ys z j)
      go (fails s) (fails t) r j = same (order.total x y s t) j

  pub insert-members : (x : A) (ys : List A) (z : A) → In z (insert below x ys) ↔ In z (x ∷ ys)
  insert-members x ys z = (from-insert below x ys z, in_insert x ys z)

  pub sort-members : (xs : List A) (x : A) → In x (sort below xs) ↔ In x xs
  sort-members [] x = Iff.rfl
  sort-members (y ∷ xs) x = Iff.trans (insert-members y (sort below xs) x) (same-cons y (sort-members xs) x)

  pub insert-ascending : (x : A) {ys : List A} → Ascending below ys → Ascending below (insert below x ys)
  insert-ascending x nothing = before (λ y i. absurd (in-nil i)) nothing
  insert-ascending x (before {x = y} {xs = ys} h a) = go (reflects-T (below x y)) (reflects-T (below y x)) (insert-ascending x a)
    where
      first : T (below x y) → (z : A) → In z (y ∷ ys) → T (below x z)
      first s z (here e) = subst⁻¹ (λ u. T (below x u)) e s
      first s z (there i) = order.transitive x y z s (h z i)

      least : T (below y x) → (z : A) → In z (x ∷ ys) → T (below y z)
      least t z (here e) = subst⁻¹ (λ u. T (below y u)) e t
      least t z (there i) = h z i

      go : {b c : Bool} → Reflects (T (below x y)) b → Reflects (T (below y x)) c → Ascending below (insert below x ys) → Ascending below (cond b (x ∷ y ∷ ys) (cond c (y ∷ insert below x ys) (y ∷ ys)))
      go (holds s) t r = before (first s) (before h a)
      go (fails s) (holds t) r = before (λ z i. least t z (from-insert below x ys z i)) r
      go (fails s) (fails t) r = before h a

  pub sort-ascending : (xs : List A) → Ascending below (sort below xs)
  sort-ascending [] = nothing
  sort-ascending (x ∷ xs) = insert-ascending x (sort-ascending xs)

  -- ---- an ascending list is settled by its members

  ascending-heads : {x y : A} {xs ys : List A} → Ascending below (x ∷ xs) → Ascending below (y ∷ ys) → In x (y ∷ ys) → In y (x ∷ xs) → x ≡ y
  ascending-heads {x} {y} a b i j = go (ascending-least below b i) (ascending-least below a j)
    where
      go : (x ≡ y) ⊎ T (below y x) → (y ≡ x) ⊎ T (below x y) → x ≡ y
      go (inl e) s = e
      go (inr t) (inl e) = sym e
      go (inr t) (inr s) = absurd (below_one_way x y s t)

  ascending-tails : {x y : A} {xs ys : List A} → Ascending below (x ∷ xs) → x ≡ y → (x ∷ xs) ⊆ (y ∷ ys) → xs ⊆ ys
  ascending-tails {x} {y} (before h a) e s z i = in_rest (s z (there i)) (λ f. below-differs x z (h z i) (e ∙ sym f))

  ascending-step : {x y : A} {xs ys : List A} → Ascending below (x ∷ xs) → Ascending below (y ∷ ys) → ((z : A) → In z (x ∷ xs) ↔ In z (y ∷ ys)) → (((z : A) → In z xs ↔ In z ys) → xs ≡ ys) → x ∷ xs ≡ y ∷ ys
  ascending-step {x} {y} {xs} {ys} a b m r = λ i. heads i ∷ tails i
    where
      heads : x ≡ y
      heads = ascending-heads a b ((m x).0 (here refl)) ((m y).1 (here refl))

      tails : xs ≡ ys
      tails = r (λ z. (ascending-tails a heads (λ u. (m u).0) z, ascending-tails b (sym heads) (λ u. (m u).1) z))

  -- Two ascending lists with the same members are equal.
  pub ascending-unique : {xs ys : List A} → Ascending below xs → Ascending below ys → ((x : A) → In x xs ↔ In x ys) → xs ≡ ys
  ascending-unique nothing nothing m = refl
  ascending-unique nothing (before {x = y} h b) m = absurd (in-nil ((m y).1 (here refl)))
  ascending-unique (before {x} h a) nothing m = absurd (in-nil ((m x).0 (here refl)))
  ascending-unique (before h a) (before k b) m = ascending-step (before h a) (before k b) m (ascending-unique a b)

-- ---- lists with no repeats

-- No element is a member of what follows it.
pub data Distinct {A : Type 0} : List A → Type 0 where
  empty : Distinct []
  apart : {x : A} {xs : List A} → ¬ In x xs → Distinct xs → Distinct (x ∷ xs)

pub ascending-distinct : {A : Type 0} (below : A → A → Bool) → StrictOrder below → {xs : List A} → Ascending below xs → Distinct xs
ascending-distinct below order nothing = empty
ascending-distinct below order (before {x} h a) = apart (λ i. order.irreflexive x (h x i)) (ascending-distinct below order a)

pub distinct-select : {A : Type 0} (p : A → Bool) {xs : List A} → Distinct xs → Distinct (select p xs)
distinct-select p empty = empty
distinct-select p (apart {x} {xs} n d) = go (p x) (distinct-select p d)
  where
    go : (b : Bool) → Distinct (select p xs) → Distinct (cond b (x ∷ select p xs) (select p xs))
    go true r = apart (λ i. n (from-select p xs i).0) r
    go false r = r

-- zs is ys with one x left out.
pub record LeftOut {A : Type 0} (x : A) (ys zs : List A) : Type 0 where
  pub one_more : length ys ≡ suc (length zs)
  pub kept : (y : A) → In y ys → y ≢ x → In y zs

-- A member can be left out.
pub leave-out : {A : Type 0} {x : A} {ys : List A} → In x ys → (zs : List A) × LeftOut x ys zs
leave-out {A} {x} (here {y} {ys} e) = (ys, record { one_more = refl; kept = λ z i n. in_rest i (λ f. n (f ∙ sym e)) })
leave-out {A} {x} (there {y} {ys} i) = let r = leave-out i in (y ∷ r.0, record { one_more = ap suc r.1.one_more; kept = kept r.0 r.1 })
  where
    kept : (zs : List A) → LeftOut x ys zs → (z : A) → In z (y ∷ ys) → z ≢ x → In z (y ∷ zs)
    kept zs l z (here e) n = here e
    kept zs l z (there j) n = there (l.kept z j n)

-- A list with no repeats is no longer than a list that has all its members.
pub pigeonhole : {A : Type 0} {xs : List A} (ys : List A) → Distinct xs → xs ⊆ ys → length xs ≤ length ys
pigeonhole ys empty s = zero-le
pigeonhole {A} ys (apart {x} {xs} n d) s = let r = leave-out (s x (here refl)) in go r.0 r.1 (λ t. pigeonhole r.0 d t)
  where
    go : (zs : List A) → LeftOut x ys zs → (xs ⊆ zs → length xs ≤ length zs) → suc (length xs) ≤ length ys
    go zs l rec = subst⁻¹ (λ k. suc (length xs) ≤ k) l.one_more (suc-le-suc (rec (λ z i. l.kept z (s z (there i)) (λ e. n (subst (λ u. In u xs) e i)))))

-- Two lists with no repeats and the same members are equally long.
pub distinct-length : {A : Type 0} {xs ys : List A} → Distinct xs → Distinct ys → xs ⊆ ys → ys ⊆ xs → length xs ≡ length ys
distinct-length {xs = xs} {ys} d e s t = le_antisymm (pigeonhole ys d s) (pigeonhole xs e t)

-- A test splits a list into the members that pass it and those that fail it.
pub select-length : {A : Type 0} (p : A → Bool) (xs : List A) → length xs ≡ length (select p xs) + length (select (λ x. not (p x)) xs)
select-length p [] = refl
select-length {A} p (x ∷ xs) = go (p x) (select p xs) (select (λ y. not (p y)) xs) (select-length p xs)
  where
    go : (b : Bool) (ys zs : List A) → length xs ≡ length ys + length zs → suc (length xs) ≡ length (cond b (x ∷ ys) ys) + length (cond (not b) (x ∷ zs) zs)
    go true ys zs e = omega arith
    go false ys zs e = omega arith

-- Of two lists with no repeats, each has as many members as they share and as it alone has. The tests p and q are for being in ys and in xs.
pub distinct-change : {A : Type 0} (p q : A → Bool) {xs ys : List A} → Distinct xs → Distinct ys → ((x : A) → Reflects (In x ys) (p x)) → ((x : A) → Reflects (In x xs) (q x)) → length xs + length (select (λ y. not (q y)) ys) ≡ length (select (λ x. not (p x)) xs) + length ys
distinct-change p q {xs} {ys} d e in_ys in-xs = omega (arith, select-length p xs, select-length q ys, shared)
  where
    there-too : select p xs ⊆ select q ys
    there-too z i = let r = from-select p xs i in in-select q (reflected (in_ys z) r.1) (reflects (in-xs z) r.0)

    here-too : select q ys ⊆ select p xs
    here-too z i = let r = from-select q ys i in in-select p (reflected (in-xs z) r.1) (reflects (in_ys z) r.0)

    shared : length (select p xs) ≡ length (select q ys)
    shared = distinct-length (distinct-select p d) (distinct-select q e) there-too here-too

-- ---- the test for ascending

module _ {A : Type 0} (below : A → A → Bool) (order : StrictOrder below) where
  leads-all : (x : A) (ys : List A) → T (leads below x ys) → Ascending below ys → (z : A) → In z ys → T (below x z)
  leads-all x [] t a z i = absurd (in-nil i)
  leads-all x (y ∷ ys) t a z i = go (ascending-least below a i)
    where
      go : (z ≡ y) ⊎ T (below y z) → T (below x z)
      go (inl e) = subst⁻¹ (λ u. T (below x u)) e t
      go (inr s) = order.transitive x y z t s

  all-leads : (x : A) (ys : List A) → ((z : A) → In z ys → T (below x z)) → T (leads below x ys)
  all-leads x [] h = tt
  all-leads x (y ∷ ys) h = h y (here refl)

  pub reflects-ascending : (xs : List A) → Reflects (Ascending below xs) (is-ascending below xs)
  reflects-ascending [] = holds nothing
  reflects-ascending (x ∷ xs) = reflects-map make unmake (reflects-and (reflects-T (leads below x xs)) (reflects-ascending xs))
    where
      make : T (leads below x xs) × Ascending below xs → Ascending below (x ∷ xs)
      make h = before (leads-all x xs h.0 h.1) h.1

      unmake : Ascending below (x ∷ xs) → T (leads below x xs) × Ascending below xs
      unmake (before h a) = (all-leads x xs h, a)

-- ---- an element put into its place

module _ {A : Type 0} (below : A → A → Bool) where
  pub length-insert-le : (x : A) (ys : List A) → length (insert below x ys) ≤ suc (length ys)
  length-insert-le x [] = omega arith
  length-insert-le x (y ∷ ys) = go (below x y) (below y x) (length-insert-le x ys)
    where
      go : (b c : Bool) → length (insert below x ys) ≤ suc (length ys) → length (cond b (x ∷ y ∷ ys) (cond c (y ∷ insert below x ys) (y ∷ ys))) ≤ suc (suc (length ys))
      go true c h = omega arith
      go false true h = omega arith
      go false false h = omega arith

  -- A member is not put in again.
  pub insert-member : StrictOrder below → (x : A) {ys : List A} → Ascending below ys → In x ys → insert below x ys ≡ ys
  insert-member order x {ys} a i = ascending-unique below order (insert-ascending below order x a) a (λ z. (λ j. known z (from-insert below x ys z j), λ j. in_insert below order x ys z (there j)))
    where
      known : (z : A) → In z (x ∷ ys) → In z ys
      known z (here e) = subst⁻¹ (λ u. In u ys) e i
      known z (there j) = j

-- ---- the order of number lists, and their sameness, from the front

module _ (v w : ℕ) (vs ws : List ℕ) where
  -- The first numbers differ: they decide.
  pub below-differ : v ≢ w → ltb v w ≡ lexicographic (v ∷ vs) (w ∷ ws)
  below-differ n = rw (ne_eqb v w n) (sym (or-false (ltb v w)))

  pub same-differ : v ≢ w → false ≡ same_list (v ∷ vs) (w ∷ ws)
  same-differ n = rw (ne_eqb v w n)

  -- Lists whose first numbers agree are ordered by the rest.
  pub below-agree : v ≡ w → lexicographic vs ws ≡ lexicographic (v ∷ vs) (w ∷ ws)
  below-agree e = rw (le-ltb v w (omega arith), eq-eqb v w e)

  pub same-agree : v ≡ w → same_list vs ws ≡ same_list (v ∷ vs) (w ∷ ws)
  same-agree e = rw (eq-eqb v w e)

-- Lists of four: the first place where they differ decides; where the first three are the same, the fourth does.
module _ (a b c d p q r s : ℕ) where
  abbrev is_below : Bool
  is_below = lexicographic (a ∷ b ∷ c ∷ d ∷ []) (p ∷ q ∷ r ∷ s ∷ [])

  abbrev is_same : Bool
  is_same = same_list (a ∷ b ∷ c ∷ d ∷ []) (p ∷ q ∷ r ∷ s ∷ [])

  pub below-at-first : a ≢ p → ltb a p ≡ lexicographic (a ∷ b ∷ c ∷ d ∷ []) (p ∷ q ∷ r ∷ s ∷ [])
  below-at-first n = below-differ a p (b ∷ c ∷ d ∷ []) (q ∷ r ∷ s ∷ []) n

  pub same-at-first : a ≢ p → false ≡ same_list (a ∷ b ∷ c ∷ d ∷ []) (p ∷ q ∷ r ∷ s ∷ [])
  same-at-first n = same-differ a p (b ∷ c ∷ d ∷ []) (q ∷ r ∷ s ∷ []) n

  module _ (e : a ≡ p) where
    below-from-second : lexicographic (b ∷ c ∷ d ∷ []) (q ∷ r ∷ s ∷ []) ≡ is_below
    below-from-second = below-agree a p (b ∷ c ∷ d ∷ []) (q ∷ r ∷ s ∷ []) e

    same-from-second : same_list (b ∷ c ∷ d ∷ []) (q ∷ r ∷ s ∷ []) ≡ is_same
    same-from-second = same-agree a p (b ∷ c ∷ d ∷ []) (q ∷ r ∷ s ∷ []) e

    pub below-at-second : b ≢ q → ltb b q ≡ lexicographic (a ∷ b ∷ c ∷ d ∷ []) (p ∷ q ∷ r ∷ s ∷ [])
    below-at-second n = below-differ b q (c ∷ d ∷ []) (r ∷ s ∷ []) n ∙ below-from-second

    pub same-at-second : b ≢ q → false ≡ same_list (a ∷ b ∷ c ∷ d ∷ []) (p ∷ q ∷ r ∷ s ∷ [])
    same-at-second n = same-differ b q (c ∷ d ∷ []) (r ∷ s ∷ []) n ∙ same-from-second

    module _ (f : b ≡ q) where
      below-from-third : lexicographic (c ∷ d ∷ []) (r ∷ s ∷ []) ≡ is_below
      below-from-third = below-agree b q (c ∷ d ∷ []) (r ∷ s ∷ []) f ∙ below-from-second

      same-from-third : same_list (c ∷ d ∷ []) (r ∷ s ∷ []) ≡ is_same
      same-from-third = same-agree b q (c ∷ d ∷ []) (r ∷ s ∷ []) f ∙ same-from-second

      pub below-at-third : c ≢ r → ltb c r ≡ lexicographic (a ∷ b ∷ c ∷ d ∷ []) (p ∷ q ∷ r ∷ s ∷ [])
      below-at-third n = below-differ c r (d ∷ []) (s ∷ []) n ∙ below-from-third

      pub same-at-third : c ≢ r → false ≡ same_list (a ∷ b ∷ c ∷ d ∷ []) (p ∷ q ∷ r ∷ s ∷ [])
      same-at-third n = same-differ c r (d ∷ []) (s ∷ []) n ∙ same-from-third

      module _ (g : c ≡ r) where
        pub below-at-fourth : ltb d s ≡ lexicographic (a ∷ b ∷ c ∷ d ∷ []) (p ∷ q ∷ r ∷ s ∷ [])
        below-at-fourth = sym (ap (λ (x : Bool). ltb d s || x) (and-false (eqb d s)) ∙ or-false (ltb d s)) ∙ below-agree c r (d ∷ []) (s ∷ []) g ∙ below-from-third

        pub same-at-fourth : eqb d s ≡ same_list (a ∷ b ∷ c ∷ d ∷ []) (p ∷ q ∷ r ∷ s ∷ [])
        same-at-fourth = sym (and-true (eqb d s)) ∙ same-agree c r (d ∷ []) (s ∷ []) g ∙ same-from-third

-- ---- a loop that tells whether a list ascends: it tests each element from the second on with the one before it

module _ {A : Type 0} (below : A → A → Bool) (xs : List A) where
  -- What is known before the element at place i is tested: the elements from the one before it on decide.
  abbrev pub AscendsFrom : ℕ → Type 0
  AscendsFrom i = (0 < i) × (is-ascending below xs ≡ is-ascending below (drop (i - 1) xs))

  -- So it is at the start, with the second element.
  pub ascends-starts : AscendsFrom 1
  ascends-starts = (omega arith, refl)

  module _ (n : ℕ) (size : length xs ≡ n) (i : ℕ) (inv : AscendsFrom i) where
    -- No element is left: the list ascends.
    pub ascends-ends : n ≤ i → true ≡ is-ascending below xs
    ascends-ends l = sym (inv.1 ∙ short (drop (i - 1) xs) (omega (arith, length-drop (i - 1) xs, inv.0)))
      where
        short : (ys : List A) → length ys ≤ 1 → is-ascending below ys ≡ true
        short [] m = refl
        short (y ∷ []) m = refl
        short (y ∷ z ∷ ys) m = absurd (omega arith)

    -- The elements at the places i - 1 and i were read, and b is their test. What stands at a place is told by `at`.
    module _ (d : A) (at : ℕ → A) (places : (j : ℕ) → j < n → get_or xs j d ≡ at j) (l : i < n) {x y : A} {b : Bool} (test : b ≡ below x y) (reads : x ≡ at (i - 1)) (reads-next : y ≡ at i) where
      ascends-next : is-ascending below xs ≡ b && is-ascending below (drop (i + 1 - 1) xs)
      ascends-next =
          inv.1
          ∙ pair (i - 1) i (i + 1 - 1) (omega (arith, inv.0)) (omega arith) (omega arith)
          ∙ ap (λ c. c && is-ascending below (drop (i + 1 - 1) xs)) (sym (test ∙ (λ k. below ((reads ∙ sym (places (i - 1) (omega arith))) k) ((reads-next ∙ sym (places i l)) k))))
        where
          pair : (j k m : ℕ) → k ≡ suc j → m ≡ k → k < length xs → is-ascending below (drop j xs) ≡ below (get_or xs j d) (get_or xs k d) && is-ascending below (drop m xs)
          pair j k m e f s = rw (f, drop-cons xs j d (omega arith), e, drop-cons xs (suc j) d (omega arith))

      -- They are out of order: the list does not ascend.
      pub ascends-stops : not b ≡ true → false ≡ is-ascending below xs
      ascends-stops e = sym (ascends-next ∙ ap (λ c. c && is-ascending below (drop (i + 1 - 1) xs)) (not-true b e))

      -- They are in order: the loop goes on.
      pub ascends-goes : not b ≡ false → AscendsFrom (i + 1)
      ascends-goes e = (omega arith, ascends-next ∙ ap (λ c. c && is-ascending below (drop (i + 1 - 1) xs)) (not-false b e))

-- ---- places

-- A later element of an ascending list is above.
pub ascending-at : {A : Type 0} (below : A → A → Bool) (d : A) {xs : List A} → Ascending below xs → (m n : ℕ) → m < n → n < length xs → T (below (get_or xs m d) (get_or xs n d))
ascending-at below d nothing m n l h = absurd (omega arith)
ascending-at below d (before {x} {xs} k a) m zero l h = absurd (omega arith)
ascending-at below d (before {x} {xs} k a) zero (suc n) l h = k (get_or xs n d) (subst (In (get_or xs n d)) (take_all (length xs) xs (omega arith)) (in_take d xs (length xs) n (omega arith) (omega arith)))
ascending-at below d (before {x} {xs} k a) (suc m) (suc n) l h = ascending-at below d a m n (omega arith) (omega arith)
