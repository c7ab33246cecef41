-- Laws of sets of variables as numbers: what the code's sets hold is what is free in the formulas.
use Rattle.std.specs.Prelude.{ℕ, zero, suc, ◌+◌, ◌-◌, ◌*◌, ◌/◌, ◌%◌, ◌^◌, ◌≤◌, ◌<◌, max, ◌≡◌, refl, Bool, true, false, not, ◌&&◌, ◌||◌, cond, List, [], ◌∷◌, map, length, get_or, take, set, replicate, eqb, ltb}
use Rattle.std.proofs.Common.{pow-suc, arith, sym, ap, subst, ◌∙◌, ne_eqb, take_all, ⊎_elim, eq-eqb, lt-ltb}
use Rattle.std.specs.Int.Bits.{or_zero_r, bit_or, bit_xor, or_step, xor_step, differ}
use Rattle.std.proofs.lemmas.List.{length-map}
use Rattle.std.proofs.Math.ListN.{get_or-map}
use Rattle.std.specs.Prelude.{ℕ, zero, suc, ◌+◌, ◌-◌, ◌*◌, ◌/◌, ◌%◌, ◌^◌, ◌≤◌, ◌<◌, max, ◌≡◌, refl, ◌⊎◌, ◌≢◌, Bool, true, false, not, ◌&&◌, ◌||◌, cond, List, [], ◌∷◌, map, length, get_or, take, set, replicate, eqb}
use Rattle.std.proofs.Math.Bool.{or-false, or_assoc}
use Rattle.std.proofs.Math.Dec.{eqb-suc-suc}
use Rattle.std.proofs.Math.Nat.{div-one, div-div-eq-div-mul, pow-succ'}
use Rattle.calculus.specs.Reflects.{Reflects, holds, fails}
use Rattle.calculus.proofs.Theory.Reflects.Laws.{reflects-ltb}
use Rattle.calculus.specs.Sets.{any_of, member}
use Rattle.calculus.specs.Formula.{fv, Fmla}
use Rattle.query.specs.Nodes.{kind, term_count, terms, variable, equal_term, left, right, under}
use Rattle.query.specs.Decoding.{root}
use Rattle.query.specs.Code.Fields.{itself}
use Rattle.query.specs.Code.Free.{joined_with, free_in, in_set, term_bit, term_bits, without, set_in, SetOf}
use Rattle.query.proofs.Theory.Code.Free.Laws.{found_in, Marks, marks-more, marks-root}
use Rattle.query.proofs.Theory.Nodes.Laws.{two-or}

-- ---- bit by bit

in-none : (x : ℕ) → in_set x 0 ≡ false
in-none zero = refl
in-none (suc x) = in-none x

-- An operation that goes bit by bit: f on the bits as numbers, g on them as truth values.
module _ (op f : ℕ → ℕ → ℕ) (g : Bool → Bool → Bool) (step : (a b : ℕ) → op a b ≡ op (a / 2) (b / 2) * 2 + f (a % 2) (b % 2))
    (digit : (p q : ℕ) → p < 2 → q < 2 → (f p q < 2) × (eqb (f p q) 1 ≡ g (eqb p 1) (eqb q 1))) where
  by_bits : (x a b : ℕ) → in_set x (op a b) ≡ g (in_set x a) (in_set x b)
  by_bits zero a b =
      let d = digit (a % 2) (b % 2) (omega arith) (omega arith) in
      let e : op a b % 2 ≡ f (a % 2) (b % 2) = omega (arith, step a b, d.0) in
      ap (λ m. eqb m 1) e ∙ d.1
  by_bits (suc x) a b =
      let d = digit (a % 2) (b % 2) (omega arith) (omega arith) in
      let e : op a b / 2 ≡ op (a / 2) (b / 2) = omega (arith, step a b, d.0) in
      ap (in_set x) e ∙ by_bits x (a / 2) (b / 2)

-- Exclusive or.
abbrev other : Bool → Bool → Bool
other p q = cond p (not q) q

or-digit : (p q : ℕ) → p < 2 → q < 2 → (max p q < 2) × (eqb (max p q) 1 ≡ (eqb p 1 || eqb q 1))
or-digit zero zero h l = (omega arith, refl)
or-digit zero (suc zero) h l = (omega arith, refl)
or-digit (suc zero) zero h l = (omega arith, refl)
or-digit (suc zero) (suc zero) h l = (omega arith, refl)
or-digit zero (suc (suc q)) h l = absurd (omega arith)
or-digit (suc zero) (suc (suc q)) h l = absurd (omega arith)
or-digit (suc (suc p)) q h l = absurd (omega arith)

xor-digit : (p q : ℕ) → p < 2 → q < 2 → (differ p q < 2) × (eqb (differ p q) 1 ≡ other (eqb p 1) (eqb q 1))
xor-digit zero zero h l = (omega arith, refl)
xor-digit zero (suc zero) h l = (omega arith, refl)
xor-digit (suc zero) zero h l = (omega arith, refl)
xor-digit (suc zero) (suc zero) h l = (omega arith, refl)
xor-digit zero (suc (suc q)) h l = absurd (omega arith)
xor-digit (suc zero) (suc (suc q)) h l = absurd (omega arith)
xor-digit (suc (suc p)) q h l = absurd (omega arith)

-- Union.
in-or : (x a b : ℕ) → in_set x (bit_or a b) ≡ (in_set x a || in_set x b)
in-or = by_bits bit_or max ◌||◌ or_step or-digit

-- ---- terms

-- A power of 2 is the set of one variable.
in-power : (x t : ℕ) → in_set x (2 ^ t) ≡ eqb x t
in-power zero zero = refl
in-power zero (suc t) = let e : 2 ^ suc t % 2 ≡ 0 = omega (arith, pow-suc 2 t) in ap (λ m. eqb m 1) e ∙ sym (ne_eqb 0 (suc t) (λ q. omega arith))
in-power (suc x) zero = in-none x ∙ sym (ne_eqb (suc x) 0 (λ q. omega arith))
in-power (suc x) (suc t) = let e : 2 ^ suc t / 2 ≡ 2 ^ t = omega (arith, pow-suc 2 t) in ap (in_set x) e ∙ in-power x t ∙ sym (eqb-suc-suc x t)

-- The bit of a term is the set of the variable that it is; one that isn't used has none.
in-term : (x : ℕ) (used : Bool) (t : ℕ) → x < 16 → in_set x (term_bit used t) ≡ (used && eqb x t)
in-term x false t h = in-none x
in-term x true t h = go (reflects-ltb t 16)
  where
    go : {b : Bool} → Reflects (t < 16) b → in_set x (cond b (2 ^ t) 0) ≡ eqb x t
    go (holds l) = in-power x t
    go (fails l) = in-none x ∙ sym (ne_eqb x t (λ e. omega arith))

-- Of four tests the first n, one after the other.
first-tests : (n : ℕ) (p q r s : Bool) → ((((ltb 0 n && p) || (ltb 1 n && q)) || (ltb 2 n && r)) || (ltb 3 n && s)) ≡ any_of itself (take n (p ∷ q ∷ r ∷ s ∷ []))
first-tests zero p q r s = refl
first-tests (suc zero) true q r s = refl
first-tests (suc zero) false q r s = refl
first-tests (suc (suc zero)) true q r s = refl
first-tests (suc (suc zero)) false true r s = refl
first-tests (suc (suc zero)) false false r s = refl
first-tests (suc (suc (suc zero))) true q r s = refl
first-tests (suc (suc (suc zero))) false true r s = refl
first-tests (suc (suc (suc zero))) false false true s = refl
first-tests (suc (suc (suc zero))) false false false s = refl
first-tests (suc (suc (suc (suc n)))) p q r s =
    let m = suc (suc (suc (suc n))) in
    (λ i. (((lt-ltb 0 m (omega arith) i && p) || (lt-ltb 1 m (omega arith) i && q)) || (lt-ltb 2 m (omega arith) i && r)) || (lt-ltb 3 m (omega arith) i && s))
    ∙ all-four n p q r s
  where
    all-four : (n : ℕ) (p q r s : Bool) → (((p || q) || r) || s) ≡ any_of itself (take (suc (suc (suc (suc n)))) (p ∷ q ∷ r ∷ s ∷ []))
    all-four n true q r s = refl
    all-four n false true r s = refl
    all-four n false false true s = refl
    all-four n false false false true = refl
    all-four zero false false false false = refl
    all-four (suc n) false false false false = refl

in-joined : (x s : ℕ) (ts : List ℕ) → x < 16 → in_set x (joined_with s ts) ≡ (in_set x s || member x ts)
in-joined x s [] h = sym (or-false (in_set x s))
in-joined x s (t ∷ ts) h =
    in-joined x (bit_or s (term_bit true t)) ts h
    ∙ ap (λ b. b || member x ts) (in-or x s (term_bit true t) ∙ ap (λ b. in_set x s || b) (in-term x true t h))
    ∙ or_assoc (in_set x s) (eqb x t) (member x ts)

-- Of four terms the first n, joined one after the other.
pub bits-joined : (n a b c d : ℕ) → joined_with 0 (take n (a ∷ b ∷ c ∷ d ∷ [])) ≡ term_bits n (a ∷ b ∷ c ∷ d ∷ [])
bits-joined zero a b c d = refl
bits-joined (suc zero) a b c d =
    let s = term_bit true a in
    sym (or_zero_r (bit_or (bit_or s 0) 0) ∙ or_zero_r (bit_or s 0) ∙ or_zero_r s)
bits-joined (suc (suc zero)) a b c d =
    let s = bit_or (term_bit true a) (term_bit true b) in
    sym (or_zero_r (bit_or s 0) ∙ or_zero_r s)
bits-joined (suc (suc (suc zero))) a b c d = sym (or_zero_r (bit_or (bit_or (term_bit true a) (term_bit true b)) (term_bit true c)))
bits-joined (suc (suc (suc (suc n)))) a b c d =
    let m = suc (suc (suc (suc n))) in
    ap (joined_with (bit_or (bit_or (bit_or (term_bit true a) (term_bit true b)) (term_bit true c)) (term_bit true d))) (none n)
    ∙ sym (λ i. bit_or (bit_or (bit_or (term_bit (lt-ltb 0 m (omega arith) i) a) (term_bit (lt-ltb 1 m (omega arith) i) b)) (term_bit (lt-ltb 2 m (omega arith) i) c)) (term_bit (lt-ltb 3 m (omega arith) i) d))
  where
    none : (n : ℕ) → take {A = ℕ} n [] ≡ []
    none zero = refl
    none (suc n) = refl

in-terms : (x n a b c d : ℕ) → x < 16 → in_set x (term_bits n (a ∷ b ∷ c ∷ d ∷ [])) ≡ member x (take n (a ∷ b ∷ c ∷ d ∷ []))
in-terms x n a b c d h =
    let ts = take n (a ∷ b ∷ c ∷ d ∷ []) in
    ap (in_set x) (sym (bits-joined n a b c d)) ∙ in-joined x 0 ts h ∙ ap (λ b. b || member x ts) (in-none x)

-- The set without y: y is put in, and then taken out.
in_without : (x y s : ℕ) → x < 16 → in_set x (without y s) ≡ (not (eqb x y) && in_set x s)
in_without x y s h =
    by_bits bit_xor differ other xor_step xor-digit x (bit_or s (term_bit true y)) (term_bit true y)
    ∙ (λ i. other (in-or x s (term_bit true y) i) (in-term x true y h i))
    ∙ (λ i. other (in_set x s || in-term x true y h i) (eqb x y))
    ∙ taken_out (in_set x s) (eqb x y)
  where
    taken_out : (p q : Bool) → other (p || q) q ≡ (not q && p)
    taken_out true true = refl
    taken_out true false = refl
    taken_out false true = refl
    taken_out false false = refl

-- ---- nodes

-- The code's set of a node holds what the code finds free in it.
set_free : (x w : ℕ) (child : ℕ → ℕ) → x < 16 → in_set x (set_in w child) ≡ free_in x w (λ c. in_set x (child c))
set_free x w child h = go (kind w)
  where
    go : (k : ℕ) → in_set x (get_or (0 ∷ term_bits (term_count w) (terms w) ∷ bit_or (term_bit true (variable w)) (term_bit true (equal_term w)) ∷ child (left w) ∷ bit_or (child (left w)) (child (right w)) ∷ bit_or (child (left w)) (child (right w)) ∷ without (variable w) (child (under w)) ∷ []) k 0) ≡ found_in x w (λ c. in_set x (child c)) k
    go zero = in-none x
    go (suc zero) = in-terms x (term_count w) (get_or (terms w) 0 0) (get_or (terms w) 1 0) (get_or (terms w) 2 0) (get_or (terms w) 3 0) h
    go (suc (suc zero)) = in-or x (term_bit true (variable w)) (term_bit true (equal_term w)) ∙ (λ i. in-term x true (variable w) h i || in-term x true (equal_term w) h i)
    go (suc (suc (suc zero))) = refl
    go (suc (suc (suc (suc zero)))) = in-or x (child (left w)) (child (right w))
    go (suc (suc (suc (suc (suc zero))))) = in-or x (child (left w)) (child (right w))
    go (suc (suc (suc (suc (suc (suc zero)))))) = in_without x (variable w) (child (under w)) h
    go (suc (suc (suc (suc (suc (suc (suc k))))))) = in-none x

-- ---- the loop over nodes: entry c is the set of node c, and empty past the nodes passed

abbrev pub Sets : List ℕ → ℕ → List ℕ → Type 0
Sets ns n sets = (x : ℕ) → x < 16 → Marks x ns n (map (in_set x) sets)

in_entry : (x : ℕ) (sets : List ℕ) (c : ℕ) → get_or (map (in_set x) sets) c false ≡ in_set x (get_or sets c 0)
in_entry x sets c = ap (get_or (map (in_set x) sets) c) (sym (in-none x)) ∙ get_or-map (in_set x) sets c 0

map-set : {A B : Type 0} (f : A → B) (xs : List A) (i : ℕ) (y : A) → map f (set xs i y) ≡ set (map f xs) i (f y)
map-set f [] i y = refl
map-set f (x ∷ xs) zero y = refl
map-set f (x ∷ xs) (suc i) y = ap (λ l. f x ∷ l) (map-set f xs i y)

pub sets-none : (ns : List ℕ) (k : ℕ) → Sets ns zero (replicate k 0)
sets-none ns zero x h c = refl
sets-none ns (suc k) x h zero = in-none x
sets-none ns (suc k) x h (suc c) = sets-none ns k x h c

-- One node more.
pub sets_more : (ns : List ℕ) (n : ℕ) (sets : List ℕ) (here : ℕ) → n < length sets → Sets ns n sets → here ≡ set_in (get_or ns n 0) (λ c. get_or sets c 0) → Sets ns (n + 1) (set sets n here)
sets_more ns n sets here l m e x h =
    subst
    (Marks x ns (n + 1))
    (sym (map-set (in_set x) sets n here))
    (marks-more x ns n (map (in_set x) sets) (in_set x here) h (omega (arith, length-map sets (in_set x))) (m x h) found)
  where
    found : in_set x here ≡ free_in x (get_or ns n 0) (λ c. get_or (map (in_set x) sets) c false)
    found = ap (in_set x) e ∙ set_free x (get_or ns n 0) (λ c. get_or sets c 0) h ∙ ap (free_in x (get_or ns n 0)) (λ i c. sym (in_entry x sets c) i)

-- The root's entry.
pub sets-root : (ns : List ℕ) (n : ℕ) (sets : List ℕ) → 1 ≤ n → n ≤ length ns → Sets ns n sets → SetOf (root (take n ns)) (get_or sets (n - 1) 0)
sets-root ns n sets p h m x l = sym (in_entry x sets (n - 1)) ∙ marks-root x ns n (map (in_set x) sets) p h (m x l)

-- After all nodes.
pub sets-whole : (ns : List ℕ) (n : ℕ) (sets : List ℕ) → n ≡ length ns → 1 ≤ length ns → Sets ns n sets → SetOf (root ns) (get_or sets (length ns - 1) 0)
sets-whole ns n sets e p m = subst (λ k. SetOf (root ns) (get_or sets (k - 1) 0)) e (subst (λ ms. SetOf (root ms) (get_or sets (n - 1) 0)) (take_all n ns (omega arith)) (sets-root ns n sets (omega arith) (omega arith) m))

-- ---- one variable

-- The bit of a variable, by a division in place of one for each variable below it.
pub in-shifted : (x s : ℕ) → eqb (s / 2 ^ x % 2) 1 ≡ in_set x s
in-shifted zero s = ap (λ n. eqb (n % 2) 1) (div-one s)
in-shifted (suc x) s = ap (λ n. eqb (n % 2) 1) (ap (λ k. s / k) (pow-succ' 2 x) ∙ sym (div-div-eq-div-mul s 2 (2 ^ x))) ∙ in-shifted x (s / 2)

-- ---- laws that stand as they stood

module _ (w : ℕ) (child : ℕ → ℕ) where
  pub set-of-record : kind w ≡ 1 → set_in w child ≡ term_bits (term_count w) (terms w)
  set-of-record e = rw e

  pub set-of-equality : kind w ≡ 2 → set_in w child ≡ bit_or (term_bit true (variable w)) (term_bit true (equal_term w))
  set-of-equality e = rw e

  pub set-of-not : kind w ≡ 3 → set_in w child ≡ child (left w)
  set-of-not e = rw e

  -- And, or.
  pub set-of-both : 4 ≤ kind w → kind w ≤ 5 → set_in w child ≡ bit_or (child (left w)) (child (right w))
  set-of-both h l = ⊎_elim (λ e. rw e) (λ e. rw e) (two-or (kind w) h l)

  pub set-of-exists : kind w ≡ 6 → set_in w child ≡ without (variable w) (child (under w))
  set-of-exists e = rw e

  -- Truth, and where there is no such kind.
  pub set-of-none : (kind w < 1) ⊎ (6 < kind w) → set_in w child ≡ 0
  set-of-none = ⊎_elim (λ l. let e : kind w ≡ 0 = omega arith in rw e) (λ l. let e : kind w ≡ suc (suc (suc (suc (suc (suc (suc (kind w - 7))))))) = omega arith in rw e)

-- What is left of the set once the variables below x are passed.
abbrev pub Left : Fmla → ℕ → ℕ → Type 0
Left φ x rest = (y : ℕ) → x + y < 16 → in_set y rest ≡ member (x + y) (fv φ)

pub left-all : (φ : Fmla) (s : ℕ) → SetOf φ s → Left φ 0 s
left-all φ s m y h = let e : y ≡ 0 + y = omega arith in m y (omega arith) ∙ ap (λ z. member z (fv φ)) e

pub left-next : (φ : Fmla) (x rest : ℕ) → Left φ x rest → Left φ (x + 1) (rest / 2)
left-next φ x rest m y h = let e : x + suc y ≡ x + 1 + y = omega arith in m (suc y) (omega arith) ∙ ap (λ z. member z (fv φ)) e

-- The lowest bit is that of x.
left-first : (φ : Fmla) (x rest : ℕ) → x < 16 → Left φ x rest → eqb (rest % 2) 1 ≡ member x (fv φ)
left-first φ x rest h m = let e : x + 0 ≡ x = omega arith in m 0 (omega arith) ∙ ap (λ z. member z (fv φ)) e

pub left-found : (φ : Fmla) (x rest : ℕ) → x < 16 → Left φ x rest → rest % 2 ≡ 1 → member x (fv φ) ≡ true
left-found φ x rest h m e = sym (left-first φ x rest h m) ∙ eq-eqb (rest % 2) 1 e

pub left-missed : (φ : Fmla) (x rest : ℕ) → x < 16 → Left φ x rest → rest % 2 ≢ 1 → member x (fv φ) ≡ false
left-missed φ x rest h m n = sym (left-first φ x rest h m) ∙ ne_eqb (rest % 2) 1 n
