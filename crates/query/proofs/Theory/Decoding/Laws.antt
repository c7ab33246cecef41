-- Laws of decoding: the formula of a node depends on the nodes up to it and on its child fields only; where those are below it, it is made of the
-- formulas of those nodes; and what every step keeps holds of every formula.
use Rattle.std.specs.Prelude.{ℕ, zero, suc, ◌-◌, ◌≤◌, ◌<◌, ◌≡◌, refl, Bool, false, List, [], ◌∷◌, ◌++◌, length, get_or, take}
use Rattle.std.proofs.Common.{arith, sym, ap, ◌∙◌, length-append, get_or-take, length-take-le}
use Rattle.std.proofs.lemmas.List.{get_or_at}
use Rattle.calculus.specs.Formula.{Fmla, truth, neg, conj, disj, exists}
use Rattle.calculus.specs.Reflects.{Reflects, holds, fails}
use Rattle.calculus.proofs.Theory.Reflects.Laws.{reflects-ltb}
use Rattle.calculus.specs.Sets.{In, here, there}
use Rattle.query.specs.Decoding.{node_formula, formula_in, formulas, formula_at, root}
use Rattle.query.specs.Nodes.{kind, variable, left, right, under, children}

-- ---- kinds

-- The kind of a node, as cases.
pub data Kind (w : ℕ) : Type 0 where
  is_truth : kind w ≡ 0 → Kind w
  is_record : kind w ≡ 1 → Kind w
  is_equality : kind w ≡ 2 → Kind w
  is_not : kind w ≡ 3 → Kind w
  is_and : kind w ≡ 4 → Kind w
  is_or : kind w ≡ 5 → Kind w
  is_exists : kind w ≡ 6 → Kind w
  is_none : (k : ℕ) → kind w ≡ suc (suc (suc (suc (suc (suc (suc k)))))) → Kind w

pub kind-of : (w : ℕ) → Kind w
kind-of w = go (kind w) refl
  where
    go : (k : ℕ) → kind w ≡ k → Kind w
    go zero e = is_truth e
    go (suc zero) e = is_record e
    go (suc (suc zero)) e = is_equality e
    go (suc (suc (suc zero))) e = is_not e
    go (suc (suc (suc (suc zero)))) e = is_and e
    go (suc (suc (suc (suc (suc zero))))) e = is_or e
    go (suc (suc (suc (suc (suc (suc zero)))))) e = is_exists e
    go (suc (suc (suc (suc (suc (suc (suc k))))))) e = is_none k e

-- ---- one element more

module _ {A : Type 0} where
  -- Every element has a property, and the default: so with one element more.
  pub every-snoc : (P : A → Type 0) (xs : List A) (y d : A) → ((c : ℕ) → P (get_or xs c d)) → P y → P d → (c : ℕ) → P (get_or (xs ++ (y ∷ [])) c d)
  every-snoc P [] y d h p q zero = p
  every-snoc P [] y d h p q (suc c) = q
  every-snoc P (x ∷ xs) y d h p q zero = h zero
  every-snoc P (x ∷ xs) y d h p q (suc c) = every-snoc P xs y d (λ k. h (suc k)) p q c

  -- An element added at the end leaves the others.
  pub getD-snoc-other : (xs : List A) (y d : A) (c : ℕ) → (c ≡ length xs → ⊥) → get_or (xs ++ (y ∷ [])) c d ≡ get_or xs c d
  getD-snoc-other [] y d zero n = absurd (n refl)
  getD-snoc-other [] y d (suc c) n = refl
  getD-snoc-other (x ∷ xs) y d zero n = refl
  getD-snoc-other (x ∷ xs) y d (suc c) n = getD-snoc-other xs y d c (λ e. n (ap suc e))

-- ---- the formulas of the first nodes

pub formulas-length : (ns : List ℕ) (n : ℕ) → length (formulas ns n) ≡ n
formulas-length ns zero = refl
formulas-length ns (suc n) = length-append (formulas ns n) (node_formula (get_or ns n 0) (formula_in (formulas ns n)) ∷ []) ∙ omega (arith, formulas-length ns n)

-- The formula of node n is decoded from those before it.
pub formula-here : (ns : List ℕ) (n : ℕ) → formula_at ns n ≡ node_formula (get_or ns n 0) (formula_in (formulas ns n))
formula-here ns n = get_or_at (formulas ns n) (node_formula (get_or ns n 0) (formula_in (formulas ns n))) [] (truth false) n (formulas-length ns n)

-- One node more leaves the other formulas.
pub formula-other : (ns : List ℕ) (n c : ℕ) → (c ≡ n → ⊥) → formula_in (formulas ns (suc n)) c ≡ formula_in (formulas ns n) c
formula-other ns n c h = getD-snoc-other (formulas ns n) (node_formula (get_or ns n 0) (formula_in (formulas ns n))) (truth false) c (λ e. h (e ∙ formulas-length ns n))

pub formula-stable : (ns : List ℕ) (n c : ℕ) → c < n → formula_in (formulas ns n) c ≡ formula_at ns c
formula-stable ns zero c h = absurd (omega arith)
formula-stable ns (suc n) c h = go (formula-stable ns n c) (reflects-ltb c n)
  where
    last : c ≡ n → formula_in (formulas ns (suc n)) c ≡ formula_at ns c
    last e = ap (λ k. formula_in (formulas ns (suc k)) c) (sym e)

    go : {b : Bool} → (c < n → formula_in (formulas ns n) c ≡ formula_at ns c) → Reflects (c < n) b → formula_in (formulas ns (suc n)) c ≡ formula_at ns c
    go r (holds k) = formula-other ns n c (λ e. omega arith) ∙ r k
    go r (fails k) = last (omega arith)

-- Nodes that agree up to n have the same formulas up to n.
pub formulas-agree : (ns ms : List ℕ) (n : ℕ) → ((i : ℕ) → i < n → get_or ns i 0 ≡ get_or ms i 0) → formulas ns n ≡ formulas ms n
formulas-agree ns ms zero h = refl
formulas-agree ns ms (suc n) h = go (formulas-agree ns ms n (λ i k. h i (omega arith))) (h n (omega arith))
  where
    go : formulas ns n ≡ formulas ms n → get_or ns n 0 ≡ get_or ms n 0 → formulas ns (suc n) ≡ formulas ms (suc n)
    go p q i = p i ++ (node_formula (q i) (formula_in (p i)) ∷ [])

pub formulas-take : (ns : List ℕ) (m n : ℕ) → n ≤ m → formulas (take m ns) n ≡ formulas ns n
formulas-take ns m n h = formulas-agree (take m ns) ns n (λ i k. get_or-take m ns i 0 (omega arith))

-- The root of the first n nodes.
pub root-take : (ns : List ℕ) (n : ℕ) → 1 ≤ n → n ≤ length ns → root (take n ns) ≡ formula_in (formulas ns n) (n - 1)
root-take ns n p h =
    ap (λ k. formula_at (take n ns) (k - 1)) (length-take-le n ns h)
    ∙ ap (λ k. formula_in (formulas (take n ns) k) (n - 1)) same
    ∙ ap (λ φs. formula_in φs (n - 1)) (formulas-take ns n n (omega arith))
  where
    same : suc (n - 1) ≡ n
    same = omega arith

-- ---- one node

-- The formula of a node depends on those of its children only.
pub node_formula-same : (w : ℕ) (f g : ℕ → Fmla) → ((c : ℕ) → In c (children w) → f c ≡ g c) → node_formula w f ≡ node_formula w g
node_formula-same w f g h = go (kind-of w)
  where
    go : Kind w → node_formula w f ≡ node_formula w g
    go (is_truth e) = rw e
    go (is_record e) = rw e
    go (is_equality e) = rw e
    go (is_not e) = let r = rw e at h in rw e (ap neg (r (left w) (here refl)))
    go (is_and e) = let r = rw e at h in rw e (λ i. conj (r (left w) (here refl) i) (r (right w) (there (here refl)) i))
    go (is_or e) = let r = rw e at h in rw e (λ i. disj (r (left w) (here refl) i) (r (right w) (there (here refl)) i))
    go (is_exists e) = let r = rw e at h in rw e (ap (exists (variable w)) (r (under w) (here refl)))
    go (is_none k e) = rw e

pub formula-step : (ns : List ℕ) (n : ℕ) → ((c : ℕ) → In c (children (get_or ns n 0)) → c < n) → formula_at ns n ≡ node_formula (get_or ns n 0) (formula_at ns)
formula-step ns n h =
    formula-here ns n
    ∙ node_formula-same (get_or ns n 0) (formula_in (formulas ns n)) (formula_at ns) (λ c i. formula-stable ns n c (h c i))

-- ---- what every step keeps

-- A property of false that a node has where its children have it is one of every decoded formula.
pub formula-induction : (P : Fmla → Type 0) → P (truth false) → ((w : ℕ) (child : ℕ → Fmla) → ((c : ℕ) → P (child c)) → P (node_formula w child)) → (ns : List ℕ) (n c : ℕ) → P (formula_in (formulas ns n) c)
formula-induction P base step ns zero c = base
formula-induction P base step ns (suc n) c = go (λ k. formula-induction P base step ns n k)
  where
    go : ((k : ℕ) → P (formula_in (formulas ns n) k)) → P (formula_in (formulas ns (suc n)) c)
    go r = every-snoc P (formulas ns n) (node_formula (get_or ns n 0) (formula_in (formulas ns n))) (truth false) r (step (get_or ns n 0) (formula_in (formulas ns n)) r) base c
