-- The bounds that the code's indices rest on are kept by a term.
use Rattle.std.specs.Prelude.{ℕ, zero, suc, List, [], ◌∷◌, get_or, set, ◌+◌, ◌≤◌, ◌<◌, ◌≡◌, Bool, true, false, cond, take}
use Rattle.rules.specs.Code.Draft.{Body, Small, overrun, unnamed, past, with_term, put_variable, put_place, put_constant, put_term}
use Rattle.std.proofs.Common.{arith}
use Rattle.calculus.specs.Reflects.{Reflects, holds, fails}
use Rattle.calculus.proofs.Theory.Reflects.Laws.{reflects-ltb, reflects-leb, reflects-eqb}
use Rattle.query.specs.Reading.{max_constants}
use Rattle.rules.specs.Meaning.{place_in, max_terms, max_number}

-- A property of every place and of what is written holds of every place after writing.
pub set-each : (P : ℕ → Type 0) (xs : List ℕ) (k x : ℕ) → P x → ((i : ℕ) → P (get_or xs i 0)) → (i : ℕ) → P (get_or (set xs k x) i 0)
set-each P [] k x p h i = h i
set-each P (y ∷ ys) zero x p h zero = p
set-each P (y ∷ ys) zero x p h (suc i) = h (suc i)
set-each P (y ∷ ys) (suc k) x p h zero = h zero
set-each P (y ∷ ys) (suc k) x p h (suc i) = set-each P ys k x p (λ j. h (suc j)) i

-- The bounds stay as they are past a limit, and without an X before the number.
pub small-overrun : {b : Body} → Small b → Small (overrun b)
small-overrun s = record { count_small = s.count_small; terms_small = s.terms_small; constants_small = s.constants_small; nodes_small = s.nodes_small }

pub small-unnamed : {b : Body} → Small b → Small (unnamed b)
small-unnamed s = record { count_small = s.count_small; terms_small = s.terms_small; constants_small = s.constants_small; nodes_small = s.nodes_small }

-- ---- laws that stand as they stood

pub small-with_term : (b : Body) (code : ℕ) (seen : List Bool) (k : ℕ) → Small b → b.count < max_terms → code < 32 → k ≤ max_constants → Small (with_term b code seen k)
small-with_term b code seen k s l h m =
    record { count_small = omega arith; terms_small = set-each (λ x. x < 32) b.terms b.count code h s.terms_small; constants_small = m; nodes_small = s.nodes_small }

pub small-variable : (b : Body) (x : ℕ) → Small b → b.count < max_terms → Small (put_variable b x)
small-variable b x s l = go (reflects-ltb max_number x)
  where
    go : {t : Bool} → Reflects (max_number < x) t → Small (cond t (overrun b) (with_term b x (set b.seen x true) b.constants))
    go (holds h) = small-overrun s
    go (fails g) = small-with_term b x (set b.seen x true) b.constants s l (omega arith) s.constants_small

pub small-place : (b : Body) (x p : ℕ) (cs : List ℕ) → Small b → b.count < max_terms → Small (put_place b x p cs).0
small-place b x p cs s l = go (reflects-leb max_constants p) (reflects-eqb p b.constants)
  where
    go : {t u : Bool} → Reflects (max_constants ≤ p) t → Reflects (p ≡ b.constants) u
        → Small (cond {A = Body × List ℕ} t (overrun b, cs) (cond u (with_term b (16 + p) b.seen (b.constants + 1), set cs p x) (with_term b (16 + p) b.seen b.constants, cs))).0
    go (holds h) r = small-overrun s
    go (fails g) (holds e) = small-with_term b (16 + p) b.seen (b.constants + 1) s l (omega arith) (omega arith)
    go (fails g) (fails n) = small-with_term b (16 + p) b.seen b.constants s l (omega arith) s.constants_small

pub small-term : (b : Body) (x : ℕ) (cs : List ℕ) → Small b → Small (put_term b x cs).0
small-term b x cs s = go (reflects-leb max_terms b.count) b.named
  where
    past-or-not : b.count < max_terms → {t : Bool} → Reflects (past ≤ x) t → Small (cond {A = Body × List ℕ} t (overrun b, cs) (put_place b x (place_in (take b.constants cs) x) cs)).0
    past-or-not l (holds h) = small-overrun s
    past-or-not l (fails g) = small-place b x (place_in (take b.constants cs) x) cs s l

    go : {t : Bool} → Reflects (max_terms ≤ b.count) t → (v : Bool) → Small (cond {A = Body × List ℕ} t (overrun b, cs) (cond v (put_variable (unnamed b) x, cs) (put_constant b x cs))).0
    go (holds h) v = small-overrun s
    go (fails g) true = small-variable (unnamed b) x (small-unnamed s) (omega arith)
    go (fails g) false = past-or-not (omega arith) (reflects-leb past x)
