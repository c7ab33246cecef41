-- The words that packing writes, read back field by field: each has no fault of its own, and gives its children and its formula.
use Rattle.std.specs.Prelude.{ℕ, zero, suc, ◌+◌, ◌%◌, ◌≤◌, ◌<◌, ◌^◌, ◌≡◌, refl, Bool, true, false, ◌||◌, List, [], ◌∷◌, map, length, get_or, take, drop, T}
use Rattle.std.proofs.Common.{arith, ap, subst, le-leb}
use Rattle.std.proofs.lemmas.Bool.{lt-leb}
use Rattle.calculus.specs.Sets.{In, here, there, any_of}
use Rattle.calculus.specs.Formula.{Term, var, con, Fmla, truth, rel, eq, neg, conj, disj, exists}
use Rattle.query.specs.Nodes.{kind, relation, term_count, terms, variable, equal_term, left, right, under, children, nonzero, malformed, is_stray, strays, truth_rest, record_rest, equality_rest, not_rest, join_rest, exists_rest, truth_word, record_word, equality_word, not_word, join_word, exists_word}
use Rattle.query.proofs.Theory.Nodes.Words.{equality-reads, not-reads, join-reads, exists-reads, record-reads}
use Rattle.query.specs.Reading.{max_nodes}
use Rattle.query.specs.Decoding.{term_of, node_formula}
use Rattle.query.specs.Packing.{term_code, code_at, TermFits, var_fits, con_fits}

-- ---- a well-formed word

-- What `malformed` chooses of, at the kind j.
abbrev pub malformed_at : ℕ → ℕ → Bool
malformed_at w j =
    get_or
    (nonzero (truth_rest w)
    ∷ (nonzero (record_rest w) || any_of nonzero (drop (term_count w) (terms w)))
    ∷ nonzero (equality_rest w)
    ∷ nonzero (not_rest w)
    ∷ nonzero (join_rest w)
    ∷ nonzero (join_rest w)
    ∷ nonzero (exists_rest w)
    ∷ [])
    j
    true

-- A node without a fault has a known kind.
pub formed-kind : (w : ℕ) → malformed w ≡ false → kind w < 7
formed-kind w f = go (kind w) f
  where
    go : (j : ℕ) → malformed_at w j ≡ false → j < 7
    go zero f = omega arith
    go (suc zero) f = omega arith
    go (suc (suc zero)) f = omega arith
    go (suc (suc (suc zero))) f = omega arith
    go (suc (suc (suc (suc zero)))) f = omega arith
    go (suc (suc (suc (suc (suc zero))))) f = omega arith
    go (suc (suc (suc (suc (suc (suc zero)))))) f = omega arith
    go (suc (suc (suc (suc (suc (suc (suc j))))))) f = absurd (subst T f tt)

-- A node without a fault has 32 bits.
pub formed-small : (w : ℕ) → malformed w ≡ false → w < 2 ^ 32
formed-small w f = omega (arith, formed-kind w f)

-- ---- what a word is read as

-- The word w of a node with the children cs, which stands for the formula φ f where f gives the formulas of nodes.
pub record Built (k w : ℕ) (cs : List ℕ) (φ : (ℕ → Fmla) → Fmla) : Type 0 where
  pub formed : malformed w ≡ false
  pub children_are : children w ≡ cs
  pub held : strays k w ≡ false
  pub decoded : (f : ℕ → Fmla) → node_formula w f ≡ φ f

module _ (k : ℕ) where
  pub truth-built : (b : Bool) → Built k (truth_word b) [] (λ f. truth b)
  truth-built true = record { formed = refl; children_are = refl; held = refl; decoded = λ f. refl }
  truth-built false = record { formed = refl; children_are = refl; held = refl; decoded = λ f. refl }

  not-read : (w l : ℕ) → kind w ≡ 3 → left w ≡ l → not_rest w ≡ 0 → Built k w (l ∷ []) (λ f. neg (f l))
  not-read w l e el ez = record { formed = rw (e, ez); children_are = rw (e, el); held = rw e; decoded = λ f. rw (e, el) }

  pub not-built : (l : ℕ) → l < max_nodes → Built k (not_word l) (l ∷ []) (λ f. neg (f l))
  not-built l h = let r = not-reads l h in not-read (not_word l) l r.0 r.1 r.2

  two-read : (w l r : ℕ) → left w ≡ l → right w ≡ r → join_rest w ≡ 0 → (kind w ≡ 4 → Built k w (l ∷ r ∷ []) (λ f. conj (f l) (f r))) × (kind w ≡ 5 → Built k w (l ∷ r ∷ []) (λ f. disj (f l) (f r)))
  two-read w l r el er ez = (
    λ e. record { formed = rw (e, ez); children_are = rw (e, el, er); held = rw e; decoded = λ f. rw (e, el, er) },
    λ e. record { formed = rw (e, ez); children_are = rw (e, el, er); held = rw e; decoded = λ f. rw (e, el, er) },
  )

  pub and-built : (l r : ℕ) → l < max_nodes → r < max_nodes → Built k (join_word 4 l r) (l ∷ r ∷ []) (λ f. conj (f l) (f r))
  and-built l r hl hr = let q = join-reads 4 l r hl hr in (two-read (join_word 4 l r) l r q.1 q.2 q.3).0 q.0

  pub or-built : (l r : ℕ) → l < max_nodes → r < max_nodes → Built k (join_word 5 l r) (l ∷ r ∷ []) (λ f. disj (f l) (f r))
  or-built l r hl hr = let q = join-reads 5 l r hl hr in (two-read (join_word 5 l r) l r q.1 q.2 q.3).1 q.0

  exists-read : (w x l : ℕ) → kind w ≡ 6 → variable w ≡ x → under w ≡ l → exists_rest w ≡ 0 → Built k w (l ∷ []) (λ f. exists x (f l))
  exists-read w x l e ex el ez = record { formed = rw (e, ez); children_are = rw (e, el); held = rw e; decoded = λ f. rw (e, ex, el) }

  pub exists-built : (x l : ℕ) → x < 16 → l < max_nodes → Built k (exists_word x l) (l ∷ []) (λ f. exists x (f l))
  exists-built x l hx hl = let r = exists-reads x l hx hl in exists-read (exists_word x l) x l r.0 r.1 r.2 r.3

-- ---- terms

module _ (k : ℕ) (few : k ≤ 16) where
  pub code_below : (t : Term) → TermFits k t → term_code t < 32
  code_below (var x) (var_fits h) = omega arith
  code_below (con p) (con_fits h) = omega arith

  pub term-of-code : (t : Term) → TermFits k t → term_of (term_code t) ≡ t
  term-of-code (var x) (var_fits h) = rw (lt-leb 16 x h) (ap var (omega arith))
  term-of-code (con p) (con_fits h) = rw (le-leb 16 (16 + p) (omega arith)) (ap con (omega arith))

  no_stray : (t : Term) → TermFits k t → is_stray k (term_code t) ≡ false
  no_stray (var x) (var_fits h) = rw (lt-leb 16 x h)
  no_stray (con p) (con_fits h) = rw (le-leb 16 (16 + p) (omega arith)) (lt-leb k ((16 + p) % 16) (omega arith))

  pub no-strays : (ts : List Term) → ((t : Term) → In t ts → TermFits k t) → any_of (is_stray k) (map term_code ts) ≡ false
  no-strays [] f = refl
  no-strays (t ∷ ts) f = rw (no_stray t (f t (here refl)), no-strays ts (λ u i. f u (there i)))

  pub terms-of-codes : (ts : List Term) → ((t : Term) → In t ts → TermFits k t) → map term_of (map term_code ts) ≡ ts
  terms-of-codes [] f = refl
  terms-of-codes (t ∷ ts) f = λ i. term-of-code t (f t (here refl)) i ∷ terms-of-codes ts (λ u j. f u (there j)) i

  pub code-at-below : (ts : List Term) → ((t : Term) → In t ts → TermFits k t) → (i : ℕ) → code_at ts i < 32
  code-at-below [] f i = omega arith
  code-at-below (t ∷ ts) f zero = code_below t (f t (here refl))
  code-at-below (t ∷ ts) f (suc i) = code-at-below ts (λ u j. f u (there j)) i

-- The four terms of a record.
abbrev codes : List Term → List ℕ
codes ts = code_at ts 0 ∷ code_at ts 1 ∷ code_at ts 2 ∷ code_at ts 3 ∷ []

codes-taken : (ts : List Term) → length ts ≤ 4 → take (length ts) (codes ts) ≡ map term_code ts
codes-taken [] h = refl
codes-taken (a ∷ []) h = refl
codes-taken (a ∷ b ∷ []) h = refl
codes-taken (a ∷ b ∷ c ∷ []) h = refl
codes-taken (a ∷ b ∷ c ∷ d ∷ []) h = refl
codes-taken (a ∷ b ∷ c ∷ d ∷ e ∷ ts) h = absurd (omega arith)

codes-unused : (ts : List Term) → length ts ≤ 4 → any_of nonzero (drop (length ts) (codes ts)) ≡ false
codes-unused [] h = refl
codes-unused (a ∷ []) h = refl
codes-unused (a ∷ b ∷ []) h = refl
codes-unused (a ∷ b ∷ c ∷ []) h = refl
codes-unused (a ∷ b ∷ c ∷ d ∷ []) h = refl
codes-unused (a ∷ b ∷ c ∷ d ∷ e ∷ ts) h = absurd (omega arith)

-- ---- equalities and records

module _ (k : ℕ) (few : k ≤ 16) where
  equality-read : (w x : ℕ) (t : Term) → kind w ≡ 2 → variable w ≡ x → equal_term w ≡ term_code t → equality_rest w ≡ 0 → TermFits k t → Built k w [] (λ f. eq x t)
  equality-read w x t e ex et ez h =
      record { formed = rw (e, ez); children_are = rw e; held = rw (e, et, no_stray k few t h); decoded = λ f. rw (e, ex, et, term-of-code k few t h) }

  pub equality-built : (x : ℕ) (t : Term) → x < 16 → TermFits k t → Built k (equality_word x (term_code t)) [] (λ f. eq x t)
  equality-built x t hx ht =
      let r = equality-reads x (term_code t) hx (code_below k few t ht) in
      equality-read (equality_word x (term_code t)) x t r.0 r.1 r.2 r.3 ht

  -- The relation and the terms of a record fit.
  module _ (r : ℕ) (ts : List Term) (most : length ts ≤ 4) (fit : (t : Term) → In t ts → TermFits k t) where
    record-read : (w : ℕ) → kind w ≡ 1 → relation w ≡ r → term_count w ≡ length ts → terms w ≡ codes ts → record_rest w ≡ 0 → Built k w [] (λ f. rel r ts)
    record-read w e er en et ez =
        record {
          formed = rw (e, ez, en, et, codes-unused ts);
          children_are = rw e;
          held = rw (e, en, et, codes-taken ts, no-strays k few ts fit);
          decoded = λ f. rw (e, er, en, et, codes-taken ts, terms-of-codes k few ts fit);
        }

    pub record-built : r < 16 → Built k (record_word r (length ts) (code_at ts 0) (code_at ts 1) (code_at ts 2) (code_at ts 3)) [] (λ f. rel r ts)
    record-built hr =
        let c = code-at-below k few ts fit in
        let q = record-reads r (length ts) (code_at ts 0) (code_at ts 1) (code_at ts 2) (code_at ts 3) hr (omega arith) (c 0) (c 1) (c 2) (c 3) in
        record-read (record_word r (length ts) (code_at ts 0) (code_at ts 1) (code_at ts 2) (code_at ts 3)) q.0 q.1 q.2 q.3 q.4
