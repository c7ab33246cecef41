-- The words that packing writes for a formula that fits name each relation with its width: none of them is mismatched.
use Rattle.std.specs.Prelude.{ℕ, zero, suc, ◌+◌, ◌-◌, ◌≤◌, ◌<◌, ◌≡◌, refl, ◌≢◌, true, false, not, ◌||◌, List, [], ◌∷◌, ◌++◌, length, get_or, T, eqb}
use Rattle.std.proofs.Common.{arith, ⊎_elim, eq-eqb, ne_eqb}
use Rattle.std.proofs.Math.Path.{subst⁻¹}
use Rattle.calculus.specs.Sets.{In}
use Rattle.calculus.proofs.Theory.Sets.Laws.{in_one, in-append}
use Rattle.calculus.specs.Formula.{Fmla, truth, rel, eq, neg, conj, disj, exists, size}
use Rattle.causes.specs.Causes.{widths_fit}
use Rattle.causes.proofs.Theory.Causes.Laws.{width_fits}
use Rattle.query.specs.Nodes.{kind, relation, term_count, mismatched, record_word, equality_word, not_word, join_word, exists_word}
use Rattle.query.proofs.Theory.Nodes.Words.{equality-reads, not-reads, join-reads, exists-reads, record-reads}
use Rattle.query.specs.Reading.{max_nodes}
use Rattle.query.specs.Packing.{term_code, code_at, words, Fits, truth_fits, rel_fits, eq_fits, neg_fits, conj_fits, disj_fits, exists_fits}
use Rattle.query.proofs.Theory.Packing.Fields.{code_below, code-at-below}

module _ (ws : List ℕ) where
  -- A node that is no record names no relation.
  other-matched : (w k : ℕ) → kind w ≡ k → k ≢ 1 → mismatched ws w ≡ false
  other-matched w k e n = rw e (go k n)
    where
      go : (j : ℕ) → j ≢ 1 → get_or (false ∷ (eqb (get_or ws (relation w) 0) 0 || not (eqb (term_count w) (get_or ws (relation w) 0))) ∷ false ∷ false ∷ false ∷ false ∷ false ∷ []) j false ≡ false
      go zero n = refl
      go (suc zero) n = absurd (n refl)
      go (suc (suc zero)) n = refl
      go (suc (suc (suc zero))) n = refl
      go (suc (suc (suc (suc zero)))) n = refl
      go (suc (suc (suc (suc (suc zero))))) n = refl
      go (suc (suc (suc (suc (suc (suc zero)))))) n = refl
      go (suc (suc (suc (suc (suc (suc (suc j))))))) n = refl

  -- A record with as many terms as its relation is wide.
  record-matched : (w r n : ℕ) → kind w ≡ 1 → relation w ≡ r → term_count w ≡ n → 0 < n → n ≡ get_or ws r 0 → mismatched ws w ≡ false
  record-matched w r n e er en some wide = rw (e, er, en, ← wide, ne_eqb n 0 (λ z. omega arith), eq-eqb n n refl)

  -- No node of the list is mismatched.
  abbrev pub Matched : List ℕ → Type 0
  Matched ns = (w : ℕ) → In w ns → mismatched ws w ≡ false

  one-matched : {v : ℕ} → mismatched ws v ≡ false → Matched (v ∷ [])
  one-matched e w i = subst⁻¹ (λ u. mismatched ws u ≡ false) (in_one i) e

  both-matched : (xs : List ℕ) {ys : List ℕ} → Matched xs → Matched ys → Matched (xs ++ ys)
  both-matched xs f g w i = ⊎_elim (f w) (g w) (in-append xs i)

  module _ (k : ℕ) (fit : T (widths_fit ws)) (few : k ≤ 16) where
    pub words-matched : (φ : Fmla) (n : ℕ) → Fits ws k φ → n + size φ ≤ max_nodes → Matched (words φ n)
    words-matched (truth true) n truth_fits h = one-matched refl
    words-matched (truth false) n truth_fits h = one-matched refl
    words-matched (rel r ts) n (rel_fits hr some wide f) h =
        let c = code-at-below k few ts f in
        let w : ℕ = record_word r (length ts) (code_at ts 0) (code_at ts 1) (code_at ts 2) (code_at ts 3) in
        let q = record-reads r (length ts) (code_at ts 0) (code_at ts 1) (code_at ts 2) (code_at ts 3) hr (omega (arith, width_fits ws fit r)) (c 0) (c 1) (c 2) (c 3) in
        one-matched (record-matched w r (length ts) q.0 q.1 q.2 some wide)
    words-matched (eq x t) n (eq_fits hx ht) h =
        one-matched (other-matched (equality_word x (term_code t)) 2 (equality-reads x (term_code t) hx (code_below k few t ht)).0 (λ e. omega arith))
    words-matched (neg φ) n (neg_fits f) h =
        both-matched (words φ n) (words-matched φ n f (omega arith)) (one-matched (other-matched (not_word (n + size φ - 1)) 3 (not-reads (n + size φ - 1) (omega arith)).0 (λ e. omega arith)))
    words-matched (conj φ ψ) n (conj_fits f g) h =
        both-matched (words φ n) (words-matched φ n f (omega arith))
        (both-matched (words ψ (n + size φ)) (words-matched ψ (n + size φ) g (omega arith))
        (one-matched (other-matched (join_word 4 (n + size φ - 1) (n + size φ + size ψ - 1)) 4 (join-reads 4 (n + size φ - 1) (n + size φ + size ψ - 1) (omega arith) (omega arith)).0 (λ e. omega arith))))
    words-matched (disj φ ψ) n (disj_fits f g) h =
        both-matched (words φ n) (words-matched φ n f (omega arith))
        (both-matched (words ψ (n + size φ)) (words-matched ψ (n + size φ) g (omega arith))
        (one-matched (other-matched (join_word 5 (n + size φ - 1) (n + size φ + size ψ - 1)) 5 (join-reads 5 (n + size φ - 1) (n + size φ + size ψ - 1) (omega arith) (omega arith)).0 (λ e. omega arith))))
    words-matched (exists x φ) n (exists_fits hx f) h =
        both-matched (words φ n) (words-matched φ n f (omega arith)) (one-matched (other-matched (exists_word x (n + size φ - 1)) 6 (exists-reads x (n + size φ - 1) hx (omega arith)).0 (λ e. omega arith)))
