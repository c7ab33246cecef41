-- Accepted nodes that stand in packing's order are packed again as they were (`words-again`), and so are the bytes that they were read from (`pack-read`).
use Rattle.std.specs.Prelude.{ℕ, zero, suc, ◌+◌, ◌-◌, ◌≤◌, ◌<◌, ◌≡◌, refl, false, not, ◌||◌, List, [], ◌∷◌, ◌++◌, map, length, get_or, take, drop, T, eqb}
use Rattle.std.proofs.Common.{add-zero, zero-add, arith, sym, ap, ◌∙◌, length-append, get_or-append-add, ext_get_or, length-take-le, le-leb}
use Rattle.std.proofs.Math.Decide.{dec_lt}
use Rattle.std.proofs.lemmas.List.{length-map}
use Rattle.std.proofs.Math.ListN.{get_or-append}
use Rattle.std.proofs.lemmas.Bool.{lt-leb}
use Rattle.calculus.specs.Sets.{any_of}
use Rattle.calculus.proofs.Theory.Lists.Laws.{or-fails}
use Rattle.calculus.proofs.Theory.Reflects.Laws.{reflects-eqb}
use Rattle.calculus.specs.Formula.{Term, Fmla, size}
use Rattle.causes.specs.Causes.{Done, widths_fit}
use Rattle.causes.proofs.Theory.Causes.Laws.{width_fits}
use Rattle.query.specs.Nodes.{kind, relation, term_count, terms, variable, equal_term, left, right, under, nonzero, malformed, mismatched, truth_rest, record_rest, equality_rest, not_rest, join_rest, exists_rest, record_word, equality_word, not_word, join_word, exists_word}
use Rattle.query.proofs.Theory.Nodes.Words.{term_at, truth_of-fields, record-of-fields, equality-of-fields, not-of-fields, join-of-fields, exists-of-fields, equal_term-small, term_at-small}
use Rattle.query.specs.Decoding.{term_of, root}
use Rattle.query.specs.Reading.{constants_of, nodes_of, read_of, pool, formula, Bytes}
use Rattle.query.specs.Packing.{term_code, code_at, words, packed_bytes, pack, InOrder}
use Rattle.query.proofs.Theory.Packing.Numbering.{Kept, whole-kept}
use Rattle.query.proofs.Theory.Packing.Bytes.{bytes-at, packed-again}
use Rattle.query.proofs.Theory.Packing.Laws.{length-words, Placed}
use Rattle.query.proofs.Theory.Accepted.Laws.{confirmed, Checked, size-right, read-pool, read-formula, read-headed, constant-fits, read-checked}

pub nonzero-false : (n : ℕ) → nonzero n ≡ false → n ≡ 0
nonzero-false n e = confirmed (reflects-eqb n 0) e

all-zero : (xs : List ℕ) → any_of nonzero xs ≡ false → (i : ℕ) → get_or xs i 0 ≡ 0
all-zero [] f i = refl
all-zero (x ∷ xs) f zero = nonzero-false x (or-fails (nonzero x) (any_of nonzero xs) f).0
all-zero (x ∷ xs) f (suc i) = all-zero xs (or-fails (nonzero x) (any_of nonzero xs) f).1 i

-- ---- the word of a node's formula is the node

code-of-term : (c : ℕ) → c < 32 → term_code (term_of c) ≡ c
code-of-term c h = go (dec_lt c 16)
  where
    go : Dec (c < 16) → term_code (term_of c) ≡ c
    go (yes l) = rw (lt-leb 16 c l) (omega arith)
    go (no l) = rw (le-leb 16 c (omega arith)) (omega arith)

pub equality-again : (w : ℕ) → kind w ≡ 2 → equality_rest w ≡ 0 → w ≡ equality_word (variable w) (term_code (term_of (equal_term w)))
equality-again w e z = equality-of-fields w e z ∙ ap (equality_word (variable w)) (sym (code-of-term (equal_term w) (equal_term-small w)))

-- Of four terms, the first n are in use, and the others are zero.
codes-again : (n a b c d : ℕ) → n ≤ 4 → a < 32 → b < 32 → c < 32 → d < 32 → any_of nonzero (drop n (a ∷ b ∷ c ∷ d ∷ [])) ≡ false
    → let t = code_at (map term_of (take n (a ∷ b ∷ c ∷ d ∷ []))) in (a ≡ t 0) × (b ≡ t 1) × (c ≡ t 2) × (d ≡ t 3)
codes-again zero a b c d h ha hb hc hd f = let z = all-zero (a ∷ b ∷ c ∷ d ∷ []) f in (z 0, z 1, z 2, z 3)
codes-again (suc zero) a b c d h ha hb hc hd f = let z = all-zero (b ∷ c ∷ d ∷ []) f in (sym (code-of-term a ha), z 0, z 1, z 2)
codes-again (suc (suc zero)) a b c d h ha hb hc hd f = let z = all-zero (c ∷ d ∷ []) f in (sym (code-of-term a ha), sym (code-of-term b hb), z 0, z 1)
codes-again (suc (suc (suc zero))) a b c d h ha hb hc hd f = (sym (code-of-term a ha), sym (code-of-term b hb), sym (code-of-term c hc), all-zero (d ∷ []) f 0)
codes-again (suc (suc (suc (suc zero)))) a b c d h ha hb hc hd f = (sym (code-of-term a ha), sym (code-of-term b hb), sym (code-of-term c hc), sym (code-of-term d hd))
codes-again (suc (suc (suc (suc (suc n))))) a b c d h ha hb hc hd f = absurd (omega arith)

-- The terms in use of a record.
abbrev pub terms_in : ℕ → List Term
terms_in w = map term_of (take (term_count w) (terms w))

pub record-again : (w : ℕ) → kind w ≡ 1 → term_count w ≤ 4 → (nonzero (record_rest w) || any_of nonzero (drop (term_count w) (terms w))) ≡ false
    → let t = code_at (terms_in w) in w ≡ record_word (relation w) (length (terms_in w)) (t 0) (t 1) (t 2) (t 3)
record-again w e n f =
    let z = or-fails (nonzero (record_rest w)) (any_of nonzero (drop (term_count w) (terms w))) f in
    let l : length (terms_in w) ≡ term_count w = length-map (take (term_count w) (terms w)) term_of ∙ length-take-le (term_count w) (terms w) n in
    let s = term_at-small w in
    let c = codes-again (term_count w) (term_at w 0) (term_at w 1) (term_at w 2) (term_at w 3) n (s 0) (s 1) (s 2) (s 3) z.1 in
    record-of-fields w e (nonzero-false (record_rest w) z.0) ∙ (λ i. record_word (relation w) (sym l i) (c.0 i) (c.1 i) (c.2 i) (c.3 i))

not-again : (w : ℕ) {c : ℕ} → kind w ≡ 3 → left w ≡ c → malformed w ≡ false → w ≡ not_word c
not-again w e l f = not-of-fields w e (nonzero-false (not_rest w) (rw e at f)) ∙ ap not_word l

-- Above two children, an and is of kind 4 and an or of kind 5.
both-again : (k w : ℕ) {c d : ℕ} → kind w ≡ k → left w ≡ c → right w ≡ d → nonzero (join_rest w) ≡ false → w ≡ join_word k c d
both-again k w e l r f = join-of-fields w (nonzero-false (join_rest w) f) ∙ (λ i. join_word (e i) (l i) (r i))

exists-again : (w : ℕ) {c : ℕ} → kind w ≡ 6 → under w ≡ c → malformed w ≡ false → w ≡ exists_word (variable w) c
exists-again w e l f = exists-of-fields w e (nonzero-false (exists_rest w) (rw e at f)) ∙ ap (exists_word (variable w)) l

-- ---- the words of a node's formula end at the node

module _ (ns : List ℕ) where
  placed_one : (n w : ℕ) → get_or ns n 0 ≡ w → Placed ns n (w ∷ [])
  placed_one n w e zero h = ap (λ j. get_or ns j 0) (add-zero n) ∙ e
  placed_one n w e (suc i) h = absurd (omega arith)

  placed-join : (n m : ℕ) (xs ys : List ℕ) → Placed ns n xs → Placed ns m ys → n + length xs ≡ m → Placed ns n (xs ++ ys)
  placed-join n m xs ys p q e i h = go (dec_lt i (length xs))
    where
      go : Dec (i < length xs) → get_or ns (n + i) 0 ≡ get_or (xs ++ ys) i 0
      go (yes l) = p i l ∙ sym (get_or-append xs ys 0 i l)
      go (no l) =
          let d : n + i ≡ m + (i - length xs) = omega arith in
          let f : length xs + (i - length xs) ≡ i = omega arith in
          ap (λ j. get_or ns j 0) d ∙ q (i - length xs) (omega (arith, length-append xs ys)) ∙ sym (get_or-append-add xs ys (i - length xs) 0) ∙ ap (λ j. get_or (xs ++ ys) j 0) f

  -- The words of φ stand from n on, and node c after them; or those of φ, of ψ, and node c.
  above-placed : (n c : ℕ) (φ : Fmla) {w : ℕ} → n + size φ ≡ c → get_or ns c 0 ≡ w → Placed ns n (words φ n) → Placed ns n (words φ n ++ (w ∷ []))
  above-placed n c φ {w} s e p = placed-join n c (words φ n) (w ∷ []) p (placed_one c w e) (omega (arith, length-words φ n))

  both-placed : (n c : ℕ) (φ ψ : Fmla) {w : ℕ} → n + (size φ + size ψ) ≡ c → get_or ns c 0 ≡ w → Placed ns n (words φ n) → Placed ns (n + size φ) (words ψ (n + size φ)) → Placed ns n (words φ n ++ (words ψ (n + size φ) ++ (w ∷ [])))
  both-placed n c φ ψ {w} s e p q = placed-join n (n + size φ) (words φ n) (words ψ (n + size φ) ++ (w ∷ [])) p (above-placed (n + size φ) c ψ (omega arith) e q) (omega (arith, length-words φ n))

-- ---- the words of the root's formula are the nodes

pub record-width : (ws : List ℕ) (w : ℕ) → T (widths_fit ws) → mismatched ws w ≡ false → kind w ≡ 1 → term_count w ≤ 4
record-width ws w t m e =
    let d : (eqb (get_or ws (relation w) 0) 0 || not (eqb (term_count w) (get_or ws (relation w) 0))) ≡ false = rw e at m in
    omega (arith, width_fits ws t (relation w), confirmed (reflects-eqb (term_count w) (get_or ws (relation w) 0)) (or-fails (eqb (get_or ws (relation w) 0) 0) (not (eqb (term_count w) (get_or ws (relation w) 0))) d).1)

placed-all : (xs ns : List ℕ) → length xs ≡ length ns → Placed ns 0 xs → xs ≡ ns
placed-all xs ns e p = ext_get_or 0 xs ns e (λ i l. sym (p i l) ∙ rw zero-add)

module _ (ws cs ns : List ℕ) (checked : Checked ws cs ns) (order : InOrder ns) where
  words-kept : Kept ns (length ns) (λ n φ. Placed ns n (words φ n))
  words-kept = record {
    truth-kept = (λ i h e f. placed_one ns i _ (truth_of-fields (get_or ns i 0) e (nonzero-false (truth_rest (get_or ns i 0)) (rw e at (checked.formed i h)))));
    record-kept = (λ i h e f. placed_one ns i _ (record-again (get_or ns i 0) e (record-width ws (get_or ns i 0) checked.widths (checked.relations_held i h) e) (rw e at (checked.formed i h))));
    equality-kept = (λ i h e f. placed_one ns i _ (equality-again (get_or ns i 0) e (nonzero-false (equality_rest (get_or ns i 0)) (rw e at (checked.formed i h)))));
    not-kept = (λ i n φ h e f s c p. above-placed ns n i φ s (not-again (get_or ns i 0) e c (checked.formed i h)) p);
    and_kept = (λ i n φ ψ h e f s c d p q. both-placed ns n i φ ψ s (both-again 4 (get_or ns i 0) e c d (rw e at (checked.formed i h))) p q);
    or_kept = (λ i n φ ψ h e f s c d p q. both-placed ns n i φ ψ s (both-again 5 (get_or ns i 0) e c d (rw e at (checked.formed i h))) p q);
    exists-kept = (λ i n φ h e f s c p. above-placed ns n i φ s (exists-again (get_or ns i 0) e c (checked.formed i h)) p);
  }

  -- Nodes that are accepted and stand in order are the words of the formula that they decode to.
  pub words-again : words (root ns) 0 ≡ ns
  words-again =
      placed-all (words (root ns) 0) ns (length-words (root ns) 0 ∙ size-right ws cs ns checked)
      (whole-kept ns (length ns) (λ n φ. Placed ns n (words φ n)) words-kept checked.formed order checked.some_node (size-right ws cs ns checked))

-- ---- the packing of what reading accepted

-- Accepted bytes whose nodes stand in order are the packing of the formula and the constants that they were read as.
pub pack-read : (ws bs : List ℕ) → Bytes bs → InOrder (nodes_of bs) → (read_of ws bs).answer ≡ Done → pack (pool (read_of ws bs).query) (formula (read_of ws bs).query) ≡ bs
pack-read ws bs bytes order done =
    (λ i. pack (read-pool ws bs done i) (read-formula ws bs done i))
    ∙ ap (packed_bytes (constants_of bs)) (words-again ws (constants_of bs) (nodes_of bs) (read-checked ws bs done (constant-fits bs (bytes-at bs bytes))) order)
    ∙ packed-again bs bytes (read-headed ws bs done).first (read-headed ws bs done).whole
