-- The bytes that packing writes, read back: the header, the constants and the nodes are those that were packed.
use Rattle.std.specs.Prelude.{ℕ, zero, suc, ◌+◌, ◌*◌, ◌/◌, ◌%◌, ◌≤◌, ◌<◌, ◌^◌, ◌≡◌, refl, List, [], ◌∷◌, ◌++◌, length, get_or, T}
use Rattle.std.proofs.Common.{add_assoc, arith, sym, ap, ◌∙◌, ⊎_elim, append-nil, length-append, get_or-append-add, eq-eqb, ne_eqb}
use Rattle.std.proofs.lemmas.Bool.{lt-leb}
use Rattle.calculus.proofs.Theory.Reflects.Laws.{reflects-T, reflects-true}
use Rattle.calculus.specs.Sets.{In, here, there, union_of}
use Rattle.calculus.proofs.Theory.Sets.Laws.{in_one, in-append, from-union, union-append}
use Rattle.calculus.specs.Lists.{tabulate}
use Rattle.calculus.proofs.Theory.Lists.Laws.{length-tabulate, tabulate-of, tabulate-same, tabulate-append}
use Rattle.causes.specs.Causes.{Check, first_cause, widths_fit}
use Rattle.query.specs.Reading.{version, count_of_nodes, count_of_constants, word_at, constants_of, nodes_of, header_checks, Bytes, max_nodes}
use Rattle.query.specs.Packing.{word_bytes, header_bytes, packed_bytes}

-- ---- lists

-- ---- words

pub length-bytes : (ns : List ℕ) → length (union_of word_bytes ns) ≡ 4 * length ns
length-bytes [] = refl
length-bytes (n ∷ ns) = omega (arith, length-bytes ns)

word-of-bytes : (w : ℕ) → ((w / 16777216 * 256 + w / 65536 % 256) * 256 + w / 256 % 256) * 256 + w % 256 ≡ w
word-of-bytes w = omega arith

word_after : (pre xs : List ℕ) (j : ℕ) → word_at (pre ++ xs) (length pre + j) ≡ word_at xs j
word_after pre xs j = simp (add_assoc, get_or-append-add)

four-more : (i : ℕ) → 4 * suc i ≡ 4 + 4 * i
four-more i = omega arith

word_first : (ns post : List ℕ) (i : ℕ) → i < length ns → word_at (union_of word_bytes ns ++ post) (4 * i) ≡ get_or ns i 0
word_first [] post i h = absurd (omega arith)
word_first (n ∷ ns) post zero h = word-of-bytes n
word_first (n ∷ ns) post (suc i) h = rw (four-more i) (word_after (word_bytes n) (union_of word_bytes ns ++ post) (4 * i) ∙ word_first ns post i (omega arith))

-- The words after pre are those that were written.
pub word-at-bytes : (pre ns post : List ℕ) (i : ℕ) → i < length ns → word_at (pre ++ (union_of word_bytes ns ++ post)) (length pre + 4 * i) ≡ get_or ns i 0
word-at-bytes pre ns post i h = word_after pre (union_of word_bytes ns ++ post) (4 * i) ∙ word_first ns post i h

tabulated : (f : ℕ → ℕ) (ns : List ℕ) → ((i : ℕ) → i < length ns → f i ≡ get_or ns i 0) → tabulate f (length ns) ≡ ns
tabulated f ns h = sym (tabulate-of f ns (length ns) 0 refl (λ i l. sym (h i l)))

-- ---- the header

header-clear : (ws bs : List ℕ) (rest : List Check) → T (widths_fit ws) → 2 ≤ length bs → version bs ≡ 1 → 1 ≤ count_of_nodes bs → count_of_nodes bs ≤ max_nodes → count_of_constants bs ≤ 16 → length bs ≡ 2 + 4 * count_of_constants bs + 4 * count_of_nodes bs → first_cause (header_checks ws bs ++ rest) ≡ first_cause rest
header-clear ws bs rest t two v some few least e =
    rw (
      reflects-true (reflects-T (widths_fit ws)) t,
      lt-leb (suc (length bs)) 2 (omega arith),
      v,
      ne_eqb (count_of_nodes bs) 0 (λ z. omega arith),
      lt-leb (suc max_nodes) (count_of_nodes bs) (omega arith),
      lt-leb 17 (count_of_constants bs) (omega arith),
      eq-eqb (length bs) (2 + 4 * count_of_constants bs + 4 * count_of_nodes bs) e,
    )

-- ---- the packed query

module _ (cs ns : List ℕ) (some_node : 1 ≤ length ns) (few_nodes : length ns ≤ max_nodes) (few_constants : length cs ≤ 16) where
  version-packed : version (packed_bytes cs ns) ≡ 1
  version-packed = omega arith

  pub nodes-counted : count_of_nodes (packed_bytes cs ns) ≡ length ns
  nodes-counted = omega arith

  pub constants-counted : count_of_constants (packed_bytes cs ns) ≡ length cs
  constants-counted = omega arith

  length-packed : length (packed_bytes cs ns) ≡ 2 + 4 * length cs + 4 * length ns
  length-packed = simp length-append (omega (arith, length-bytes cs, length-bytes ns))

  pub constants-packed : constants_of (packed_bytes cs ns) ≡ cs
  constants-packed = rw constants-counted (tabulated (λ i. word_at (packed_bytes cs ns) (2 + 4 * i)) cs (word-at-bytes (header_bytes (length ns) (length cs)) cs (union_of word_bytes ns)))

  node-word : (i : ℕ) → i < length ns → word_at (packed_bytes cs ns) (2 + 4 * length cs + 4 * i) ≡ get_or ns i 0
  node-word i h =
      let e : 2 + 4 * length cs + 4 * i ≡ 2 + (length (union_of word_bytes cs) + 4 * i) = omega (arith, length-bytes cs) in
      ap (word_at (packed_bytes cs ns)) e
      ∙ word_after (header_bytes (length ns) (length cs)) (union_of word_bytes cs ++ union_of word_bytes ns) (length (union_of word_bytes cs) + 4 * i)
      ∙ word_after (union_of word_bytes cs) (union_of word_bytes ns) (4 * i)
      ∙ (rw append-nil at (word_first ns [] i h))

  pub nodes-packed : nodes_of (packed_bytes cs ns) ≡ ns
  nodes-packed = rw (constants-counted, nodes-counted) (tabulated (λ i. word_at (packed_bytes cs ns) (2 + 4 * length cs + 4 * i)) ns node-word)

  -- Causes 1 and 3 to 5 are not met.
  pub header-packed : (ws : List ℕ) (rest : List Check) → T (widths_fit ws) → first_cause (header_checks ws (packed_bytes cs ns) ++ rest) ≡ first_cause rest
  header-packed ws rest t = header-clear ws (packed_bytes cs ns) rest t (omega (arith, length-packed)) version-packed (omega (arith, nodes-counted)) (omega (arith, nodes-counted)) (omega (arith, constants-counted)) (rw (constants-counted, nodes-counted) length-packed)

-- ---- the bytes are bytes

word-bytes-small : (w : ℕ) → w < 2 ^ 32 → (b : ℕ) → In b (word_bytes w) → b < 256
word-bytes-small w h b (here e) = omega arith
word-bytes-small w h b (there i) = second i
  where
    fourth : In b (w % 256 ∷ []) → b < 256
    fourth i = omega (arith, in_one i)

    third : In b (w / 256 % 256 ∷ w % 256 ∷ []) → b < 256
    third (here e) = omega arith
    third (there i) = fourth i

    second : In b (w / 65536 % 256 ∷ w / 256 % 256 ∷ w % 256 ∷ []) → b < 256
    second (here e) = omega arith
    second (there i) = third i

bytes_small : (ns : List ℕ) → ((n : ℕ) → In n ns → n < 2 ^ 32) → (b : ℕ) → In b (union_of word_bytes ns) → b < 256
bytes_small ns h b i = let r = from-union word_bytes ns i in word-bytes-small r.0 (h r.0 r.1) b r.2

header-small : (n k : ℕ) → n ≤ max_nodes → k ≤ 16 → (b : ℕ) → In b (header_bytes n k) → b < 256
header-small n k hn hk b (here e) = omega arith
header-small n k hn hk b (there i) = omega (arith, in_one i)

pub packed-small : (cs ns : List ℕ) → length ns ≤ max_nodes → length cs ≤ 16 → ((c : ℕ) → In c cs → c < 2 ^ 32) → ((n : ℕ) → In n ns → n < 2 ^ 32) → (b : ℕ) → In b (packed_bytes cs ns) → b < 256
packed-small cs ns hn hk fc fn b i =
    ⊎_elim
    (header-small (length ns) (length cs) hn hk b)
    (λ j. ⊎_elim (bytes_small cs fc b) (bytes_small ns fn b) (in-append (union_of word_bytes cs) j))
    (in-append (header_bytes (length ns) (length cs)) i)

-- ---- the packing of what was read

pub bytes-at : (bs : List ℕ) → Bytes bs → (i : ℕ) → get_or bs i 0 < 256
bytes-at [] h i = omega arith
bytes-at (b ∷ bs) h zero = h b (here refl)
bytes-at (b ∷ bs) h (suc i) = bytes-at bs (λ c j. h c (there j)) i

word-again : (a b c d : ℕ) → a < 256 → b < 256 → c < 256 → d < 256 → word_bytes (((a * 256 + b) * 256 + c) * 256 + d) ≡ a ∷ b ∷ c ∷ d ∷ []
word-again a b c d ha hb hc hd = λ i. ea i ∷ eb i ∷ ec i ∷ ed i ∷ []
  where
    w : ℕ
    w = ((a * 256 + b) * 256 + c) * 256 + d

    ea : w / 16777216 ≡ a
    ea = omega arith

    eb : w / 65536 % 256 ≡ b
    eb = omega arith

    ec : w / 256 % 256 ≡ c
    ec = omega arith

    ed : w % 256 ≡ d
    ed = omega arith

-- The words of 4 * m bytes, written again.
words-written : (m : ℕ) (xs : List ℕ) → length xs ≡ 4 * m → Bytes xs → union_of word_bytes (tabulate (λ i. word_at xs (4 * i)) m) ≡ xs
words-written zero [] h f = refl
words-written zero (a ∷ xs) h f = absurd (omega arith)
words-written (suc m) [] h f = absurd (omega arith)
words-written (suc m) (a ∷ []) h f = absurd (omega arith)
words-written (suc m) (a ∷ b ∷ []) h f = absurd (omega arith)
words-written (suc m) (a ∷ b ∷ c ∷ []) h f = absurd (omega arith)
words-written (suc m) (a ∷ b ∷ c ∷ d ∷ xs) h f =
    (λ i. first i ++ union_of word_bytes (rest i)) ∙ ap (λ l. a ∷ b ∷ c ∷ d ∷ l) (words-written m xs (omega arith) (λ e i. f e (there (there (there (there i))))))
  where
    first : word_bytes (((a * 256 + b) * 256 + c) * 256 + d) ≡ a ∷ b ∷ c ∷ d ∷ []
    first = word-again a b c d (f a (here refl)) (f b (there (here refl))) (f c (there (there (here refl)))) (f d (there (there (there (here refl)))))

    rest : tabulate (λ i. word_at (a ∷ b ∷ c ∷ d ∷ xs) (4 * suc i)) m ≡ tabulate (λ i. word_at xs (4 * i)) m
    rest = tabulate-same (λ i. word_at (a ∷ b ∷ c ∷ d ∷ xs) (4 * suc i)) (λ i. word_at xs (4 * i)) m (λ i. rw (four-more i) (word_after (a ∷ b ∷ c ∷ d ∷ []) xs (4 * i)))

pub packed-again : (bs : List ℕ) → Bytes bs → version bs ≡ 1 → length bs ≡ 2 + 4 * count_of_constants bs + 4 * count_of_nodes bs → packed_bytes (constants_of bs) (nodes_of bs) ≡ bs
packed-again [] f v h = absurd (omega arith)
packed-again (a ∷ []) f v h = absurd (omega arith)
packed-again (a ∷ b ∷ xs) f v h = λ i. head i ∷ second i ∷ rest i
  where
    bs : List ℕ
    bs = a ∷ b ∷ xs

    k : ℕ
    k = b % 32

    n : ℕ
    n = a % 16 * 8 + b / 32

    word : ℕ → ℕ
    word i = word_at xs (4 * i)

    small : b < 256
    small = f b (there (here refl))

    head : 16 + length (nodes_of bs) / 8 ≡ a
    head = rw length-tabulate (omega (arith, small))

    second : length (nodes_of bs) % 8 * 32 + length (constants_of bs) ≡ b
    second = simp length-tabulate (omega (arith, small))

    constants : constants_of bs ≡ tabulate word k
    constants = tabulate-same (λ i. word_at bs (2 + 4 * i)) word k (λ i. word_after (a ∷ b ∷ []) xs (4 * i))

    place : (i : ℕ) → 2 + 4 * k + 4 * i ≡ 2 + 4 * (k + i)
    place i = omega arith

    nodes : nodes_of bs ≡ tabulate (λ i. word (k + i)) n
    nodes = tabulate-same (λ i. word_at bs (2 + 4 * k + 4 * i)) (λ i. word (k + i)) n (λ i. ap (word_at bs) (place i) ∙ word_after (a ∷ b ∷ []) xs (4 * (k + i)))

    rest : union_of word_bytes (constants_of bs) ++ union_of word_bytes (nodes_of bs) ≡ xs
    rest =
        sym (union-append word_bytes (constants_of bs) (nodes_of bs))
        ∙ ap (union_of word_bytes) ((λ i. constants i ++ nodes i) ∙ sym (tabulate-append word k n))
        ∙ words-written (k + n) xs (omega arith) (λ c i. f c (there (there i)))
