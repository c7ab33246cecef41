-- Reading what packing wrote gives the same formula and the same constants: `read-pack`. Whatever the widths, it meets no cause but 1 and 9: `packed-causes`.
use Rattle.std.specs.Prelude.{ℕ, suc, ◌+◌, ◌-◌, ◌≤◌, ◌<◌, ◌^◌, ◌≡◌, refl, ◌⊎◌, Bool, true, false, List, [], ◌∷◌, ◌++◌, length, get_or, replicate, T}
use Rattle.std.proofs.Common.{zero-add, add_assoc, arith, sym, ap, subst, ◌∙◌, inl, inr, length-append, get_or-append-add}
use Rattle.std.proofs.Math.Path.{subst⁻¹}
use Rattle.std.proofs.Math.ListN.{get_or-append}
use Rattle.std.proofs.Math.Seq.{take-append_seam, take-length}
use Rattle.std.proofs.lemmas.Bool.{lt-leb}
use Rattle.calculus.specs.Sets.{In}
use Rattle.calculus.proofs.Theory.Lists.Laws.{place_of, in_take}
use Rattle.calculus.specs.Formula.{Term, Fmla, truth, rel, eq, neg, conj, disj, exists, size}
use Rattle.calculus.specs.Satisfaction.{Pool}
use Rattle.calculus.specs.Generators.{columns}
use Rattle.causes.specs.Causes.{Finding, clear, met, check, lowest, first_cause, number, widths_fit, Answer, Done, Refused}
use Rattle.causes.proofs.Theory.Causes.Laws.{width_fits, lowest-all-clear}
use Rattle.query.specs.Nodes.{mismatched, truth_word, record_word, equality_word, not_word, join_word, exists_word}
use Rattle.query.specs.Decoding.{root}
use Rattle.query.specs.Reading.{read_checks, read_reply, read_of, accepted, constants_of, nodes_of, count_of_constants, tree_checks, column_checks, columns_of, formula, max_nodes, max_constants, max_columns, pool as pool_of}
use Rattle.query.specs.Packing.{term_code, code_at, words, pack, TermFits, Fits, truth_fits, rel_fits, eq_fits, neg_fits, conj_fits, disj_fits, exists_fits, Packable, InOrder}
use Rattle.query.proofs.Theory.Packing.Fields.{Built, truth-built, not-built, and-built, or-built, exists-built, equality-built, record-built, formed-small}
use Rattle.query.proofs.Theory.Packing.Bytes.{constants-counted, constants-packed, nodes-packed, header-packed, packed-small}
use Rattle.query.proofs.Theory.Packing.Trees.{Tree, leaf, one, two, Sound, sound, width_check, tree-clear, tree-root}
use Rattle.query.proofs.Theory.Packing.Widths.{words-matched}

-- ---- sizes

pub size-positive : (φ : Fmla) → 1 ≤ size φ
size-positive (truth b) = omega arith
size-positive (rel r ts) = omega arith
size-positive (eq x t) = omega arith
size-positive (neg φ) = omega arith
size-positive (conj φ ψ) = omega arith
size-positive (disj φ ψ) = omega arith
size-positive (exists x φ) = omega arith

pub length-words : (φ : Fmla) (n : ℕ) → length (words φ n) ≡ size φ
length-words (truth b) n = refl
length-words (rel r ts) n = refl
length-words (eq x t) n = refl
length-words (neg φ) n = simp (length-append, length-words φ n)
length-words (conj φ ψ) n = simp (length-append, length-words φ n, length-words ψ (n + size φ), add_assoc)
length-words (disj φ ψ) n = simp (length-append, length-words φ n, length-words ψ (n + size φ), add_assoc)
length-words (exists x φ) n = simp (length-append, length-words φ n)

-- ---- what the nodes have room for

-- The numbers of a formula fit into its nodes, whatever the widths of the relations.
abbrev pub Room : ℕ → Fmla → Type 0
Room k (truth b) = Unit {0}
Room k (rel r ts) = (r < 16) × (length ts ≤ 4) × ((t : Term) → In t ts → TermFits k t)
Room k (eq x t) = (x < 16) × TermFits k t
Room k (neg φ) = Room k φ
Room k (conj φ ψ) = Room k φ × Room k ψ
Room k (disj φ ψ) = Room k φ × Room k ψ
Room k (exists x φ) = (x < 16) × Room k φ

-- There is room for what fits.
pub fits-room : (ws : List ℕ) (k : ℕ) → T (widths_fit ws) → {φ : Fmla} → Fits ws k φ → Room k φ
fits-room ws k t truth_fits = tt
fits-room ws k t (rel_fits {r} hr some wide f) = (hr, omega (arith, wide, width_fits ws t r), f)
fits-room ws k t (eq_fits hx ht) = (hx, ht)
fits-room ws k t (neg_fits f) = fits-room ws k t f
fits-room ws k t (conj_fits f g) = (fits-room ws k t f, fits-room ws k t g)
fits-room ws k t (disj_fits f g) = (fits-room ws k t f, fits-room ws k t g)
fits-room ws k t (exists_fits hx f) = (hx, fits-room ws k t f)

-- ---- the words of a formula are its tree

-- From place n on, ns holds xs.
abbrev pub Placed : List ℕ → ℕ → List ℕ → Type 0
Placed ns n xs = (i : ℕ) → i < length xs → get_or ns (n + i) 0 ≡ get_or xs i 0

module _ (ns : List ℕ) (n : ℕ) (xs ys : List ℕ) (p : Placed ns n (xs ++ ys)) where
  placed-left : Placed ns n xs
  placed-left i h = p i (omega (arith, length-append xs ys)) ∙ get_or-append xs ys 0 i h

  placed-right : (m : ℕ) → length xs ≡ m → Placed ns (n + m) ys
  placed-right m e i h =
      let d : n + m + i ≡ n + (length xs + i) = omega arith in
      ap (λ j. get_or ns j 0) d ∙ p (length xs + i) (omega (arith, length-append xs ys)) ∙ get_or-append-add xs ys i 0

module _ {k : ℕ} (ns : List ℕ) where
  built-at : (m j w : ℕ) {cs : List ℕ} {φ : (ℕ → Fmla) → Fmla} → Placed ns m (w ∷ []) → m ≡ j → Built k w cs φ → Built k (get_or ns j 0) cs φ
  built-at m j w {cs} {φ} p e b =
      let d : m + 0 ≡ j = omega arith in
      subst (λ u. Built k u cs φ) (sym (p 0 (omega arith)) ∙ ap (λ i. get_or ns i 0) d) b

  tree-at : {m n b c : ℕ} {φ : Fmla} → Tree k ns m b φ → m ≡ n → b ≡ c → Tree k ns n c φ
  tree-at {φ = φ} t d e = subst (λ u. u) (λ i. Tree k ns (d i) (e i) φ) t

  leaf-placed : (φ : Fmla) (n w : ℕ) → size φ ≡ 1 → Placed ns n (w ∷ []) → Built k w [] (λ f. φ) → Tree k ns n (n + 1 - 1) φ
  leaf-placed φ n w z p b = tree-at (leaf z (built-at n n w p refl b)) refl (omega arith)

  one_placed : (up : Fmla → Fmla) (φ : Fmla) (n w : ℕ) → size (up φ) ≡ size φ + 1 → Placed ns n (words φ n ++ (w ∷ [])) → Built k w ((n + size φ - 1) ∷ []) (λ f. up (f (n + size φ - 1)))
      → (Placed ns n (words φ n) → Tree k ns n (n + size φ - 1) φ) → Tree k ns n (n + (size φ + 1) - 1) (up φ)
  one_placed up φ n w z p b r =
      let s : 1 ≤ size φ = size-positive φ in
      tree-at
      (one up z (r (placed-left ns n (words φ n) (w ∷ []) p)) (built-at (n + size φ) (suc (n + size φ - 1)) w (placed-right ns n (words φ n) (w ∷ []) p (size φ) (length-words φ n)) (omega arith) b))
      refl
      (omega arith)

  two-placed : (up : Fmla → Fmla → Fmla) (φ ψ : Fmla) (n w : ℕ) → size (up φ ψ) ≡ size φ + size ψ + 1 → Placed ns n (words φ n ++ (words ψ (n + size φ) ++ (w ∷ []))) → Built k w ((n + size φ - 1) ∷ (n + size φ + size ψ - 1) ∷ []) (λ f. up (f (n + size φ - 1)) (f (n + size φ + size ψ - 1)))
      → (Placed ns n (words φ n) → Tree k ns n (n + size φ - 1) φ) → (Placed ns (n + size φ) (words ψ (n + size φ)) → Tree k ns (n + size φ) (n + size φ + size ψ - 1) ψ) → Tree k ns n (n + (size φ + size ψ + 1) - 1) (up φ ψ)
  two-placed up φ ψ n w e p b r q =
      let s : 1 ≤ size φ = size-positive φ in
      let t : 1 ≤ size ψ = size-positive ψ in
      let z : Placed ns (n + size φ) (words ψ (n + size φ) ++ (w ∷ [])) = placed-right ns n (words φ n) (words ψ (n + size φ) ++ (w ∷ [])) p (size φ) (length-words φ n) in
      tree-at
      (two up e
      (r (placed-left ns n (words φ n) (words ψ (n + size φ) ++ (w ∷ [])) p))
      (tree-at (q (placed-left ns (n + size φ) (words ψ (n + size φ)) (w ∷ []) z)) (omega arith) refl)
      (built-at (n + size φ + size ψ) (suc (n + size φ + size ψ - 1)) w (placed-right ns (n + size φ) (words ψ (n + size φ)) (w ∷ []) z (size ψ) (length-words ψ (n + size φ))) (omega arith) b))
      refl
      (omega arith)

module _ (k : ℕ) (few : k ≤ 16) (ns : List ℕ) where
  pub words-tree : (φ : Fmla) (n : ℕ) → Room k φ → n + size φ ≤ max_nodes → Placed ns n (words φ n) → Tree k ns n (n + size φ - 1) φ
  words-tree (truth b) n f h p = leaf-placed ns (truth b) n (truth_word b) refl p (truth-built k b)
  words-tree (rel r ts) n (hr, most, f) h p =
      leaf-placed ns (rel r ts) n (record_word r (length ts) (code_at ts 0) (code_at ts 1) (code_at ts 2) (code_at ts 3)) refl p (record-built k few r ts most f hr)
  words-tree (eq x t) n (hx, ht) h p = leaf-placed ns (eq x t) n (equality_word x (term_code t)) refl p (equality-built k few x t hx ht)
  words-tree (neg φ) n f h p =
      one_placed ns neg φ n (not_word (n + size φ - 1)) refl p (not-built k (n + size φ - 1) (omega arith)) (λ q. words-tree φ n f (omega arith) q)
  words-tree (conj φ ψ) n (f, g) h p =
      two-placed ns conj φ ψ n (join_word 4 (n + size φ - 1) (n + size φ + size ψ - 1)) refl p
      (and-built k (n + size φ - 1) (n + size φ + size ψ - 1) (omega arith) (omega arith)) (λ q. words-tree φ n f (omega arith) q) (λ q. words-tree ψ (n + size φ) g (omega arith) q)
  words-tree (disj φ ψ) n (f, g) h p =
      two-placed ns disj φ ψ n (join_word 5 (n + size φ - 1) (n + size φ + size ψ - 1)) refl p
      (or-built k (n + size φ - 1) (n + size φ + size ψ - 1) (omega arith) (omega arith)) (λ q. words-tree φ n f (omega arith) q) (λ q. words-tree ψ (n + size φ) g (omega arith) q)
  words-tree (exists x φ) n (hx, f) h p =
      one_placed ns (exists x) φ n (exists_word x (n + size φ - 1)) refl p (exists-built k x (n + size φ - 1) hx (omega arith)) (λ q. words-tree φ n f (omega arith) q)

-- ---- reading what packing wrote

reply-answer : (a : Answer) (cs ns : List ℕ) → (read_reply a cs ns).answer ≡ a
reply-answer Done cs ns = refl
reply-answer (Refused n p) cs ns = refl

-- There is room for the formula, whatever the widths: only causes 1, 9 and 10 can be met.
module _ (pool : Pool) (φ : Fmla) (room : Room (length pool) φ) (few_nodes : size φ ≤ max_nodes) (few_constants : length pool ≤ max_constants) where
  some_words : 1 ≤ length (words φ 0)
  some_words = omega (arith, length-words φ 0, size-positive φ)

  few_words : length (words φ 0) ≤ max_nodes
  few_words = omega (arith, length-words φ 0)

  pub words-length : length (words φ 0) ≡ suc (size φ - 1)
  words-length = omega (arith, length-words φ 0, size-positive φ)

  pub packed-tree : Tree (length pool) (words φ 0) 0 (size φ - 1) φ
  packed-tree = tree-at (words φ 0) (words-tree (length pool) few_constants (words φ 0) φ 0 room (omega arith) (λ i h. rw zero-add)) refl (omega arith)

  -- The words stand for the formula.
  pub root-packed : root (words φ 0) ≡ φ
  root-packed = tree-root packed-tree words-length

  -- Of the checks that follow 1, those of the widths and of the columns decide.
  pub packed-checks : (ws : List ℕ) → T (widths_fit ws) → first_cause (read_checks ws (pack pool φ)) ≡ first_cause (width_check ws (words φ 0) ∷ column_checks (words φ 0))
  packed-checks ws t =
      header-packed pool (words φ 0) some_words few_words few_constants ws (tree_checks ws (count_of_constants (pack pool φ)) (nodes_of (pack pool φ)) ++ column_checks (nodes_of (pack pool φ))) t
      ∙ (λ i. first_cause (tree_checks ws (constants-counted pool (words φ 0) some_words few_words few_constants i) (nodes-packed pool (words φ 0) some_words few_words few_constants i) ++ column_checks (nodes-packed pool (words φ 0) some_words few_words few_constants i)))
      ∙ tree-clear packed-tree words-length ws (column_checks (words φ 0))

  pub packed-reply : (ws : List ℕ) → read_of ws (pack pool φ) ≡ read_reply (first_cause (read_checks ws (pack pool φ))) pool (words φ 0)
  packed-reply ws = λ i. read_reply (first_cause (read_checks ws (pack pool φ))) (constants-packed pool (words φ 0) some_words few_words few_constants i) (nodes-packed pool (words φ 0) some_words few_words few_constants i)

  -- Few columns: cause 10 isn't met either.
  pub packed-columns-clear : length (columns φ) ≤ max_columns → first_cause (column_checks (words φ 0)) ≡ Done
  packed-columns-clear h = rw (root-packed, lt-leb 5 (length (columns φ)) (omega arith))

  -- So a formula of few columns is accepted, or refused for a width above 4, or for a relation that has another width.
  pub packed-causes : length (columns φ) ≤ max_columns → (ws : List ℕ) → let a = (read_of ws (pack pool φ)).answer in (number a ≡ 0) ⊎ (number a ≡ 1) ⊎ (number a ≡ 9)
  packed-causes h ws = subst⁻¹ OneOf (reply-answer (first_cause (read_checks ws (pack pool φ))) (constants_of (pack pool φ)) (nodes_of (pack pool φ))) (go (widths_fit ws) refl)
    where
      OneOf : Answer → Type 0
      OneOf a = (number a ≡ 0) ⊎ (number a ≡ 1) ⊎ (number a ≡ 9)

      by-widths : (f : Finding) → OneOf (first_cause (check 9 f ∷ column_checks (words φ 0)))
      by-widths clear = inl (ap number (packed-columns-clear h))
      by-widths (met i) = inr (inr refl)

      go : (b : Bool) → widths_fit ws ≡ b → OneOf (first_cause (read_checks ws (pack pool φ)))
      go true e = subst⁻¹ OneOf (packed-checks ws (subst⁻¹ T e tt)) (by-widths (lowest (λ i. mismatched ws (get_or (words φ 0) i 0)) (length (words φ 0))))
      go false e = rw e (inr (inl refl))

module _ (ws : List ℕ) (pool : Pool) (φ : Fmla) (t : T (widths_fit ws)) (p : Packable ws pool φ) where
  room_for : Room (length pool) φ
  room_for = fits-room ws (length pool) t p.fits

  pub root-words : root (words φ 0) ≡ φ
  root-words = root-packed pool φ room_for p.few_nodes p.few_constants

  widths-clear : lowest (λ i. mismatched ws (get_or (words φ 0) i 0)) (length (words φ 0)) ≡ clear
  widths-clear = lowest-all-clear (λ i. mismatched ws (get_or (words φ 0) i 0)) (length (words φ 0)) (λ i h. words-matched ws (length pool) t p.few_constants φ 0 p.fits (omega arith) (get_or (words φ 0) i 0) (subst (In (get_or (words φ 0) i 0)) (take-length (words φ 0)) (in_take 0 (words φ 0) (length (words φ 0)) i h h)))

  checks-clear : first_cause (read_checks ws (pack pool φ)) ≡ Done
  checks-clear =
      packed-checks pool φ room_for p.few_nodes p.few_constants ws t
      ∙ ap (λ f. first_cause (check 9 f ∷ column_checks (words φ 0))) widths-clear
      ∙ packed-columns-clear pool φ room_for p.few_nodes p.few_constants p.few_columns

  accepts : read_of ws (pack pool φ) ≡ accepted pool (words φ 0)
  accepts = packed-reply pool φ room_for p.few_nodes p.few_constants ws ∙ ap (λ a. read_reply a pool (words φ 0)) checks-clear

-- What was packed is accepted, with the same constants and nodes, and the nodes stand for the formula.
pub read-pack : (ws : List ℕ) (pool : Pool) (φ : Fmla) → T (widths_fit ws) → Packable ws pool φ → (read_of ws (pack pool φ) ≡ accepted pool (words φ 0)) × (root (words φ 0) ≡ φ)
read-pack ws pool φ t p = (accepts ws pool φ t p, root-words ws pool φ t p)

module _ (ws : List ℕ) (pool : Pool) (φ : Fmla) (t : T (widths_fit ws)) (p : Packable ws pool φ) where
  pub packed-formula : formula (read_of ws (pack pool φ)).query ≡ φ
  packed-formula =
      ap (λ r. formula r.query) (read-pack ws pool φ t p).0
      ∙ ap root (take-append_seam (words φ 0) (replicate (max_nodes - length (words φ 0)) 0))
      ∙ (read-pack ws pool φ t p).1

  pub packed-pool : pool_of (read_of ws (pack pool φ)).query ≡ pool
  packed-pool = rw (read-pack ws pool φ t p).0 (take-append_seam pool (replicate (max_constants - length pool) 0))

  pub packed-columns : (read_of ws (pack pool φ)).columns ≡ columns_of (columns φ)
  packed-columns = rw (read-pack ws pool φ t p).0 (ap (λ χ. columns_of (columns χ)) (read-pack ws pool φ t p).1)

-- ---- what packing writes: nodes in order, and bytes

module _ (pool : Pool) (φ : Fmla) (room : Room (length pool) φ) (few_nodes : size φ ≤ max_nodes) (few_constants : length pool ≤ max_constants) where
  packed-sound : (i : ℕ) → i < length (words φ 0) → Sound (length pool) (words φ 0) i
  packed-sound = sound (packed-tree pool φ room few_nodes few_constants) (words-length pool φ room few_nodes few_constants)

  pub room-in-order : InOrder (words φ 0)
  room-in-order i h = (packed-sound i h).ordered

  pub room_small : ((v : ℕ) → In v pool → v < 2 ^ 32) → (b : ℕ) → In b (pack pool φ) → b < 256
  room_small fit = packed-small pool (words φ 0) (omega (arith, length-words φ 0)) few_constants fit word_small
    where
      word_small : (n : ℕ) → In n (words φ 0) → n < 2 ^ 32
      word_small n i = let r = place_of 0 (words φ 0) i in subst⁻¹ (λ u. u < 2 ^ 32) r.2 (formed-small (get_or (words φ 0) r.0 0) (packed-sound r.0 r.1).formed)

pub words-in-order : (ws : List ℕ) (pool : Pool) (φ : Fmla) → T (widths_fit ws) → Packable ws pool φ → InOrder (words φ 0)
words-in-order ws pool φ t p = room-in-order pool φ (fits-room ws (length pool) t p.fits) p.few_nodes p.few_constants

pub pack-small : (ws : List ℕ) (pool : Pool) (φ : Fmla) → T (widths_fit ws) → Packable ws pool φ → (b : ℕ) → In b (pack pool φ) → b < 256
pack-small ws pool φ t p = room_small pool φ (fits-room ws (length pool) t p.fits) p.few_nodes p.few_constants p.constants_fit
