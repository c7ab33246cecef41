-- Packed nodes: document 01, "The packed query". A node is a 32-bit number whose fields stand most significant first. Definitions only; the laws are in
-- Nodes/Words.antt and Nodes/Laws.antt.
use Rattle.std.specs.Prelude.{ℕ, zero, suc, ◌+◌, ◌*◌, ◌/◌, ◌%◌, Bool, true, false, not, ◌&&◌, ◌||◌, cond, List, [], ◌∷◌, length, get_or, take, drop, eqb, leb}
use Rattle.calculus.specs.Sets.{any_of, union_of}

-- ---- the fields

-- 3 bits.
abbrev pub kind : ℕ → ℕ
kind w = w / 536870912

-- What a node has by its kind: truth, record, equality, not, and, or, exists; the last where there is no such kind.
abbrev pub by_kind : {A : Type 0} → A → A → A → A → A → A → A → A → ℕ → A
by_kind a b c d e f g none w = get_or (a ∷ b ∷ c ∷ d ∷ e ∷ f ∷ g ∷ []) (kind w) none

-- Truth: 1 bit.
abbrev pub truth_bit : ℕ → ℕ
truth_bit w = w / 268435456 % 2

-- Record: relation 4, term count 3, four terms of 5.
abbrev pub relation : ℕ → ℕ
relation w = w / 33554432 % 16

abbrev pub term_count : ℕ → ℕ
term_count w = w / 4194304 % 8

abbrev pub terms : ℕ → List ℕ
terms w = w / 131072 % 32 ∷ w / 4096 % 32 ∷ w / 128 % 32 ∷ w / 4 % 32 ∷ []

-- Equality: variable 4, term 5. Exists: variable 4, child 6.
abbrev pub variable : ℕ → ℕ
variable w = w / 33554432 % 16

abbrev pub equal_term : ℕ → ℕ
equal_term w = w / 1048576 % 32

abbrev pub under : ℕ → ℕ
under w = w / 524288 % 64

-- Not: child 6. And, or: left 6, right 6.
abbrev pub left : ℕ → ℕ
left w = w / 8388608 % 64

abbrev pub right : ℕ → ℕ
right w = w / 131072 % 64

-- The child fields.
abbrev pub children : ℕ → List ℕ
children w = by_kind [] [] [] (left w ∷ []) (left w ∷ right w ∷ []) (left w ∷ right w ∷ []) (under w ∷ []) [] w

-- The terms in use: a record's up to its term count, an equality's one.
abbrev pub used_terms : ℕ → List ℕ
used_terms w = by_kind [] (take (term_count w) (terms w)) (equal_term w ∷ []) [] [] [] [] [] w

-- The bits past the fields of each kind.
abbrev pub truth_rest : ℕ → ℕ
truth_rest w = w % 268435456

abbrev pub record_rest : ℕ → ℕ
record_rest w = w % 4

abbrev pub equality_rest : ℕ → ℕ
equality_rest w = w % 1048576

abbrev pub not_rest : ℕ → ℕ
not_rest w = w % 8388608

-- An and or an or: the bits past both children.
abbrev pub join_rest : ℕ → ℕ
join_rest w = w % 131072

abbrev pub exists_rest : ℕ → ℕ
exists_rest w = w % 524288

-- ---- the words: the node of each kind that has these fields

abbrev pub truth_word : Bool → ℕ
truth_word b = cond b 268435456 0

abbrev pub record_word : ℕ → ℕ → ℕ → ℕ → ℕ → ℕ → ℕ
record_word r n a b c d = 536870912 + r * 33554432 + n * 4194304 + (a * 131072 + b * 4096 + c * 128 + d * 4)

abbrev pub equality_word : ℕ → ℕ → ℕ
equality_word x t = 2 * 536870912 + x * 33554432 + t * 1048576

abbrev pub not_word : ℕ → ℕ
not_word l = 3 * 536870912 + l * 8388608

-- An and (kind 4) or an or (kind 5).
abbrev pub join_word : ℕ → ℕ → ℕ → ℕ
join_word k l r = k * 536870912 + l * 8388608 + r * 131072

abbrev pub exists_word : ℕ → ℕ → ℕ
exists_word x c = 6 * 536870912 + x * 33554432 + c * 524288

-- ---- the causes that name a node

abbrev pub nonzero : ℕ → Bool
nonzero n = not (eqb n 0)

-- Cause 6: kind 7, or a zero bit or unused term set.
abbrev pub malformed : ℕ → Bool
malformed w =
    by_kind
    (nonzero (truth_rest w))
    (nonzero (record_rest w) || any_of nonzero (drop (term_count w) (terms w)))
    (nonzero (equality_rest w))
    (nonzero (not_rest w))
    (nonzero (join_rest w))
    (nonzero (join_rest w))
    (nonzero (exists_rest w))
    true
    w

-- How often a number stands in a list.
abbrev pub occurrences : ℕ → List ℕ → ℕ
occurrences c [] = zero
occurrences c (x ∷ xs) = cond (eqb c x) (suc (occurrences c xs)) (occurrences c xs)

-- How often node c is a child; every child field counts.
abbrev pub uses : List ℕ → ℕ → ℕ
uses ns c = occurrences c (union_of children ns)

-- Cause 7: a child not below it, or not last and not a child exactly once.
abbrev pub misplaced : List ℕ → ℕ → Bool
misplaced ns i = any_of (leb i) (children (get_or ns i 0)) || (not (eqb (i + 1) (length ns)) && not (eqb (uses ns i) 1))

-- Cause 8: a constant (first bit 1) whose place is at or past the count.
abbrev pub is_stray : ℕ → ℕ → Bool
is_stray count t = leb 16 t && leb count (t % 16)

abbrev pub strays : ℕ → ℕ → Bool
strays count w = any_of (is_stray count) (used_terms w)

-- Cause 9: a record whose relation is absent, or whose term count is not the relation's width.
abbrev pub mismatched : List ℕ → ℕ → Bool
mismatched ws w = by_kind false (eqb (get_or ws (relation w) 0) 0 || not (eqb (term_count w) (get_or ws (relation w) 0))) false false false false false false w
