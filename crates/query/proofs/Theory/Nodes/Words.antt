-- The words of nodes read back field by field, and a node's word from its fields. Nodes.antt and this file alone know at which bits a field stands.
use Rattle.std.specs.Prelude.{ℕ, zero, suc, ◌+◌, ◌*◌, ◌/◌, ◌%◌, ◌<◌, ◌≡◌, refl, [], ◌∷◌, get_or, eqb}
use Rattle.std.proofs.Math.Decide.{dec_lt}
use Rattle.std.proofs.Common.{arith}
use Rattle.std.proofs.Math.Path.{subst⁻¹}
use Rattle.query.specs.Nodes.{kind, truth_bit, relation, term_count, terms, variable, equal_term, left, right, under, truth_rest, record_rest, equality_rest, not_rest, join_rest, exists_rest, truth_word, record_word, equality_word, not_word, join_word, exists_word}
use Rattle.query.specs.Reading.{max_nodes}

-- ---- words read back

pub equality-reads : (x t : ℕ) → x < 16 → t < 32 → let w = equality_word x t in (kind w ≡ 2) × (variable w ≡ x) × (equal_term w ≡ t) × (equality_rest w ≡ 0)
equality-reads x t h l = (omega arith, omega arith, omega arith, omega arith)

pub not-reads : (l : ℕ) → l < max_nodes → let w = not_word l in (kind w ≡ 3) × (left w ≡ l) × (not_rest w ≡ 0)
not-reads l h = (omega arith, omega arith, omega arith)

pub join-reads : (k l r : ℕ) → l < max_nodes → r < max_nodes → let w = join_word k l r in (kind w ≡ k) × (left w ≡ l) × (right w ≡ r) × (join_rest w ≡ 0)
join-reads k l r h m = (omega arith, omega arith, omega arith, omega arith)

pub exists-reads : (x l : ℕ) → x < 16 → l < max_nodes → let w = exists_word x l in (kind w ≡ 6) × (variable w ≡ x) × (under w ≡ l) × (exists_rest w ≡ 0)
exists-reads x l h m = (omega arith, omega arith, omega arith, omega arith)

record-terms : (r n a b c d : ℕ) → a < 32 → b < 32 → c < 32 → d < 32 → terms (record_word r n a b c d) ≡ a ∷ b ∷ c ∷ d ∷ []
record-terms r n a b c d ha hb hc hd = λ i. ea i ∷ eb i ∷ ec i ∷ ed i ∷ []
  where
    w : ℕ
    w = record_word r n a b c d

    ea : w / 131072 % 32 ≡ a
    ea = omega arith

    eb : w / 4096 % 32 ≡ b
    eb = omega arith

    ec : w / 128 % 32 ≡ c
    ec = omega arith

    ed : w / 4 % 32 ≡ d
    ed = omega arith

pub record-reads : (r n a b c d : ℕ) → r < 16 → n < 8 → a < 32 → b < 32 → c < 32 → d < 32 → let w = record_word r n a b c d in (kind w ≡ 1) × (relation w ≡ r) × (term_count w ≡ n) × (terms w ≡ a ∷ b ∷ c ∷ d ∷ []) × (record_rest w ≡ 0)
record-reads r n a b c d hr hn ha hb hc hd = (omega arith, omega arith, omega arith, record-terms r n a b c d ha hb hc hd, omega arith)

-- ---- a node's word from its fields

pub truth_of-fields : (w : ℕ) → kind w ≡ 0 → truth_rest w ≡ 0 → w ≡ truth_word (eqb (truth_bit w) 1)
truth_of-fields w e z = go (dec_lt w 268435456)
  where
    go : Dec (w < 268435456) → w ≡ truth_word (eqb (truth_bit w) 1)
    go (yes l) = let d : w ≡ 0 = omega arith in subst⁻¹ (λ u. u ≡ truth_word (eqb (truth_bit u) 1)) d refl
    go (no l) = let d : w ≡ 268435456 = omega arith in subst⁻¹ (λ u. u ≡ truth_word (eqb (truth_bit u) 1)) d refl

-- The term at a place of a record.
abbrev pub term_at : ℕ → ℕ → ℕ
term_at w i = get_or (terms w) i 0

-- A record's word; q1 to q6 are what stands before each field.
fields-joined : (w q1 q2 q3 q4 q5 q6 r n a b c d : ℕ) → w ≡ q1 * 4 → q1 ≡ q2 * 32 + d → q2 ≡ q3 * 32 + c → q3 ≡ q4 * 32 + b → q4 ≡ q5 * 32 + a → q5 ≡ q6 * 8 + n → q6 ≡ 16 + r
    → w ≡ record_word r n a b c d
fields-joined w q1 q2 q3 q4 q5 q6 r n a b c d e1 e2 e3 e4 e5 e6 e7 = omega arith

pub record-of-fields : (w : ℕ) → kind w ≡ 1 → record_rest w ≡ 0 → w ≡ record_word (relation w) (term_count w) (term_at w 0) (term_at w 1) (term_at w 2) (term_at w 3)
record-of-fields w e z =
    fields-joined w (w / 4) (w / 128) (w / 4096) (w / 131072) (w / 4194304) (w / 33554432) (relation w) (term_count w) (w / 131072 % 32) (w / 4096 % 32) (w / 128 % 32) (w / 4 % 32)
    (omega arith) (omega arith) (omega arith) (omega arith) (omega arith) (omega arith) (omega arith)

pub equality-of-fields : (w : ℕ) → kind w ≡ 2 → equality_rest w ≡ 0 → w ≡ equality_word (variable w) (equal_term w)
equality-of-fields w e z = omega arith

pub not-of-fields : (w : ℕ) → kind w ≡ 3 → not_rest w ≡ 0 → w ≡ not_word (left w)
not-of-fields w e z = omega arith

pub join-of-fields : (w : ℕ) → join_rest w ≡ 0 → w ≡ join_word (kind w) (left w) (right w)
join-of-fields w z = omega arith

pub exists-of-fields : (w : ℕ) → kind w ≡ 6 → exists_rest w ≡ 0 → w ≡ exists_word (variable w) (under w)
exists-of-fields w e z = omega arith

-- A variable has 4 bits, a term 5.
pub variable-small : (w : ℕ) → variable w < 16
variable-small w = omega arith

pub equal_term-small : (w : ℕ) → equal_term w < 32
equal_term-small w = omega arith

pub term_at-small : (w j : ℕ) → term_at w j < 32
term_at-small w zero = omega arith
term_at-small w (suc zero) = omega arith
term_at-small w (suc (suc zero)) = omega arith
term_at-small w (suc (suc (suc zero))) = omega arith
term_at-small w (suc (suc (suc (suc j)))) = omega arith
