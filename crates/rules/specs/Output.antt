-- What the program `rule` prints: document 02, Point 1. Bytes are ASCII. Definitions only; the laws are in Output/Laws.antt.
use Rattle.std.specs.Prelude.{ℕ, ◌≡◌, List, [], ◌∷◌, ◌++◌, length, take, drop}
use Rattle.calculus.specs.Decimal.{numeral}
use Rattle.causes.specs.Causes.{Answer, Done, Refused}
use Rattle.rules.specs.Reply.{Packing, packing}
use Rattle.rules.specs.Grammar.{Parse}

-- refused
abbrev pub word_refused : List ℕ
word_refused = 114 ∷ 101 ∷ 102 ∷ 117 ∷ 115 ∷ 101 ∷ 100 ∷ []

-- The line of a refusal: the word, the cause's number and the place, a single space before each number, and one line feed.
abbrev pub refusal_line : ℕ → ℕ → List ℕ
refusal_line n p = word_refused ++ (32 ∷ (numeral n ++ (32 ∷ (numeral p ++ (10 ∷ [])))))

-- The packed query's bytes as they are, or the line of the refusal.
abbrev pub output : Answer → List ℕ → List ℕ
output Done bytes = bytes
output (Refused n p) bytes = refusal_line n p

-- The whole output for a text that is packed as r.
abbrev pub rule_output : Packing → List ℕ
rule_output r = output r.answer (take r.size r.bytes)

-- What `print` hands back and leaves: the length of the output, and the buffer with it at the front.
abbrev pub printed : Packing → List ℕ → ℕ × List ℕ
printed r out = (length (rule_output r), rule_output r ++ drop (length (rule_output r)) out)

-- The reply to the text bs, with the buffer before and after.
abbrev pub PrintReply : List ℕ → List ℕ → ℕ → List ℕ → Type 0
PrintReply bs before r after = (P : Parse bs) → (r, after) ≡ printed (packing P) before
