-- What the host's entries return and write, as include/palmrummy.h has it. Numbers are written high byte first. Definitions only; the laws are in Entry/Laws.antt.
use Rattle.std.specs.Prelude.{ℕ, ◌+◌, ◌*◌, ◌/◌, ◌%◌, ◌^◌, ◌≡◌, Bool, cond, List, [], ◌∷◌, ◌++◌, length, drop}
use Rattle.calculus.specs.Sets.{union_of}
use Rattle.calculus.specs.Lists.{padded}
use Rattle.calculus.specs.Rows.{Result, endless, listed}
use Rattle.causes.specs.Causes.{Answer, Done, Refused, first_cause, number, place}
use Rattle.query.specs.declared.Query.{Query}
use Rattle.query.specs.Reading.{pool, nodes_in}
use Rattle.query.specs.Packing.{word_bytes, packed_bytes}
use Rattle.rules.specs.Reply.{Packing, packing}
use Rattle.rules.specs.Grammar.{Parse}
use Rattle.verdict.specs.Verdict.{Verdict}
use Rattle.answer.specs.Reply.{row_bytes}
use Rattle.packed.specs.Packed.{judged_of, result_in, list_checks}

-- ---- numbers returned

-- Document 01's number and place of a refusal, as one number.
abbrev pub code : Answer → ℕ
code a = 256 * number a + place a

-- A refusal of the verdict: 2^31 + 256 × number + place.
abbrev pub verdict_refusal : Answer → ℕ
verdict_refusal a = 2 ^ 31 + code a

-- An endless answer: 2^63.
abbrev pub code_endless : ℕ
code_endless = 2 ^ 63

-- A refusal of the answers: 2^63 + 256 × number + place.
abbrev pub answer_refusal : Answer → ℕ
answer_refusal a = code_endless + code a

-- ---- the verdict

abbrev pub flag : Bool → ℕ
flag b = cond b 1 0

abbrev pub short_bytes : ℕ → List ℕ
short_bytes n = n / 256 ∷ n % 256 ∷ []

abbrev pub long_bytes : ℕ → List ℕ
long_bytes n = word_bytes (n / 4294967296) ++ word_bytes (n % 4294967296)

-- The form as a packed query.
abbrev pub form_bytes : Query → List ℕ
form_bytes q = packed_bytes (pool q) (nodes_in q)

-- The bytes of a verdict: 370. Byte 0: 1 where the query is safe-range. Byte 1: the number of columns. 2 to 5: their variables. 6 to 37: the generators of
-- each column, 8 bytes. 38 and 39: the columns that aren't generated. 40 to 47: the exists nodes whose variable isn't. From 48 on the form, then zeros.
abbrev pub verdict_size : ℕ
verdict_size = 370

abbrev pub verdict_fields : Verdict → List ℕ
verdict_fields v =
    flag v.safe
    ∷ v.columns.count
    ∷ (v.columns.variables ++ (union_of long_bytes v.generators ++ (short_bytes v.ungenerated ++ long_bytes v.unranged)))

abbrev pub verdict_bytes : Verdict → List ℕ
verdict_bytes v = padded verdict_size 0 (verdict_fields v ++ form_bytes v.form)

-- What the verdict's entry returns and leaves: 0, and the bytes; or a refusal, and the lent output as it was.
abbrev pub verdict_reply : Answer → Verdict → List ℕ → ℕ × List ℕ
verdict_reply Done v out = (0, verdict_bytes v)
verdict_reply (Refused n p) v out = (verdict_refusal (Refused n p), out)

abbrev pub verdict_entry : List ℕ → List ℕ → ℕ × List ℕ
verdict_entry bs out = verdict_reply (judged_of bs).answer (judged_of bs) out

-- ---- the answers

-- The numbers that there is room for in so many bytes: 4 bytes each.
abbrev pub room_in : ℕ → ℕ
room_in n = n / 4

-- What the answers' entry returns and leaves: the number of rows, and the rows at the front of the lent output; or endless, or a refusal, and the lent output
-- as it was.
abbrev pub answer_reply : Answer → Result → List ℕ → ℕ × List ℕ
answer_reply Done endless out = (code_endless, out)
answer_reply Done (listed rows) out = (length rows, row_bytes rows ++ drop (length (row_bytes rows)) out)
answer_reply (Refused n p) found out = (answer_refusal (Refused n p), out)

abbrev pub answer_entry : List ℕ → List ℕ → ℕ × List ℕ
answer_entry bs out = answer_reply (first_cause (list_checks bs (room_in (length out)))) (result_in bs) out

-- ---- the rules

-- A refusal of a rule's text: 2^31 + 256 × number. The place is a number of its own.
abbrev pub rule_refusal : ℕ → ℕ
rule_refusal n = 2 ^ 31 + 256 * n

-- What the rules' entry returns and leaves in the lent output and the lent place: the number of bytes of the packed query, and the query with zeros past it; or a
-- refusal and its place.
abbrev pub rule_reply : Answer → Packing → List ℕ → List ℕ → ℕ × (List ℕ × List ℕ)
rule_reply Done p out place = (p.size, (p.bytes, place))
rule_reply (Refused n q) p out place = (rule_refusal n, (out, q ∷ []))

-- The entry's reply to the text bs: that of what the text is.
abbrev pub RuleEntry : List ℕ → List ℕ → List ℕ → ℕ × (List ℕ × List ℕ) → Type 0
RuleEntry bs out place r = (P : Parse bs) → r ≡ rule_reply (packing P).answer (packing P) out place
