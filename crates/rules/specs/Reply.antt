-- The replies of the calls over rule text: document 02, Point 1. Definitions only; the laws are in Reply/Laws.antt.
use Rattle.std.specs.Prelude.{ℕ, ◌≡◌, ◌↔◌, cond, List, [], length, take, T, Result, Ok, Err}
use Rattle.calculus.specs.Lists.{padded}
use Rattle.calculus.specs.Satisfaction.{Database}
use Rattle.calculus.specs.Generators.{columns}
use Rattle.calculus.specs.Rows.{Row, RowSat}
use Rattle.causes.specs.Causes.{Done, Refused, widths_fit, Answer, refusal_of}
use Rattle.query.specs.Reading.{Reading, query_of, columns_of, read_of, refusal, pool, formula}
use Rattle.query.specs.Packing.{words, pack}
use Rattle.rules.specs.Grammar.{Rule, Parse, parsed, outside}
use Rattle.rules.specs.Meaning.{head, goals, RuleRow, pool_of, formula_of, overstepped, Allowed}
use Rattle.causes.specs.declared.Refusal.{Refusal}
use Rattle.query.specs.declared.Query.{Query}
use Rattle.rules.specs.declared.Packing.{Packing as Packed}

-- The bytes of the longest packed query: 2, 16 constants and 64 nodes of 4.
abbrev pub max_bytes : ℕ
max_bytes = 322

-- The packed query of a rule.
abbrev pub bytes_of : Rule → List ℕ
bytes_of R = pack (pool_of (goals R)) (formula_of R)

-- What packing a rule answers: the query, and its packed bytes, with zeros in the places past their number.
pub record Packing : Type 0 where
  pub answer : Answer
  pub query : Query
  pub bytes : List ℕ
  pub size : ℕ

-- A refusal comes with nothing.
abbrev pub refused : ℕ → Packing
refused place = record { answer = Refused 20 place; query = query_of [] []; bytes = padded max_bytes 0 []; size = 0 }

abbrev pub packed : Rule → Packing
packed R =
    record {
      answer = Done;
      query = query_of (pool_of (goals R)) (words (formula_of R) 0);
      bytes = padded max_bytes 0 (bytes_of R);
      size = length (bytes_of R);
    }

-- What packing comes to by what the code hands back (here `Packed`).
abbrev pub packing_in : Result Packed Refusal → Packing
packing_in (Ok p) = record { answer = Done; query = p.query; bytes = p.bytes; size = p.size }
packing_in (Err r) = record { answer = refusal_of r; query = query_of [] []; bytes = padded max_bytes 0 []; size = 0 }

-- The reply to the text of a rule, of this length.
abbrev pub rule_packing : Rule → ℕ → Packing
rule_packing R n = cond (overstepped R) (refused n) (packed R)

-- What `pack` hands back for a text.
abbrev pub packing : {bs : List ℕ} → Parse bs → Packing
packing {bs} (parsed R e) = rule_packing R (length bs)
packing (outside place n l) = refused place

-- What `read` hands back for a text: what reading the packed query gives for relations of the widths ws, once 20 is judged.
abbrev pub reading : List ℕ → {bs : List ℕ} → Parse bs → Reading
reading ws {bs} (parsed R e) = cond (overstepped R) (refusal 20 (length bs)) (read_of ws (bytes_of R))
reading ws (outside place n l) = refusal 20 place

-- The replies to the text bs: for what it is, the reply of that. Each text is a rule's or outside the grammar (`parse`), and in one way only (`IsWritten-one`,
-- `leaves-one`), so this says the whole reply (`reply-one`).
abbrev pub PackReply : List ℕ → Packing → Type 0
PackReply bs r = (P : Parse bs) → r ≡ packing P

abbrev pub ReadReply : List ℕ → List ℕ → Reading → Type 0
ReadReply ws bs r = (P : Parse bs) → r ≡ reading ws P

-- ---- what a packed rule means

-- The reply r, which is no refusal, to the text of the rule R. Its query stands for the rule's formula over the rule's constants; its columns are the head's
-- variables; its rows are the rule's, over every database; and reading its bytes accepts that query wherever the widths allow the rule's relations.
pub record Means (R : Rule) (r : Packing) : Type 0 where
  pub constants_are : pool r.query ≡ pool_of (goals R)
  pub formula_is : formula r.query ≡ formula_of R
  pub columns_are : columns (formula r.query) ≡ head R
  pub rows_are : (D : Database) (w : Row) → RowSat (pool r.query) D (formula r.query) (head R) w ↔ RuleRow D R w
  pub reads_as : (ws : List ℕ) → T (widths_fit ws) → Allowed ws R → read_of ws (take r.size r.bytes) ≡ record { answer = Done; query = r.query; columns = columns_of (head R) }
