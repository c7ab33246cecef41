-- Laws of records: the tests for equality and order, and that records which fit the widths are settled by their facts.
use Rattle.std.specs.Prelude.{ℕ, ◌-◌, ◌≡◌, ◌&&◌, List, ◌∷◌, get_or, take, drop, replicate, T, eqb, ltb}
use Rattle.std.proofs.Common.{sym, ap, ◌∙◌, take-append-drop, length-drop}
use Rattle.calculus.specs.Sets.{all_of}
use Rattle.calculus.proofs.Theory.Sets.Laws.{reflects-same_list}
use Rattle.calculus.proofs.Theory.Lists.Laws.{reflects-replicate}
use Rattle.calculus.specs.Order.{StrictOrder}
use Rattle.calculus.proofs.Theory.Order.Laws.{lexicographic-order}
use Rattle.calculus.specs.Reflects.{Reflects}
use Rattle.calculus.proofs.Theory.Reflects.Laws.{reflected, reflects-T, reflects-map, reflects-and, reflects-eqb}
use Rattle.tables.specs.declared.Record.{Record}
use Rattle.tables.specs.Records.{values_of, numbers_of, record_below, same_record, width, fits, fact_of}

-- ---- equality

pub numbers-injective : (r s : Record) → numbers_of r ≡ numbers_of s → r ≡ s
numbers-injective r s e = λ i. record { relation = at 0 i; first = at 1 i; second = at 2 i; third = at 3 i; fourth = at 4 i }
  where
    at : (k : ℕ) → get_or (numbers_of r) k 0 ≡ get_or (numbers_of s) k 0
    at k = ap (λ ns. get_or ns k 0) e

pub reflects-same_record : (r s : Record) → Reflects (r ≡ s) (same_record r s)
reflects-same_record r s = reflects-map (numbers-injective r s) (ap numbers_of) (reflects-same_list (numbers_of r) (numbers_of s))

-- ---- order

pub record-order : StrictOrder record_below
record-order =
    record {
      irreflexive = λ r. lexicographic-order.irreflexive (numbers_of r);
      transitive = λ r s t. lexicographic-order.transitive (numbers_of r) (numbers_of s) (numbers_of t);
      total = λ r s f g. numbers-injective r s (lexicographic-order.total (numbers_of r) (numbers_of s) f g);
    }

-- ---- facts

-- The values past the width are zeros.
past-width : (ws : List ℕ) (r : Record) → T (fits ws r) → drop (width ws r) (values_of r) ≡ replicate (4 - width ws r) 0
past-width ws r t = reflected (reflects-replicate (eqb 0) 0 (λ n. reflects-map sym sym (reflects-eqb 0 n)) past) zeros ∙ ap (λ n. replicate n 0) (length-drop (width ws r) (values_of r))
  where
    past : List ℕ
    past = drop (width ws r) (values_of r)

    zeros : T (all_of (eqb 0) past)
    zeros = (reflected (reflects-and (reflects-T (ltb r.relation 16 && ltb 0 (width ws r))) (reflects-T (all_of (eqb 0) past))) t).1

pub fact-injective : (ws : List ℕ) (r s : Record) → T (fits ws r) → T (fits ws s) → fact_of ws r ≡ fact_of ws s → r ≡ s
fact-injective ws r s f g e = numbers-injective r s (λ i. relations i ∷ values i)
  where
    relations : r.relation ≡ s.relation
    relations = cc

    widths : width ws r ≡ width ws s
    widths = ap (λ n. get_or ws n 0) relations

    halves : (m n : ℕ) (us vs : List ℕ) → m ≡ n → take m us ≡ take n vs → drop m us ≡ drop n vs → us ≡ vs
    halves m n us vs w p q = let a = take-append-drop m us in let b = take-append-drop n vs in cc

    values : values_of r ≡ values_of s
    values = halves (width ws r) (width ws s) (values_of r) (values_of s) widths (cc) (past-width ws r f ∙ ap (λ n. replicate (4 - n) 0) widths ∙ sym (past-width ws s g))
