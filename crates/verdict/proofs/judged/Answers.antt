-- `verdict::judged` meets its contract: the form, the sets of its nodes and the reports are found one after the other, and `assembled` puts them together.
use Prim.Native.Nat.{ℕ, ◌-◌, ◌≤◌, ◌<◌}
use native.Mathlib.Omega.{arith}
use borrow.Author.Tests.{eq-eqb, ne_eqb}
use mathlib.Core.Path.{◌≡◌, ap, subst, subst⁻¹, ◌∙◌}
use mathlib.Core.Bool.{Bool, true, false, ◌&&◌}
use mathlib.Core.List.{List}
use lib.ListN.{length, get_or, take}
use lib.Dec.{eqb}
use Rattle.calculus.specs.Sets.{In}
use Rattle.calculus.specs.Generators.{columns}
use Rattle.query.specs.declared.Query.{Query}
use Rattle.query.specs.declared.Columns.{Columns}
use Rattle.query.specs.Reading.{max_columns, formula, columns_of, variables_in}
use Rattle.verdict.specs.Form.{form_of}
use Rattle.verdict.specs.Code.Form.{IsAccepted, IsFormIn}
use Rattle.verdict.specs.declared.generate.Judged.{Judged}
use Rattle.verdict.proofs.Theory.Form.Laws.{form_is, form_in}
use Rattle.verdict.proofs.Fronts.{front-length, front-form, front-plain, front-numbers, front-unranged}
use Rattle.verdict.specs.Code.Generating.{IsJudged, plain_bits, missing_from, numbers_of, unranged_in}
use Rattle.verdict.proofs.Theory.Code.Generating.Sources.{plains_at}
use Rattle.verdict.specs.Verdict.{judged}
use Rattle.verdict.proofs.Theory.Verdict.Laws.{column-small, variables-read, reply, assembled}
use Rattle.verdict.proofs.judged.Goals as goal

-- What an and of two tests is, where the first is settled.
settled-true : (a b : Bool) → a ≡ true → b ≡ (a && b)
settled-true a b e = rw e

settled-false : (a b : Bool) → a ≡ false → a ≡ (a && b)
settled-false a b e = rw e

-- The query is accepted, and its columns are given.
module _ (q : Query) (cs : Columns) (a : IsAccepted q) (right : cs ≡ columns_of (columns (formula q))) where
  given-variables : variables_in cs ≡ columns (formula q)
  given-variables = ap variables_in right ∙ variables-read a.0 q a.1

  few_columns : cs.count ≤ max_columns
  few_columns = subst⁻¹ (λ n. n ≤ max_columns) (ap (λ (v : Columns). v.count) right) a.1.packable.few_columns

  small-columns : (x : ℕ) → In x (variables_in cs) → x < 16
  small-columns x i = column-small q x (subst (In x) given-variables i)

-- Its form is made.
is-form : (q f : Query) → IsAccepted q → f ≡ form_of q → IsFormIn f.nodes f.node_count
is-form q f a e = subst⁻¹ (λ g. IsFormIn g.nodes g.node_count) e (form_in (form_is a.0 q a.1))

-- All is found.
module _ (q : Query) (cs : Columns) (a : IsAccepted q) (right : cs ≡ columns_of (columns (formula q))) (f : Query) (ef : f ≡ form_of q) (s : Judged) (nodes_are : s.nodes.now ≡ take f.node_count f.nodes) (j : IsJudged s) where
  abbrev ns : List ℕ
  ns = s.nodes.now

  root-set : get_or s.plains (f.node_count - 1) 0 ≡ plain_bits f.nodes (f.node_count - 1)
  root-set =
      let k = is-form q f a ef in let h : f.node_count - 1 < f.node_count = omega (arith, k.some_node) in
      let l : f.node_count - 1 < length ns = omega (arith, h, ap length nodes_are, front-length f.nodes f.node_count k) in
      ap (λ ms. get_or ms (f.node_count - 1) 0) j.plains_are
      ∙ plains_at ns (length ns) (f.node_count - 1) l
      ∙ ap (λ ms. plain_bits ms (f.node_count - 1)) nodes_are
      ∙ front-plain f.nodes f.node_count k (f.node_count - 1) h

  finished : (gs : List ℕ) → gs ≡ numbers_of ns (length ns) (variables_in cs) → (u : ℕ) → u ≡ missing_from (get_or s.plains (f.node_count - 1) 0) (variables_in cs) → (w : ℕ) → w ≡ unranged_in ns (length ns)
      → (b : Bool) → b ≡ (eqb u 0 && eqb w 0) → reply f cs gs u w b ≡ judged q
  finished gs eg u eu w ew b eb =
      let k = is-form q f a ef in
      assembled a.0 q a.1 f cs gs u w b ef right
      (eg ∙ ap (λ ms. numbers_of ms (length ms) (variables_in cs)) nodes_are ∙ front-numbers f.nodes f.node_count k (variables_in cs))
      (eu ∙ ap (λ m. missing_from m (variables_in cs)) root-set)
      (ew ∙ ap (λ ms. unranged_in ms (length ms)) nodes_are ∙ front-unranged f.nodes f.node_count k)
      eb

pub generated-judged-requires : goal.generated-judged-requires
generated-judged-requires c = let f = c.form_of-form in front-form f.result.nodes f.result.node_count (is-form c.args.read f.result c.requires.0 f.ensures)

pub generators-generators-requires-clause-count_le_max_columns : goal.generators-generators-requires-clause-count_le_max_columns
generators-generators-requires-clause-count_le_max_columns c =
    let q = c.args.read in let cs = c.args.columns in
    (few_columns q cs c.requires.0 c.requires.1, small-columns q cs c.requires.0 c.requires.1)

pub returns-then-ungenerated-eq0 : goal.returns-then-ungenerated-eq0
returns-then-ungenerated-eq0 c =
    let u = c.ungenerated-ungenerated in let w = c.unranged-unranged in let j = c.generated-judged in
    finished c.args.read c.args.columns c.requires.0 c.requires.1 c.form_of-form.result c.form_of-form.ensures j.result j.ensures.0 j.ensures.1
    c.generators-generators.result c.generators-generators.ensures u.result u.ensures w.result w.ensures (eqb w.result 0) (settled-true (eqb u.result 0) (eqb w.result 0) (eq-eqb u.result 0 c.if-ungenerated-eq0.true))

pub returns-else-ungenerated-eq0 : goal.returns-else-ungenerated-eq0
returns-else-ungenerated-eq0 c =
    let u = c.ungenerated-ungenerated in let w = c.unranged-unranged in let j = c.generated-judged in
    finished c.args.read c.args.columns c.requires.0 c.requires.1 c.form_of-form.result c.form_of-form.ensures j.result j.ensures.0 j.ensures.1
    c.generators-generators.result c.generators-generators.ensures u.result u.ensures w.result w.ensures (eqb u.result 0) (settled-false (eqb u.result 0) (eqb w.result 0) (ne_eqb u.result 0 c.if-ungenerated-eq0.false))
