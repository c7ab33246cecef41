-- `standing::layout::suits` meets its contract: with the query's columns and at most `max_rows` rows, the tests of the layout are left.
use Rattle.std.specs.Prelude.{◌≡◌, length}
use Rattle.std.proofs.Common.{rules, sym, ◌∙◌, inl, inr}
use Rattle.standing.proofs.Theory.View.Layout.{suits-other, suits-many, suits-tests}
use Rattle.standing.proofs.layout.suits.Goals as goal

pub returns-then-ne : goal.returns-then-ne
returns-then-ne c =
    let v = c.args.view in let cols = c.args.columns in
    let places : length v.columns.variables ≡ 4 = search rules in
    elim c.then-ne.either [
      | inl h ↦ suits-other v cols c.requires places (λ (e : v.columns ≡ cols). search rules)
      | inr h ↦ let same : v.columns ≡ cols = search rules in suits-many v cols c.requires same h.1
    ]

pub returns : goal.returns
returns c =
    let v = c.args.view in let cols = c.args.columns in
    let same : v.columns ≡ cols = search rules in
    c.in_order.ensures ∙ sym (suits-tests v cols c.requires same c.if-view-gt-ROWS.false)
