-- `verdict::report::generators` meets its contract: one column more has its number.
use Prim.Native.Nat.{ℕ, ◌-◌, ◌<◌}
use native.Mathlib.Omega.{arith}
use mathlib.Core.Path.{ap, subst, ◌∙◌}
use mathlib.Core.List.{List, map}
use lib.ListN.{length, get_or, take, length-take}
use lib.Seq.{take_all}
use Rattle.calculus.specs.Lists.{padded}
use Rattle.calculus.specs.Sets.{In}
use Rattle.calculus.proofs.Theory.Lists.Laws.{in_take}
use Rattle.verdict.specs.Code.Generating.{plain_nodes}
use Rattle.verdict.proofs.Theory.Code.Generating.Reports.{numbers_more, numbers-all}
use Rattle.verdict.proofs.report.generators.Goals as goal

in-list : (d : ℕ) (xs : List ℕ) (i : ℕ) → i < length xs → In (get_or xs i d) xs
in-list d xs i h = subst (In (get_or xs i d)) (take_all (length xs) xs (omega arith)) (in_take d xs (length xs) i h h)

pub plain-requires : goal.plain-requires
plain-requires c =
    let xs = take c.args.columns.count c.args.columns.variables in let r = c.requires in
    (r.form, omega (arith, r.form.form.some_node), rw c.from.ensures (r.count_le_max_columns.1 (get_or xs c.loop-c.c 0) (in-list 0 xs c.loop-c.c c.loop-c-test.true)))

pub loop-c-preserved : goal.loop-c-preserved
loop-c-preserved c =
    let ns = c.args.judged.now.nodes.now in let f = plain_nodes ns (length ns - 1) in let xs = take c.args.columns.count c.args.columns.variables in
    numbers_more (λ j. f (get_or xs j 0)) 4 c.loop-c.c c.plain.result c.loop-c.numbers (omega (arith, length-take c.args.columns.count c.args.columns.variables, c.requires.count_le_max_columns.0)) c.loop-c.invariant (c.plain.ensures ∙ ap f c.from.ensures)

pub returns : goal.returns
returns c =
    let ns = c.args.judged.now.nodes.now in let f = plain_nodes ns (length ns - 1) in let xs = take c.args.columns.count c.args.columns.variables in
    c.loop-c.invariant ∙ numbers-all f xs 4 c.loop-c.c c.loop-c.auto.c-end ∙ ap (λ ys. padded 4 0 (map f ys)) (take_all c.loop-c.c xs c.loop-c-test.false)
