-- The loop of `verdict::report::generators`: the numbers of the columns so far, and zeros past them.
use Rattle.std.proofs.Common.{◌≡◌, ◌++◌, ◌-◌, length, get_or, drop}
use lib.ListN.{replicate}
use Rattle.calculus.specs.Lists.{tabulate}
use Rattle.verdict.specs.Code.Generating.{plain_nodes}
use Rattle.verdict.proofs.report.generators.Given as goal

abbrev pub invariant-loop-c : goal.invariant-loop-c
invariant-loop-c l = l.numbers ≡ tabulate (λ j. plain_nodes l.judged.nodes.now (length l.judged.nodes.now - 1) (get_or l.x-items j 0)) l.c ++ drop l.c (replicate 4 0)
