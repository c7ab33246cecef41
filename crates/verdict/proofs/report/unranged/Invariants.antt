-- The loop of `verdict::report::unranged`: of the nodes so far, those that are an exists whose variable its child doesn't generate.
use Rattle.std.proofs.Common.{◌≡◌, ◌&&◌, ltb}
use Rattle.query.specs.Reading.{max_nodes}
use Rattle.verdict.specs.Bits.{bits}
use Rattle.verdict.specs.Code.Generating.{is_unranged}
use Rattle.verdict.proofs.report.unranged.Given as goal

abbrev pub invariant-loop-i : goal.invariant-loop-i
invariant-loop-i l = l.found ≡ bits (λ j. ltb j l.i && is_unranged l.judged.nodes.now j) max_nodes
