-- The loop of `verdict::report::ungenerated`: of the columns so far, those that aren't in the set.
use Rattle.std.proofs.Common.{◌≡◌, take}
use Rattle.verdict.specs.Code.Generating.{missing_from}
use Rattle.verdict.proofs.report.ungenerated.Given as goal

abbrev pub invariant-loop-x : goal.invariant-loop-x
invariant-loop-x l = l.missing ≡ missing_from l.set (take l.x-index l.x-items)
