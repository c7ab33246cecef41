-- The loop of `verdict::generate::generated`: the arrays hold the sets of the nodes so far, and zeros after them.
use Rattle.std.proofs.Common.{◌≡◌}
use Rattle.verdict.specs.Code.Generating.{plain_bits, denied_bits}
use Rattle.verdict.proofs.Sets.{first_sets}
use Rattle.verdict.proofs.generate.generated.Given as goal

abbrev pub invariant-loop-i : goal.invariant-loop-i
invariant-loop-i l = (l.judged.nodes.now ≡ l.fn.nodes) × (l.judged.plains ≡ first_sets (plain_bits l.fn.nodes) l.i) × (l.judged.denieds ≡ first_sets (denied_bits l.fn.nodes) l.i)
