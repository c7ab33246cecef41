-- The loop's invariant: the uses by the first nodes are counted.
use Rattle.std.proofs.Common.{◌≡◌, take}
use Rattle.calculus.specs.Lists.{tabulate}
use Rattle.query.specs.Nodes.{uses}
use Rattle.query.specs.Reading.{max_nodes}
use Rattle.query.proofs.judge.count_uses.Given as goal

abbrev pub invariant-loop-w : goal.invariant-loop-w
invariant-loop-w l = l.counts ≡ tabulate (uses (take l.w-index l.nodes)) max_nodes
