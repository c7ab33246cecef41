-- The measure of the calls between `plain` and `denied`: the node's number, since every call goes to a child, whose number is below.
use Rattle.verdict.proofs.source.+denied_plain.Given as goal

abbrev pub decreases-denied : goal.decreases-denied
decreases-denied l = l.i

abbrev pub decreases-plain : goal.decreases-plain
decreases-plain l = l.i
