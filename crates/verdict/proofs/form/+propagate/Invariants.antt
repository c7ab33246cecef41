-- The measure of `verdict::form::propagate`: the node's number, since a child's number is below.
use Rattle.verdict.proofs.form.+propagate.Given as goal

abbrev pub decreases-propagate : goal.decreases-propagate
decreases-propagate l = l.i
