-- The measure is the number of digits that there may be.
use Rattle.query.proofs.write.+digits.Given as goal

abbrev pub decreases-digits : goal.decreases-digits
decreases-digits l = l.k
