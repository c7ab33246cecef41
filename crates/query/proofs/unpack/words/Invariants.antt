-- The loop's invariant: the first i words are read, and what lies past them is as it was.
use Rattle.std.proofs.Common.{◌≡◌, ◌+◌, ◌*◌, ◌++◌, drop}
use Rattle.calculus.specs.Lists.{tabulate}
use Rattle.query.specs.Reading.{word_at}
use Rattle.query.proofs.unpack.words.Given as goal

abbrev pub invariant-loop-i : goal.invariant-loop-i
invariant-loop-i l = l.out ≡ tabulate (λ j. word_at l.bytes (l.from + 4 * j)) l.i ++ drop l.i l.fn.out
