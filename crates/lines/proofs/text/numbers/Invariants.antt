-- The loop's invariant: the first numbers are written, from `at` up to `end`.
use Rattle.std.proofs.Common.{◌≡◌, take}
use Rattle.query.specs.Code.Writing.{wrote}
use Rattle.lines.specs.Text.{spaced}
use Rattle.lines.proofs.text.numbers.Given as goal

abbrev pub invariant-loop-n : goal.invariant-loop-n
invariant-loop-n l = (l.end, l.out) ≡ wrote l.fn.at (spaced (take l.n-index l.list)) l.initial.out
