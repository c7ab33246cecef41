-- The loop's invariant: the bytes before the generators and those of the first i generators are written over zeros.
use Rattle.std.proofs.Common.{◌≡◌}
use Rattle.query.specs.Code.Writing.{overlay}
use Rattle.verdict.specs.Verdict.{verdict_in}
use Rattle.host.proofs.Writing.{zeros, generated}
use Rattle.host.proofs.written.Given as goal

abbrev pub invariant-loop-i : goal.invariant-loop-i
invariant-loop-i l = l.reply ≡ overlay 0 (generated (verdict_in l.fn.v) l.i) zeros
