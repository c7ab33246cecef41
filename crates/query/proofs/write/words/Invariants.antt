-- The loop's invariant: the bytes of the first i numbers are written.
use Rattle.std.proofs.Common.{◌≡◌, take}
use Rattle.calculus.specs.Sets.{union_of}
use Rattle.query.specs.Packing.{word_bytes}
use Rattle.query.specs.Code.Writing.{overlay}
use Rattle.query.proofs.write.words.Given as goal

abbrev pub invariant-loop-i : goal.invariant-loop-i
invariant-loop-i l = l.out ≡ overlay l.at (union_of word_bytes (take l.i l.list)) l.fn.out
