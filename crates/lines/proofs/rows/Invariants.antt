-- The loop's invariant: the lines of the rows that are left, from `end` on, make the text; they stand at the front of what is left, and there is room for them.
use Rattle.std.proofs.Common.{◌≡◌, ◌≤◌, ◌+◌, ◌*◌, ◌-◌, length}
use Rattle.calculus.specs.Sets.{union_of}
use Rattle.query.specs.Code.Writing.{wrote}
use Rattle.answer.specs.Code.Listing.{cut}
use Rattle.lines.specs.Text.{line, word_row}
use Rattle.lines.proofs.rows.Given as goal

abbrev pub invariant-loop-i : goal.invariant-loop-i
invariant-loop-i l =
    record {
      reaches : (l.n - l._i) * l.k ≤ length l.left;
      few : length l.left ≤ length l.numbers;
      room : l.end + 4 * (l.n - l._i) + 11 * ((l.n - l._i) * l.k) ≤ l.at + 4 * l.n + 11 * (l.n * l.k);
      written : wrote l.end (union_of (line word_row) (cut l.k (l.n - l._i) l.left)) l.out ≡ wrote l.at (union_of (line word_row) (cut l.k l.n l.numbers)) l.initial.out;
    }
