-- `text::line` meets its contract: the word is written, then the numbers, then the line feed, each where the one before ended.
use Rattle.std.proofs.Common.{arith, ◌≡◌, ◌∙◌, ap, ℕ, ◌+◌, ◌*◌, ◌≤◌, List, [], ◌∷◌, ◌++◌, length, append_assoc, length-append, slice_set}
use Rattle.query.specs.Code.Writing.{wrote}
use Rattle.query.proofs.Theory.Code.Writing.Laws.{wrote_then, wrote-byte, wrote-end}
use Rattle.lines.specs.Text.{spaced, line}
use Rattle.lines.proofs.Theory.Text.Laws.{length-spaced}
use Rattle.lines.proofs.text.line.Goals as goal

-- A word and numbers after it.
module _ (at middle end : ℕ) (text ns out mid now : List ℕ) (w : (middle, mid) ≡ wrote at text out) (v : (end, now) ≡ wrote middle (spaced ns) mid) where
  both : (end, now) ≡ wrote at (text ++ spaced ns) out
  both = wrote_then at middle end text (spaced ns) out mid now w v

  ends : end ≤ at + length text + 11 * length ns
  ends = omega (arith, wrote-end at end (text ++ spaced ns) out now both, length-append text (spaced ns), length-spaced ns)

  -- The line feed ends the line.
  fed : (end + 1, slice_set now end 10) ≡ wrote at (line text ns) out
  fed = wrote-byte at end (text ++ spaced ns) out now 10 both ∙ ap (λ t. wrote at t out) (append_assoc text (spaced ns) (10 ∷ []))

pub bounds-out-end : goal.bounds-out-end
bounds-out-end c =
    let a = c.args in let w = c.bytes-middle in let n = c.numbers-end in
    omega (arith, ends a.at w.result n.result a.text.now a.list.now a.out.now w.new.out n.new.out w.ensures n.ensures)

pub overflow_add-result : goal.overflow_add-result
overflow_add-result c =
    let a = c.args in let w = c.bytes-middle in let n = c.numbers-end in
    record { fits = omega (arith, ends a.at w.result n.result a.text.now a.list.now a.out.now w.new.out n.new.out w.ensures n.ensures) }

pub returns : goal.returns
returns c =
    let a = c.args in let w = c.bytes-middle in let n = c.numbers-end in
    fed a.at w.result n.result a.text.now a.list.now a.out.now w.new.out n.new.out w.ensures n.ensures
