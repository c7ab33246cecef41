-- `rows` meets its contract: a turn writes the line of the row in front, and leaves the rest.
use Rattle.std.proofs.Common.{arith, ◌≡◌, ◌∙◌, sym, ap, refl, ℕ, suc, ◌+◌, ◌*◌, ◌-◌, ◌<◌, List, length, take, drop, suc-mul, length-take-le}
use Rattle.std.proofs.Math.ListN.{length-drop}
use Rattle.calculus.specs.Sets.{union_of}
use Rattle.query.specs.Code.Writing.{wrote, overlay}
use Rattle.query.proofs.Theory.Code.Writing.Laws.{wrote_then, wrote-end}
use Rattle.answer.specs.Code.Listing.{cut}
use Rattle.lines.specs.Text.{line, word_row}
use Rattle.lines.proofs.Theory.Text.Laws.{length-line}
use Rattle.lines.proofs.rows.Goals as goal

-- The lines of the first m rows.
abbrev lines : ℕ → ℕ → List ℕ → List ℕ
lines k m xs = union_of (line word_row) (cut k m xs)

-- One row less is left.
module _ (k n i : ℕ) (h : i < n) where
  turn : n - i ≡ suc (n - (i + 1))
  turn = omega arith

  row-end : (n - i) * k ≡ (n - (i + 1)) * k + k
  row-end = ap (λ m. m * k) turn ∙ omega (arith, suc-mul (n - (i + 1)) k)

  -- Its line, and those after it.
  next : (end r : ℕ) (left out after : List ℕ) → (r, after) ≡ wrote end (line word_row (take k left)) out → wrote r (lines k (n - (i + 1)) (drop k left)) after ≡ wrote end (lines k (n - i) left) out
  next end r left out after e =
      let u = lines k (n - (i + 1)) (drop k left) in
      wrote_then end r (r + length u) (line word_row (take k left)) u out after (overlay r u after) e refl ∙ sym (ap (λ m. wrote end (lines k m left) out) turn)

pub loop-i-preserved : goal.loop-i-preserved
loop-i-preserved c =
    let l = c.loop-i in let a = c.args in let split = c.split_at in let s = split.ensures in
    let b = row-end a.k a.n l._i c.loop-i-test.true in
    let e = c.line-end.ensures ∙ ap (λ row. wrote l.end (line word_row row) l.out) s.front in
    let row = length-take-le a.k l.left.now (omega (arith, b, l.invariant.reaches)) in
    record {
      reaches = omega (arith, b, l.invariant.reaches, ap length s.back, length-drop a.k l.left.now);
      few = omega (arith, l.invariant.few, ap length s.back, length-drop a.k l.left.now);
      room = omega (arith, b, l.invariant.room, row, wrote-end l.end c.line-end.result (line word_row (take a.k l.left.now)) l.out c.line-end.new.out e, length-line word_row (take a.k l.left.now));
      written = ap (λ rest. wrote c.line-end.result (lines a.k (a.n - (l._i + 1)) rest) c.line-end.new.out) s.back ∙ next a.k a.n l._i c.loop-i-test.true l.end c.line-end.result l.left.now l.out c.line-end.new.out e ∙ l.invariant.written;
    }
