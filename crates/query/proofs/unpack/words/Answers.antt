-- `query::unpack::words` meets its contract.
use Rattle.std.proofs.Common.{ℕ, ◌≡◌, ◌+◌, ◌*◌, ◌++◌, arith, ap, ◌∙◌, append-nil, drop, length, set, List}
use Rattle.std.proofs.Math.Seq.{drop-length}
use Rattle.calculus.specs.Lists.{tabulate}
use Rattle.calculus.proofs.Theory.Lists.Laws.{tabulate-fill}
use Rattle.query.specs.Reading.{word_at}
use Rattle.query.proofs.unpack.words.Goals as goal

-- The words of the first places, and what stood in the others.
abbrev read_up : List ℕ → ℕ → ℕ → List ℕ → List ℕ
read_up bytes from i old = tabulate (λ j. word_at bytes (from + 4 * j)) i ++ drop i old

pub loop-i-preserved : goal.loop-i-preserved
loop-i-preserved c =
    let l = c.loop-i in let a = c.args in
    (λ i. set (l.invariant i) l.i (c.word.ensures i)) ∙ tabulate-fill (λ j. word_at a.bytes.now (a.from + 4 * j)) a.out.now l.i 0 (omega arith)

pub returns : goal.returns
returns c =
    let l = c.loop-i in let a = c.args in let e : l.i ≡ length a.out.now = omega arith in let words = tabulate (λ j. word_at a.bytes.now (a.from + 4 * j)) (length a.out.now) in
    l.invariant ∙ ap (λ k. read_up a.bytes.now a.from k a.out.now) e ∙ ap (λ r. words ++ r) (drop-length a.out.now) ∙ append-nil words
