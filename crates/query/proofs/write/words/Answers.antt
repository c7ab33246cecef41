-- `query::write::words` meets its contract.
use Rattle.std.proofs.Common.{◌+◌, ◌*◌, get_or, take, arith, sym, ap, ◌∙◌, take_all}
use Rattle.calculus.specs.Sets.{union_of}
use Rattle.query.specs.Packing.{word_bytes}
use Rattle.query.specs.Code.Writing.{overlay}
use Rattle.query.proofs.Theory.Code.Writing.Laws.{then-run, next_word, length-word-bytes}
use Rattle.query.proofs.write.words.Goals as goal

pub loop-i-preserved : goal.loop-i-preserved
loop-i-preserved c =
    let l = c.loop-i in let a = c.args in let list = a.list.now in let w = word_bytes (get_or list l.i 0) in
    c.word.ensures
    ∙ then-run a.at (union_of word_bytes (take l.i list)) w a.out.now l.out (a.at + 4 * l.i) l.invariant (ap (λ k. a.at + k) (length-word-bytes list l.i (omega arith)))
    ∙ ap (λ bs. overlay a.at bs a.out.now) (sym (next_word list l.i (omega arith)))

pub returns : goal.returns
returns c =
    let l = c.loop-i in let a = c.args in let list = a.list.now in
    l.invariant ∙ ap (λ ns. overlay a.at (union_of word_bytes ns) a.out.now) (take_all l.i list (omega arith))
