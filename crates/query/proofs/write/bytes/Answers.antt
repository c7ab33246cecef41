-- `query::write::bytes` meets its contract.
use Rattle.std.proofs.Common.{arith, ap, ◌+◌, length}
use Rattle.query.proofs.Theory.Code.Writing.Laws.{overlay-put}
use Rattle.query.proofs.write.bytes.Goals as goal

pub returns : goal.returns
returns c = let x = c.args in ap (λ ys. (x.at + length x.list.now, ys)) (overlay-put x.at _ x.list.now x.out.now c.copy_from_slice.new.self c.copy_from_slice.ensures.after (omega arith) (omega arith))
