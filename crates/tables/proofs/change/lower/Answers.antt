-- `tables::change::lower` meets its contract: a turn puts the next record at place i.
use Rattle.std.proofs.Common.{arith, ◌∙◌}
use Rattle.tables.specs.Records.{blank}
use Rattle.tables.specs.Store.{places_of}
use Rattle.tables.specs.Code.Change.{lowered}
use Rattle.tables.proofs.Laws.{written, lower-turn, lower-end, store_is}
use Rattle.tables.proofs.change.lower.Goals as goal

pub loop-i-preserved : goal.loop-i-preserved
loop-i-preserved c =
    let l = c.loop-i in let new = c.write.new in
    let w = written l.s.relations l.s.values l.i c.read-next.result new.relations new.values (omega arith) l.invariant.0 l.invariant.1 c.write.ensures in
    (w.relations_long, w.values_long, l.invariant.2, l.invariant.3, lower-turn l.s.relations l.s.values l.i c.read-next.result new.relations new.values w (omega arith) c.read-next.ensures ∙ l.invariant.4)

pub returns : goal.returns
returns c =
    let a = c.args in let l = c.loop-i in let new = c.write-2.new in
    let w = written l.s.relations l.s.values 255 blank new.relations new.values (omega arith) l.invariant.0 l.invariant.1 c.write-2.ensures in
    rw (l.invariant.2, l.invariant.3)
    (store_is new.relations new.values w.relations_long w.values_long _ _ (lowered (places_of a.s) a.k)
    (lower-end l.s.relations l.s.values new.relations new.values w l.i (places_of a.s) a.k (omega arith) l.invariant.4))
