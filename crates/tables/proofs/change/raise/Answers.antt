-- `tables::change::raise` meets its contract: a turn puts what is carried at place i, and carries on what stood there.
use Rattle.std.proofs.Common.{arith, ◌∙◌}
use Rattle.tables.specs.Store.{places_of}
use Rattle.tables.specs.Code.Change.{raised}
use Rattle.tables.proofs.Laws.{written, raise-turn, raise-end, store_is}
use Rattle.tables.proofs.change.raise.Goals as goal

pub loop-i-preserved : goal.loop-i-preserved
loop-i-preserved c =
    let l = c.loop-i in let new = c.write.new in
    let w = written l.s.relations l.s.values l.i l.carried new.relations new.values (omega arith) l.invariant.0 l.invariant.1 c.write.ensures in
    (w.relations_long, w.values_long, l.invariant.2, l.invariant.3, raise-turn l.s.relations l.s.values l.i l.carried new.relations new.values w c.read-next.result (omega arith) c.read-next.ensures ∙ l.invariant.4)

pub returns : goal.returns
returns c =
    let a = c.args in let l = c.loop-i in
    rw (l.invariant.2, l.invariant.3)
    (store_is l.s.relations l.s.values l.invariant.0 l.invariant.1 _ _ (raised (places_of a.s.now) a.k a.r)
    (raise-end l.s.relations l.s.values l.i l.carried (places_of a.s.now) a.k a.r (omega arith) l.invariant.4))
