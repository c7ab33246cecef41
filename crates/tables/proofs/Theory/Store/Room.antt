-- Laws of room: records that have room are no more than the places, a record that has room may join them, and any may leave. Beside these laws only
-- four know that the number of records decides it: those of the code's tests (`count-full`, `count_room` and `counted-room` in the proofs' Laws.antt), and the one
-- beside the ledger's words (`reflects-full` in standing's Ledger/Ties). `few-room` is so only while nothing else decides it.
use Rattle.std.specs.Prelude.{◌<◌, ◌≤◌, Bool, not, List, [], ◌∷◌, length, T}
use Rattle.std.proofs.Common.{arith}
use Rattle.calculus.specs.Sets.{select}
use Rattle.calculus.specs.Order.{insert}
use Rattle.calculus.proofs.Theory.Order.Laws.{select-length, length-insert-le}
use Rattle.calculus.specs.Reflects.{Reflects}
use Rattle.calculus.proofs.Theory.Reflects.Laws.{reflected, reflects, reflects-T, reflects-and, reflects-ltb}
use Rattle.tables.specs.declared.Record.{Record}
use Rattle.tables.specs.Records.{record_below, same_record}
use Rattle.tables.specs.Store.{capacity, has_room, have_room}
use Rattle.tables.specs.Change.{without}

reflects-room : (r : Record) (ps : List Record) → Reflects (length ps < capacity) (has_room r ps)
reflects-room r ps = reflects-ltb (length ps) capacity

reflects-rooms : (r : Record) (ps : List Record) → Reflects ((length ps < capacity) × T (have_room ps)) (have_room (r ∷ ps))
reflects-rooms r ps = reflects-and (reflects-room r ps) (reflects-T (have_room ps))

-- Records that have room are no more than the places.
pub room-few : (ps : List Record) → T (have_room ps) → length ps ≤ capacity
room-few [] h = omega arith
room-few (r ∷ ps) h = omega (arith, (reflected (reflects-rooms r ps) h).0)

-- As many as there are places have room, whichever they are.
pub few-room : (ps : List Record) → length ps ≤ capacity → T (have_room ps)
few-room [] h = tt
few-room (r ∷ ps) h = reflects (reflects-rooms r ps) (omega arith, few-room ps (omega arith))

-- A record that has room joins them, wherever it is put in order.
pub room-insert : (r : Record) (ps : List Record) → T (has_room r ps) → T (have_room ps) → T (have_room (insert record_below r ps))
room-insert r ps h hs = few-room (insert record_below r ps) (omega (arith, length-insert-le record_below r ps, reflected (reflects-room r ps) h))

-- Some of them have room too.
pub room-select : (test : Record → Bool) (ps : List Record) → T (have_room ps) → T (have_room (select test ps))
room-select test ps h = few-room (select test ps) (omega (arith, select-length test ps, room-few ps h))

pub room-without : (r : Record) (ps : List Record) → T (have_room ps) → T (have_room (without r ps))
room-without r ps h = room-select (λ p. not (same_record r p)) ps h
