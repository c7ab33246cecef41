-- The loop's invariant: what is filled so far, with the records left, makes the filling.
use Rattle.std.proofs.Common.{◌≡◌, drop}
use Rattle.tables.specs.Change.{changed_of}
use Rattle.tables.specs.Fill.{fill_reply}
use Rattle.tables.specs.Store.{no_store}
use Rattle.tables.specs.Code.Fill.{collect_all}
use Rattle.tables.proofs.fill.fill.Given as goal

abbrev pub invariant-loop-r : goal.invariant-loop-r
invariant-loop-r l = collect_all (changed_of no_store l.f) (drop l.r-index l.records) ≡ fill_reply l.fn.widths l.records
