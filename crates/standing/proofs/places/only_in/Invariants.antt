-- The rows before place i of the first list that the second has not are written, and the rows before place j of the second are below that at i.
use Rattle.std.specs.Prelude.{◌≡◌, ◌≤◌, ◌<◌, take}
use Rattle.standing.specs.View.{row_at, row_places, stored}
use Rattle.standing.specs.Code.View.{rows_with, Passed}
use Rattle.standing.proofs.Walking.{found}
use Rattle.standing.proofs.places.only_in.Given as goal

abbrev pub invariant-loop-i : goal.invariant-loop-i
invariant-loop-i l =
    let ys = take l.fn.m (row_places l.fn.ys) in
    (l.count ≤ l.i) × (l.i < l.fn.n → Passed ys l.j (row_at l.fn.xs l.i)) × (rows_with l.values l.count ≡ stored (found l.fn.xs l.i ys))
