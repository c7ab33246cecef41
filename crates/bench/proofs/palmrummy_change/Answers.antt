-- The entry meets its contract: what the change told, as one number. At most `max_rows` rows join and leave, so the number has its 64 bits.
use Rattle.std.specs.Prelude.{◌≡◌, ◌≤◌, ◌<◌, length}
use Rattle.std.proofs.Common.{arith, rules, ap, ◌∙◌}
use Rattle.std.proofs.Math.Path.{subst⁻¹}
use Rattle.causes.specs.Causes.{place}
use Rattle.query.specs.Reading.{max_nodes}
use Rattle.standing.specs.View.{max_rows}
use Rattle.standing.specs.Checks.{action_of}
use Rattle.standing.proofs.Theory.Change.Calls.{FewTold, few-told}
use Rattle.standing.proofs.Theory.Change.Places.{change-place}
use Rattle.bench.specs.Entry.{coded_change}
use Rattle.bench.proofs.Theory.Entry.Laws.{change-over}
use Rattle.bench.proofs.palmrummy_change.Goals as goal
use Rattle.bench.proofs.palmrummy_change.Goals.{In-Ok}

-- At most `max_rows` rows joined, and at most as many left, since the list made of the arrays has four places for columns.
few : (c : In-Ok) → (c.in-Ok.changed.joined ≤ max_rows) × (c.in-Ok.changed.left ≤ max_rows)
few c =
    let a = c.args in
    let p : length c.view_of-view.result.columns.variables ≡ 4 = search rules in
    subst⁻¹ FewTold c.in-Ok.ensures (few-told (action_of a.removal c.record_of-record.result) c.store_of-store.result c.view_of-view.result a.bytes.now a.joined.now a.left.now p)

pub overflow_mul-result : goal.overflow_mul-result
overflow_mul-result c = record { fits = omega (arith, (few c).1) }

pub overflow_add-result : goal.overflow_add-result
overflow_add-result c = record { fits = omega (arith, (few c).0, (few c).1) }

-- A refusal's place is that of the reply.
pub refused-requires : goal.refused-requires
refused-requires c =
    let a = c.args in
    subst⁻¹ (λ r. place r.0.answer < max_nodes) c.in-Err.ensures
    (change-place (action_of a.removal c.record_of-record.result) c.store_of-store.result c.view_of-view.result a.bytes.now a.joined.now a.left.now)

pub returns-in-Ok : goal.returns-in-Ok
returns-in-Ok c =
    let a = c.args in
    ap coded_change (c.in-Ok.ensures ∙ change-over c.store_of-store.ensures c.view_of-view.ensures c.record_of-record.ensures a.removal a.bytes.now a.joined.now a.left.now)

pub returns-in-Err : goal.returns-in-Err
returns-in-Err c =
    let a = c.args in
    ap (λ n. (n, (c.change.new.joined, c.change.new.left))) c.refused.ensures
    ∙ ap coded_change (c.in-Err.ensures ∙ change-over c.store_of-store.ensures c.view_of-view.ensures c.record_of-record.ensures a.removal a.bytes.now a.joined.now a.left.now)
