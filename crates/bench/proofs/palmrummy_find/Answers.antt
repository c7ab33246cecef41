-- The entry meets its contract: what was found, as one number.
use Rattle.std.specs.Prelude.{◌<◌}
use Rattle.std.proofs.Common.{sym, ap, ◌∙◌}
use Rattle.std.proofs.Math.Path.{subst⁻¹}
use Rattle.causes.specs.Causes.{place}
use Rattle.query.specs.Reading.{max_nodes}
use Rattle.answer.specs.Reply.{rows_found}
use Rattle.answer.proofs.Theory.Reply.Places.{found-place}
use Rattle.bench.specs.Entry.{coded}
use Rattle.bench.proofs.Theory.Entry.Laws.{found-over}
use Rattle.bench.proofs.palmrummy_find.Goals as goal

-- A refusal's place is that of the reply.
pub refused-requires : goal.refused-requires
refused-requires c =
    let a = c.args in
    subst⁻¹ (λ r. place r.0.answer < max_nodes) c.in-Err.ensures (found-place c.store_of-store.result a.bytes.now a.wanted a.out.now)

pub returns-in-Ok-Endless : goal.returns-in-Ok-Endless
returns-in-Ok-Endless c =
    let a = c.args in
    ap (λ f. coded (rows_found f, c.find.new.out)) (sym c.in-Ok-Endless.field-0-is)
    ∙ ap coded (c.in-Ok-Endless.ensures ∙ found-over c.store_of-store.ensures a.bytes.now a.wanted a.out.now)

pub returns-in-Ok-Rows : goal.returns-in-Ok-Rows
returns-in-Ok-Rows c =
    let a = c.args in
    ap (λ f. coded (rows_found f, c.find.new.out)) (sym c.in-Ok-Rows.field-0-is)
    ∙ ap coded (c.in-Ok-Rows.ensures ∙ found-over c.store_of-store.ensures a.bytes.now a.wanted a.out.now)

pub returns-in-Err : goal.returns-in-Err
returns-in-Err c =
    let a = c.args in
    ap (λ n. (n, c.find.new.out)) c.refused.ensures
    ∙ ap coded (c.in-Err.ensures ∙ found-over c.store_of-store.ensures a.bytes.now a.wanted a.out.now)
