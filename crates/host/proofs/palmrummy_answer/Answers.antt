-- The entry meets its contract: what the list call told, as one number.
use Rattle.std.proofs.Common.{◌∙◌, sym, ap, refl}
use Rattle.causes.specs.Causes.{number_of, place_of}
use Rattle.answer.specs.Reply.{rows_found}
use Rattle.answer.specs.declared.Found.TheVariants.{Rows}
use Rattle.packed.specs.Packed.{beside, declined}
use Rattle.host.proofs.Theory.Entry.Laws.{answer-refused, answer-place, answer-endless, answer-listed}
use Rattle.host.proofs.palmrummy_answer.Goals as goal

pub code-requires : goal.code-requires
code-requires c =
    let r = c.in-Err.refusal in
    answer-place c.args.input.now c.args.out.now c.find_bytes.new.out (declined (number_of r) (place_of r)) c.in-Err.ensures (number_of r) (place_of r) refl

pub returns-in-Err : goal.returns-in-Err
returns-in-Err c =
    let r = c.in-Err.refusal in
    answer-refused c.args.input.now c.args.out.now c.find_bytes.new.out (declined (number_of r) (place_of r)) c.in-Err.ensures (number_of r) (place_of r) c.from.result refl (c.from.ensures ∙ c.code.ensures.0)

pub returns-in-Endless : goal.returns-in-Endless
returns-in-Endless c =
    let l = c.in-Ok.listing in let after = c.find_bytes.new.out in
    answer-endless c.args.input.now c.args.out.now after (beside (rows_found l.found) l.safe l.columns) c.in-Ok.ensures refl (ap (λ f. (rows_found f).endless) c.in-Endless.is)

pub returns-in-Rows : goal.returns-in-Rows
returns-in-Rows c =
    let l = c.in-Ok.listing in let n = c.in-Rows.n in let after = c.find_bytes.new.out in
    answer-listed c.args.input.now c.args.out.now after (beside (rows_found (Rows n)) l.safe l.columns) (ap (λ f. (beside (rows_found f) l.safe l.columns, after)) (sym c.in-Rows.is) ∙ c.in-Ok.ensures) refl refl
