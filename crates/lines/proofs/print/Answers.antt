-- `print` meets its contract: what the list call told is written line after line, and these are the output's text.
use Rattle.std.proofs.Common.{rules, arith, ◌≡◌, ◌∙◌, sym, ap, refl, ℕ, length}
use Rattle.std.proofs.lemmas.List.{length-replicate}
use Rattle.causes.specs.Causes.{number_of, place_of}
use Rattle.answer.specs.declared.Found.{Found}
use Rattle.answer.specs.declared.Found.TheVariants.{Endless, Rows}
use Rattle.answer.specs.Reply.{rows_found}
use Rattle.packed.specs.Packed.{beside, declined}
use Rattle.lines.proofs.Printing.{Ready, refused, place-fits, few, fits, head-ends, endless-done, rows_end, rows-done}
use Rattle.lines.proofs.print.Goals as goal
use Rattle.lines.proofs.print.Goals.{In-Err, In-Ok}

-- The query is refused.
declined-ready : (c : In-Err) → Ready c.args.input.now c.room-numbers.result (declined (number_of c.in-Err.cause) (place_of c.in-Err.cause)) c.find.new.out c.args.out.now
declined-ready c = record {
  room-size = ap length c.room-numbers.ensures ∙ length-replicate {A = ℕ} 4096 0;
  reply = c.in-Err.ensures;
  places = refl;
  held = search rules;
  size = search rules;
}

pub refused-requires : goal.refused-requires
refused-requires c =
    let k = declined-ready (goal.at.refused-requires c).In-Err in
    (place-fits k (number_of c.in-Err.cause) (place_of c.in-Err.cause) refl, omega (arith, k.size))

pub returns-in-Err : goal.returns-in-Err
returns-in-Err c =
    let k = declined-ready (goal.at.returns-in-Err c).In-Err in
    let p = refused k (number_of c.in-Err.cause) (place_of c.in-Err.cause) c.refused.result c.refused.new.out refl c.refused.ensures in
    record { out_after = p.0; upper_bound = p.1 }

-- It is accepted, with these rows.
ready : (c : In-Ok) (f : Found) → c.in-Ok.listing.found ≡ f → Ready c.args.input.now c.room-numbers.result (beside (rows_found f) c.in-Ok.listing.safe c.in-Ok.listing.columns) c.find.new.out c.args.out.now
ready c f e = record {
  room-size = ap length c.room-numbers.ensures ∙ length-replicate {A = ℕ} 4096 0;
  reply = ap (λ g. (beside (rows_found g) c.in-Ok.listing.safe c.in-Ok.listing.columns, c.find.new.out)) (sym e) ∙ c.in-Ok.ensures;
  places = search rules;
  held = search rules;
  size = search rules;
}

pub head-at-requires : goal.head-at-requires
head-at-requires c = let k = ready (goal.at.head-at-requires c).In-Ok c.in-Ok.listing.found refl in (few k refl, omega (arith, k.size))

pub line-requires : goal.line-requires
line-requires c =
    let k = ready (goal.at.line-requires c).In-Ok Endless c.in-Endless.is in let e = head-ends k refl c.head-at.result c.head-at.new.out c.head-at.ensures in
    (omega arith, omega arith, omega (arith, e), omega (arith, e))

pub rows-end-requires : goal.rows-end-requires
rows-end-requires c =
    let k = ready (goal.at.rows-end-requires c).In-Ok (Rows c.in-Rows.n) c.in-Rows.is in
    let e = head-ends k refl c.head-at.result c.head-at.new.out c.head-at.ensures in let f = fits k refl refl in
    (f.0, omega (arith, f.1, k.held), omega (arith, k.held), omega (arith, e, f), omega (arith, e))

pub overflow_cast-total : goal.overflow_cast-total
overflow_cast-total c = let f = fits (ready (goal.at.overflow_cast-total c).In-Ok (Rows c.in-Rows.n) c.in-Rows.is) refl refl in record { fits = omega (arith, f.0) }

pub line-requires-in-Rows : goal.line-requires-in-Rows
line-requires-in-Rows c =
    let k = ready (goal.at.line-requires-in-Rows c).In-Ok (Rows c.in-Rows.n) c.in-Rows.is in
    let e = rows_end k refl c.head-at.result c.head-at.new.out c.head-at.ensures refl c.rows-end.result c.rows-end.new.out c.rows-end.ensures in
    (omega arith, omega arith, omega (arith, e), omega (arith, e))

pub returns-in-Endless : goal.returns-in-Endless
returns-in-Endless c =
    let k = ready (goal.at.returns-in-Endless c).In-Ok Endless c.in-Endless.is in
    let p = endless-done k refl c.head-at.result c.head-at.new.out c.head-at.ensures c.line.result c.line.new.out refl c.line.ensures in
    record { out_after = p.0; upper_bound = p.1 }

pub returns-in-Rows : goal.returns-in-Rows
returns-in-Rows c =
    let k = ready (goal.at.returns-in-Rows c).In-Ok (Rows c.in-Rows.n) c.in-Rows.is in
    let p = rows-done k refl c.head-at.result c.head-at.new.out c.head-at.ensures refl c.rows-end.result c.rows-end.new.out c.rows-end.ensures c.line-in-Rows.result c.line-in-Rows.new.out c.line-in-Rows.ensures in
    record { out_after = p.0; upper_bound = p.1 }
