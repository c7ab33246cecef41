-- `packed::find_bytes` meets its contract: the assessment of the bytes is refused, or its form is evaluated over its store.
use Rattle.std.proofs.Common.{rules, ◌≡◌, ◌∙◌, ap, refl, ◌/◌, ℕ, ◌<◌, ◌^◌, length, get_or, Fits, w32, Err}
use Rattle.causes.specs.Causes.{number_of, place_of}
use Rattle.tables.specs.Store.{no_store}
use Rattle.verdict.specs.Verdict.{verdict_in, refusal}
use Rattle.answer.specs.Reply.{found_in, rows_found, front_bytes}
use Rattle.packed.specs.Code.Packed.{with_verdict}
use Rattle.packed.specs.Packed.{listing_found}
use Rattle.packed.proofs.Taking.{refused-list, evaluable, list-given, found-listed}
use Rattle.packed.proofs.find_bytes.Goals as goal
use Rattle.packed.proofs.find_bytes.Goals.{In_ok-store}

constant-fits : (c : In_ok-store) (k : ℕ) → get_or c.in_ok-store.field-0.verdict.form.constants k 0 < 2 ^ 32
constant-fits c k = let f : Fits w32 (get_or c.in_ok-store.field-0.verdict.form.constants k 0) = search rules in f.fits

pub returns-in_err-store : goal.returns-in_err-store
returns-in_err-store c =
    let r = c.in_err-store.field-0.0 in let out = c.args.out.now in
    let e : c.from_residual.result ≡ Err r = search rules in
    ap (λ l. (listing_found l, out)) e
    ∙ refused-list c.args.bytes.now (with_verdict no_store (refusal (number_of r) (place_of r))) c.in_err-store.ensures (number_of r) (place_of r) refl front_bytes (length c.args.out.now / 4) out

pub evaluate_bytes-requires : goal.evaluate_bytes-requires
evaluate_bytes-requires c =
    let a = c.in_ok-store.field-0 in
    evaluable c.args.bytes.now (with_verdict a.store (verdict_in a.verdict)) c.in_ok-store.ensures refl (constant-fits (goal.at.evaluate_bytes-requires c).In_ok-store)

pub returns-in_err-found : goal.returns-in_err-found
returns-in_err-found c =
    let a = c.in_ok-store.field-0 in let r = c.in_err-found.field-0.0 in let out = c.args.out.now in let after = c.evaluate_bytes.new.out in
    let e : c.from_residual-in_err-found.result ≡ Err r = search rules in
    ap (λ l. (listing_found l, after)) e
    ∙ list-given
    c.args.bytes.now
    (with_verdict a.store (verdict_in a.verdict))
    c.in_ok-store.ensures
    refl
    (constant-fits (goal.at.returns-in_err-found c).In_ok-store)
    front_bytes
    (length c.args.out.now / 4)
    out
    (found_in (Err r))
    after
    c.in_err-found.ensures

pub returns : goal.returns
returns c =
    let a = c.in_ok-store.field-0 in let f = c.in_ok-found.found in let out = c.args.out.now in let after = c.evaluate_bytes.new.out in
    ap (λ l. (l, after)) (c.list.ensures ∙ found-listed f a.verdict.safe a.verdict.columns)
    ∙ list-given
    c.args.bytes.now
    (with_verdict a.store (verdict_in a.verdict))
    c.in_ok-store.ensures
    refl
    (constant-fits (goal.at.returns c).In_ok-store)
    front_bytes
    (length c.args.out.now / 4)
    out
    (rows_found f)
    after
    c.in_ok-found.ensures
