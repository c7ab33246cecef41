-- `host::written` meets its contract: the bytes so far are an overlay of zeros, field by field, and what is left of the zeros fills up.
use Rattle.std.proofs.Common.{rules, arith, ◌≡◌, ◌∙◌, sym, ap, refl, ◌+◌, ◌*◌, ◌∷◌, ◌++◌, length, get_or, append-nil, length-append}
use Rattle.std.proofs.Math.Seq.{take_all}
use Rattle.calculus.specs.Sets.{union_of}
use Rattle.calculus.specs.Lists.{padded}
use Rattle.query.specs.Code.Writing.{overlay}
use Rattle.query.proofs.Theory.Code.Writing.Laws.{overlay-put, front-run, front-padded, length-query}
use Rattle.verdict.specs.Verdict.{verdict_in}
use Rattle.host.specs.Entry.{short_bytes, long_bytes, form_bytes, verdict_size}
use Rattle.host.proofs.Writing.{flag-byte, big-endian-short, zeros, until_6, generated, generated-next, length-generated, all-fields}
use Rattle.host.proofs.written.Goals as goal

pub loop-i-init : goal.loop-i-init
loop-i-init c =
    let v = c.args.v in let long : length v.columns.variables ≡ 4 = search rules in let first = c.from.ensures ∙ flag-byte v.safe in
    overlay-put 2 4 v.columns.variables _ c.copy_from_slice.new.self c.copy_from_slice.ensures.after (sym long) (omega (arith, long))
    ∙ (λ j. overlay 0 (first j ∷ v.columns.count ∷ sym (append-nil v.columns.variables) j) zeros)

pub loop-i-preserved : goal.loop-i-preserved
loop-i-preserved c =
    let v = verdict_in c.args.v in let i = c.loop-i.i in
    let vs : length c.args.v.columns.variables ≡ 4 = search rules in let gs : length c.args.v.generators ≡ 4 = search rules in
    c.long.ensures
    ∙ front-run (generated v i) zeros c.loop-i.reply (6 + 8 * i) c.loop-i.invariant (length-generated v i vs (omega (arith, gs))) (long_bytes (get_or v.generators i 0))
    ∙ ap (λ bs. overlay 0 bs zeros) (sym (generated-next v i (omega (arith, gs))))

pub returns : goal.returns
returns c =
    let v = verdict_in c.args.v in let i = c.loop-i.i in
    let vs : length c.args.v.columns.variables ≡ 4 = search rules in let gs : length c.args.v.generators ≡ 4 = search rules in
    let upto-38 = until_6 v ++ union_of long_bytes v.generators in
    let upto-40 = upto-38 ++ short_bytes v.ungenerated in
    let upto-48 = upto-40 ++ long_bytes v.unranged in
    let l₃₈ : length upto-38 ≡ 38 = ap (λ xs. length (until_6 v ++ union_of long_bytes xs)) (sym (take_all 4 v.generators (omega (arith, gs)))) ∙ length-generated v 4 vs (omega (arith, gs)) in
    let e₃₈ = c.loop-i.invariant ∙ ap (λ xs. overlay 0 (until_6 v ++ union_of long_bytes xs) zeros) (take_all i v.generators (omega (arith, gs, c.loop-i-test.false))) in
    let e₄₀ = overlay-put 38 _ (short_bytes v.ungenerated) c.loop-i.reply c.copy_from_slice-2.new.self (c.copy_from_slice-2.ensures.after ∙ c.to_be_bytes.ensures ∙ big-endian-short v.ungenerated (search rules)) refl (search rules) ∙ front-run upto-38 zeros _ 38 e₃₈ l₃₈ (short_bytes v.ungenerated) in
    let e₄₈ = c.long-2.ensures ∙ front-run upto-40 zeros _ 40 e₄₀ (omega (arith, l₃₈, length-append upto-38 (short_bytes v.ungenerated))) (long_bytes v.unranged) in
    c.query.ensures
    ∙ front-run upto-48 zeros _ 48 e₄₈ (omega (arith, l₃₈, length-append upto-38 (short_bytes v.ungenerated), length-append upto-40 (long_bytes v.unranged))) (form_bytes v.form)
    ∙ front-padded verdict_size (upto-48 ++ form_bytes v.form) (omega (arith, l₃₈, length-append upto-38 (short_bytes v.ungenerated), length-append upto-40 (long_bytes v.unranged), length-append upto-48 (form_bytes v.form), length-query v.form c.requires.1))
    ∙ ap (λ bs. padded verdict_size 0 (bs ++ form_bytes v.form)) (all-fields v)
