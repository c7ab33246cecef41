-- `packed::take` meets its contract: whether the bytes are whole, the reading of the query, and the filling of the store decide in that order.
use Rattle.std.proofs.Common.{rules, arith, ◌≡◌, ◌∙◌, sym, ap, ℕ, ◌-◌, List, length, take, drop, Err}
use Rattle.std.proofs.Math.Seq.{take_all}
use Rattle.std.proofs.Math.ListN.{length-drop}
use Rattle.calculus.specs.Lists.{tabulate}
use Rattle.causes.specs.Causes.{Done, number_of, place_of}
use Rattle.tables.specs.Change.{Changed}
use Rattle.tables.specs.Code.Fill.{beginning, collect_all}
use Rattle.tables.specs.Fill.{fill_reply}
use Rattle.tables.proofs.Theory.Fill.Laws.{fill-collects}
use Rattle.query.specs.Reading.{Reading, read_of}
use Rattle.packed.specs.declared.part.Head.{Head}
use Rattle.packed.specs.Code.Packed.{Input, input_in}
use Rattle.packed.specs.Packed.{head_in, widths_in, start, record_at, records_in, query_in}
use Rattle.packed.proofs.Theory.Packed.Laws.{extent-some, input-unread, input-unfilled, input-filled}
use Rattle.packed.proofs.take.Goals as goal

-- The rest of the bytes is the query, and the records are those of the head.
module _ (bs : List ℕ) (h : Head) (e : h ≡ head_in bs) where
  query-read : read_of h.widths (take (length bs - start h.count) (drop (start h.count) bs)) ≡ read_of (widths_in bs) (query_in bs)
  query-read = ap (read_of h.widths) (take_all (length bs - start h.count) (drop (start h.count) bs) (omega (arith, length-drop (start h.count) bs))) ∙ (λ j. read_of (e j).widths (drop (start (e j).count) bs))

  records-filled : collect_all (beginning h.widths) (tabulate (record_at bs) h.count) ≡ fill_reply (widths_in bs) (records_in bs)
  records-filled = (λ j. collect_all (beginning (e j).widths) (tabulate (record_at bs) (e j).count)) ∙ fill-collects (widths_in bs) (records_in bs)

pub returns-in_err-read : goal.returns-in_err-read
returns-in_err-read c =
    let bs = c.args.bytes.now in let h = c.in-Some.head in let m = extent-some bs h c.in-Some.ensures in let r = c.in_err-read.field-0.0 in
    let e : c.from_residual.result ≡ Err r = search rules in
    ap input_in e ∙ sym (input-unread bs m.0 (number_of r) (place_of r) (ap (λ v. v.answer) (sym (c.in_err-read.ensures ∙ query-read bs h m.1))))

pub returns-in_err-store : goal.returns-in_err-store
returns-in_err-store c =
    let bs = c.args.bytes.now in let h = c.in-Some.head in let m = extent-some bs h c.in-Some.ensures in let r = c.in_err-store.field-0.0 in
    let e : c.from_residual-in_err-store.result ≡ Err r = search rules in
    let read = c.in_ok-read.ensures ∙ query-read bs h m.1 in let filled = c.in_err-store.ensures ∙ records-filled bs h m.1 in
    ap input_in e ∙ sym (input-unfilled bs m.0 (ap (λ v. v.answer) (sym read)) (number_of r) (place_of r) (ap (λ v. v.answer) (sym filled)))

-- The input of a filling and a reading.
abbrev assembled : Changed → Reading → Input
assembled f r = record { answer = Done; store = f.store; query = r.query; columns = r.columns }

pub returns : goal.returns
returns c =
    let bs = c.args.bytes.now in let h = c.in-Some.head in let m = extent-some bs h c.in-Some.ensures in
    let read = c.in_ok-read.ensures ∙ query-read bs h m.1 in let filled = c.in_ok-store.ensures ∙ records-filled bs h m.1 in
    (λ j. assembled (filled j) (read j)) ∙ sym (input-filled bs m.0 (ap (λ v. v.answer) (sym read)) (ap (λ v. v.answer) (sym filled)))
