-- `output::refusal` meets its contract: the word, the number, a space, the place and the line feed are written, each where the one before ended.
use Rattle.std.specs.Prelude.{ℕ, ◌+◌, ◌≤◌, ◌<◌, ◌^◌, ◌≡◌, List, [], ◌∷◌, ◌++◌, length, set}
use Rattle.std.proofs.Common.{arith, ap, ◌∙◌, length-append}
use Rattle.calculus.specs.Decimal.{digits}
use Rattle.calculus.proofs.Theory.Decimal.Laws.{length_digits}
use Rattle.query.specs.Code.Writing.{wrote}
use Rattle.query.proofs.Theory.Code.Writing.Laws.{wrote_then, wrote-byte, wrote-end, wrote-length}
use Rattle.rules.specs.Output.{word_refused, refusal_line}
use Rattle.rules.proofs.Theory.Output.Laws.{line_front, line-digits}
use Rattle.rules.proofs.output.refusal.Goals as goal

abbrev word : List ℕ
word = word_refused ++ (32 ∷ [])

module _ (n middle next : ℕ) (out o₁ o₂ : List ℕ) (e₁ : (middle, o₁) ≡ wrote 0 word out) (e₂ : (next, o₂) ≡ wrote middle (digits 3 n) o₁) where
  numbered : (next, o₂) ≡ wrote 0 (word ++ digits 3 n) out
  numbered = wrote_then 0 middle next word (digits 3 n) out o₁ o₂ e₁ e₂

  spaced : (next + 1, set o₂ next 32) ≡ wrote 0 (line_front n) out
  spaced = wrote-byte 0 next (word ++ digits 3 n) out o₂ 32 numbered

  number-ends : (next ≤ 11) × (length o₂ ≡ length out)
  number-ends = (omega (arith, wrote-end 0 next (word ++ digits 3 n) out o₂ numbered, length-append word (digits 3 n), length_digits 3 n), wrote-length 0 next (word ++ digits 3 n) out o₂ numbered)

  module _ (p end : ℕ) (o₃ : List ℕ) (e₃ : (end, o₃) ≡ wrote (next + 1) (digits 20 p) (set o₂ next 32)) where
    placed : (end, o₃) ≡ wrote 0 (line_front n ++ digits 20 p) out
    placed = wrote_then 0 (next + 1) end (line_front n) (digits 20 p) out (set o₂ next 32) o₃ spaced e₃

    place-ends : (end ≤ 32) × (length o₃ ≡ length out)
    place-ends =
        (omega (arith, number-ends.0, wrote-end (next + 1) end (digits 20 p) (set o₂ next 32) o₃ e₃, length_digits 20 p), wrote-length 0 end (line_front n ++ digits 20 p) out o₃ placed)

    fed : n < 10 ^ 3 → p < 10 ^ 20 → (end + 1, set o₃ end 10) ≡ wrote 0 (refusal_line n p) out
    fed h l = wrote-byte 0 end (line_front n ++ digits 20 p) out o₃ 10 placed ∙ ap (λ t. wrote 0 t out) (line-digits n p h l)

-- ---- the goals

pub returns-clause-out_after : goal.returns-clause-out_after
returns-clause-out_after c =
    let b = c.bytes-middle in let d = c.digits-next in let e = c.digits-end in
    let n = c.from.result in let p = c.place.result in
    fed n b.result d.result c.args.out.now b.new.out d.new.out b.ensures d.ensures p e.result e.new.out e.ensures (omega arith) (omega arith)
    ∙ (λ i. wrote 0 (refusal_line ((c.from.ensures ∙ c.number.ensures) i) (c.place.ensures i)) c.args.out.now)

pub returns-clause-upper_bound : goal.returns-clause-upper_bound
returns-clause-upper_bound c =
    let b = c.bytes-middle in let d = c.digits-next in let e = c.digits-end in
    let k : (e.result ≤ 32) × (length e.new.out ≡ length c.args.out.now) = place-ends c.from.result b.result d.result c.args.out.now b.new.out d.new.out b.ensures d.ensures c.place.result e.result e.new.out e.ensures in omega (arith, k.0)
