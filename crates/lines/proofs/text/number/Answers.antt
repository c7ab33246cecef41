-- `text::number` meets its contract: a space is written, then the digits.
use Rattle.std.proofs.Common.{◌≡◌, ◌∙◌, ap, refl, ℕ, ◌+◌, List, [], ◌∷◌, slice_set}
use Rattle.calculus.specs.Decimal.{digits}
use Rattle.query.specs.Code.Writing.{wrote}
use Rattle.query.proofs.Theory.Code.Writing.Laws.{wrote_then}
use Rattle.lines.specs.Text.{decimal}
use Rattle.lines.proofs.text.number.Goals as goal

after-space : (at r n : ℕ) (out after : List ℕ) → (r, after) ≡ wrote (at + 1) (digits 10 n) (slice_set out at 32) → (r, after) ≡ wrote at (32 ∷ decimal n) out
unfolding decimal
after-space at r n out after e = wrote_then at (at + 1) r (32 ∷ []) (digits 10 n) out (slice_set out at 32) after refl e

pub returns : goal.returns
returns c =
    let a = c.args in
    after-space a.at c.digits.result c.from.result a.out.now c.digits.new.out c.digits.ensures ∙ ap (λ n. wrote a.at (32 ∷ decimal n) a.out.now) c.from.ensures
