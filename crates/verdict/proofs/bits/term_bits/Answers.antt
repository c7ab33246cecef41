-- `verdict::bits::term_bits` meets its contract: a term more, or none where no more count.
use Prim.Native.Nat.{ℕ, ◌+◌, ◌≤◌, ◌<◌}
use native.Mathlib.Omega.{arith}
use mathlib.Core.Path.{◌≡◌, sym, ap, ◌∙◌}
use Rattle.std.proofs.Common.{add-one}
use mathlib.Core.List.{List, [], ◌∷◌, ◌++◌}
use lib.ListN.{length, get_or, take, length-take}
use lib.Seq.{take-suc, take_all, get_or-take}
use Rattle.verdict.specs.Bits.{mask}
use Rattle.verdict.proofs.Theory.Bits.Laws.{mask-nil, mask-joined}
use Rattle.verdict.proofs.bits.term_bits.Goals as goal
use Rattle.verdict.proofs.bits.term_bits.Goals.{then-i-count, else-i-count}

-- Of the terms that count, one more, and none more.
one-more : (n i : ℕ) (ts : List ℕ) → i < n → i < length ts → take i (take n ts) ++ (get_or ts i 0 ∷ []) ≡ take (i + 1) (take n ts)
one-more n i ts h l =
    ap (λ v. take i (take n ts) ++ (v ∷ [])) (sym (get_or-take n ts i 0 h))
    ∙ sym (take-suc (take n ts) i 0 (omega (arith, length-take n ts)))
    ∙ ap (λ k. take k (take n ts)) (sym (add-one i))

none-more : (n i : ℕ) (ts : List ℕ) → n ≤ i → take i (take n ts) ≡ take (i + 1) (take n ts)
none-more n i ts h = take_all i (take n ts) (omega (arith, length-take n ts)) ∙ sym (take_all (i + 1) (take n ts) (omega (arith, length-take n ts)))

pub loop-i-init : goal.loop-i-init
loop-i-init c = sym (mask-nil 16)

pub loop-i-preserved : goal.loop-i-preserved
loop-i-preserved c =
    let s = c.args in let i = c.loop-i.i in let ts = s.a ∷ s.b ∷ s.c ∷ s.d ∷ [] in
    elim c.if-i-count.branch [
      | then-i-count w ↦ w.bits-is
          ∙ mask-joined 16 c.loop-i.bits w.term_bit-bits.result (take i (take s.count ts)) (get_or ts i 0 ∷ []) c.loop-i.invariant w.term_bit-bits.ensures
          ∙ ap (mask 16) (one-more s.count i ts w.if-i-count.true c.loop-i-test.true)
      | else-i-count w ↦ w.bits-is ∙ c.loop-i.invariant ∙ ap (mask 16) (none-more s.count i ts w.if-i-count.false)
    ]

pub returns : goal.returns
returns c =
    let s = c.args in let ts = s.a ∷ s.b ∷ s.c ∷ s.d ∷ [] in
    c.loop-i.invariant ∙ ap (mask 16) (take_all c.loop-i.i (take s.count ts) (omega (arith, length-take s.count ts, c.loop-i-test.false)))
