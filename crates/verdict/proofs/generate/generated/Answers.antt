-- `verdict::generate::generated` meets its contract: a node's set is made of its children's, which are before it.
use Prim.Native.Nat.{◌<◌}
use native.Mathlib.Omega.{arith}
use mathlib.Core.Path.{◌≡◌, ap, ◌∙◌}
use lib.ListN.{get_or, length}
use Rattle.verdict.specs.Code.Generating.{plain_bits, denied_bits, plain_in}
use Rattle.verdict.proofs.Theory.Code.Generating.Variables.{child-below}
use Rattle.verdict.proofs.Sets.{first_sets, plain-next, denied-next}
use Rattle.verdict.proofs.generate.generated.Goals as goal

pub plain-plain-requires : goal.plain-plain-requires
plain-plain-requires c = rw c.loop-i.invariant.0 (λ d m. let h : d < c.loop-i.i = child-below c.requires c.loop-i-test.true m in omega arith)

pub loop-i-preserved : goal.loop-i-preserved
loop-i-preserved c =
    let l = c.loop-i in let s = l.judged in let ns = c.args.nodes.now in let v = l.invariant in
    let r = c.plain-plain.ensures ∙ ap (λ ms. plain_in (get_or ns l.i 0) (λ k. get_or ms k 0) (λ k. get_or s.plains k 0) (λ k. get_or s.denieds k 0)) v.0 in (
      v.0,
      plain-next ns _ l.i s.plains s.denieds v.1 v.2 c.requires c.loop-i-test.true c.plain-plain.result r,
      denied-next ns _ l.i s.plains s.denieds v.1 v.2 c.requires c.loop-i-test.true c.denied-denied.result c.denied-denied.ensures,
    )

pub returns : goal.returns
returns c =
    let v = c.loop-i.invariant in let ns = c.args.nodes.now in let n : c.loop-i.i ≡ length ns = omega arith in
    (v.0, record { form = rw v.0 c.requires; plains_are = rw v.0 (v.1 ∙ ap (first_sets (plain_bits ns)) n); denieds_are = rw v.0 (v.2 ∙ ap (first_sets (denied_bits ns)) n) })
