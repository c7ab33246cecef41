-- `verdict::form::Words::cut` meets its contract: zeros stand in the places of the words that are dropped, as after them.
use Prim.Native.Nat.{◌-◌}
use native.Mathlib.Omega.{arith}
use mathlib.Core.Path.{ap, ◌∙◌}
use lib.ListN.{length, length-take, length-drop}
use Rattle.verdict.specs.Code.Form.{words_in}
use borrow.Rule.Slice.PartMut.{put_mid, mid_of}
use Rattle.verdict.proofs.Writing.{pair, struct_of, places, held_cut}
use Rattle.verdict.proofs.form.Words.cut.Goals as goal

pub returns : goal.returns
returns c =
    let s = c.args.self.now in let at = c.args.at in
    ap (λ ys. struct_of (at, put_mid at (s.count - at) s.nodes ys)) (c.fill.ensures.after (λ y e. e))
    ∙ ap struct_of (held_cut s.nodes at s.count (words_in s) c.requires.1 c.requires.2 (ap pair c.requires.0) (length (mid_of at (s.count - at) s.nodes)) (simp (length-take, length-drop) (omega (arith, places s.nodes s.count (omega arith) (ap (λ w. w.nodes) c.requires.0)))))
