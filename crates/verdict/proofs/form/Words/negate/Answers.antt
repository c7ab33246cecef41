-- `verdict::form::Words::negate` meets its contract, by the last word: false, true, or another.
use mathlib.Core.Path.{ap}
use Rattle.verdict.proofs.Writing.{struct_of, negated-false, negated-true}
use Rattle.verdict.proofs.form.Words.negate.Goals as goal

pub returns-in-0 : goal.returns-in-0
returns-in-0 c = let s = c.args.self.now in ap struct_of (negated-false s.nodes s.count c.requires.some_word c.requires.room (ap (λ w. w.nodes) c.requires.zeros) c.in-0.is)

pub returns-in-268435456 : goal.returns-in-268435456
returns-in-268435456 c = let s = c.args.self.now in ap struct_of (negated-true s.nodes s.count c.requires.some_word c.requires.room (ap (λ w. w.nodes) c.requires.zeros) c.in-268435456.is)
