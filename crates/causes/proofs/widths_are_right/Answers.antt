use Rattle.std.proofs.Common.{rules, leb}
use borrow.Author.Tests.{tests}
use Rattle.calculus.proofs.Theory.Chains.{all-in}
use Rattle.causes.proofs.widths_are_right.Goals as goal

pub returns : goal.returns
returns c = all-in (λ w. leb w 4) c.args.widths c.all.result c.all.ensures.ran c.iter.ensures.rest (λ x q k. search (rules, tests)) (λ x q k. search (rules, tests))
