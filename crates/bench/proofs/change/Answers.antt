-- `change` meets its contract: the call of its kind is made.
use mathlib.Core.Path.{ap, sym, ◌∙◌}
use Rattle.standing.specs.Checks.{action_of}
use Rattle.standing.specs.Change.{change_of}
use Rattle.bench.proofs.change.Goals as goal

pub returns-then-removal : goal.returns-then-removal
returns-then-removal c =
    let a = c.args in
    c.remove.ensures ∙ ap (λ b. change_of (action_of b a.tuple) a.store a.view a.bytes.now a.joined.now a.left.now) (sym c.if-removal.true)

pub returns-else-removal : goal.returns-else-removal
returns-else-removal c =
    let a = c.args in c.put.ensures ∙ ap (λ b. change_of (action_of b a.tuple) a.store a.view a.bytes.now a.joined.now a.left.now) (sym c.if-removal.false)
