-- `standing::remove` meets its contract: its step is a deletion.
use Rattle.standing.specs.Checks.{removal}
use Rattle.standing.proofs.remove.Goals as goal

pub apply-requires-clause-alters : goal.apply-requires-clause-alters
apply-requires-clause-alters c = (removal c.args.tuple, λ r p. p.2)

pub returns : goal.returns
returns c = c.apply.ensures (removal c.args.tuple) (λ r p. p.2)
