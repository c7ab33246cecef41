-- `standing::begin` meets its contract: where the store is not refused the query decides.
use Rattle.std.proofs.Common.{sym, ◌∙◌}
use Rattle.standing.proofs.Theory.Change.Laws.{begun-reading}
use Rattle.standing.proofs.begin.Goals as goal

pub returns : goal.returns
returns c = c.read.ensures ∙ begun-reading c.args.store c.args.bytes.now (sym c.in_ok-judge.ensures)
