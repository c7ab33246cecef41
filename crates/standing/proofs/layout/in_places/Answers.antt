-- `standing::layout::in_places` meets its contract: the places past the rows go on to the last place of all.
use Rattle.std.proofs.Common.{rules}
use Rattle.standing.proofs.Theory.View.Layout.{all-places}
use Rattle.standing.proofs.layout.in_places.Goals as goal

pub returns-then-all_ascend : goal.returns-then-all_ascend
returns-then-all_ascend c = let p = all-places c.args.rows.now.values in search rules
