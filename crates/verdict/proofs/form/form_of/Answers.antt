-- `verdict::form::form_of` meets its contract: the form of the last node, written from the start, and the constants as they are.
use mathlib.Core.Path.{refl, ap}
use Rattle.verdict.proofs.Writing.{pair, root-asks, form_is}
use Rattle.verdict.proofs.form.form_of.Goals as goal

pub propagate-requires : goal.propagate-requires
propagate-requires c = let a = root-asks c.args.query c.requires in (a.0, refl, a.1)

pub returns : goal.returns
returns c = form_is c.args.query c.requires (pair c.propagate.new.out) (ap pair c.propagate.ensures)
