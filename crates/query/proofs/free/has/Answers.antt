-- `query::free::has` meets its contract.
use Rattle.query.proofs.Theory.Code.Free.Sets.{in-shifted}
use Rattle.query.proofs.free.has.Goals as goal

pub returns : goal.returns
returns c = in-shifted c.args.x c.args.set
