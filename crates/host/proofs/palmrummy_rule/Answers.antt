-- The entry meets its contract: a packed query is short.
use Rattle.std.proofs.Common.{arith}
use Rattle.rules.proofs.Theory.Reply.Laws.{reply-short}
use Rattle.host.proofs.palmrummy_rule.Goals as goal

pub overflow_cast-result : goal.overflow_cast-result
overflow_cast-result c = let s = reply-short c.args.text.now _ c.in-Ok.ensures in record { fits = omega (arith, s) }
