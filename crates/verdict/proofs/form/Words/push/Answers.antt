-- `verdict::form::Words::push` meets its contract: the array holds one word more.
use mathlib.Core.Path.{ap}
use Rattle.verdict.specs.Code.Form.{words_in}
use Rattle.verdict.proofs.Writing.{pair, struct_of, held_more}
use Rattle.verdict.proofs.form.Words.push.Goals as goal

pub returns : goal.returns
returns c = let s = c.args.self.now in ap struct_of (held_more s.nodes s.count (words_in s) (ap pair c.requires.0) c.args.w c.requires.1)
