-- `bytes::long` meets its contract: the library's bytes are those of document 01.
use Rattle.std.proofs.Common.{rules, arith, ◌∙◌}
use Rattle.query.proofs.Theory.Code.Writing.Laws.{overlay-put}
use Rattle.host.specs.Entry.{long_bytes}
use Rattle.host.proofs.Writing.{big-endian-long}
use Rattle.host.proofs.bytes.long.Goals as goal

pub returns : goal.returns
returns c =
    overlay-put c.args.at _ (long_bytes c.args.n) c.args.out.now c.copy_from_slice.new.self (c.copy_from_slice.ensures.after ∙ c.to_be_bytes.ensures ∙ big-endian-long c.args.n (search rules)) (omega arith) (omega arith)
