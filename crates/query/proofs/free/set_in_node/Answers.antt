-- `query::free::set_in_node` meets its contract.
use Rattle.std.proofs.Common.{get_or, take, sym, ◌∙◌}
use Rattle.query.specs.Nodes.{term_count}
use Rattle.query.specs.Code.Free.{joined_with}
use Rattle.query.proofs.Theory.Code.Free.Sets.{bits-joined, set-of-record}
use Rattle.query.proofs.free.set_in_node.Goals as goal

pub returns-in-Record : goal.returns-in-Record
returns-in-Record c =
    let w = c.args.w in let n = c.in-Record.ensures in
    c.term_bits.ensures
    ∙ (λ i. joined_with 0 (take (n.3 i) (n.4 i)))
    ∙ bits-joined (term_count w) _ _ _ _
    ∙ sym (set-of-record w (λ k. get_or c.args.before.now k 0) n.0)
