-- `verdict::bits::node_bit` meets its contract. The rule of its table is proved once, over the whole table: a test that the check computes, and a lemma that
-- turns it into the rule at each entry.
use Prim.Native.Nat.{ℕ, ◌<◌, ◌-◌, ◌^◌}
use mathlib.Core.List.{List, [], ◌∷◌}
use mathlib.Core.Path.{◌≡◌, refl, ap, sym, ◌∙◌}
use lib.ListN.{get_or}
use Rattle.calculus.specs.Lists.{tabulate}
use Rattle.calculus.proofs.Theory.Lists.Laws.{get_d_tabulate}
use Rattle.query.specs.Reading.{max_nodes}
use Rattle.verdict.specs.Bits.{node_mask}
use Rattle.verdict.proofs.Theory.Bits.Laws.{mask_one}
use Rattle.verdict.proofs.bits.node_bit.Goals as goal

-- The rule: the entry of a node is one bit, node 0 highest.
rule : ℕ → ℕ
rule n = 2 ^ (max_nodes - 1 - n)

-- The test: the table is the rule's values, one after the other. A table that passes it has, at the entry of each node, the set of that node alone.
at_each : {table : List ℕ} → table ≡ tabulate rule max_nodes → (n : ℕ) → n < max_nodes → get_or table n 0 ≡ node_mask (n ∷ [])
unfolding rule
at_each test n h = ap (λ entries. get_or entries n 0) test ∙ get_d_tabulate rule max_nodes n 0 h ∙ sym (mask_one max_nodes n h)

-- The test passes: the check computes the 64 values and compares them with the entries.
pub returns-then-n-lt-NODES : goal.returns-then-n-lt-NODES
unfolding rule
returns-then-n-lt-NODES c = at_each refl c.args.n c.if-n-lt-NODES.true
