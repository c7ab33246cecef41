-- `query::node::some_of` meets its contract.
use Rattle.std.proofs.Common.{rules, tests, ◌≡◌, Bool, true, false, List, [], ◌∷◌, take}
use Rattle.std.proofs.lemmas.Iterator.{cases_from_any, YieldsList-from_slice, YieldsList-from_take}
use Rattle.calculus.proofs.Theory.Chains.{any-met}
use Rattle.query.specs.Code.Fields.{itself}
use Rattle.query.proofs.node.some_of.Goals as goal

pub returns : goal.returns
returns c =
    let x = c.args in let ts : List Bool = x.a ∷ x.b ∷ x.c ∷ x.d ∷ [] in
    any-met itself (take x.count ts) c.any.result (cases_from_any _ _ c.any.result (λ b. b ≡ true) (λ b. b ≡ false) c.any.ensures.ran (YieldsList-from_take x.count (YieldsList-from_slice ts cc) cc) (λ b q k. search (rules, tests)) (λ b q k. search (rules, tests)))
