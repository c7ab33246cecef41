-- `standing::row::ends` meets its contract: all values past the first k are zero.
use Rattle.std.specs.Prelude.{true, false, ◌≡◌, drop, eqb}
use Rattle.std.proofs.Common.{rules}
use Rattle.std.proofs.lemmas.Iterator.{cases_from_all, YieldsList-from_slice}
use Rattle.std.proofs.lemmas.Iterator.Adapters.{YieldsList-from_skip}
use borrow.Author.Tests.{tests}
use Rattle.calculus.proofs.Theory.Chains.{all-met}
use Rattle.standing.specs.Code.View.{values_of}
use Rattle.standing.proofs.row.ends.Goals as goal

pub returns : goal.returns
returns c =
    let k = c.args.k in let values = values_of c.args.x in
    all-met (eqb 0) (drop k values) c.all.result
    (cases_from_all {all = drop k values} _ _ c.all.result (λ v. eqb 0 v ≡ true) (λ v. eqb 0 v ≡ false) c.all.ensures.ran
    (YieldsList-from_skip k (YieldsList-from_slice values (cc)) c.skip.ensures.count)
    (λ x q h. search (rules, tests)) (λ x q h. search (rules, tests)))
