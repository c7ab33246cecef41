-- The variables that are left decide.
use Rattle.std.specs.Prelude.{◌≡◌, false, not, get_or, take, drop}
use Rattle.calculus.specs.Sets.{any_of}
use Rattle.rules.proofs.finish.is_missing.Given as goal

abbrev pub invariant-loop-x : goal.invariant-loop-x
invariant-loop-x l = any_of (λ x. not (get_or l.seen x false)) (take l.fn.h.count l.fn.h.variables) ≡ any_of (λ x. not (get_or l.seen x false)) (drop l.x-index (take l.fn.h.count l.fn.h.variables))
