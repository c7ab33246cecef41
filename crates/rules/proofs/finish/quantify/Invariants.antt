-- The quantifiers that are left decide.
use Rattle.std.specs.Prelude.{◌≡◌, ◌≤◌}
use Rattle.rules.specs.Code.Draft.{head_from}
use Rattle.rules.specs.Code.Finish.{is_bound, bound_down, bind_all}
use Rattle.rules.proofs.finish.quantify.Given as goal

abbrev pub invariant-loop-x : goal.invariant-loop-x
invariant-loop-x l =
    (1 ≤ l.end) × (l.end ≤ 64) × (bind_all (bound_down (is_bound (head_from l.fn.h) l.fn.seen) 16) l.fn.n l.fn.nodes ≡ bind_all (bound_down (is_bound (head_from l.fn.h) l.fn.seen) l.x) l.end l.nodes)
