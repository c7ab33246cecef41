-- `rules::finish::finish` meets its contract: each way out is one of those of `finished`.
use Rattle.std.specs.Prelude.{◌≡◌, ◌≤◌, refl, ℕ, List}
use Rattle.std.proofs.Common.{arith, sym, ◌∙◌}
use Rattle.rules.specs.Code.Draft.{head_from, body_from}
use Rattle.rules.specs.Code.Finish.{is_bound, bound_down, bind_all}
use Rattle.rules.proofs.Theory.Code.Draft.Laws.{room-some, was-some}
use Rattle.rules.proofs.Theory.Code.Finish.Testing.{ends-packed}
use Rattle.rules.proofs.finish.finish.Goals as goal

abbrev all-exists : goal.In_ok-end → ℕ × List ℕ
all-exists c = bind_all (bound_down (is_bound (head_from c.args.h) c.args.b.seen) 16) c.args.b.nodes c.args.nodes

roomy : (c : goal.In_ok-end) → (c.in_ok-end.end ≤ 64) × ◌≡◌ {A = ℕ × List ℕ} (c.in_ok-end.end, c.quantify.new.nodes) (all-exists c)
roomy c = room-some (all-exists c) c.quantify.result c.quantify.new.nodes c.quantify.ensures c.in_ok-end.end (was-some c.quantify.result _ c.in_ok-end.end (sym c.ok_or.ensures.value ∙ c.in_ok-end.was))

pub packed-requires : goal.packed-requires
packed-requires c = ((roomy c).0, omega arith)

pub returns : goal.returns
returns c =
    let a = c.args in
    ends-packed (head_from a.h) (body_from a.b) a.constants a.nodes a.length refl refl c.is_missing.result c.is_missing.ensures c.if-is_missing.false c.in_ok-end.end c.quantify.new.nodes (roomy c.before).1 (roomy c.before).0 _ c.packed.ensures
