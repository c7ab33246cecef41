-- `verdict::form::propagate` meets its contract. By the node's kind, each arm makes of the children's forms what `cp` makes of them.
use native.Mathlib.Omega.{arith}
use Prim.Native.Nat.{◌-◌}
use mathlib.Core.Path.{sym, ap, ◌∙◌}
use lib.ListN.{get_or}
use Rattle.query.specs.Nodes.{left, under}
use Rattle.verdict.specs.Code.Form.{held, unit_word}
use Rattle.verdict.proofs.Writing.{pair, struct_of, held-struct, task, child-asks, node-kind, at-below, child-grown, leaf-kind, no-truth-value, leaf-done, settled-same, settled-other, equality-done, not-asks, not_done, exists-asks, exists-done, drops, kind-drops, left-asks, right-asks, before_it, left-done, right-done, both-grown, join-done}
use Rattle.verdict.proofs.form.+propagate.Goals as goal
use Rattle.verdict.proofs.form.+propagate.Goals.{then-x-term, else-x-term}

pub push-requires : goal.push-requires
push-requires t c = (c.requires.1, at-below (task c.requires))

pub push-requires-in_default : goal.push-requires-in_default
push-requires-in_default t c = (c.requires.1, at-below (task c.requires))

pub returns-after-x-term : goal.returns-after-x-term
returns-after-x-term t c =
    let e = c.in-Equality.ensures in let w = get_or c.args.nodes.now c.args.i 0 in
    ap struct_of (equality-done (task c.requires) e.0
    (elim c.if-x-term.branch [
      | then-x-term b ↦ b.push-is ∙ settled-same w c.in-Equality.x c.in-Equality.term e.1 e.3 b.if-x-term.true
      | else-x-term b ↦ b.push-is ∙ settled-other w c.in-Equality.x c.in-Equality.term e.1 e.3 b.if-x-term.false
    ])
    (ap pair c.push.ensures))

pub returns-in_default : goal.returns-in_default
returns-in_default t c =
    let k = task c.requires in let d = c.in_default in
    ap struct_of (leaf-done k (leaf-kind (get_or c.args.nodes.now c.args.i 0) c.of.result c.of.ensures (node-kind k) d.not-Equality d.not-Not d.not-Join d.not-Exists) (ap pair c.push-in_default.ensures))

-- ---- a not

pub propagate-requires : goal.propagate-requires
propagate-requires t c = let e = c.in-Not.ensures in rw e.1 (child-asks c.decreases (not-asks (task c.requires) e.0) c.requires.1)

pub negate-requires : goal.negate-requires
negate-requires t c =
    let e = c.in-Not.ensures in let k = task c.requires in let a = not-asks k e.0 in
    let g = child-grown k (left (get_or c.args.nodes.now c.args.i 0)) (ap pair (rw e.1 at c.propagate.ensures)) in
    record { some_word = omega (arith, g.longer); room = omega (arith, g.short, a.room); zeros = held-struct c.propagate.new.out _ c.propagate.ensures }

pub returns-in-Not : goal.returns-in-Not
returns-in-Not t c = let e = c.in-Not.ensures in ap struct_of (not_done (task c.requires) e.0 (ap pair (rw e.1 at c.propagate.ensures)) (ap pair c.negate.ensures))

-- ---- an exists

pub propagate-requires-in-Exists : goal.propagate-requires-in-Exists
propagate-requires-in-Exists t c = let e = c.in-Exists.ensures in rw e.3 (child-asks c.decreases (exists-asks (task c.requires) e.0) c.requires.1)

pub quantify-requires : goal.quantify-requires
quantify-requires t c =
    let e = c.in-Exists.ensures in let k = task c.requires in let a = exists-asks k e.0 in
    let g = child-grown k (under (get_or c.args.nodes.now c.args.i 0)) (ap pair (rw e.3 at c.propagate-in-Exists.ensures)) in
    (record { some_word = omega (arith, g.longer); room = omega (arith, g.short, a.room); zeros = held-struct c.propagate-in-Exists.new.out _ c.propagate-in-Exists.ensures }, e.2)

pub returns-in-Exists : goal.returns-in-Exists
returns-in-Exists t c =
    let e = c.in-Exists.ensures in
    ap struct_of (exists-done (task c.requires) e.0 (ap pair (rw e.3 at c.propagate-in-Exists.ensures)) (ap pair (rw e.1 at c.quantify.ensures)))

-- ---- an and, an or: the left subtree's form stands there up to `middle`

pub propagate-requires-in-Join : goal.propagate-requires-in-Join
propagate-requires-in-Join t c =
    let e = c.in-Join.ensures in let j = c.in-Join.connective in
    rw e.1 (child-asks c.decreases (left-asks (task c.requires) (drops j) (e.0 ∙ kind-drops j)) c.requires.1)

pub overflow_sub-first : goal.overflow_sub-first
overflow_sub-first t c =
    let e = c.in-Join.ensures in
    omega (arith, (child-grown (task c.requires) (left (get_or c.args.nodes.now c.args.i 0)) (ap pair (rw e.1 at c.propagate-in-Join.ensures))).longer)

pub offset_bounds-out-middle : goal.offset_bounds-out-middle
offset_bounds-out-middle t c =
    let e = c.in-Join.ensures in let j = c.in-Join.connective in let k = task c.requires in
    let g = child-grown k (left (get_or c.args.nodes.now c.args.i 0)) (ap pair (rw e.1 at c.propagate-in-Join.ensures)) in
    record { fits = omega (arith, g.short, (left-asks k (drops j) (e.0 ∙ kind-drops j)).room) }

-- It is the truth value that is dropped: the words are as before it.
pub propagate-requires-then-first-unit : goal.propagate-requires-then-first-unit
propagate-requires-then-first-unit t c =
    let e = c.in-Join.ensures in let j = c.in-Join.connective in let k = task c.requires in let h = e.0 ∙ kind-drops j in
    let m = c.propagate-in-Join.new.out in let g = ap pair (rw e.1 at c.propagate-in-Join.ensures) in
    let back = c.cut.ensures ∙ ap held (before_it k (drops j) h m.nodes m.count g) ∙ sym c.requires.1 in
    rw (e.3, back) (child-asks c.decreases (right-asks k (drops j) h c.args.out.now.count (omega arith)) c.requires.1)

pub returns-then-first-unit : goal.returns-then-first-unit
returns-then-first-unit t c =
    let e = c.in-Join.ensures in let j = c.in-Join.connective in let k = task c.requires in let h = e.0 ∙ kind-drops j in
    let m = c.propagate-in-Join.new.out in let g = ap pair (rw e.1 at c.propagate-in-Join.ensures) in
    let back = c.cut.ensures ∙ ap held (before_it k (drops j) h m.nodes m.count g) ∙ sym c.requires.1 in
    ap struct_of (right-done k (drops j) h m.nodes m.count g c.in-Truth.ensures.0 (c.if-first-unit.true ∙ c.unit.ensures ∙ ap unit_word (sym e.0)) (ap pair (rw (e.3, back) at c.propagate-then-first-unit.ensures)))

-- It is the other one.
pub returns-else-first-unit : goal.returns-else-first-unit
returns-else-first-unit t c =
    let e = c.in-Join.ensures in let j = c.in-Join.connective in
    let m = c.propagate-in-Join.new.out in let g = ap pair (rw e.1 at c.propagate-in-Join.ensures) in
    ap struct_of (left-done (task c.requires) (drops j) (e.0 ∙ kind-drops j) m.nodes m.count g c.in-Truth.ensures.0 (λ d. c.if-first-unit.false (d ∙ ap unit_word e.0 ∙ sym c.unit.ensures)))

-- It is none.
pub propagate-requires-in_default-of : goal.propagate-requires-in_default-of
propagate-requires-in_default-of t c =
    let e = c.in-Join.ensures in let j = c.in-Join.connective in let k = task c.requires in
    let m = c.propagate-in-Join.new.out in let g = ap pair (rw e.1 at c.propagate-in-Join.ensures) in
    rw e.3
    (child-asks c.decreases (right-asks k (drops j) (e.0 ∙ kind-drops j) m.count (child-grown k (left (get_or c.args.nodes.now c.args.i 0)) g).short)
    (held-struct m _ c.propagate-in-Join.ensures))

pub join-requires : goal.join-requires
join-requires t c =
    let e = c.in-Join.ensures in let j = c.in-Join.connective in let k = task c.requires in let h = e.0 ∙ kind-drops j in
    let m = c.propagate-in-Join.new.out in let g = ap pair (rw e.1 at c.propagate-in-Join.ensures) in
    let f = c.propagate-in_default-of.new.out in
    let l = child-grown k (left (get_or c.args.nodes.now c.args.i 0)) g in
    let b = both-grown k (drops j) h m.nodes m.count g f.nodes f.count (ap pair (rw e.3 at c.propagate-in_default-of.ensures)) in
    let a = right-asks k (drops j) h m.count l.short in
    (record { some_word = omega (arith, b.longer); room = omega (arith, b.short, a.room); zeros = held-struct f _ c.propagate-in_default-of.ensures }, l.longer, b.longer)

pub returns-in_default-of : goal.returns-in_default-of
returns-in_default-of t c =
    let e = c.in-Join.ensures in let j = c.in-Join.connective in
    let m = c.propagate-in-Join.new.out in let g = ap pair (rw e.1 at c.propagate-in-Join.ensures) in
    let f = c.propagate-in_default-of.new.out in
    let z = no-truth-value (get_or m.nodes (m.count - 1) 0) c.of-in-Join.result c.of-in-Join.ensures c.in_default-of.not-Truth in
    ap struct_of (join-done (task c.requires) (drops j) (e.0 ∙ kind-drops j) m.nodes m.count g z f.nodes f.count (ap pair (rw e.3 at c.propagate-in_default-of.ensures)) (ap pair (rw (← e.0) at c.join.ensures)))
