-- `rules::pack` meets its contract: each turn of the loop and each way out is one law of the automaton.
use Rattle.std.specs.Prelude.{◌≡◌, length, refl, false, true, not, Err}
use Rattle.std.proofs.Common.{rules, sym, ap, ◌∙◌, arith}
use denote.Enum.Bare.{sameb}
use Rattle.rules.specs.contracts.mode.Mode.{the_type}
use Rattle.rules.specs.declared.mode.Mode.TheVariants.{Out, Done}
use Rattle.causes.specs.declared.Refusal.TheVariants.{Text}
use Rattle.rules.specs.Reply.{packing_in}
use Rattle.rules.proofs.Theory.Code.Draft.Laws.{was-some, was-none}
use Rattle.rules.proofs.Theory.Code.Running.{told-as, told-start, told-stops, told-nothing, told-column, told-column-past, told-goals, told-goals-past, told-early, told-past-head, told-past-body, told-ready, told-done}
use Rattle.rules.proofs.pack.Goals as goal
use Rattle.rules.proofs.pack.Goals.{in-Nothing, in-Column+in-Some, in-Column+in_default-head, in_default+in-Some-body, in_default+in_default-body}

pub loop-i-init : goal.loop-i-init
loop-i-init c =
    told-start c.args.text.now c.start-here.result c.no_head.result c.no_goals.result c.start-here.ensures c.no_head.ensures c.no_goals.ensures

pub returns-then-eq : goal.returns-then-eq
returns-then-eq c =
    let l = c.loop-i in let out : c.step-here.result.mode ≡ Out = search rules in
    told-stops l.invariant c.loop-i-test.true c.step-here.result c.step-here.ensures out _ refl

pub loop-i-preserved : goal.loop-i-preserved
loop-i-preserved c =
    let l = c.loop-i in
    let alive : ¬ (c.step-here.result.mode ≡ Out) = λ e. let z : sameb the_type c.step-here.result.mode Out ≡ true = ap (λ v. sameb the_type v Out) e in absurd (cc) in
    elim c.match-effect.branch [
      | in-Nothing w ↦
          told-as w.head-is w.body-is w.constants-is w.nodes-is
          (told-nothing l.invariant c.loop-i-test.true c.step-here.result c.step-here.ensures alive c.effect.result c.effect.ensures w.in-Nothing.is)
      | in-Column+in-Some w ↦
          told-as w.head-is w.body-is w.constants-is w.nodes-is
          (told-column l.invariant c.loop-i-test.true c.step-here.result c.step-here.ensures alive c.effect.result c.effect.ensures w.in-Column.is w.in-Some.h w.in-Some.is c.unwrap_or-number.result c.unwrap_or-number.ensures w.column-head.result w.column-head.ensures)
      | in-Column+in_default-head w ↦
          told-as w.head-is w.body-is w.constants-is w.nodes-is
          (told-column-past l.invariant c.loop-i-test.true c.step-here.result c.step-here.ensures alive c.effect.result c.effect.ensures w.in-Column.is w.in_default-head.is)
      | in_default+in-Some-body w ↦
          told-as w.head-is w.body-is w.constants-is w.nodes-is
          (told-goals l.invariant c.loop-i-test.true c.step-here.result c.step-here.ensures alive c.effect.result c.effect.ensures w.in_default.not-Nothing w.in_default.not-Column w.in-Some-body.g w.in-Some-body.is c.unwrap_or-number.result c.unwrap_or-number.ensures w.goals-body.result w.goals-body.new.constants w.goals-body.new.nodes w.goals-body.ensures.kept)
      | in_default+in_default-body w ↦
          told-as w.head-is w.body-is w.constants-is w.nodes-is
          (told-goals-past l.invariant c.loop-i-test.true c.step-here.result c.step-here.ensures alive c.effect.result c.effect.ensures w.in_default.not-Nothing w.in_default.not-Column w.in_default-body.is)
    ]

pub returns-then-ne : goal.returns-then-ne
returns-then-ne c =
    let l = c.loop-i in
    let early : ¬ (l.here.mode ≡ Done) = λ e. let z : not (sameb the_type l.here.mode Done) ≡ false = ap (λ v. not (sameb the_type v Done)) e in absurd (cc) in
    told-early l.invariant (omega arith) early _ refl

pub returns-in_err-columns : goal.returns-in_err-columns
returns-in_err-columns c =
    let l = c.loop-i in let end : l.here.mode ≡ Done = search rules in
    let r : c.from_residual.result ≡ Err (Text (length c.args.text.now)) = search rules in
    told-past-head l.invariant (omega arith) end (was-none l.head _ _ (sym c.ok_or.ensures.value ∙ c.in_err-columns.was)) _ (ap packing_in r)

pub returns-in_err-goals : goal.returns-in_err-goals
returns-in_err-goals c =
    let l = c.loop-i in let end : l.here.mode ≡ Done = search rules in
    let r : c.from_residual-in_err-goals.result ≡ Err (Text (length c.args.text.now)) = search rules in
    told-past-body l.invariant (omega arith) end (was-none l.body _ _ (sym c.ok_or-2.ensures.value ∙ c.in_err-goals.was)) _ (ap packing_in r)

pub finish-requires : goal.finish-requires
finish-requires c =
    let l = c.loop-i in
    let end : c.loop-i.here.mode ≡ Done = search rules in
    told-ready l.invariant (omega arith) end c.in_ok-columns.columns (was-some l.head _ c.in_ok-columns.columns (sym c.ok_or.ensures.value ∙ c.in_ok-columns.was)) c.in_ok-goals.goals (was-some l.body _ c.in_ok-goals.goals (sym c.ok_or-2.ensures.value ∙ c.in_ok-goals.was))

pub returns : goal.returns
returns c =
    let l = c.loop-i in
    let end : c.loop-i.here.mode ≡ Done = search rules in
    told-done l.invariant (omega arith) end c.in_ok-columns.columns (was-some l.head _ c.in_ok-columns.columns (sym c.ok_or.ensures.value ∙ c.in_ok-columns.was)) c.in_ok-goals.goals (was-some l.body _ c.in_ok-goals.goals (sym c.ok_or-2.ensures.value ∙ c.in_ok-goals.was)) _ c.finish.ensures
