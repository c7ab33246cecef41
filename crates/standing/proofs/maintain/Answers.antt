-- `standing::maintain` meets its contract: the rows found anew and those held are compared in their places, which finds the rows that joined and left; the reply
-- is the one that `maintained` comes to at the same cause.
use Rattle.std.specs.Prelude.{◌≡◌, refl, Err}
use Rattle.std.proofs.Common.{rules, ap, ◌∙◌}
use Rattle.causes.specs.Causes.{Done, refusal_of, number_of, place_of}
use Rattle.standing.specs.Change.{change_in}
use Rattle.standing.proofs.Maintaining.{renews, few_columns, new-in-order, old-in-order, few-added, few-gone, turn-refused, turn-fits, turn-done}
use Rattle.standing.proofs.maintain.Goals as goal

pub only_in-n-requires : goal.only_in-n-requires
only_in-n-requires c =
    let r = renews c.args.view c.in-Some.found c.requires.0 c.requires.1 (search rules) (search rules) c.kept-endless.ensures c.in-Some.ensures in
    (new-in-order r, old-in-order r, refl)

pub only_in-m-requires : goal.only_in-m-requires
only_in-m-requires c =
    let r = renews c.args.view c.in-Some.found c.requires.0 c.requires.1 (search rules) (search rules) c.kept-endless.ensures c.in-Some.ensures in
    (old-in-order r, new-in-order r, refl)

pub cause-requires : goal.cause-requires
cause-requires c =
    let r = renews c.args.view c.in-Some.found c.requires.0 c.requires.1 (search rules) (search rules) c.kept-endless.ensures c.in-Some.ensures in
    (few-added r c.only_in-n.ensures c.only_in-m.ensures, few-gone r c.only_in-n.ensures c.only_in-m.ensures, few_columns c.requires.0)

pub returns-in_err-cause : goal.returns-in_err-cause
returns-in_err-cause c = λ before.
    let r = renews c.args.view c.in-Some.found c.requires.0 c.requires.1 (search rules) (search rules) c.kept-endless.ensures c.in-Some.ensures in
    let x = c.in_err-cause.field-0.0 in
    let e : c.from_residual.result ≡ Err x = search rules in
    ap (λ y. (change_in before c.args.view y, (c.args.joined.now, c.args.left.now))) e
    ∙ turn-refused r c.only_in-n.ensures c.only_in-m.ensures before c.args.joined.now c.args.left.now (refusal_of x) c.in_err-cause.ensures (number_of x) (place_of x) refl

pub gather-requires : goal.gather-requires
gather-requires c =
    let r = renews c.args.view c.in-Some.found c.requires.0 c.requires.1 (search rules) (search rules) c.kept-endless.ensures c.in-Some.ensures in
    let fits = turn-fits r c.only_in-n.ensures c.only_in-m.ensures c.args.after c.args.joined.now c.args.left.now Done c.in_ok-cause.ensures refl in
    (few_columns c.requires.0, few-added r c.only_in-n.ensures c.only_in-m.ensures, fits.2)

pub gather-requires-2 : goal.gather-requires-2
gather-requires-2 c =
    let r = renews c.args.view c.in-Some.found c.requires.0 c.requires.1 (search rules) (search rules) c.kept-endless.ensures c.in-Some.ensures in
    let fits = turn-fits r c.only_in-n.ensures c.only_in-m.ensures c.args.after c.args.joined.now c.args.left.now Done c.in_ok-cause.ensures refl in
    (few_columns c.requires.0, few-gone r c.only_in-n.ensures c.only_in-m.ensures, fits.3)

pub overflow_add-view : goal.overflow_add-view
overflow_add-view c =
    let r = renews c.args.view c.in-Some.found c.requires.0 c.requires.1 (search rules) (search rules) c.kept-endless.ensures c.in-Some.ensures in
    record { fits = (turn-fits r c.only_in-n.ensures c.only_in-m.ensures c.args.after c.args.joined.now c.args.left.now Done c.in_ok-cause.ensures refl).0 }

pub overflow_add-view-2 : goal.overflow_add-view-2
overflow_add-view-2 c =
    let r = renews c.args.view c.in-Some.found c.requires.0 c.requires.1 (search rules) (search rules) c.kept-endless.ensures c.in-Some.ensures in
    record { fits = (turn-fits r c.only_in-n.ensures c.only_in-m.ensures c.args.after c.args.joined.now c.args.left.now Done c.in_ok-cause.ensures refl).1 }

pub returns : goal.returns
returns c = λ before.
    let r = renews c.args.view c.in-Some.found c.requires.0 c.requires.1 (search rules) (search rules) c.kept-endless.ensures c.in-Some.ensures in
    turn-done r c.only_in-n.ensures c.only_in-m.ensures before c.args.joined.now c.args.left.now Done c.in_ok-cause.ensures refl c.gather.ensures c.gather-2.ensures
