-- `standing::places::stands` meets its contract: past the last row none stands, before it the row at the place decides.
use Rattle.std.proofs.Common.{ap, ◌∙◌, le-ltb}
use Rattle.calculus.specs.Sets.{same_list}
use Rattle.standing.specs.Code.View.{values_of}
use Rattle.standing.proofs.Comparing.{quad-same}
use Rattle.standing.proofs.Walking.{stands-past, stands_at}
use Rattle.standing.proofs.places.stands.Goals as goal

pub returns-then-j-m : goal.returns-then-j-m
returns-then-j-m c =
    let s = c.args in
    c.eq.ensures ∙ quad-same s.x c.read.result ∙ ap (same_list (values_of s.x)) c.read.ensures
    ∙ stands_at s.ys.now s.m c.requires.0 c.requires.1 s.j (values_of s.x) c.requires.2 c.if-j-m.true

pub returns-else-j-m : goal.returns-else-j-m
returns-else-j-m c =
    let s = c.args in
    le-ltb s.j s.m c.if-j-m.false ∙ stands-past s.ys.now s.m c.requires.0 c.requires.1 s.j (values_of s.x) c.requires.2 c.if-j-m.false
