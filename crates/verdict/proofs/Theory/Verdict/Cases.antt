-- Document 01's worked cases: the reply to each packed query is what the case says, as numbers.
use Rattle.std.specs.Prelude.{◌≡◌}
use Rattle.std.proofs.Common.{ap, ◌∙◌}
use Rattle.calculus.specs.Sets.{In}
use Rattle.query.specs.Cases.{Case, widths, cases, read_case}
use Rattle.query.proofs.Theory.Cases.Laws.{cases-right}
use Rattle.verdict.specs.Form.{form_of}
use Rattle.verdict.specs.Verdict.{reported, verdict_of}
use Rattle.verdict.proofs.Theory.Verdict.Laws.{verdict-done}

pub case-verdict : (c : Case) → In c cases → verdict_of widths c.bytes ≡ reported (form_of (read_case c).query) c.says
case-verdict c i = let r = cases-right c i in verdict-done widths c.bytes r.accepted ∙ ap (reported (form_of (read_case c).query)) r.verdict_is
