-- What the function that writes a verdict's bytes asks for. Definitions only; the laws are in Entry/Laws.antt.
use Rattle.std.specs.Prelude.{◌≤◌}
use Rattle.query.specs.Reading.{max_columns}
use Rattle.query.specs.Code.Writing.{Few}
use Rattle.verdict.specs.Verdict.{Verdict}

-- A verdict within the limits, as one on an accepted query is.
abbrev pub Writable : Verdict → Type 0
Writable v = (v.columns.count ≤ max_columns) × Few v.form
