-- The numbers that the benchmark's entries return. Definitions only; the laws are in Entry/Laws.antt.
use Rattle.std.specs.Prelude.{ℕ, ◌+◌, ◌*◌, Bool, cond, List, get_or}
use Rattle.causes.specs.Causes.{Answer, Done, Refused, number, place}
use Rattle.tables.specs.declared.Record.{Record}
use Rattle.tables.specs.declared.Store.{Store}
use Rattle.answer.specs.Reply.{Found}
use Rattle.standing.specs.declared.View.{View}
use Rattle.standing.specs.Change.{Change}

-- The store of these arrays.
abbrev pub store_with : List ℕ → List ℕ → List ℕ → ℕ → Store
store_with ws rs vs n = record { widths = ws; relations = rs; values = vs; count = n }

-- A refusal, by document 01's number and place: 2^63 + 256 × number + place.
abbrev pub refusal : ℕ → ℕ → ℕ
refusal n p = 9223372036854775808 + 256 * n + p

-- 2^63 for endless, or a refusal, else the number of rows.
abbrev pub code : Answer → Bool → ℕ → ℕ
code Done endless rows = cond endless 9223372036854775808 rows
code (Refused n p) endless rows = refusal (number (Refused n p)) (place (Refused n p))

abbrev pub coded : Found × List ℕ → ℕ × List ℕ
coded f = (code f.0.answer f.0.endless f.0.rows, f.1)

-- The list of these arrays: its counts are those of rows at opening, joined and left.
abbrev pub view_with : List ℕ → ℕ → List ℕ → ℕ → Bool → List ℕ → View
view_with cs k vs n endless counts =
    record {
      columns = record { variables = cs; count = k };
      rows = record { values = vs; count = n };
      endless = endless;
      opening = get_or counts 0 0;
      joined = get_or counts 1 0;
      left = get_or counts 2 0;
    }

abbrev pub record_with : ℕ → List ℕ → Record
record_with r vs = record { relation = r; first = get_or vs 0 0; second = get_or vs 1 0; third = get_or vs 2 0; fourth = get_or vs 3 0 }

-- A refusal, else the numbers of rows that joined and left.
abbrev pub change_code : Answer → ℕ → ℕ → ℕ
change_code Done joined left = joined + 65536 * left
change_code (Refused n p) joined left = refusal (number (Refused n p)) (place (Refused n p))

abbrev pub coded_change : Change × (List ℕ × List ℕ) → ℕ × (List ℕ × List ℕ)
coded_change c = (change_code c.0.answer c.0.joined c.0.left, c.1)
