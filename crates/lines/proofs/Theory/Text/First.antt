-- Document 01's worked output: the store S and its first query, as a packed input, and the four lines that it prints.
use Rattle.std.specs.Prelude.{◌≡◌, refl, [], ◌∷◌, ◌++◌}
use Rattle.lines.specs.Text.{decimal, line, word_safe, word_columns, word_row, word_rows, text_of, first_input}
use Rattle.tables.specs.Store.{places}

pub first-output : text_of first_input ≡ line word_safe [] ++ (line word_columns (0 ∷ 1 ∷ []) ++ (line word_row (9 ∷ 3 ∷ []) ++ line word_rows (1 ∷ [])))
unfolding decimal places
first-output = refl
