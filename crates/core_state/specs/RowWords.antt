-- The shape of a table by its rows and their words.
use Rattle.std.specs.Prelude.{ℕ}
use Rattle.core_state.specs.Words.{Shape}
use Rattle.core_state.specs.declared.row_words.RowWords.{RowWords}

-- the shape of a table with so many blocks
abbrev pub shape_with : RowWords → ℕ → Shape
shape_with x blocks = record { rows = x.rows; notify_words = x.notify_words; blocks = blocks }
