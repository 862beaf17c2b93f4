-- Words with a number.
use Rattle.std.specs.Prelude.{ℕ, List, ◌++◌, decimal}

-- words, and a number in decimal digits behind them
abbrev pub field_text : List ℕ → ℕ → List ℕ
field_text words number = words ++ decimal number
