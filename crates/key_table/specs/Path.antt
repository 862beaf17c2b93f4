-- A key's path: the rows from the key modulo their number on, and round the end.
use Rattle.std.specs.Prelude.{◌≡◌, ◌≢◌, ◌<◌, ◌+◌, ◌-◌, ◌%◌, ◌⊎◌, ℕ, Option, Some, nat_lt, if◌then◌else◌}

-- n, or n less the rows from there on
abbrev pub wrapped : ℕ → ℕ → ℕ
wrapped rows n = if nat_lt n rows then n else n - rows

-- the row after so many steps, which are fewer than the rows
abbrev pub path_row : ℕ → ℕ → ℕ → ℕ
path_row key rows steps = wrapped rows (key % rows + steps)

-- what is known of a row is another key
pub record IsOther (known : Option ℕ) (key : ℕ) : Type 0 where
  pub other : ℕ
  pub is : known ≡ Some other
  pub differs : other ≢ key

-- another key is known of each of the first rows of the path
pub record HasPassed (known : ℕ → Option ℕ) (key rows count : ℕ) : Type 0 where
  pub others : (step : ℕ) → step < count → IsOther (known (path_row key rows step)) key

-- another key is known of each row of the path before this one
pub record IsNext (known : ℕ → Option ℕ) (key rows row : ℕ) : Type 0 where
  pub step : ℕ
  pub within : step < rows
  pub at : path_row key rows step ≡ row
  pub passed : HasPassed known key rows step

-- the last look missed the key: the word that it read was empty and stood next on the key's path, or all rows have other keys
abbrev pub IsMissed : (ℕ → Option ℕ) → ℕ → ℕ → ℕ × ℕ → Type 0
IsMissed known key rows last = ((last.1 ≡ 0) × IsNext known key rows last.0) ⊎ HasPassed known key rows rows
