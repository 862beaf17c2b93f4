-- A search for a key, and what its turns tell.
use Rattle.std.specs.Prelude.{◌≡◌, ◌<◌, ◌≤◌, ◌+◌, ◌⊎◌, ℕ, Bool, true, false, Option, Some, None, MatchBool, if◌then◌else◌}
use Rattle.key_table.specs.declared.search.Sought.{Sought}
use Rattle.key_table.specs.declared.search.Sought.TheVariants.{Going, At, Absent}
use Rattle.key_table.specs.Path.{path_row, HasPassed, IsMissed}

-- how many rows of the key's path it has passed, and whether it makes the row
pub record Seeking : Type 0 where
  pub key : ℕ
  pub rows : ℕ
  pub passed : ℕ
  pub makes : Bool

-- where its next turn claims or looks
abbrev pub next_row : Seeking → ℕ
next_row s = path_row s.key s.rows s.passed

-- the key of its claims; looks have none
abbrev pub claimed : Seeking → Option ℕ
claimed s = if s.makes then Some s.key else None

-- the search after a turn
abbrev pub turned : Sought → Seeking → Seeking
turned Going s = record s { passed = s.passed + 1 }
turned (At row made) s = s
turned Absent s = s

-- what a turn tells, by what is known afterwards and the number that the word held
abbrev pub TurnTells : Sought → Seeking → (ℕ → Option ℕ) → ℕ → Type 0
TurnTells Going s known number = (s.passed + 1 < s.rows) × HasPassed known s.key s.rows (s.passed + 1)
TurnTells (At row made) s known number = (row ≡ next_row s) × (row < s.rows) × (known row ≡ Some s.key) × MatchBool made ((number ≡ 0) × (s.makes ≡ true)) (number ≡ s.key + 1)
TurnTells Absent s known number = (s.makes ≡ false) × ((number ≡ 0) ⊎ HasPassed known s.key s.rows s.rows)

-- room for at most one record goes, and only where the turn made the row
abbrev pub TurnSpends : Sought → ℕ → ℕ → Type 0
TurnSpends (At row true) before after = before ≤ after + 1
TurnSpends (At row false) before after = after ≡ before
TurnSpends Going before after = after ≡ before
TurnSpends Absent before after = after ≡ before

-- what the last turn of a search tells, by the row and the number of its last step
abbrev pub EndTells : Sought → Seeking → (ℕ → Option ℕ) → ℕ × ℕ → Type 0
EndTells Going s known last = ⊥
EndTells (At row made) s known last = (row ≡ last.0) × (row < s.rows) × (known row ≡ Some s.key) × MatchBool made ((last.1 ≡ 0) × (s.makes ≡ true)) (last.1 ≡ s.key + 1)
EndTells Absent s known last = (s.makes ≡ false) × IsMissed known s.key s.rows last

-- a row that was known before is found again, and not made
abbrev pub FindsAgain : Sought → ℕ → (ℕ → Option ℕ) → Type 0
FindsAgain Going key known = Unit {0}
FindsAgain (At row made) key known = (old : ℕ) → known old ≡ Some key → (row ≡ old) × (made ≡ false)
FindsAgain Absent key known = Unit {0}
