-- The places of the tasks, by numbers.
use Rattle.std.specs.Prelude.{◌≡◌, ◌==◌, ℕ, ◌-◌, ◌<◌, List, length, Bool, true, Some, slice_get}
use Rattle.std.specs.List.{list_any}
use Rattle.raw_graph.specs.declared.raw.RawTask.{RawTask}
use Rattle.audit_checks.specs.Tasks.{IsAscending, keys_of, places_of}
use Rattle.audit_checks.specs.Rows.{row}
use Rattle.audit_checks.specs.Links.{Tells}
use Rattle.audit_blocks.specs.declared.written.Written.{Written}
use Rattle.audit_blocks.specs.Versions.{at, SameBlock}

-- the rows tell the places of the tasks
pub record TellsPlaces (ts : List RawTask) (keys : List ℕ) (rows : List (List (ℕ × ℕ))) : Type 0 where
  pub is : keys_of ts ≡ keys
  pub up : IsAscending keys
  pub long : length rows ≡ length ts
  pub tells : (i : ℕ) (t : RawTask) → slice_get ts i ≡ Some t → Tells keys (places_of t) (row rows i)

-- whether a place of task k names task p
abbrev pub names_in : List (List (ℕ × ℕ)) → ℕ → ℕ → Bool
names_in rows k p = list_any (λ e. e.0 == p) (row rows k)

-- up to place n the writer of a version is named by the writer of the next one
pub record IsInTurnTo (ws : List Written) (rows : List (List (ℕ × ℕ))) (n : ℕ) : Type 0 where
  pub names : (i : ℕ) → i < n → SameBlock ws i → names_in rows (at ws i).writer (at ws (i - 1)).writer ≡ true

abbrev pub IsInTurn : List Written → List (List (ℕ × ℕ)) → Type 0
IsInTurn ws rows = IsInTurnTo ws rows (length ws)
