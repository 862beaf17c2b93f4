-- The names and the numbers of blocks, as far as they have come.
use Rattle.std.specs.Prelude.{◌≡◌, ℕ, ◌+◌, ◌<◌, ◌≤◌, List, length, Some, Contains, take, slice_get}
use Rattle.graph_model.specs.declared.graph.Place.{Place}
use Rattle.raw_graph.specs.declared.raw.RawTask.{RawTask}
use Rattle.audit_checks.specs.Tasks.{IsAscending}
use Rattle.audit_blocks.specs.declared.written.Written.{Written}
use Rattle.audit_blocks.specs.Versions.{at}
use Rattle.audit_blocks.specs.Numbering.{own_count, HasPlace}

-- the names of the first n places, ascending and each once
pub record AreNamesTo (ws : List Written) (n : ℕ) (names : List ℕ) : Type 0 where
  pub ascending : IsAscending names
  pub complete : (i : ℕ) → i < n → Contains names (at ws i).block
  pub only : (b : ℕ) → Contains names b → (i : ℕ) × (i < n) × ((at ws i).block ≡ b)
  pub few : length names ≤ n

-- the own blocks of the first n tasks follow the named ones
pub record ArePlacedTo (names : List ℕ) (ts : List RawTask) (n : ℕ) (places : List Place) (count : ℕ) : Type 0 where
  pub long : length places ≡ n
  pub count_is : count ≡ length names + own_count (take n ts)
  pub each : (i : ℕ) (t : RawTask) (p : Place) → slice_get ts i ≡ Some t → slice_get places i ≡ Some p → HasPlace names (length names + own_count (take i ts)) t.block p
