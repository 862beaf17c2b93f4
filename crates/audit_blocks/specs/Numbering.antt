-- The numbers of blocks: the stated names ascending, and then the tasks' own blocks in the order of the tasks.
use Rattle.std.specs.Prelude.{◌≡◌, ◌==◌, ◌&&◌, ℕ, ◌+◌, ◌≤◌, List, length, Bool, true, false, Option, Some, None, Contains, count_by, map, take, slice_get, slice_index}
use Rattle.std.specs.List.{position_or_len}
use Rattle.std.specs.Option.{option_map_or}
use Rattle.graph_model.specs.declared.graph.Place.{Place}
use Rattle.raw_graph.specs.declared.raw.RawTask.{RawTask}
use Rattle.audit_checks.specs.Tasks.{IsAscending, Writes}
use Rattle.audit_checks.specs.ByKey.{number_in}

-- the writer of a version, and how many versions a block has
abbrev pub writer_in : List ℕ → List Place → ℕ → ℕ → ℕ
writer_in keys places b v = slice_index keys (position_or_len (λ p. (p.block == b) && (p.version == v)) places)

abbrev pub versions_in : List Place → ℕ → ℕ
versions_in places b = count_by (λ p. p.block == b) places

-- the block of a task by key, and its version
abbrev pub block_in : List ℕ → List Place → ℕ → ℕ
block_in keys places k = slice_index (map (λ p. p.block) places) (number_in keys k)

abbrev pub version_in : List ℕ → List Place → ℕ → ℕ
version_in keys places k = slice_index (map (λ p. p.version) places) (number_in keys k)

-- whether a task states no block
abbrev pub is_own : RawTask → Bool
is_own t = option_map_or (λ _. false) t.block true

abbrev pub own_count : List RawTask → ℕ
own_count ts = count_by is_own ts

-- a stated block has the number of its name; one that is not stated is the next block, of version 1
abbrev pub HasPlace : List ℕ → ℕ → Option (ℕ × ℕ) → Place → Type 0
HasPlace names next None p = (p.block ≡ next) × (p.version ≡ 1)
HasPlace names next (Some w) p = (slice_get names p.block ≡ Some w.0) × (p.version ≡ w.1)

-- the names are the distinct stated ones, ascending; an own block comes after them and after the own blocks of the tasks before
pub record AreNumbered (ts : List RawTask) (places : List Place) (count : ℕ) : Type 0 where
  pub names : List ℕ
  pub ascending : IsAscending names
  pub stated : (t : RawTask) (b v : ℕ) → Writes ts t b v → Contains names b
  pub only : (b : ℕ) → Contains names b → (t : RawTask) × (v : ℕ) × Writes ts t b v
  pub long : length places ≡ length ts
  pub count_is : count ≡ length names + own_count ts
  pub each : (i : ℕ) (t : RawTask) (p : Place) → slice_get ts i ≡ Some t → slice_get places i ≡ Some p → HasPlace names (length names + own_count (take i ts)) t.block p
  pub few : length names ≤ length ts
