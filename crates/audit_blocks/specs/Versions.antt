-- The versions that the tasks state, as a list in order. Tasks are named by their numbers.
use Rattle.std.specs.Prelude.{◌≡◌, ◌==◌, ◌&&◌, ◌⊎◌, ℕ, ◌+◌, ◌-◌, ◌<◌, ◌≤◌, List, length, Bool, Some, All, Contains, count_by, slice_get, slice_index_or}
use Rattle.raw_graph.specs.declared.raw.RawTask.{RawTask}
use Rattle.audit_checks.specs.Tasks.{writes}
use Rattle.audit_blocks.specs.declared.written.Written.{Written}

abbrev pub entry : ℕ → ℕ → ℕ → Written
entry b v i = record { block = b; version = v; writer = i }

-- what stands at a place of the list
abbrev pub at : List Written → ℕ → Written
at ws i = slice_index_or ws i (entry 0 0 0)

-- each stated version is from 1 to 16384
abbrev pub HasFileVersions : List RawTask → Type 0
HasFileVersions ts = (i : ℕ) (t : RawTask) (b v : ℕ) → slice_get ts i ≡ Some t → t.block ≡ Some (b, v) → (1 ≤ v) × (v ≤ 16384)

-- the writer states that version of that block
pub record IsStated (ts : List RawTask) (w : Written) : Type 0 where
  pub task : RawTask
  pub stands : slice_get ts w.writer ≡ Some task
  pub states : task.block ≡ Some (w.block, w.version)

abbrev pub tells : ℕ → ℕ → Written → Bool
tells b v w = (w.block == b) && (w.version == v)

-- the list says what all tasks state
pub record AreWritten (ts : List RawTask) (ws : List Written) : Type 0 where
  pub sound : All (IsStated ts) ws
  pub complete : (i : ℕ) (t : RawTask) (b v : ℕ) → slice_get ts i ≡ Some t → t.block ≡ Some (b, v) → Contains ws (entry b v i)
  pub counted : (b v : ℕ) → count_by (tells b v) ws ≡ count_by (writes b v) ts
  pub few : length ws ≤ length ts

abbrev pub Below : Written → Written → Type 0
Below x y = (x.block < y.block) ⊎ ((x.block ≡ y.block) × (x.version < y.version))

abbrev pub UpTo : Written → Written → Type 0
UpTo x y = (x.block < y.block) ⊎ ((x.block ≡ y.block) × (x.version ≤ y.version))

-- by block, and then by version
pub record IsOrdered (ws : List Written) : Type 0 where
  pub up : (i j : ℕ) → i ≤ j → j < length ws → UpTo (at ws i) (at ws j)

-- by block and version, and no version twice
pub record IsRising (ws : List Written) : Type 0 where
  pub rises : (i j : ℕ) → i < j → j < length ws → Below (at ws i) (at ws j)

abbrev pub SameBlock : List Written → ℕ → Type 0
SameBlock ws i = (0 < i) × ((at ws (i - 1)).block ≡ (at ws i).block)

-- n is the version before place i in the same block, or 0 at the first one of a block
abbrev pub IsLast : List Written → ℕ → ℕ → Type 0
IsLast ws i n = (SameBlock ws i × (n ≡ (at ws (i - 1)).version)) ⊎ ((SameBlock ws i → ⊥) × (n ≡ 0))

-- up to place n each version is one more than the last
pub record IsWholeTo (ws : List Written) (n : ℕ) : Type 0 where
  pub next : (i last : ℕ) → i < n → IsLast ws i last → (at ws i).version ≡ last + 1

abbrev pub IsWhole : List Written → Type 0
IsWhole ws = IsWholeTo ws (length ws)
