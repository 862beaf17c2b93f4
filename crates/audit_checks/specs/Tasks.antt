-- What a list of tasks, in any order, says.
use Rattle.std.specs.Prelude.{◌≡◌, ◌==◌, ◌&&◌, ℕ, ◌+◌, ◌<◌, List, ◌++◌, length, slice_index, map, Bool, false, Contains, count_by, sum_by, Some, if◌then◌else◌}
use Rattle.std.specs.Option.{option_map_or}
use Rattle.raw_graph.specs.declared.raw.RawTask.{RawTask}

abbrev pub key_of : RawTask → ℕ
key_of t = t.key.0

abbrev pub keys_of : List RawTask → List ℕ
keys_of ts = map key_of ts

-- ascending, and each once
pub record IsAscending (keys : List ℕ) : Type 0 where
  pub rises : (i j : ℕ) → i < j → j < length keys → slice_index keys i < slice_index keys j

-- the predecessors by place: the inputs, then the order predecessors
abbrev pub places_of : RawTask → List ℕ
places_of t = t.inputs ++ t.after

-- how many places of all tasks name the key
abbrev pub edge_count : List RawTask → ℕ → ℕ
edge_count ts key = sum_by (λ t. count_by (λ p. p == key) (places_of t)) ts

-- with the hidden root's edge on the sink
abbrev pub succ_count : List RawTask → ℕ → ℕ → ℕ
succ_count ts sink key = edge_count ts key + (if key == sink then 1 else 0)

-- p is a direct predecessor of k
pub record IsBefore (ts : List RawTask) (p k : ℕ) : Type 0 where
  pub task : RawTask
  pub stands : Contains ts task
  pub key : key_of task ≡ k
  pub names : Contains (places_of task) p

-- a chain of predecessors leads from p to k
pub data Leads (ts : List RawTask) : ℕ → ℕ → Type 0 where
  last : (p k : ℕ) → IsBefore ts p k → Leads ts p k
  step : (p q k : ℕ) → IsBefore ts p q → Leads ts q k → Leads ts p k

-- the task writes this version of this block
abbrev pub writes : ℕ → ℕ → RawTask → Bool
writes b v t = option_map_or (λ w. (w.0 == b) && (w.1 == v)) t.block false

pub record Writes (ts : List RawTask) (t : RawTask) (b v : ℕ) : Type 0 where
  pub stands : Contains ts t
  pub place : t.block ≡ Some (b, v)
