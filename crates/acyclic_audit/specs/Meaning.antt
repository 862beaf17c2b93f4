-- What a graph is, in terms of the tasks of a file, which stand in any order.
use Rattle.std.specs.Prelude.{◌≡◌, ◌&&◌, ℕ, suc, ◌+◌, ◌<◌, ◌≤◌, ◌^◌, nat_lt, List, All, Contains, Some, slice_get, length, map, count_by}
use Rattle.std.specs.List.Sorted.{IsStrictlyIncreasing, IsPermutation}
use Rattle.std.specs.Option.{IfSome}
use Rattle.graph_model.specs.Graph.{Graph}
use Rattle.raw_graph.specs.declared.raw.RawTask.{RawTask}
use Rattle.audit_checks.specs.Tasks.{IsAscending, key_of, keys_of, places_of, IsBefore, Writes}
use Rattle.audit_checks.specs.Ports.{AreAscending}
use Rattle.audit_blocks.specs.Numbering.{HasPlace, is_own, own_count}

-- the numbers of a file are within the limits of its format
pub record IsInLimits (ts : List RawTask) (sink : ℕ) : Type 0 where
  pub few_tasks : length ts ≤ 16384
  pub small_sink : sink < 2 ^ 63
  pub small_keys : All (λ t. key_of t < 2 ^ 63) ts
  pub small_places : All (λ t. All (λ p. p < 2 ^ 63) (places_of t)) ts
  pub versions : All (λ t. IfSome t.block (λ w. (1 ≤ w.1) × (w.1 ≤ 16384))) ts

-- n predecessors, one below the other, stand below the task k
pub data HasChain (ts : List RawTask) : ℕ → ℕ → Type 0 where
  start : (k : ℕ) → HasChain ts k 0
  below : (k p n : ℕ) → IsBefore ts p k → HasChain ts p n → HasChain ts k (suc n)

-- the longest chain of predecessors below the task k has the length r
pub record IsDepth (ts : List RawTask) (k r : ℕ) : Type 0 where
  pub chain : HasChain ts k r
  pub longest : (n : ℕ) → HasChain ts k n → n ≤ r

-- how many of the tasks with lower keys state no block
abbrev pub own_before : List RawTask → ℕ → ℕ
own_before ts k = count_by (λ t. is_own t && nat_lt (key_of t) k) ts

-- a stated block has the place of its name among the stated names in their order. Behind these come the blocks of the tasks
-- that state none, in the order of their keys
pub record HasBlocks (ts : List RawTask) (g : Graph) : Type 0 where
  pub names : List ℕ
  pub ascending : IsAscending names
  pub stated : (t : RawTask) (b v : ℕ) → Writes ts t b v → Contains names b
  pub only : (b : ℕ) → Contains names b → (t : RawTask) × (v : ℕ) × Writes ts t b v
  pub count_is : g.block_count ≡ length names + own_count ts
  pub each : All (λ t. HasPlace names (length names + own_before ts (key_of t)) t.block (record { block = g.block (key_of t); version = g.version (key_of t) })) ts

-- place j of the task with the key k names p
pub record NamesAt (ts : List RawTask) (k j p : ℕ) : Type 0 where
  pub task : RawTask
  pub stands : Contains ts task
  pub key : key_of task ≡ k
  pub names : slice_get (places_of task) j ≡ Some p

-- the successor edges of p are all pairs of a key k and a place j where place j of k names p, ascending by k and then by j; the
-- position of an edge is its port
pub record AreSuccs (ts : List RawTask) (p : ℕ) (es : List (ℕ × ℕ)) : Type 0 where
  pub ascending : AreAscending es
  pub only : (k j : ℕ) → Contains es (k, j) → NamesAt ts k j p
  pub each : (k j : ℕ) → NamesAt ts k j p → Contains es (k, j)

-- g is the graph of the tasks: the laws of a graph say the rest
pub record IsGraphOf (ts : List RawTask) (sink : ℕ) (g : Graph) : Type 0 where
  pub ascending : IsStrictlyIncreasing g.keys
  pub keys : IsPermutation (keys_of ts) g.keys
  pub sink_is : g.sink ≡ sink
  pub preds : All (λ t. map (λ e. e.0) (g.preds (key_of t)) ≡ places_of t) ts
  pub succs : All (λ t. AreSuccs ts (key_of t) (g.succs (key_of t))) ts
  pub inputs : All (λ t. g.inputs (key_of t) ≡ length t.inputs) ts
  pub blocks : HasBlocks ts g
  pub cells : (b : ℕ) → g.cells b ≡ 1
  pub ranks : All (λ t. IsDepth ts (key_of t) (g.rank (key_of t))) ts
