-- What a task graph with its hidden root tells of the core's graph.
use Rattle.std.specs.Prelude.{◌≡◌, ◌⊎◌, ℕ, ◌<◌}
use Rattle.graph_model.specs.Graph.{Graph as TaskGraph, IsTask}
use Rattle.graph_model.specs.Serial.{Outcome}
use Rattle.core_state.specs.Graph.{Graph}
use Rattle.core_state.specs.Rooted.{root_key, IsTaskIn, IsRootIn}

-- the root or a task
abbrev pub IsCoreKey : TaskGraph → ℕ → Type 0
IsCoreKey g k = (k ≡ root_key) ⊎ IsTask g k

-- the core's graph has for each task what the task graph answers, and the hidden root above the sink; the block behind the last has the cells of the sink's
pub record IsGraphOf (g : TaskGraph) (outcome : Outcome) (r : Graph) : Type 0 where
  pub root : r.root ≡ root_key
  pub sink : r.sink ≡ g.sink
  pub at_task : (k : ℕ) → IsTask g k → IsTaskIn g outcome r k
  pub at_root : IsRootIn g outcome r
  -- the writer of a version of a task's block
  pub writer : (b v : ℕ) → b < g.block_count → r.writer b v ≡ g.writer b v
  pub cells : (b : ℕ) → b < g.block_count → r.cells b ≡ g.cells b
  pub root_cells : r.cells g.block_count ≡ g.cells (g.block g.sink)

-- it holds of each core's graph of these tasks, and of some such graph
abbrev pub InEachGraphOf : TaskGraph → (Graph → Type 0) → Type 0
InEachGraphOf g holds = (outcome : Outcome) (r : Graph) → IsGraphOf g outcome r → holds r

abbrev pub InSomeGraphOf : TaskGraph → (Graph → Type 0) → Type 0
InSomeGraphOf g holds = (outcome : Outcome) × (r : Graph) × IsGraphOf g outcome r × holds r
