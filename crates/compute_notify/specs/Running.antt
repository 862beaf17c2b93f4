-- What the turns of a run rest on, beside the seat.
use Rattle.std.specs.Prelude.{◌≡◌, ◌↔◌, ℕ, ◌+◌, ◌^◌, ◌<◌, ◌≤◌, ℤ, cond, eqb, List, length, map}
use Rattle.graph_model.specs.Graph.{Graph as TaskGraph, IsLawful, IsTask}
use Rattle.graph_model.specs.Plans.{HasTaskKeys}
use Rattle.graph_model.specs.Serial.{Outcome, serial, inputs_of}
use Rattle.graph_model.specs.declared.plan.Strike.{Strike}
use Rattle.core_state.specs.Asked.{IsCoreKey, IsGraphOf}
use Rattle.core_state.specs.Graph.{Graph, Setting}
use Rattle.core_state.specs.Rooted.{root_key, plan_of}
use Rattle.recovery.specs.Serving.{Serves}
use Rattle.graph_model.specs.declared.graph.Edge.{Edge}

-- the greatest life of a key, where the caller allows this one
abbrev pub life_limit : ℕ → ℕ → ℕ
life_limit k lives = cond (eqb k root_key) 65535 lives

-- the seat serves the tasks of the graph, under this plan of strikes and with this greatest life
pub record Runs (g : TaskGraph) (strikes : List Strike) (lives : ℕ) (e : Setting) : Type 0 where
  pub serves : Serves g e
  pub laws : IsLawful g
  pub plan_is : e.plan ≡ plan_of strikes
  pub few_strikes : length strikes ≤ 4096
  pub task_strikes : HasTaskKeys strikes
  pub lives_are : e.lives ≡ lives
  pub some_life : (0 < lives) × (lives ≤ 65535)
  pub some_row : 0 < e.shape.rows
  pub few_rows : e.shape.rows < 2 ^ 32
  pub blocks_are : e.shape.blocks ≡ g.block_count + 1
  pub few_words : (k : ℕ) → IsCoreKey g k → e.graph.notify_words k ≤ 17
  pub from_one : (k : ℕ) → IsCoreKey g k → 0 < e.graph.version k
  pub written_by : (k : ℕ) → IsCoreKey g k → e.graph.writer (e.graph.block k) (e.graph.version k) ≡ k
  -- each value has as many cells as its block
  pub value_fits : (k : ℕ) → IsCoreKey g k → length (e.graph.value k) ≡ e.graph.cells (e.graph.block k)

-- the kernel makes the values of the setting, and each task can be computed from the values of its data predecessors
pub record Makes (g : TaskGraph) (outcome : Outcome) (fits : ℕ → List (List ℤ) → Type 0) (e : Setting) : Type 0 where
  pub graph_is : IsGraphOf g outcome e.graph
  pub can : (k : ℕ) → IsTask g k → fits k (map (serial g outcome) (inputs_of g k))

-- the kernel's meaning stays
pub record SameKernel (before now : Outcome) (fits_before fits_now : ℕ → List (List ℤ) → Type 0) : Type 0 where
  pub same_outcome : now ≡ before
  pub same_fits : (k : ℕ) (lists : List (List ℤ)) → fits_now k lists ↔ fits_before k lists

-- the edge is that at a place of the key, and names a task
pub record IsPlace (g : TaskGraph) (r : Graph) (k place : ℕ) (edge : Edge) : Type 0 where
  pub is_key : IsCoreKey g edge.key.0
  pub pred_is : r.pred k place ≡ record { task = edge.key.0; port = edge.port }
