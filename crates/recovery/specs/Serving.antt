-- The setting of a seat that works on the tasks of a graph.
use Rattle.std.specs.Prelude.{◌≡◌, ℕ, ◌<◌, Contains}
use Rattle.graph_model.specs.Graph.{Graph as TaskGraph}
use Rattle.graph_model.specs.Serial.{Outcome}
use Rattle.core_state.specs.Asked.{IsCoreKey, IsGraphOf}
use Rattle.core_state.specs.Graph.{Graph, Setting, Lawful}

-- the core's graph is that of the tasks, and each task and the root may stand in the table
pub record Serves (g : TaskGraph) (e : Setting) : Type 0 where
  pub outcome : Outcome
  pub graph : IsGraphOf g outcome e.graph
  pub lawful : Lawful e.graph
  pub listed : (k : ℕ) → IsCoreKey g k → Contains e.keys k

-- the port of the task is there, and serves this place of the successor
pub record IsPort (g : Graph) (task port successor place : ℕ) : Type 0 where
  pub low : port < g.ports task
  pub task_is : (g.succ task port).task ≡ successor
  pub place_is : (g.succ task port).place ≡ place
