-- A seat that is turned: what it works on fits what its view holds.
use Rattle.std.specs.Prelude.{◌≢◌, ◌<◌, List, [], Option, Some, None}
use Rattle.graph_model.specs.Graph.{Graph as TaskGraph}
use Rattle.graph_model.specs.declared.plan.Strike.{Strike}
use Rattle.acyclic_audit.specs.Views.{graph}
use Rattle.acyclic_audit.specs.declared.graph.FileGraph.{FileGraph}
use Rattle.core_state.specs.Graph.{Setting}
use Rattle.core_state.specs.Rooted.{setting_of}
use Rattle.core_state.specs.declared.views.View.{View}
use Rattle.compute_notify.specs.Rooms.{HasRoom}
use Rattle.compute_notify.specs.Tasks.{Holds, TaskScratch, task_items}
use Rattle.compute_notify.specs.declared.scratch.Scratch.{Scratch}
use Rattle.compute_notify.specs.declared.task.Task.{Task}
use Rattle.graph_runner.specs.Formulas.{formula_outcome}
use Rattle.worker_pool.specs.Working.{IsIdle}

-- no task and no work, or a task that has something left and is that of the view
abbrev pub WorksOn : TaskGraph → Setting → View → Option Task → Type 0
WorksOn g e v None = IsIdle v
WorksOn g e v (Some t) = Holds g e v t × (task_items t ≢ [])

-- the scratch has room for each task, and stands as the task's turn before left it
abbrev pub HasScratch : TaskGraph → Setting → Scratch → Option Task → Type 0
HasScratch g e s None = HasRoom g s
HasScratch g e s (Some t) = TaskScratch e g s t

-- a seat with this view works on this task with this scratch
abbrev pub Sits : TaskGraph → Setting → View → Option Task → Scratch → Type 0
Sits g e v t s = WorksOn g e v t × HasScratch g e s t

-- the setting of a run of a file's graph under this plan, in which a life may be 65,535
abbrev pub setting_for : FileGraph → List Strike → Setting
setting_for g strikes = setting_of (graph g) (formula_outcome g) strikes 65535

-- the first two blocks are not the root's, which is one of the table
pub record HasTwoBlocks (e : Setting) : Type 0 where
  pub two : 1 < e.graph.block e.graph.root
  pub root : e.graph.block e.graph.root < e.shape.blocks
