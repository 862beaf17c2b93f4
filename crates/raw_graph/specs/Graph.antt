-- A graph as data, without where it lies in memory.
use Rattle.std.specs.Prelude.{ℕ, List, map, Option, Vec}
use Rattle.std.specs.declared.alloc.Global.{Global}
use Rattle.graph_model.specs.declared.plan.Strike.{Strike}
use Rattle.formula_text.specs.Trees.{Tree}
use Rattle.formula_text.specs.Formulas.{tree}
use Rattle.raw_graph.specs.declared.raw.RawTask.{RawTask}
use Rattle.raw_graph.specs.declared.raw.RawGraph.{RawGraph}

-- a task: its key, its formula, the keys of its inputs and of the tasks that come before it for another reason, and the name and version of the block that it states
pub record Task : Type 0 where
  pub key : ℕ
  pub tree : Tree
  pub inputs : List ℕ
  pub after : List ℕ
  pub block : Option (ℕ × ℕ)

-- the tasks in the order of the file
pub record Graph : Type 0 where
  pub sink : ℕ
  pub tasks : List Task

-- what a file holds: a graph and the strikes of its plan
pub record File : Type 0 where
  pub graph : Graph
  pub plan : List Strike

-- the data of a task in memory
abbrev pub task_of : RawTask → Task
task_of t = record { key = t.key.0; tree = tree t.formula; inputs = t.inputs; after = t.after; block = t.block }

-- the data of a graph in memory
abbrev pub graph_of : RawGraph → Graph
graph_of g = record { sink = g.sink.0; tasks = map task_of g.tasks.items }

-- the file that a graph and a plan make
abbrev pub file_with : RawGraph → List Strike → File
file_with graph plan = record { graph = graph_of graph; plan = plan }

-- the same of strikes that are no plan yet
abbrev pub file_of : RawGraph × Vec Strike Global → File
file_of r = file_with r.0 r.1.items

-- the keys of tasks, in their order
abbrev pub keys_of : List Task → List ℕ
keys_of tasks = map (λ task. task.key) tasks
