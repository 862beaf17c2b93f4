use Rattle.std.proofs.Common.{◌≡◌, map, take}
use Rattle.serde_json.specs.View.{view}
use Rattle.raw_graph.specs.Graph.{task_of}
use Rattle.graph_reader.specs.Written.{task_data}
use Rattle.graph_reader.proofs.data.tasks_value.Given as goal

-- the items so far are the tasks so far
abbrev pub invariant-loop-task : goal.invariant-loop-task
invariant-loop-task l = map view l.items.items ≡ map (λ t. task_data (task_of t)) (take l.task-index l.tasks)
