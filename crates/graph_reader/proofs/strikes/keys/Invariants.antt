use Rattle.std.proofs.Common.{◌≡◌, map, take}
use Rattle.raw_graph.specs.Graph.{task_of, keys_of}
use Rattle.graph_reader.proofs.strikes.keys.Given as goal

-- the keys so far are those of the tasks so far
abbrev pub invariant-loop-task : goal.invariant-loop-task
invariant-loop-task l = l.keys.items ≡ keys_of (map task_of (take l.task-index l.tasks))
