use Rattle.std.proofs.Common.{map}
use Rattle.graph_reader.specs.Content.{task_in}
use Rattle.graph_reader.specs.Format.{task_check}
use Rattle.raw_graph.specs.Graph.{task_of}
use Rattle.graph_reader.proofs.Order.{IsChecked}
use Rattle.graph_reader.proofs.tasks.each_task.Given as goal

-- the tasks so far are those of the values so far
abbrev pub invariant-loop-position : goal.invariant-loop-position
invariant-loop-position l = IsChecked task_check task_in l.values l.position (map task_of l.tasks.items)
