use Rattle.std.proofs.Common.{◌≡◌, ◌-◌, ◌++◌, map}
use Rattle.raw_graph.specs.Graph.{task_of}
use Rattle.drill_input.specs.Drill.{each, first_task}
use Rattle.drill_input.proofs.tasks.put_first.Given as goal

abbrev pub invariant-loop-key : goal.invariant-loop-key
invariant-loop-key l = map task_of l.tasks.items ≡ map task_of l.fn.tasks.items ++ each (first_task l.number) 1 (l.key - 1)
