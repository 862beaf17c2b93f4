use Rattle.std.proofs.Common.{◌≡◌, ◌-◌, ◌++◌, map}
use Rattle.raw_graph.specs.Graph.{task_of}
use Rattle.drill_input.specs.Drill.{each, next_version}
use Rattle.drill_input.proofs.tasks.put_versions.Given as goal

abbrev pub invariant-loop-version : goal.invariant-loop-version
invariant-loop-version l = map task_of l.tasks.items ≡ map task_of l.fn.tasks.items ++ each next_version 2 (l.version - 2)
