use Rattle.std.proofs.Common.{◌≡◌, ℕ, ◌*◌, ◌-◌, ◌++◌, map}
use Rattle.raw_graph.specs.Graph.{task_of}
use Rattle.drill_input.specs.Draws.{state}
use Rattle.drill_input.specs.Drill.{each, later_task}
use Rattle.drill_input.proofs.tasks.put_later.Given as goal

abbrev pub invariant-loop-key : goal.invariant-loop-key
invariant-loop-key l = (number : ℕ) → l.fn.draws.state ≡ state number 0
    → (map task_of l.tasks.items ≡ map task_of l.fn.tasks.items ++ each (later_task number) 65 (l.key - 65)) × (l.draws.state ≡ state number (2 * (l.key - 65)))
