use Rattle.std.proofs.Common.{◌+◌, ◌-◌, arith}
use Rattle.raw_graph.specs.Graph.{task_of}
use Rattle.drill_input.specs.Drill.{first_task}
use Rattle.drill_input.proofs.Building.{begun, one_more}
use Rattle.drill_input.proofs.tasks.put_first.Goals as goal

pub loop-key-init : goal.loop-key-init
loop-key-init c = begun task_of (first_task c.args.number) 1 c.args.tasks.now.items

pub loop-key-preserved : goal.loop-key-preserved
loop-key-preserved c =
    one_more task_of (first_task c.args.number) 1 (c.loop-key.key - 1) c.loop-key.key (c.loop-key.key + 1 - 1) c.args.tasks.now.items c.loop-key.tasks.items c.push.new.self.items c.in_ok-first_task.field-0
    c.loop-key.invariant c.in_ok-push.ensures.items c.in_ok-first_task.ensures (omega arith) (omega arith)
