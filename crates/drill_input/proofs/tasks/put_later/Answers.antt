use Rattle.std.proofs.Common.{◌+◌, ◌-◌, arith}
use Rattle.raw_graph.specs.Graph.{task_of}
use Rattle.drill_input.specs.Drill.{later_task}
use Rattle.drill_input.proofs.Building.{begun, one_more}
use Rattle.drill_input.proofs.tasks.put_later.Goals as goal

pub loop-key-init : goal.loop-key-init
loop-key-init c = λ number begins. (begun task_of (later_task number) 65 c.args.tasks.now.items, begins)

pub loop-key-preserved : goal.loop-key-preserved
loop-key-preserved c = λ number begins.
    let before = c.loop-key.invariant number begins in (
      one_more task_of (later_task number) 65 (c.loop-key.key - 65) c.loop-key.key (c.loop-key.key + 1 - 65) c.args.tasks.now.items c.loop-key.tasks.items c.push.new.self.items c.in_ok-later_task.field-0
          before.0 c.in_ok-push.ensures.items (c.in_ok-later_task.ensures.task number before.1) (omega arith) (omega arith),
      c.later_task.ensures.drawn number before.1,
    )
