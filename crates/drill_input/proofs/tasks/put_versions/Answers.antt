use Rattle.std.proofs.Common.{◌+◌, ◌-◌, arith}
use Rattle.raw_graph.specs.Graph.{task_of}
use Rattle.drill_input.specs.Drill.{next_version}
use Rattle.drill_input.proofs.Building.{begun, one_more}
use Rattle.drill_input.proofs.tasks.put_versions.Goals as goal

pub loop-version-init : goal.loop-version-init
loop-version-init c = begun task_of next_version 2 c.args.tasks.now.items

pub loop-version-preserved : goal.loop-version-preserved
loop-version-preserved c =
    one_more task_of next_version 2 (c.loop-version.version - 2) c.loop-version.version (c.loop-version.version + 1 - 2) c.args.tasks.now.items c.loop-version.tasks.items c.push.new.self.items c.in_ok-next_version.field-0
    c.loop-version.invariant c.in_ok-push.ensures.items c.in_ok-next_version.ensures (omega arith) (omega arith)
