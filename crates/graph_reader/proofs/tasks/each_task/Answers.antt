use Rattle.std.proofs.Common.{map}
use Rattle.std.proofs.lemmas.List.{map-append}
use Rattle.std.proofs.lemmas.Result.{err_from_is_err_and}
use Rattle.graph_reader.specs.Content.{task_in}
use Rattle.graph_reader.specs.Format.{task_check}
use Rattle.raw_graph.specs.Graph.{task_of}
use Rattle.graph_reader.proofs.Order.{checked_more, checked_fails}
use Rattle.graph_reader.proofs.tasks.each_task.Goals as goal

pub returns-in_err-task : goal.returns-in_err-task
returns-in_err-task c =
    let p = err_from_is_err_and c.from_residual.result c.from_residual.ensures.1 in
    rw (p.1, p.2)
    (checked_fails task_check task_in c.args.values.now c.loop-position.position c.index-values-position.result (map task_of c.loop-position.tasks.items) c.in_err-task.field-0.0 c.loop-position-test.true c.index-values-position.is c.loop-position.invariant c.in_err-task.ensures)

pub loop-position-preserved : goal.loop-position-preserved
loop-position-preserved c =
    rw (c.in_ok-push.ensures.items, map-append)
    (checked_more task_check task_in c.args.values.now c.loop-position.position c.index-values-position.result (map task_of c.loop-position.tasks.items) (task_of c.in_ok-task.task) c.loop-position-test.true c.index-values-position.is c.loop-position.invariant c.in_ok-task.ensures)
