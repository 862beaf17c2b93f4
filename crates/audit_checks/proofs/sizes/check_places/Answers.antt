use Rattle.std.proofs.Common.{◌≡◌, length, arith}
use Rattle.audit_checks.specs.Tasks.{places_of}
use Rattle.audit_checks.specs.Faults.{HasManyPlaces}
use Rattle.audit_checks.proofs.LeastTask.{least_task, has_task}
use Rattle.audit_checks.proofs.sizes.check_places.Goals as goal

pub returns-then-count-gt-MOST_PLACES-clause-err : goal.returns-then-count-gt-MOST_PLACES-clause-err
returns-then-count-gt-MOST_PLACES-clause-err c = λ sink names. (
  names,
  least_task HasManyPlaces c.args.tasks.now c.loop-task.task-index c.task-item.result c.requires (omega arith) c.task-item.is
      (omega (arith, c.if-count-gt-MOST_PLACES.true, c.place_count-count.ensures)) (λ k d early many. omega (arith, c.loop-task.invariant k d early, many)),
  has_task (λ task. c.place_count-count.result ≡ length (places_of task)) c.args.tasks.now c.loop-task.task-index c.task-item.result (omega arith) c.task-item.is
      c.place_count-count.ensures,
)
