use Rattle.std.proofs.Common.{All, Contains, arith}
use Rattle.audit_checks.specs.Tasks.{places_of}
use Rattle.audit_checks.proofs.LeastTask.{more_tasks, names_known, unknown_fault}
use Rattle.audit_checks.proofs.names.check_names.Goals as goal

pub returns-in-Some-clause-err : goal.returns-in-Some-clause-err
returns-in-Some-clause-err c = λ sink.
    unknown_fault c.args.tasks.now c.args.keys.now c.loop-task.task-index c.task-item.result c.in-Some.name c.requires.keys c.requires.ascending
    (omega arith) c.task-item.is c.loop-task.invariant c.in-Some.ensures

pub loop-task-preserved : goal.loop-task-preserved
loop-task-preserved c =
    more_tasks (λ t. All (Contains c.args.keys.now) (places_of t)) c.args.tasks.now c.loop-task.task-index c.task-item.result
    (omega arith) c.task-item.is c.loop-task.invariant c.in_default.ensures

pub returns-clause-ok : goal.returns-clause-ok
returns-clause-ok c = names_known c.args.tasks.now c.args.keys.now c.loop-task.task-index c.requires.keys (omega arith) c.loop-task.invariant
