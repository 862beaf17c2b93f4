use Rattle.task_table.specs.Moments.{Took}
use Rattle.task_table.proofs.operations.take.Given as goal

abbrev pub ghosts-exchange_taking : goal.ghosts-exchange_taking
ghosts-exchange_taking g a = record { then = Took g.C.Course.setting a._block }
