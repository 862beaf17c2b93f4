use Rattle.core_steps.specs.Kinds.{event_of}
use Rattle.task_table.specs.Moments.{Did}
use Rattle.task_table.proofs.operations.exchange.Given as goal

abbrev pub ghosts-exchange_told : goal.ghosts-exchange_told
ghosts-exchange_told g a = record { then = λ me n now. Did g.C.Course.setting (event_of me.0 a._kind) me.1 me.0 n now }
