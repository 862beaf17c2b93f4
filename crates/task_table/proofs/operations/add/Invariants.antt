use Rattle.core_steps.specs.Kinds.{event_of}
use Rattle.task_table.specs.Moments.{Did}
use Rattle.task_table.proofs.operations.add.Given as goal

abbrev pub ghosts-add_told : goal.ghosts-add_told
ghosts-add_told g a = record { then = λ me n now. Did g.C.Course.setting (event_of me.0 a._kind) me.1 me.0 n now }
