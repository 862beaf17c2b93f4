use Rattle.core_steps.specs.Kinds.{event_of}
use Rattle.task_table.specs.Moments.{Did}
use Rattle.task_table.proofs.operations.load.Given as goal

abbrev pub ghosts-load_told : goal.ghosts-load_told
ghosts-load_told g a = record { then = λ me n now. Did g.C.Course.setting (event_of me.0 a._kind) me.1 me.0 n now }
