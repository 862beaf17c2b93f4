use Rattle.task_table.specs.Moments.{Looked}
use Rattle.task_table.proofs.operations.glance.Given as goal

abbrev pub ghosts-load_only : goal.ghosts-load_only
ghosts-load_only g a = record { then = Looked g.C.Course.setting a.word }
