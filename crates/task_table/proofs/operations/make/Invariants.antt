use Rattle.task_table.specs.Moments.{Made}
use Rattle.task_table.proofs.operations.make.Given as goal

abbrev pub ghosts-load_made : goal.ghosts-load_made
ghosts-load_made g a = record { then = λ me n now. Made g.C.Course.setting a._key a._life me now }
