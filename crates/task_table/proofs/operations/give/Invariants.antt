use Rattle.atomic_table.specs.Table.{rest}
use Rattle.core_steps.specs.Kinds.{block_event}
use Rattle.task_table.specs.Moments.{Did, first_block}
use Rattle.task_table.proofs.operations.give.Given as goal

abbrev pub ghosts-swap_giving : goal.ghosts-swap_giving
ghosts-swap_giving g a = record { then = λ me n now. Did g.C.Course.setting (block_event me.0 a._kind a._block (first_block me.1)) (rest me.1) me.0 n now }
