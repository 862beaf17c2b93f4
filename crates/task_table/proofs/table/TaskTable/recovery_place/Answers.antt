use Rattle.std.proofs.Common.{ap, ◌∙◌}
use Rattle.core_state.specs.Words.{Shape, place_of, recovery}
use Rattle.task_table.proofs.table.TaskTable.recovery_place.Goals as goal

pub returns : goal.returns
returns g c = c.recovery.ensures g.C.Course.setting.shape.blocks ∙ ap (λ (h : Shape). place_of h (recovery c.args.row)) c.places.ensures.places
