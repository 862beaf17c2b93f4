use Rattle.std.proofs.Common.{ap, ◌∙◌}
use Rattle.core_state.specs.Words.{Shape, place_of, key}
use Rattle.task_table.proofs.table.TaskTable.key_place.Goals as goal

pub returns : goal.returns
returns g c = c.key.ensures g.C.Course.setting.shape.blocks ∙ ap (λ (h : Shape). place_of h (key c.args.row)) c.places.ensures.places
