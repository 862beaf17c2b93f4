use Rattle.std.proofs.Common.{ap, ◌∙◌}
use Rattle.core_state.specs.Words.{Shape, place_of, turn}
use Rattle.task_table.proofs.table.TaskTable.turn_place.Goals as goal

pub returns : goal.returns
returns g c = c.turn.ensures g.C.Course.setting.shape.blocks ∙ ap (λ (h : Shape). place_of h (turn c.args.block)) c.places.ensures.places
