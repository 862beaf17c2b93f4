use Rattle.std.proofs.Common.{ap, ◌∙◌}
use Rattle.core_state.specs.Words.{Shape, place_of, descriptor}
use Rattle.task_table.proofs.table.TaskTable.descriptor_place.Goals as goal

pub returns : goal.returns
returns g c = c.descriptor.ensures g.C.Course.setting.shape.blocks ∙ ap (λ (h : Shape). place_of h (descriptor c.args.row)) c.places.ensures.places
