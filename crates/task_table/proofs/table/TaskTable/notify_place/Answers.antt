use Rattle.std.proofs.Common.{ap, ◌∙◌}
use Rattle.core_state.specs.Words.{Shape, place_of, notify}
use Rattle.task_table.proofs.table.TaskTable.notify_place.Goals as goal

pub returns : goal.returns
returns g c = c.notify.ensures g.C.Course.setting.shape.blocks ∙ ap (λ (h : Shape). place_of h (notify c.args.row c.args.word)) c.places.ensures.places
