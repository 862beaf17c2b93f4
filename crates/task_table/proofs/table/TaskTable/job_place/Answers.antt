use Rattle.std.proofs.Common.{ap, ◌∙◌}
use Rattle.core_state.specs.Words.{Shape, place_of, posted}
use Rattle.task_table.proofs.table.TaskTable.job_place.Goals as goal

pub returns : goal.returns
returns g c = c.job.ensures g.C.Course.setting.shape.blocks ∙ ap (λ (h : Shape). place_of h (posted c.args.job c.args.row)) c.places.ensures.places
