use Rattle.std.proofs.Common.{ap}
use Rattle.core_state.specs.Words.{Shape}
use Rattle.task_table.proofs.rooms.Sizes.places.Goals as goal

pub returns-clause-places : goal.returns-clause-places
returns-clause-places g c = ap (λ (h : Shape). record { rows = h.rows; notify_words = h.notify_words; blocks = g.C.Course.setting.shape.blocks }) c.self.invariant.shape_is
