use Rattle.std.proofs.Common.{refl}
use Rattle.task_table.proofs.Sitting.{shared_step}
use Rattle.task_table.proofs.seat.TableSeatSteps.strike_descriptor.Goals as goal

pub returns-clause-step : goal.returns-clause-step
returns-clause-step g c = let step = c.strike_descriptor-told.ensures.step in rw (c.stepped.ensures)
    (shared_step _ _ _ _ _ _ _ _ _ c.args.self.now _ c.strike_descriptor-told.result.1 c.args.self.now.pass _ step refl refl refl refl refl refl refl refl refl step.moment)
