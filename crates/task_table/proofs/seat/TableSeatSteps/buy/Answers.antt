use Rattle.std.proofs.Common.{refl}
use Rattle.task_table.proofs.Sitting.{shared_step}
use Rattle.task_table.proofs.seat.TableSeatSteps.buy.Goals as goal

pub returns-clause-step : goal.returns-clause-step
returns-clause-step g c = let step = c.buy-word.ensures.step in rw (c.stepped.ensures)
    (shared_step _ _ _ _ _ _ _ _ _ c.args.self.now _ c.buy-word.result c.args.self.now.pass _ step refl refl refl refl refl refl refl refl refl step.moment)
