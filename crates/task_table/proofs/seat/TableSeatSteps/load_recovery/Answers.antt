use Rattle.std.proofs.Common.{refl}
use Rattle.task_table.proofs.Sitting.{recovery_small, shared_step}
use Rattle.task_table.proofs.seat.TableSeatSteps.load_recovery.Goals as goal

pub returns-clause-step : goal.returns-clause-step
returns-clause-step g c = let step = c.load-word.ensures.step in rw (c.stepped.ensures)
    (shared_step _ _ _ _ _ _ _ _ _ c.args.self.now _ c.load-word.result c.args.self.now.pass _ step refl refl refl refl refl refl refl refl refl step.moment)

pub returns-clause-life : goal.returns-clause-life
returns-clause-life g c = rw (c.stepped.ensures) (c.of_word.ensures.life (recovery_small g.C.Course.setting c.load-word.result c.args.self.now.pass c.load-word.new.self c.args.row c.load-word.ensures.step))
