use Rattle.std.proofs.Common.{refl}
use Rattle.core_steps.specs.Serving.{work_waits}
use Rattle.task_table.proofs.Sitting.{elected_tells, shared_step}
use Rattle.task_table.proofs.seat.TableSeatSteps.elect.Goals as goal

pub returns-clause-step : goal.returns-clause-step
returns-clause-step g c = let step = c.elect-told.ensures.step in rw (c.stepped.ensures)
    (shared_step _ _ _ _ _ _ _ _ _ c.args.self.now _ c.elect-told.result.1 c.args.self.now.pass _ step refl refl refl refl refl refl refl refl refl step.moment)

pub returns-clause-replacing : goal.returns-clause-replacing
returns-clause-replacing g c = rw (c.stepped.ensures, c.elect-told.ensures.told) (elected_tells g.C.Course.setting c.elect-told.result.1 c.args.self.now.pass c.elect-told.new.self c.args.row c.args.life c.args.cause (work_waits c.args.self.now.pass.view) c.elect-told.ensures.step)
