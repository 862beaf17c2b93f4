use Rattle.std.proofs.Common.{arith, refl}
use Rattle.task_table.proofs.Sitting.{shared_step, taken_found, taken_fresh}
use Rattle.task_table.proofs.seat.TableSeatSteps.take.Goals as goal

pub returns-clause-step : goal.returns-clause-step
returns-clause-step g c = let step = c.swap-word.ensures.step in rw (c.stepped.ensures)
    (shared_step _ _ _ _ _ _ _ _ _ c.args.self.now _ c.swap-word.result c.args.self.now.pass _ step refl refl refl refl refl refl refl refl refl step.moment)

pub overflow_cast-result : goal.overflow_cast-result
overflow_cast-result g c = record { fits = let a = taken_found g.C.Course.setting c.swap-word.result c.args.self.now.pass c.swap-word.new.self c.args.row c.args.job c.swap-word.ensures.step in omega (arith, a) }

pub returns-clause-fresh : goal.returns-clause-fresh
returns-clause-fresh g c = taken_fresh g.C.Course.setting c.swap-word.result c.args.self.now.pass c.swap-word.new.self c.args.row c.args.job c.swap-word.ensures.step
