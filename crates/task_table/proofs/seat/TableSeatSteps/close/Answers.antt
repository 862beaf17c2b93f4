use Rattle.std.proofs.Common.{refl, subst, sym}
use Rattle.core_state.specs.Counts.{known_key}
use Rattle.core_state.specs.Packed.{notify_word}
use Rattle.core_state.specs.Sure.{MovedTells, PortsTell}
use Rattle.task_table.proofs.Sitting.{closed_tells, shared_step}
use Rattle.task_table.proofs.seat.TableSeatSteps.close.Goals as goal

pub returns-clause-step : goal.returns-clause-step
returns-clause-step g c = let step = c.close_word-told.ensures.step in rw (c.stepped.ensures)
    (shared_step _ _ _ _ _ _ _ _ _ c.args.self.now _ c.close_word-told.result.1 c.args.self.now.pass _ step refl refl refl refl refl refl refl refl refl step.moment)

pub returns-clause-moved : goal.returns-clause-moved
returns-clause-moved g c = subst (MovedTells c.args.life) (sym c.close_word-told.ensures.told) (closed_tells g.C.Course.setting c.close_word-told.result.1 c.args.self.now.pass c.close_word-told.new.self c.args.row c.args.life c.args.word (notify_word c.args.seen) c.close_word-told.ensures.step).0

pub returns-clause-ports : goal.returns-clause-ports
returns-clause-ports g c = subst (PortsTell (g.C.Course.setting.graph.ports (known_key c.args.row c.args.self.now.pass.view)) c.args.word) (sym c.close_word-told.ensures.told) (closed_tells g.C.Course.setting c.close_word-told.result.1 c.args.self.now.pass c.close_word-told.new.self c.args.row c.args.life c.args.word (notify_word c.args.seen) c.close_word-told.ensures.step).1
