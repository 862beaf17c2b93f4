use Rattle.std.proofs.Common.{refl}
use Rattle.core_state.specs.Counts.{known_key}
use Rattle.core_state.specs.Events.Event.{elect}
use Rattle.core_state.proofs.Own.Answers.{replacing_of}
use Rattle.core_steps.specs.Serving.{work_waits}
use Rattle.core_steps.specs.Table.{core_by, view_at}
use Rattle.core_steps.proofs.Seats.{found_word, seat_within}
use Rattle.core_steps.proofs.Seats.{seat_step}
use Rattle.core_steps.proofs.seat.PlainSeatSteps.elect.Goals as goal

pub returns-clause-step : goal.returns-clause-step
returns-clause-step g c = let step = c.elect-told.ensures.step in
    seat_step _ _ _ _ _ _ _ _ _ c.args.self.now _ c.args.self.now.worker c.elect-told.result.1 c.args.self.now.table.now _ step refl refl refl refl refl refl (λ j. (c.stepped.ensures j).shown) (λ j. (c.stepped.ensures j).made) (λ j. (c.stepped.ensures j).last) step.words

pub returns-clause-replacing : goal.returns-clause-replacing
returns-clause-replacing g c = let step = c.elect-told.ensures.step in let p = c.args.self.now.table.now in
    rw (c.stepped.ensures, c.elect-told.ensures.told) (replacing_of g.C.Course.setting (core_by p.shape p.words p.blocks p.views) step.before.holds (view_at p c.args.self.now.worker) (seat_within p c.args.self.now.worker step.low) c.args.row (known_key c.args.row (view_at p c.args.self.now.worker)) c.args.life c.elect-told.result.1.found c.args.cause (work_waits (view_at p c.args.self.now.worker)) c.requires.can (found_word g.C.Course.setting c.args.self.now.worker (elect c.args.row (known_key c.args.row (view_at p c.args.self.now.worker)) c.args.life c.args.cause (work_waits (view_at p c.args.self.now.worker))) c.elect-told.result.1 p _ step))
