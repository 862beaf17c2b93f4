use Rattle.std.proofs.Common.{refl, sym, subst}
use Rattle.core_state.specs.Counts.{known_key}
use Rattle.core_state.specs.Events.Event.{close}
use Rattle.core_state.specs.Packed.{notify_word}
use Rattle.core_state.specs.Sure.{MovedTells, PortsTell}
use Rattle.core_state.proofs.Own.Answers.{moved_of, ports_of}
use Rattle.core_steps.specs.Table.{core_by, view_at}
use Rattle.core_steps.proofs.Seats.{found_word, seat_within}
use Rattle.core_steps.proofs.Seats.{seat_step}
use Rattle.core_steps.proofs.seat.PlainSeatSteps.close.Goals as goal

pub returns-clause-step : goal.returns-clause-step
returns-clause-step g c = let step = c.close_word-told.ensures.step in
    seat_step _ _ _ _ _ _ _ _ _ c.args.self.now _ c.args.self.now.worker c.close_word-told.result.1 c.args.self.now.table.now _ step refl refl refl refl refl refl (λ j. (c.stepped.ensures j).shown) (λ j. (c.stepped.ensures j).made) (λ j. (c.stepped.ensures j).last) step.words

pub returns-clause-moved : goal.returns-clause-moved
returns-clause-moved g c = let step = c.close_word-told.ensures.step in let p = c.args.self.now.table.now in
    subst (MovedTells c.args.life) (sym c.close_word-told.ensures.told) (moved_of g.C.Course.setting (core_by p.shape p.words p.blocks p.views) step.before.holds (view_at p c.args.self.now.worker) (seat_within p c.args.self.now.worker step.low) c.args.row (known_key c.args.row (view_at p c.args.self.now.worker)) c.args.life c.args.word (notify_word c.args.seen) c.close_word-told.result.1.found c.requires.can (found_word g.C.Course.setting c.args.self.now.worker (close c.args.row (known_key c.args.row (view_at p c.args.self.now.worker)) c.args.life c.args.word (notify_word c.args.seen)) c.close_word-told.result.1 p _ step))

pub returns-clause-ports : goal.returns-clause-ports
returns-clause-ports g c = let step = c.close_word-told.ensures.step in let p = c.args.self.now.table.now in
    subst (PortsTell (g.C.Course.setting.graph.ports (known_key c.args.row (view_at p c.args.self.now.worker))) c.args.word) (sym c.close_word-told.ensures.told) (ports_of g.C.Course.setting (core_by p.shape p.words p.blocks p.views) step.before.holds (view_at p c.args.self.now.worker) (seat_within p c.args.self.now.worker step.low) c.args.row (known_key c.args.row (view_at p c.args.self.now.worker)) c.args.life c.args.word (notify_word c.args.seen) c.close_word-told.result.1.found c.requires.can (found_word g.C.Course.setting c.args.self.now.worker (close c.args.row (known_key c.args.row (view_at p c.args.self.now.worker)) c.args.life c.args.word (notify_word c.args.seen)) c.close_word-told.result.1 p _ step))
