use Rattle.std.proofs.Common.{refl}
use Rattle.core_steps.proofs.Seats.{seat_step}
use Rattle.core_steps.proofs.seat.PlainSeatSteps.take_turn.Goals as goal

pub returns-clause-step : goal.returns-clause-step
returns-clause-step g c = let step = c.take_turn-told.ensures.step in
    seat_step _ _ _ _ _ _ _ _ _ c.args.self.now _ c.args.self.now.worker c.take_turn-told.result.1 c.args.self.now.table.now _ step refl refl refl refl refl refl (λ j. (c.stepped.ensures j).shown) (λ j. (c.stepped.ensures j).made) (λ j. (c.stepped.ensures j).last) step.words
