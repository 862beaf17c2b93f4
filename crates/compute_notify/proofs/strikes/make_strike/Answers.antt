use Rattle.std.proofs.Common.{refl}
use Rattle.core_state.specs.Counts.{known_key}
use Rattle.core_state.specs.Events.Event.{strike_descriptor, strike_notify}
use Rattle.core_steps.specs.Serving.{work_life}
use Rattle.compute_notify.proofs.Striking.Making.{can_descriptor, can_notify, descriptor_event, descriptor_free, has_stepped, makes_as, notify_event, notify_free, word_tells}
use Rattle.compute_notify.proofs.strikes.make_strike.Goals as goal

pub strike_descriptor-requires-clause-can : goal.strike_descriptor-requires-clause-can
strike_descriptor-requires-clause-can g c =
    let e = g.T.Steps.setting c.args.steps.now in let v = g.T.Steps.view c.args.steps.now in
    can_descriptor e v c.args.duty.row c.args.duty.key.0 c.args.duty.life c.requires.row c.requires.life (makes_as e v c.args.duty.key.0 c.args.duty.life _ _ c.in-Descriptor.is c.requires.strikes)

pub strike_notify-requires-clause-can : goal.strike_notify-requires-clause-can
strike_notify-requires-clause-can g c =
    let e = g.T.Steps.setting c.args.steps.now in let v = g.T.Steps.view c.args.steps.now in
    can_notify e v c.args.duty.row c.args.duty.key.0 c.args.duty.life c.in-Notify.word c.requires.row c.requires.life (makes_as e v c.args.duty.key.0 c.args.duty.life _ _ c.in-Notify.is c.requires.strikes)

pub returns-in-Descriptor-clause-struck : goal.returns-in-Descriptor-clause-struck
returns-in-Descriptor-clause-struck g c =
    let e = g.T.Steps.setting c.args.steps.now in let v = g.T.Steps.view c.args.steps.now in
    let free = descriptor_free e v c.args.duty.key.0 c.args.duty.life c.args.hand.now (makes_as e v c.args.duty.key.0 c.args.duty.life _ _ c.in-Descriptor.is c.requires.strikes) c.requires.hand in
    word_tells e v (g.T.Steps.view c.strike_descriptor.new.self) (strike_descriptor c.args.duty.row (known_key c.args.duty.row v) (work_life v)) (g.T.Steps.shown c.strike_descriptor.new.self).1 c.args.hand.now refl refl c.strike_descriptor.ensures.step.view_is free

pub returns-in-Descriptor-clause-step : goal.returns-in-Descriptor-clause-step
returns-in-Descriptor-clause-step g c = let told = c.strike_descriptor.ensures in
    let event = descriptor_event (g.T.Steps.setting c.args.steps.now) (g.T.Steps.view c.args.steps.now) c.args.duty c.args.target c.args.hand.now c.args.hand.now c.in-Descriptor.is c.requires.life in
    has_stepped _ _ _ _ _ _ _ _ _ _ _ _ _ event told.room told.step

pub returns-in-Notify-clause-struck : goal.returns-in-Notify-clause-struck
returns-in-Notify-clause-struck g c =
    let e = g.T.Steps.setting c.args.steps.now in let v = g.T.Steps.view c.args.steps.now in
    let free = notify_free e v c.args.duty.key.0 c.args.duty.life c.in-Notify.word c.args.hand.now (makes_as e v c.args.duty.key.0 c.args.duty.life _ _ c.in-Notify.is c.requires.strikes) c.requires.hand in
    word_tells e v (g.T.Steps.view c.strike_notify.new.self) (strike_notify c.args.duty.row (known_key c.args.duty.row v) (work_life v) c.in-Notify.word) (g.T.Steps.shown c.strike_notify.new.self).1 c.args.hand.now refl refl c.strike_notify.ensures.step.view_is free

pub returns-in-Notify-clause-step : goal.returns-in-Notify-clause-step
returns-in-Notify-clause-step g c = let told = c.strike_notify.ensures in
    let event = notify_event (g.T.Steps.setting c.args.steps.now) (g.T.Steps.view c.args.steps.now) c.args.duty c.args.target c.args.hand.now c.args.hand.now c.in-Notify.word c.in-Notify.is c.requires.life in
    has_stepped _ _ _ _ _ _ _ _ _ _ _ _ _ event told.room told.step
