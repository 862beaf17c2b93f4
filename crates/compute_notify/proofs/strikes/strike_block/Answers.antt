use Rattle.std.proofs.Common.{sym, ◌∙◌}
use Rattle.compute_notify.proofs.Striking.Making.{block_next, can_take, has_stepped, home_event, home_tells, none_here, some_here, taken_here, taken_tells, taking_event}
use Rattle.compute_notify.proofs.strikes.strike_block.Goals as goal

pub take_turn-requires-clause-can : goal.take_turn-requires-clause-can
take_turn-requires-clause-can g c = let serves = c.requires.serves in
    let e = g.T.Steps.setting c.args.steps.now in let v = g.T.Steps.view c.args.steps.now in
    can_take e v c.block-place.result.block c.args.duty.key.0 _ (c.block-place.ensures.block _ _ serves.graph) c.block-place.ensures.inside c.requires.last_block c.requires.task serves.lawful.root_block.1 (none_here e v c.args.duty.key.0 c.args.duty.life _ (sym c.take.ensures.value ∙ c.in-None.is) c.requires.hand)

pub end_strike-requires-clause-taken : goal.end_strike-requires-clause-taken
end_strike-requires-clause-taken g c =
    let e = g.T.Steps.setting c.args.steps.now in let v = g.T.Steps.view c.args.steps.now in
    taken_here e v c.block-place.result.block c.args.duty.key.0 c.args.duty.life c.args.hand.now c.in-Some.taken (c.block-place.ensures.block _ _ c.requires.serves.graph) (sym c.take.ensures.value ∙ c.in-Some.is) c.requires.hand

pub end_strike-requires-clause-strikes : goal.end_strike-requires-clause-strikes
end_strike-requires-clause-strikes g c =
    let e = g.T.Steps.setting c.args.steps.now in let v = g.T.Steps.view c.args.steps.now in
    block_next e v c.block-place.result.block c.args.duty.key.0 c.args.duty.life c.block-place.result.version (c.block-place.ensures.block _ _ c.requires.serves.graph) (c.block-place.ensures.version _ _ c.requires.serves.graph) c.requires.strikes

pub returns-in-None-clause-struck : goal.returns-in-None-clause-struck
returns-in-None-clause-struck g c = let told = c.take_turn.ensures in let serves = c.requires.serves in
    let e = g.T.Steps.setting c.args.steps.now in let v = g.T.Steps.view c.args.steps.now in
    let free = none_here e v c.args.duty.key.0 c.args.duty.life _ (sym c.take.ensures.value ∙ c.in-None.is) c.requires.hand in
    taken_tells e v (g.T.Steps.view c.take_turn.new.self) (g.T.Steps.shown c.take_turn.new.self).1 c.args.duty.key.0 c.args.duty.life c.block-place.result.block c.block-place.result.version c.args.hand.now c.take_turn.result (sym c.take.ensures.value ∙ c.in-None.is) (c.block-place.ensures.block _ _ serves.graph) (c.block-place.ensures.version _ _ serves.graph) told.step.view_is told.tells told.cells told.value free (serves.lawful.some_word _) c.requires.strikes

pub returns-in-None-clause-step : goal.returns-in-None-clause-step
returns-in-None-clause-step g c = let told = c.take_turn.ensures in
    let event = taking_event (g.T.Steps.setting c.args.steps.now) c.args.duty c.block-place.result.block c.args.hand.now c.take_turn.result (sym c.take.ensures.value ∙ c.in-None.is) (c.block-place.ensures.block _ _ c.requires.serves.graph) in
    has_stepped _ _ _ _ _ _ _ _ _ _ _ _ _ event told.room told.step

pub returns-in-Some-clause-struck : goal.returns-in-Some-clause-struck
returns-in-Some-clause-struck g c = let told = c.end_strike.ensures in
    let e = g.T.Steps.setting c.args.steps.now in let v = g.T.Steps.view c.args.steps.now in
    let hand = some_here e v c.args.duty.key.0 c.args.duty.life c.args.hand.now c.in-Some.taken (sym c.take.ensures.value ∙ c.in-Some.is) c.requires.hand in
    home_tells e v (g.T.Steps.view c.end_strike.new.steps) (g.T.Steps.shown c.end_strike.new.steps).1 c.args.duty.key.0 c.args.duty.life c.block-place.result.block c.in-Some.taken c.end_strike.result told.step.view_is hand.1 told.strike _ c.take.ensures.after

pub returns-in-Some-clause-step : goal.returns-in-Some-clause-step
returns-in-Some-clause-step g c = let told = c.end_strike.ensures in let serves = c.requires.serves in
    let event = home_event (g.T.Steps.setting c.args.steps.now) c.args.duty c.block-place.result.block c.block-place.result.version c.in-Some.taken c.args.hand.now c.take.new.self c.end_strike.result (sym c.take.ensures.value ∙ c.in-Some.is) (c.block-place.ensures.block _ _ serves.graph) (c.block-place.ensures.version _ _ serves.graph) told.told in
    has_stepped _ _ _ _ _ _ _ _ _ _ _ _ _ event told.room told.step
