use Rattle.std.proofs.Common.{refl, sym, subst}
use Rattle.core_state.specs.Asked.{IsCoreKey}
use Rattle.compute_notify.proofs.Computing.Strikes.{asked_left, asks, is_task, left_falls, left_goes, made_left, stepped_view}
use Rattle.compute_notify.proofs.compute.Compute.strike.Goals as goal

pub make_strike-requires-clause-key : goal.make_strike-requires-clause-key
make_strike-requires-clause-key g c κs within = subst (λ h. IsCoreKey (g.G.TaskGraph.graph h) c.args.self.duty.key.0) (sym c.of-graph.ensures) c.requires.stands.fits.duty.is_key

pub make_strike-requires-clause-task : goal.make_strike-requires-clause-task
make_strike-requires-clause-task g c κs within = is_task _ _ _ _ _ c.requires.runs c.args.self c.requires.stands c.args.next c.requires.next

pub make_strike-requires-clause-strikes : goal.make_strike-requires-clause-strikes
make_strike-requires-clause-strikes g c κs within = asks _ _ _ _ _ c.requires.runs c.args.self c.requires.stands c.args.next c.requires.next

pub returns-then-make_strike-clause-goes : goal.returns-then-make_strike-clause-goes
returns-then-make_strike-clause-goes g c = let told = c.make_strike.ensures.struck in
    left_goes _ _ _ _ _ c.requires.runs c.args.self c.requires.stands c.args.next c.requires.next _ c.args.hand.now c.make_strike.new.hand (g.T.Steps.shown c.make_strike.new.steps).1 c.make_strike.result told _
    (made_left _ _ _ _ _ c.requires.runs c.args.self c.requires.stands c.args.next c.requires.next _ c.args.hand.now c.make_strike.new.hand _ c.make_strike.result told _ c.if-make_strike.true refl) (stepped_view c.make_strike.ensures.step)

pub returns-then-make_strike-clause-rest : goal.returns-then-make_strike-clause-rest
returns-then-make_strike-clause-rest g c = let told = c.make_strike.ensures.struck in
    left_falls _ _ _ _ _ c.requires.runs c.args.self c.requires.stands c.args.next c.requires.next _ c.args.hand.now c.make_strike.new.hand (g.T.Steps.shown c.make_strike.new.steps).1 c.make_strike.result told _
    (made_left _ _ _ _ _ c.requires.runs c.args.self c.requires.stands c.args.next c.requires.next _ c.args.hand.now c.make_strike.new.hand _ c.make_strike.result told _ c.if-make_strike.true refl)

pub returns-else-make_strike-clause-goes : goal.returns-else-make_strike-clause-goes
returns-else-make_strike-clause-goes g c = let told = c.make_strike.ensures.struck in
    left_goes _ _ _ _ _ c.requires.runs c.args.self c.requires.stands c.args.next c.requires.next _ c.args.hand.now c.make_strike.new.hand (g.T.Steps.shown c.make_strike.new.steps).1 c.make_strike.result told _
    (asked_left _ _ _ _ _ c.requires.runs c.args.self c.requires.stands c.args.next c.requires.next _ c.args.hand.now c.make_strike.new.hand _ c.make_strike.result told _ c.if-make_strike.false refl) (stepped_view c.make_strike.ensures.step)

pub returns-else-make_strike-clause-rest : goal.returns-else-make_strike-clause-rest
returns-else-make_strike-clause-rest g c = let told = c.make_strike.ensures.struck in
    left_falls _ _ _ _ _ c.requires.runs c.args.self c.requires.stands c.args.next c.requires.next _ c.args.hand.now c.make_strike.new.hand (g.T.Steps.shown c.make_strike.new.steps).1 c.make_strike.result told _
    (asked_left _ _ _ _ _ c.requires.runs c.args.self c.requires.stands c.args.next c.requires.next _ c.args.hand.now c.make_strike.new.hand _ c.make_strike.result told _ c.if-make_strike.false refl)

pub returns-then-make_strike-clause-spent : goal.returns-then-make_strike-clause-spent
returns-then-make_strike-clause-spent g c = refl

pub returns-else-make_strike-clause-spent : goal.returns-else-make_strike-clause-spent
returns-else-make_strike-clause-spent g c = refl
