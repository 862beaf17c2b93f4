use Rattle.std.proofs.Common.{ap, arith, refl, sym}
use Rattle.recovery.specs.Happening.{phase_event}
use Rattle.recovery.proofs.Noting.{makes_as}
use Rattle.recovery.proofs.Renewing.{may_elect, goes_yes, goes_replaced, goes_away}
use Rattle.recovery.proofs.Resting.{rests_yes, rests_over, rests_early, rests_awaited}
use Rattle.recovery.proofs.recover.Recover.elect.Goals as goal

pub elect-requires-clause-can : goal.elect-requires-clause-can
elect-requires-clause-can g c = may_elect _ (g.T.Steps.view c.args.steps.now) c.args.self.now c.requires.row c.requires.phase c.requires.life c.requires.lives c.requires.top

pub returns-in-Yes-clause-goes : goal.returns-in-Yes-clause-goes
returns-in-Yes-clause-goes g c = λ tasks fits. let step = c.elect in
    goes_yes tasks (g.T.Steps.setting c.args.steps.now) (g.T.Steps.view c.args.steps.now) (g.T.Steps.view step.new.self) (g.T.Steps.shown step.new.self).1 c.args.self.now fits c.requires.phase c.requires.credit step.result step.ensures.told step.ensures.step.view_is c.go.new.self c.go.result c.requires.life c.in-Yes.is c.go.ensures.same c.go.ensures.turn

pub returns-in-Replaced-clause-goes : goal.returns-in-Replaced-clause-goes
returns-in-Replaced-clause-goes g c = λ tasks fits. let step = c.elect in let go = c.go-in-Replaced in
    goes_replaced tasks (g.T.Steps.setting c.args.steps.now) (g.T.Steps.view c.args.steps.now) (g.T.Steps.view step.new.self) (g.T.Steps.shown step.new.self).1 c.args.self.now fits c.requires.phase c.requires.credit step.result step.ensures.told step.ensures.step.view_is c.in-Replaced.life go.new.self go.result c.in-Replaced.is go.ensures.same go.ensures.turn

pub returns-else-self-clause-goes : goal.returns-else-self-clause-goes
returns-else-self-clause-goes g c = λ tasks fits. let step = c.elect in let go = c.go-else-self in
    goes_away tasks (g.T.Steps.setting c.args.steps.now) (g.T.Steps.view c.args.steps.now) (g.T.Steps.view step.new.self) (g.T.Steps.shown step.new.self).1 c.args.self.now fits c.requires.phase c.requires.credit step.result step.ensures.told step.ensures.step.view_is c.in-Renewing.life go.new.self go.result c.in-Renewing.is (λ low. let high = c.if-life-self.false in omega (arith, low, high)) c.if-self.false go.ensures.same go.ensures.turn

pub returns-in-Yes-clause-step : goal.returns-in-Yes-clause-step
returns-in-Yes-clause-step g c = makes_as g.T.KeyWords.spare c.elect.ensures.step c.elect.ensures.room refl refl refl _ refl (ap (phase_event (g.T.Steps.setting c.args.steps.now) (g.T.Steps.view c.args.steps.now) c.args.self.now) (sym c.requires.phase))

pub returns-in-Replaced-clause-step : goal.returns-in-Replaced-clause-step
returns-in-Replaced-clause-step g c = makes_as g.T.KeyWords.spare c.elect.ensures.step c.elect.ensures.room refl refl refl _ refl (ap (phase_event (g.T.Steps.setting c.args.steps.now) (g.T.Steps.view c.args.steps.now) c.args.self.now) (sym c.requires.phase))

pub returns-then-life-self-clause-step : goal.returns-then-life-self-clause-step
returns-then-life-self-clause-step g c = makes_as g.T.KeyWords.spare c.elect.ensures.step c.elect.ensures.room refl refl refl _ refl (ap (phase_event (g.T.Steps.setting c.args.steps.now) (g.T.Steps.view c.args.steps.now) c.args.self.now) (sym c.requires.phase))

pub returns-then-self-clause-step : goal.returns-then-self-clause-step
returns-then-self-clause-step g c = makes_as g.T.KeyWords.spare c.elect.ensures.step c.elect.ensures.room refl refl refl _ refl (ap (phase_event (g.T.Steps.setting c.args.steps.now) (g.T.Steps.view c.args.steps.now) c.args.self.now) (sym c.requires.phase))

pub returns-else-self-clause-step : goal.returns-else-self-clause-step
returns-else-self-clause-step g c = makes_as g.T.KeyWords.spare c.elect.ensures.step c.elect.ensures.room refl refl refl _ refl (ap (phase_event (g.T.Steps.setting c.args.steps.now) (g.T.Steps.view c.args.steps.now) c.args.self.now) (sym c.requires.phase))

pub returns-in-Yes-clause-rest : goal.returns-in-Yes-clause-rest
returns-in-Yes-clause-rest g c = rests_yes (g.T.Steps.setting c.args.steps.now) c.args.self.now (g.T.Steps.shown c.elect.new.self).1 c.go.new.self c.go.result c.requires.phase c.go.ensures.same c.go.ensures.turn

pub returns-in-Replaced-clause-rest : goal.returns-in-Replaced-clause-rest
returns-in-Replaced-clause-rest g c = let go = c.go-in-Replaced in rests_over (g.T.Steps.setting c.args.steps.now) c.args.self.now (g.T.Steps.shown c.elect.new.self).1 go.new.self go.result go.ensures.same go.ensures.turn

pub returns-then-life-self-clause-rest : goal.returns-then-life-self-clause-rest
returns-then-life-self-clause-rest g c = let go = c.go-then-life-self in rests_early (g.T.Steps.setting c.args.steps.now) c.args.self.now (g.T.Steps.shown c.elect.new.self).1 c.in-Renewing.life c.requires.phase c.elect.result c.in-Renewing.is c.elect.ensures.told c.elect.ensures.replacing go.new.self go.result go.ensures.same go.ensures.turn c.if-life-self.true

pub returns-then-self-clause-rest : goal.returns-then-self-clause-rest
returns-then-self-clause-rest g c = let go = c.go-then-self in rests_awaited (g.T.Steps.setting c.args.steps.now) c.args.self.now (g.T.Steps.shown c.elect.new.self).1 c.in-Renewing.life c.requires.phase c.elect.result c.in-Renewing.is c.elect.ensures.told c.elect.ensures.replacing go.new.self go.result go.ensures.same go.ensures.turn (λ low. let high = c.if-life-self.false in omega (arith, low, high)) c.if-self.true

pub returns-else-self-clause-rest : goal.returns-else-self-clause-rest
returns-else-self-clause-rest g c = let go = c.go-else-self in rests_over (g.T.Steps.setting c.args.steps.now) c.args.self.now (g.T.Steps.shown c.elect.new.self).1 go.new.self go.result go.ensures.same go.ensures.turn
