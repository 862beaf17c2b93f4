use Rattle.std.proofs.Common.{ap, arith, refl, sym}
use Rattle.recovery.specs.Happening.{phase_event}
use Rattle.recovery.specs.declared.owe.Owe.{Owe}
use Rattle.recovery.proofs.Noting.{makes_as}
use Rattle.recovery.proofs.Resting.{rests_finished}
use Rattle.recovery.proofs.Renewing.{may_finish, goes_finished}
use Rattle.recovery.proofs.recover.Recover.finish.Goals as goal

pub finish-requires : goal.finish-requires
finish-requires g c = record { can = may_finish _ (g.T.Steps.view c.args.steps.now) c.args.self.now c.requires.row c.requires.phase c.requires.top }

pub returns-clause-goes : goal.returns-clause-goes
returns-clause-goes g c = λ tasks fits. let step = c.finish in
    goes_finished tasks (g.T.Steps.setting c.args.steps.now) (g.T.Steps.view c.args.steps.now) (g.T.Steps.view step.new.self) (g.T.Steps.shown step.new.self).1 c.args.self.now fits c.requires.credit c.new-owe.result c.from-behind.result c.go.new.self c.go.result c.requires.phase c.new-owe.ensures c.from-behind.ensures step.ensures.step.view_is c.go.ensures.same c.go.ensures.turn

pub returns-clause-step : goal.returns-clause-step
returns-clause-step g c = let room = c.finish.ensures.room in makes_as g.T.KeyWords.spare c.finish.ensures.step (omega (arith, room)) refl refl refl _ refl (ap (phase_event (g.T.Steps.setting c.args.steps.now) (g.T.Steps.view c.args.steps.now) c.args.self.now) (sym c.requires.phase))

pub returns-clause-rest : goal.returns-clause-rest
returns-clause-rest g c = rests_finished (g.T.Steps.setting c.args.steps.now) c.args.self.now (g.T.Steps.shown c.finish.new.self).1 c.go.new.self c.go.result c.new-owe.result c.from-behind.result c.requires.phase (ap (λ (o : Owe). o.bought) c.new-owe.ensures) c.from-behind.ensures c.go.ensures.same c.go.ensures.turn
