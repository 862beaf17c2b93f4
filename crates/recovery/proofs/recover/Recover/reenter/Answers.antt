use Rattle.std.proofs.Common.{◌∙◌, ap, refl, subst, sym}
use Rattle.recovery.specs.Happening.{phase_event}
use Rattle.recovery.specs.Resting.{ReenterRests}
use Rattle.recovery.specs.declared.owe.Owe.{Owe}
use Rattle.recovery.proofs.Noting.{as_event}
use Rattle.recovery.proofs.Resting.{rests_past, rests_owing, rests_met}
use Rattle.recovery.proofs.Phases.{goes_past, goes_owing, goes_met}
use Rattle.recovery.proofs.recover.Recover.reenter.Goals as goal

pub returns-in-Going-clause-goes : goal.returns-in-Going-clause-goes
returns-in-Going-clause-goes g c =
    goes_past _ (g.T.Steps.setting c.args.steps.now) (g.T.Steps.view c.args.steps.now) (g.T.Steps.view c.turn.new.steps) c.args.self.now c.requires.fits c.turn.ensures.step.knows c.args.reenter c.turn.new.self c.requires.phase c.turn.result c.turn.ensures.goes (c.turn.ensures.credit ∙ c.requires.credit) c.turn.ensures.tells
    c.onward-next.result c.go.new.self c.go.result c.in-Going.is (c.onward-next.ensures c.requires.serves.outcome _ c.requires.serves.graph) c.go.ensures.same c.go.ensures.turn

pub returns-in-Last-clause-goes : goal.returns-in-Last-clause-goes
returns-in-Last-clause-goes g c =
    goes_owing _ (g.T.Steps.setting c.args.steps.now) (g.T.Steps.view c.args.steps.now) (g.T.Steps.view c.turn.new.steps) c.args.self.now c.requires.fits c.turn.ensures.step.knows c.args.reenter c.turn.new.self c.requires.phase c.turn.result c.turn.ensures.goes (c.turn.ensures.credit ∙ c.requires.credit) c.turn.ensures.tells
    c.in-Last.row c.in-Last.life c.in-Last.key c.new-owe.result c.go-in-Last.new.self c.go-in-Last.result c.in-Last.is c.new-owe.ensures c.go-in-Last.ensures.same c.go-in-Last.ensures.turn

pub returns-in-Mark-clause-goes : goal.returns-in-Mark-clause-goes
returns-in-Mark-clause-goes g c =
    goes_met _ (g.T.Steps.setting c.args.steps.now) (g.T.Steps.view c.args.steps.now) (g.T.Steps.view c.turn.new.steps) c.args.self.now c.requires.fits c.turn.ensures.step.knows c.args.reenter c.turn.new.self c.requires.phase c.turn.result c.turn.ensures.goes (c.turn.ensures.credit ∙ c.requires.credit) c.turn.ensures.tells
    c.in-Mark.row c.in-Mark.life c.in-Mark.key c.in-Mark.cause c.onward-self.result _ c.in-Mark.is (c.onward-self.ensures c.requires.serves.outcome _ c.requires.serves.graph) refl

pub returns-in-Going-clause-step : goal.returns-in-Going-clause-step
returns-in-Going-clause-step g c = as_event (ap (phase_event (g.T.Steps.setting c.args.steps.now) (g.T.Steps.view c.args.steps.now) c.args.self.now) (sym c.requires.phase)) c.turn.ensures.step

pub returns-in-Last-clause-step : goal.returns-in-Last-clause-step
returns-in-Last-clause-step g c = as_event (ap (phase_event (g.T.Steps.setting c.args.steps.now) (g.T.Steps.view c.args.steps.now) c.args.self.now) (sym c.requires.phase)) c.turn.ensures.step

pub returns-in-Mark-clause-step : goal.returns-in-Mark-clause-step
returns-in-Mark-clause-step g c = as_event (ap (phase_event (g.T.Steps.setting c.args.steps.now) (g.T.Steps.view c.args.steps.now) c.args.self.now) (sym c.requires.phase)) c.turn.ensures.step

pub returns-in-Going-clause-rest : goal.returns-in-Going-clause-rest
returns-in-Going-clause-rest g c = rests_past (g.T.Steps.setting c.args.steps.now) c.args.self.now (g.T.Steps.shown c.turn.new.steps).1 c.args.reenter c.turn.new.self c.requires.phase c.onward-next.result c.go.new.self c.go.result (subst (ReenterRests (g.T.Steps.setting c.args.steps.now).shape.rows c.args.reenter c.turn.new.self) c.in-Going.is c.turn.ensures.moves) (c.onward-next.ensures c.requires.serves.outcome _ c.requires.serves.graph) c.go.ensures.same c.go.ensures.turn

pub returns-in-Last-clause-rest : goal.returns-in-Last-clause-rest
returns-in-Last-clause-rest g c = let go = c.go-in-Last in rests_owing (g.T.Steps.setting c.args.steps.now) c.args.self.now (g.T.Steps.shown c.turn.new.steps).1 c.args.reenter c.turn.new.self c.requires.phase c.new-owe.result go.new.self go.result (subst (ReenterRests (g.T.Steps.setting c.args.steps.now).shape.rows c.args.reenter c.turn.new.self) c.in-Last.is c.turn.ensures.moves) (ap (λ (o : Owe). o.bought) c.new-owe.ensures) go.ensures.same go.ensures.turn

pub returns-in-Mark-clause-rest : goal.returns-in-Mark-clause-rest
returns-in-Mark-clause-rest g c = rests_met (g.T.Steps.setting c.args.steps.now) c.args.self.now (g.T.Steps.shown c.turn.new.steps).1 c.args.reenter c.turn.new.self c.requires.phase c.onward-self.result _ (subst (ReenterRests (g.T.Steps.setting c.args.steps.now).shape.rows c.args.reenter c.turn.new.self) c.in-Mark.is c.turn.ensures.moves) (c.onward-self.ensures c.requires.serves.outcome _ c.requires.serves.graph) refl
