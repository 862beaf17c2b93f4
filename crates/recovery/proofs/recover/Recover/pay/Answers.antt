use Rattle.std.proofs.Common.{refl, ap, sym, subst}
use Rattle.recovery.specs.declared.owe.Owe.{Owe}
use Rattle.recovery.specs.declared.turn.Turn.TheVariants as turn
use Rattle.recovery.specs.Happening.{phase_event}
use Rattle.recovery.specs.Owing.{GivenFresh}
use Rattle.recovery.proofs.Noting.{as_event}
use Rattle.recovery.proofs.Resting.{rests_bought, rests_posted, rests_given}
use Rattle.recovery.proofs.Phases.{goes_bought, goes_posted, goes_given}
use Rattle.recovery.proofs.recover.Recover.pay.Goals as goal

pub returns-in-Bought-clause-goes : goal.returns-in-Bought-clause-goes
returns-in-Bought-clause-goes g c =
    goes_bought _ (g.T.Steps.setting c.args.steps.now) (g.T.Steps.view c.args.steps.now) (g.T.Steps.view c.turn.new.steps) c.args.self.now c.requires.fits c.turn.ensures.step.knows c.args.owe c.args.behind c.requires.phase c.turn.result c.turn.ensures.lines c.turn.ensures.credit
    c.go.new.self c.go.result c.turn.new.self c.in-Bought.is c.turn.ensures.owe c.go.ensures.same c.go.ensures.turn

pub returns-in-Posted-clause-goes : goal.returns-in-Posted-clause-goes
returns-in-Posted-clause-goes g c =
    goes_posted _ (g.T.Steps.setting c.args.steps.now) (g.T.Steps.view c.args.steps.now) (g.T.Steps.view c.turn.new.steps) c.args.self.now c.requires.fits c.turn.ensures.step.knows c.args.owe c.args.behind c.requires.phase c.turn.result c.turn.ensures.lines c.turn.ensures.credit
    c.onward-next.result c.go-in-Posted.new.self c.go-in-Posted.result c.in-Posted.is (c.onward-next.ensures c.requires.serves.outcome _ c.requires.serves.graph) c.go-in-Posted.ensures.same c.go-in-Posted.ensures.turn

pub returns-in-Given-clause-goes : goal.returns-in-Given-clause-goes
returns-in-Given-clause-goes g c = let life = c.in-Given.life in
    goes_given _ (g.T.Steps.setting c.args.steps.now) (g.T.Steps.view c.args.steps.now) (g.T.Steps.view c.turn.new.steps) c.args.self.now c.requires.fits c.turn.ensures.step.knows c.args.owe c.args.behind c.requires.phase c.turn.result c.turn.ensures.lines c.turn.ensures.credit
    life c.onward-self.result _ (turn.Given c.row.result c.key.result c.job.result life) c.in-Given.is (c.onward-self.ensures c.requires.serves.outcome _ c.requires.serves.graph) refl
    (rw (c.row.ensures, c.key.ensures, c.job.ensures) (ap (λ (o : Owe). turn.Given o.row o.key o.job life) c.turn.ensures.owe))
    (subst (GivenFresh (g.T.Steps.setting c.args.steps.now) (g.T.Steps.view c.turn.new.steps) c.args.owe) c.in-Given.is c.turn.ensures.fresh)

pub returns-in-Bought-clause-step : goal.returns-in-Bought-clause-step
returns-in-Bought-clause-step g c = as_event (ap (phase_event (g.T.Steps.setting c.args.steps.now) (g.T.Steps.view c.args.steps.now) c.args.self.now) (sym c.requires.phase)) c.turn.ensures.step

pub returns-in-Posted-clause-step : goal.returns-in-Posted-clause-step
returns-in-Posted-clause-step g c = as_event (ap (phase_event (g.T.Steps.setting c.args.steps.now) (g.T.Steps.view c.args.steps.now) c.args.self.now) (sym c.requires.phase)) c.turn.ensures.step

pub returns-in-Given-clause-step : goal.returns-in-Given-clause-step
returns-in-Given-clause-step g c = as_event (ap (phase_event (g.T.Steps.setting c.args.steps.now) (g.T.Steps.view c.args.steps.now) c.args.self.now) (sym c.requires.phase)) c.turn.ensures.step

pub returns-in-Bought-clause-rest : goal.returns-in-Bought-clause-rest
returns-in-Bought-clause-rest g c = rests_bought (g.T.Steps.setting c.args.steps.now) c.args.self.now (g.T.Steps.shown c.turn.new.steps).1 c.args.owe c.args.behind c.requires.phase c.turn.result c.turn.ensures.bought c.go.new.self c.go.result c.turn.new.self c.in-Bought.is c.turn.ensures.owe c.go.ensures.same c.go.ensures.turn

pub returns-in-Posted-clause-rest : goal.returns-in-Posted-clause-rest
returns-in-Posted-clause-rest g c = let go = c.go-in-Posted in rests_posted (g.T.Steps.setting c.args.steps.now) c.args.self.now (g.T.Steps.shown c.turn.new.steps).1 c.args.owe c.args.behind c.requires.phase c.turn.result c.turn.ensures.bought c.onward-next.result go.new.self go.result c.in-Posted.is (c.onward-next.ensures c.requires.serves.outcome _ c.requires.serves.graph) go.ensures.same go.ensures.turn

pub returns-in-Given-clause-rest : goal.returns-in-Given-clause-rest
returns-in-Given-clause-rest g c = rests_given (g.T.Steps.setting c.args.steps.now) c.args.self.now (g.T.Steps.shown c.turn.new.steps).1 c.args.owe c.args.behind c.requires.phase c.turn.result c.turn.ensures.bought c.in-Given.life c.onward-self.result _ c.in-Given.is (c.onward-self.ensures c.requires.serves.outcome _ c.requires.serves.graph) refl
