use Rattle.std.proofs.Common.{ap, ◌∙◌}
use Rattle.compute_notify.specs.Rooms.{bare_item, is_plain}
use Rattle.compute_notify.specs.declared.item.Came.TheVariants as came
use Rattle.compute_notify.proofs.Plain.{job_bare, plain_gone}
use Rattle.compute_notify.proofs.Payments.{falls_bought, falls_given, falls_posted, given_as, goes_bought, goes_given, goes_posted}
use Rattle.compute_notify.proofs.paying.pay.Goals as goal

pub returns-in-Bought-clause-goes : goal.returns-in-Bought-clause-goes
returns-in-Bought-clause-goes g c = goes_bought _ _ _ (g.T.Steps.view c.turn.new.steps) c.args.owe c.requires.stands.fits c.turn.ensures.step.knows c.turn.result c.turn.ensures.lines c.turn.ensures.credit c.turn.new.self c.stays.result c.in-Bought.is c.turn.ensures.owe c.stays.ensures

pub returns-in-Posted-clause-goes : goal.returns-in-Posted-clause-goes
returns-in-Posted-clause-goes g c = goes_posted _ _ _ (g.T.Steps.view c.turn.new.steps) c.args.owe c.requires.stands.fits c.turn.ensures.step.knows c.turn.result c.turn.ensures.lines c.turn.ensures.credit c.leaves.result c.in-Posted.is c.leaves.ensures

pub returns-in-Given-clause-goes : goal.returns-in-Given-clause-goes
returns-in-Given-clause-goes g c = goes_given _ _ _ (g.T.Steps.view c.turn.new.steps) c.args.owe c.requires.stands.fits c.turn.ensures.step.knows c.turn.result c.turn.ensures.lines c.turn.ensures.credit c.in-Given.life c.gone.result c.in-Given.is c.turn.ensures.fresh
    (given_as c.args.owe c.turn.new.self c.in-Given.life c.row.result c.key.result c.job.result c.of_job.result c.gone.result c.turn.ensures.owe c.row.ensures c.key.ensures c.job.ensures c.of_job.ensures c.gone.ensures)

pub returns-in-Bought-clause-rest : goal.returns-in-Bought-clause-rest
returns-in-Bought-clause-rest g c = falls_bought _ c.args.terms.now.plan.now (g.T.Steps.view c.args.steps.now) c.args.owe (g.T.Steps.shown c.turn.new.steps).1 c.turn.result c.turn.ensures.bought c.turn.new.self c.stays.result c.in-Bought.is c.turn.ensures.owe c.stays.ensures

pub returns-in-Posted-clause-rest : goal.returns-in-Posted-clause-rest
returns-in-Posted-clause-rest g c = falls_posted _ c.args.terms.now.plan.now (g.T.Steps.view c.args.steps.now) c.args.owe (g.T.Steps.shown c.turn.new.steps).1 c.turn.result c.turn.ensures.bought c.leaves.result c.in-Posted.is c.leaves.ensures

pub returns-in-Given-clause-rest : goal.returns-in-Given-clause-rest
returns-in-Given-clause-rest g c = falls_given _ c.args.terms.now.plan.now (g.T.Steps.view c.args.steps.now) c.args.owe (g.T.Steps.shown c.turn.new.steps).1 c.turn.result c.turn.ensures.bought (g.T.Steps.view c.turn.new.steps) c.requires.stands.top c.requires.stands.fits.known c.turn.ensures.given c.turn.ensures.lines c.turn.ensures.step.step.view_is c.in-Given.life c.gone.result c.in-Given.is
    (given_as c.args.owe c.turn.new.self c.in-Given.life c.row.result c.key.result c.job.result c.of_job.result c.gone.result c.turn.ensures.owe c.row.ensures c.key.ensures c.job.ensures c.of_job.ensures c.gone.ensures)

pub returns-in-Given-clause-plain : goal.returns-in-Given-clause-plain
returns-in-Given-clause-plain g c = plain_gone (came.Stack c.of_job.result) c.gone.result c.gone.ensures (ap bare_item c.of_job.ensures ∙ job_bare (record { row = c.row.result; key = c.key.result; life = c.in-Given.life }) c.job.result)

pub returns-in-Bought-clause-plain : goal.returns-in-Bought-clause-plain
returns-in-Bought-clause-plain g c = ap is_plain c.stays.ensures

pub returns-in-Posted-clause-plain : goal.returns-in-Posted-clause-plain
returns-in-Posted-clause-plain g c = ap is_plain c.leaves.ensures
