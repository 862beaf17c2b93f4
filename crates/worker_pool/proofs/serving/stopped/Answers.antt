use Rattle.worker_pool.proofs.Threading.Serving.{stopped_well}
use Rattle.worker_pool.proofs.serving.stopped.Goals as goal

pub returns-clause-ends : goal.returns-clause-ends
returns-clause-ends g c = stopped_well (g.T.Steps.setting c.args.steps.now) (g.T.Steps.view c.args.steps.now) (g.T.Steps.view c.stop.new.self) (g.T.Steps.shown c.stop.new.self).1 c.args.ending c.stop.ensures.step.view_is c.requires.ends
