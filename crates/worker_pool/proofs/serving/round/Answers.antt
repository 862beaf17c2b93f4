use Rattle.worker_pool.proofs.Calls.{called_still}
use Rattle.worker_pool.proofs.Threading.Serving.{some_on}
use Rattle.worker_pool.proofs.serving.round.Goals as goal

pub returns-then-is_idle-clause-ends : goal.returns-then-is_idle-clause-ends
returns-then-is_idle-clause-ends g c = some_on _ _ c.looked.result c.looked.ensures.ends (λ x well. well (g.G.TaskGraph.graph c.args.terms.now.graph.now) c.requires.holds)

pub returns-then-is_idle-clause-calls : goal.returns-then-is_idle-clause-calls
returns-then-is_idle-clause-calls g c = λ before has. called_still before _ _ _ c.looked.ensures.results has
