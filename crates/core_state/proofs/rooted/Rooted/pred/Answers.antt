use Rattle.core_state.proofs.Start.Widest.{sink_task}
use Rattle.core_state.proofs.Start.Asked.{task_of, pred_is_task}
use Rattle.core_state.proofs.rooted.Rooted.pred.Goals as goal

pub succ_count-requires : goal.succ_count-requires
succ_count-requires g c = sink_task (g.G.TaskGraph.graph c.args.self.now.graph.now) c.sink-sink.result.0 c.sink-sink.ensures ((g.met.G.TaskGraph g.world.𝓛 g.world.𝓜 g.world.𝓡 ((λ s x. x), (λ x. x), (λ x. x), λ x. x)).lawful c.args.self.now.graph.now)

pub returns-then-eq-clause-task : goal.returns-then-eq-clause-task
returns-then-eq-clause-task g c = sink_task (g.G.TaskGraph.graph c.args.self.now.graph.now) c.sink-sink.result.0 c.sink-sink.ensures ((g.met.G.TaskGraph g.world.𝓛 g.world.𝓜 g.world.𝓡 ((λ s x. x), (λ x. x), (λ x. x), λ x. x)).lawful c.args.self.now.graph.now)

pub returns-else-eq-clause-task : goal.returns-else-eq-clause-task
returns-else-eq-clause-task g c = let graph = g.G.TaskGraph.graph c.args.self.now.graph.now in let laws = (g.met.G.TaskGraph g.world.𝓛 g.world.𝓜 g.world.𝓡 ((λ s x. x), (λ x. x), (λ x. x), λ x. x)).lawful c.args.self.now.graph.now in
    pred_is_task graph c.args.key.0 c.args.place c.pred.result.key.0 c.pred.result.port laws (task_of graph c.args.key.0 c.eq.result c.requires.key c.eq.ensures c.if-eq.false) c.pred.ensures.pred
