use Rattle.core_state.proofs.Start.Asked.{task_with_port, succ_is_key}
use Rattle.core_state.proofs.rooted.Rooted.succ.Goals as goal

pub returns-else-eq-clause-key : goal.returns-else-eq-clause-key
returns-else-eq-clause-key g c = let graph = g.G.TaskGraph.graph c.args.self.now.graph.now in let laws = (g.met.G.TaskGraph g.world.𝓛 g.world.𝓜 g.world.𝓡 ((λ s x. x), (λ x. x), (λ x. x), λ x. x)).lawful c.args.self.now.graph.now in
    succ_is_key graph c.args.key.0 c.args.port c.succ.result.0.0 c.succ.result.1 laws (task_with_port graph c.args.key.0 c.args.port c.requires.key c.requires.port) c.succ.ensures
