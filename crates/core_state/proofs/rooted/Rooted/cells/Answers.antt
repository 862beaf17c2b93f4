use Rattle.std.proofs.Common.{◌<◌, sym, subst}
use Rattle.core_state.proofs.Start.Widest.{sink_task}
use Rattle.core_state.proofs.rooted.Rooted.cells.Goals as goal

pub block-requires : goal.block-requires
block-requires g c = sink_task (g.G.TaskGraph.graph c.args.self.now.graph.now) c.sink-sink.result.0 c.sink-sink.ensures ((g.met.G.TaskGraph g.world.𝓛 g.world.𝓜 g.world.𝓡 ((λ s x. x), (λ x. x), (λ x. x), λ x. x)).lawful c.args.self.now.graph.now)

pub cells-requires : goal.cells-requires
cells-requires g c = let graph = g.G.TaskGraph.graph c.args.self.now.graph.now in let laws = (g.met.G.TaskGraph g.world.𝓛 g.world.𝓜 g.world.𝓡 ((λ s x. x), (λ x. x), (λ x. x), λ x. x)).lawful c.args.self.now.graph.now in
    subst (λ b. b < graph.block_count) (sym c.block.ensures.block) (laws.block_inside c.sink-sink.result.0 (sink_task graph c.sink-sink.result.0 c.sink-sink.ensures laws))
