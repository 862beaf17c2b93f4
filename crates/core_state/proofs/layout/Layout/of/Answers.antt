use Rattle.std.proofs.Common.{◌≡◌, ◌∙◌, ◌<◌, ap, sym, subst, arith}
use Rattle.core_state.proofs.Start.Widest.{sink_task, filled}
use Rattle.core_state.proofs.layout.Layout.of.Goals as goal

pub block-requires : goal.block-requires
block-requires g c = sink_task (g.G.TaskGraph.graph c.args.graph.now) c.sink.result.0 c.sink.ensures ((g.met.G.TaskGraph g.world.𝓛 g.world.𝓜 g.world.𝓡 ((λ s x. x), (λ x. x), (λ x. x), λ x. x)).lawful c.args.graph.now)

pub cells-requires-2 : goal.cells-requires-2
cells-requires-2 g c = let graph = g.G.TaskGraph.graph c.args.graph.now in let laws = (g.met.G.TaskGraph g.world.𝓛 g.world.𝓜 g.world.𝓡 ((λ s x. x), (λ x. x), (λ x. x), λ x. x)).lawful c.args.graph.now in
    subst (λ b. b < graph.block_count) (sym c.block.ensures.block) (laws.block_inside c.sink.result.0 (sink_task graph c.sink.result.0 c.sink.ensures laws))

pub returns : goal.returns
returns g c = let graph = g.G.TaskGraph.graph c.args.graph.now in
    let all : c.loop-block.block ≡ graph.block_count = (let same = c.block_count-blocks.ensures in let low = c.loop-block.auto.block-end in let high = c.loop-block-test.false in omega (arith, same, low, high)) in
    let last : c.cells-2.result ≡ graph.cells (graph.block graph.sink) = c.cells-2.ensures ∙ ap graph.cells (c.block.ensures.block ∙ ap graph.block c.sink.ensures) in
    filled graph c.task_count.result c.widest.result c.loop-block.block c.cells-2.result c.loop-block.cells.items c.push-2.new.self c.task_count.ensures c.widest.ensures all last c.loop-block.invariant.0 c.loop-block.invariant.1 c.in_ok-push-2.ensures.items
