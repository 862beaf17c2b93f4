use Rattle.std.proofs.Common.{◌<◌, arith}
use Rattle.core_state.proofs.Start.Asked.{in_some}
use Rattle.core_state.proofs.rooted.Rooted.is_input.Goals as goal

pub pred-requires-clause-place : goal.pred-requires-clause-place
pred-requires-clause-place g c κs within = let graph = g.G.TaskGraph.graph c.args.self.now.graph.now in let laws = (g.met.G.TaskGraph g.world.𝓛 g.world.𝓜 g.world.𝓡 ((λ s x. x), (λ x. x), (λ x. x), λ x. x)).lawful c.args.self.now.graph.now in
    let low = c.if-place-pred_count.true in
    in_some graph (λ r. c.args.place < r.places c.args.key.0) laws (λ outcome r is. let e = c.pred_count.ensures outcome r is in omega (arith, e, low))
