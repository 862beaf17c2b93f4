use Rattle.std.proofs.Common.{◌∙◌, ◌+◌, ap, arith}
use Rattle.graph_runner.proofs.Places.{few_places, few_tasks, places_more}
use Rattle.graph_runner.proofs.terms.place_count.Goals as goal

pub overflow_add-count : goal.overflow_add-count
overflow_add-count g c =
    let graph = g.G.TaskGraph.graph c.args.graph.now in
    let lawful = (g.met.G.TaskGraph g.world.𝓛 g.world.𝓜 g.world.𝓡 ((λ s x. x), (λ x. x), (λ x. x), λ x. x)).lawful c.args.graph.now in
    omega (arith, few_tasks graph lawful, few_places graph lawful c.loop-i.i c.task.result.0 c.task.ensures, c.pred_count-count.ensures, c.task_count-i-end.ensures)

pub loop-i-preserved : goal.loop-i-preserved
loop-i-preserved g c =
    let graph = g.G.TaskGraph.graph c.args.graph.now in
    let lawful = (g.met.G.TaskGraph g.world.𝓛 g.world.𝓜 g.world.𝓡 ((λ s x. x), (λ x. x), (λ x. x), λ x. x)).lawful c.args.graph.now in (
      ap (λ n. c.loop-i.count + n) c.pred_count-count.ensures ∙ places_more graph c.loop-i.i c.task.result.0 c.loop-i.count c.task.ensures c.loop-i.invariant.0,
      omega (arith, few_places graph lawful c.loop-i.i c.task.result.0 c.task.ensures, c.pred_count-count.ensures),
    )
