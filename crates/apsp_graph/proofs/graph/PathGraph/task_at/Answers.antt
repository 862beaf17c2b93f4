use Rattle.std.proofs.Common.{◌<◌, ℕ, sym, subst}
use Rattle.path_tasks.specs.Keys.{task_total}
use Rattle.path_tasks.specs.Paths.{tiles_of}
use Rattle.path_tasks.proofs.EdgeLists.{in_range}
use Rattle.apsp_graph.proofs.graph.PathGraph.task_at.Goals as goal

pub task_of-requires-clause-known : goal.task_of-requires-clause-known
task_of-requires-clause-known c =
    let s = c.args.self.now in
    subst (λ (b : ℕ). c.args.key.0 < task_total b) (sym c.tiles.ensures.value) (in_range (task_total (tiles_of s.n s.side)) c.args.key.0 c.requires)
