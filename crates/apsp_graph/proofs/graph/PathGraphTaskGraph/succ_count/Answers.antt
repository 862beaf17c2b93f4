use Rattle.std.proofs.Common.{◌∙◌}
use Rattle.path_tasks.specs.Keys.{task_of}
use Rattle.path_tasks.specs.Paths.{tiles_of}
use Rattle.path_tasks.proofs.Calls.{succ_count_at}
use Rattle.apsp_graph.proofs.graph.PathGraphTaskGraph.succ_count.Goals as goal

pub returns : goal.returns
returns c =
    let s = c.args.self.now in
    let t = tiles_of s.n s.side in
    c.succ_count.ensures ∙ succ_count_at c.tiles.result t c.task_at.result (task_of t c.args.key.0) c.tiles.ensures.value c.task_at.ensures.value
