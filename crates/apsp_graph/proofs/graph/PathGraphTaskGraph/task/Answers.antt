use Rattle.std.proofs.Common.{ap, sym, ◌∙◌, Some}
use Rattle.path_tasks.specs.Keys.{task_total}
use Rattle.path_tasks.specs.Paths.{tiles_of}
use Rattle.path_tasks.proofs.Calls.{numbered}
use Rattle.apsp_graph.proofs.graph.PathGraphTaskGraph.task.Goals as goal

pub returns : goal.returns
returns c =
    let s = c.args.self.now in
    numbered (task_total (tiles_of s.n s.side)) c.args.i c.requires ∙ ap Some (sym c.from.ensures)
