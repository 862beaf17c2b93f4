use Rattle.std.proofs.Common.{sym, ap, ◌∙◌}
use Rattle.std.proofs.lemmas.List.FromFn.{length-range_with_len}
use Rattle.path_tasks.specs.Keys.{task_total}
use Rattle.path_tasks.specs.Paths.{tiles_of}
use Rattle.apsp_graph.proofs.graph.PathGraphTaskGraph.task_count.Goals as goal

pub returns : goal.returns
returns c =
    let s = c.args.self.now in
    c.task_total.ensures.value ∙ ap task_total c.tiles.ensures.value ∙ sym (length-range_with_len 0 (task_total (tiles_of s.n s.side)))
