use Rattle.std.proofs.Common.{ℕ, ◌↔◌, ltb, sym, ap, ◌∙◌, subst}
use Rattle.std.specs.Prelude.{IsTrue}
use Rattle.std.specs.List.{range_with_len, Contains}
use Rattle.path_tasks.specs.Keys.{task_total}
use Rattle.path_tasks.specs.Paths.{tiles_of}
use Rattle.path_tasks.proofs.Calls.{has_key}
use Rattle.apsp_graph.proofs.graph.PathGraphTaskGraph.has.Goals as goal

pub returns : goal.returns
returns c =
    let s = c.args.self.now in
    let total = task_total (tiles_of s.n s.side) in
    let e = c.from.ensures ∙ c.task_total.ensures.value ∙ ap task_total c.tiles.ensures.value in
    subst (λ (v : ℕ). IsTrue (ltb c.args.key.0 v) ↔ Contains (range_with_len 0 total) c.args.key.0) (sym e) (has_key total c.args.key.0)
