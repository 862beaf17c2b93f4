use Rattle.std.proofs.Common.{◌∙◌}
use Rattle.std.proofs.lemmas.Result.{err_from_is_err_and}
use Rattle.acyclic_audit.specs.Views.{graph}
use Rattle.graph_runner.proofs.Opens.{halted}
use Rattle.graph_runner.proofs.Serves.{task_count, same_lines}
use Rattle.graph_runner.proofs.serve.checked.Goals as goal

pub returns : goal.returns
returns g c =
    let opened = c.in_ok-graph.ensures in
    let tasks = c.task_count.ensures ∙ task_count opened.raw c.in_ok-graph.graph opened.told in
    record {
      raw = opened.raw;
      plan = c.in_ok-graph.plan;
      loaded = opened.loaded;
      accepted = opened.told.accepted;
      lines = record {
        graph = graph c.in_ok-graph.graph;
        is = opened.told.is;
        reachable = c.in_ok-reachable.reachable;
        counted = c.in_ok-reachable.ensures;
        says = c.in_ok-text.ensures ∙ same_lines _ _ _ _ _ _ _ tasks c.block_count.ensures c.len.ensures.count;
      };
    }

pub returns-in_err-reachable : goal.returns-in_err-reachable
returns-in_err-reachable g c =
    let p = err_from_is_err_and c.from_residual-in_err-reachable.result c.from_residual-in_err-reachable.ensures.1 in
    let opened = c.in_ok-graph.ensures in
    rw (p.1, p.2) (halted _ opened.raw c.in_ok-graph.plan opened.loaded)

pub returns-in_err-text : goal.returns-in_err-text
returns-in_err-text g c =
    let p = err_from_is_err_and c.from_residual-in_err-text.result c.from_residual-in_err-text.ensures.1 in
    let opened = c.in_ok-graph.ensures in
    rw (p.1, p.2) (halted _ opened.raw c.in_ok-graph.plan opened.loaded)
