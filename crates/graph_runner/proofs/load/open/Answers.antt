use Rattle.std.proofs.lemmas.Result.{err_from_is_err_and}
use Rattle.graph_runner.proofs.Limits.{in_limits}
use Rattle.graph_runner.proofs.Opens.{unaccepted}
use Rattle.graph_runner.proofs.load.open.Goals as goal

pub accept-requires : goal.accept-requires
accept-requires g c = in_limits c.in_ok-raw.raw c.in_ok-raw.ensures.1.graph

pub returns-in_err-graph : goal.returns-in_err-graph
returns-in_err-graph g c =
    let p = err_from_is_err_and c.from_residual-in_err-graph.result c.from_residual-in_err-graph.ensures.1 in
    rw (p.1, p.2) (unaccepted _ c.in_ok-raw.raw c.in_ok-raw.plan c.in_err-graph.field-0.0 c.in_ok-raw.ensures.0 c.in_err-graph.ensures)
