use Rattle.graph_runner.proofs.Solves.{can_solve}
use Rattle.graph_runner.proofs.paths.matrix_runs.Goals as goal

pub returns : goal.returns
returns c = can_solve c.args.graph.now
