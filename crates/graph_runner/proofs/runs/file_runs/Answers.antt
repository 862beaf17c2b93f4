use Rattle.graph_runner.proofs.Valuing.{can_be}
use Rattle.graph_runner.proofs.runs.file_runs.Goals as goal

pub returns : goal.returns
returns c = can_be c.args.graph.now
