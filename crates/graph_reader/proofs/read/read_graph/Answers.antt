use Rattle.std.proofs.Common.{rules}
use Rattle.graph_reader.specs.Answers.{ReadsGraph}
use Rattle.graph_reader.proofs.LinePaths.{refusal_line}
use Rattle.graph_reader.proofs.read.read_graph.Goals as goal

pub returns-in_err-graph-clause-line : goal.returns-in_err-graph-clause-line
returns-in_err-graph-clause-line c =
    let reads : ReadsGraph c.args.bytes.now c.from_residual.result = search rules in
    refusal_line c.args.bytes.now c.from_residual.result reads
