use Rattle.std.proofs.Common.{sym, arith}
use Rattle.apsp_graph.proofs.LineLemmas.{return_ends, no_return, nothing_dropped}
use Rattle.apsp_graph.proofs.lines.without_return.Goals as goal
use Rattle.apsp_graph.proofs.lines.without_return.Goals.{else-length-gt0-via-then-length-gt0+else-line-length-eq13, else-length-gt0-via-else-length-gt0}

pub returns-then-line-length-eq13 : goal.returns-then-line-length-eq13
returns-then-line-length-eq13 c = sym (return_ends c.args.line.now (omega arith) c.if-line-length-eq13.true)

pub returns-else-length-gt0 : goal.returns-else-length-gt0
returns-else-length-gt0 c = elim c.else-length-gt0.branch [
  | else-length-gt0-via-then-length-gt0+else-line-length-eq13 w ↦ sym (no_return c.args.line.now (omega arith) w.if-line-length-eq13.false)
  | else-length-gt0-via-else-length-gt0 w ↦ sym (nothing_dropped c.args.line.now (omega arith))
]
