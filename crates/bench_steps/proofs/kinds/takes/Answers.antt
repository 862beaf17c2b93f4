use Rattle.recovery.proofs.Knowing.{row_here}
use Rattle.bench_steps.proofs.kinds.takes.Goals as goal

pub take-requires-clause-can : goal.take-requires-clause-can
take-requires-clause-can g c = row_here _ _ c.args.row c.args.key.0 c.loop-i.invariant.known
