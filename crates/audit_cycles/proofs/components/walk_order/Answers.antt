use Rattle.std.proofs.Common.{arith}
use Rattle.audit_cycles.proofs.components.walk_order.Goals as goal

pub returns : goal.returns
returns c = λ k has. omega (arith, c.loop-k.invariant.0.done k has, c.loop-k.invariant.1)
