use Rattle.std.proofs.Common.{arith}
use Rattle.graph_model.proofs.kernel.Inputs.count.Goals as goal

pub overflow_cast-result : goal.overflow_cast-result
overflow_cast-result c = omega (arith, c.self.invariant)
