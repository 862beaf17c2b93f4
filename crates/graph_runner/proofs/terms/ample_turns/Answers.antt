use Rattle.std.proofs.Common.{arith}
use Rattle.graph_runner.proofs.Products.{five_factors, four_factors}
use Rattle.graph_runner.proofs.terms.ample_turns.Goals as goal

pub overflow_mul-turns-2 : goal.overflow_mul-turns-2
overflow_mul-turns-2 c =
    omega (arith, four_factors c.from.result c.from-2.result c.from-5.result c.from-3.result c.from-4.result (omega arith) (omega arith) (omega arith) (omega arith) (omega arith))

pub overflow_mul-turns-3 : goal.overflow_mul-turns-3
overflow_mul-turns-3 c =
    omega (arith, five_factors c.from.result c.from-2.result c.from-5.result c.from-3.result c.from-4.result (omega arith) (omega arith) (omega arith) (omega arith) (omega arith))
