use Rattle.std.proofs.Common.{◌<◌, length, arith}
use Rattle.core_steps.proofs.Growing.{some_worker}
use Rattle.core_steps.proofs.plain.PlainTable.worker_count.Goals as goal

pub returns-clause-some : goal.returns-clause-some
returns-clause-some g c = let a : 0 < length c.self.inside.stores.items = some_worker g.C.Course.setting _ c.self.invariant in let b = c.len.ensures in omega (arith, a, b)
