use Rattle.worker_pool.proofs.Threading.Cutting.{IsCut}
use Rattle.worker_pool.proofs.joining.split.Given as goal

-- so many passes there are
abbrev pub invariant-loop : goal.invariant-loop
invariant-loop g l = IsCut g.C.Course.setting l.table l.counter l.first l.passes.items
