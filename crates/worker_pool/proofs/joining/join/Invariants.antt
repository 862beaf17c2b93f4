use Rattle.std.specs.Vec.Iter.{into_iter_items}
use Rattle.worker_pool.proofs.Threading.Joining.{IsTaken}
use Rattle.worker_pool.proofs.joining.join.Given as goal

abbrev pub invariant-loop-pass : goal.invariant-loop-pass
invariant-loop-pass g l = IsTaken l.table l.fn.passes.items l.all (into_iter_items l.pass-iterator)
