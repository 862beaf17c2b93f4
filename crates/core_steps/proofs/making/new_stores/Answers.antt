use Rattle.core_steps.proofs.Growing.{more_stores}
use Rattle.core_steps.proofs.making.new_stores.Goals as goal

pub loop-worker-preserved : goal.loop-worker-preserved
loop-worker-preserved c = more_stores c.loop-worker.stores.items c.push.new.self.items c.new.result c.loop-worker._worker c.in_ok-push.ensures.items c.new.ensures c.loop-worker.invariant
