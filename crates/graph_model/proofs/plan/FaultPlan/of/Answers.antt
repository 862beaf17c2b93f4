use Rattle.std.proofs.Common.{[], refl}
use Rattle.graph_model.proofs.Index.{index_none}
use Rattle.graph_model.proofs.plan.FaultPlan.of.Goals as goal

pub loop-place-init : goal.loop-place-init
loop-place-init c = record { index = index_none c.as_slice-waiting.result.now []; long = refl }
