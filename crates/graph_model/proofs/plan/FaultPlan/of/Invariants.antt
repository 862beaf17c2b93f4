use Rattle.std.proofs.Common.{◌≡◌, take, length}
use Rattle.graph_model.specs.Plans.{IsIndex}
use Rattle.graph_model.proofs.plan.FaultPlan.of.Given as goal

abbrev pub invariant-loop-place : goal.invariant-loop-place
invariant-loop-place l = record {
  index : IsIndex l.waiting l.place (take l.place l.order);
  long : length l.order ≡ 4096;
}
