use Rattle.std.proofs.Common.{◌≡◌, drop}
use Rattle.graph_model.specs.Plans.{hits}
use Rattle.compute_notify.specs.Striking.{next_hit}
use Rattle.compute_notify.proofs.strikes.next_strike.Given as goal

abbrev pub invariant-loop-at : goal.invariant-loop-at
invariant-loop-at l = next_hit l.words l.made (drop l.made (hits l.point l.duty.key l.duty.life l.plan)) ≡ next_hit l.words l.at (drop l.at (hits l.point l.duty.key l.duty.life l.plan))
