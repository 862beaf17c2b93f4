use Rattle.std.proofs.Common.{◌≡◌, length}
use Rattle.audit_cycles.specs.Components.{Walks}
use Rattle.audit_cycles.proofs.components.walk_order.Given as goal

abbrev pub invariant-loop-k : goal.invariant-loop-k
invariant-loop-k l = Walks l.walk × (length l.walk.seen.items ≡ length l.places)
