use Rattle.std.proofs.Common.{◌≡◌, ◌<◌, ℕ, length, Contains}
use Rattle.audit_cycles.specs.Components.{AreRows, Searches}
use Rattle.audit_cycles.proofs.components.components.Given as goal

abbrev pub invariant-loop-k : goal.invariant-loop-k
invariant-loop-k l = ((k : ℕ) → Contains l.order.items k → k < length l.places) × AreRows (length l.places) l.succs.items × (length l.numbers.items ≡ length l.places) × Searches (length l.places) l.search

abbrev pub decreases-loop-k : goal.decreases-loop-k
decreases-loop-k l = length l.order.items
