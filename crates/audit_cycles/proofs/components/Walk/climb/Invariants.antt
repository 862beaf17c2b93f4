use Rattle.std.proofs.Common.{◌≡◌, length}
use Rattle.std.specs.Prelude.{sum_by}
use Rattle.audit_checks.specs.Rows.{rows_of}
use Rattle.audit_cycles.specs.Components.{Walks, walk_left}
use Rattle.audit_cycles.proofs.components.Walk.climb.Given as goal

abbrev pub invariant-loop-task : goal.invariant-loop-task
invariant-loop-task l = Walks l.self × (length l.self.seen.items ≡ length l.places)

abbrev pub decreases-loop-task : goal.decreases-loop-task
decreases-loop-task l = walk_left (sum_by length (rows_of l.places)) l.self
