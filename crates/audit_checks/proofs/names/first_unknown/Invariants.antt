use Rattle.std.proofs.Common.{ℕ, ◌<◌, Contains, slice_index}
use Rattle.audit_checks.specs.Tasks.{places_of}
use Rattle.audit_checks.proofs.names.first_unknown.Given as goal

abbrev pub invariant-loop-j : goal.invariant-loop-j
invariant-loop-j l = (k : ℕ) → k < l.j → Contains l.keys (slice_index (places_of l.task) k)
