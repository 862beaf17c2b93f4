use Rattle.std.proofs.Common.{ℕ, ◌<◌, ◌≤◌, get_or}
use Rattle.raw_graph.specs.declared.raw.RawTask.{RawTask}
use Rattle.audit_checks.specs.Tasks.{key_of, succ_count}
use Rattle.audit_checks.proofs.sizes.check_edges.Given as goal

abbrev pub invariant-loop-i : goal.invariant-loop-i
invariant-loop-i l = (k : ℕ) (d : RawTask) → k < l.i → succ_count l.tasks l.sink (key_of (get_or l.tasks k d)) ≤ 640
