use Rattle.std.proofs.Common.{◌<◌, ℕ, get_or}
use Rattle.audit_checks.specs.Rows.{rows_of}
use Rattle.audit_cycles.specs.Ancestors.{Reaches}
use Rattle.audit_cycles.proofs.cycles.is_on_cycle.Given as goal

abbrev pub invariant-loop-p : goal.invariant-loop-p
invariant-loop-p l = (i : ℕ) → i < l.p-index → ¬ Reaches (rows_of l.places) (get_or l.p-items i (0, 0)).0 l.k
