use Rattle.std.proofs.Common.{ℕ, ◌<◌, length}
use Rattle.audit_checks.specs.Rows.{rows_of}
use Rattle.audit_cycles.specs.Work.{Sound, Settled, work_left}
use Rattle.audit_cycles.proofs.levels.levels_of.Given as goal

abbrev pub invariant-loop-k : goal.invariant-loop-k
invariant-loop-k l = Sound (rows_of l.places) l.work × ((i : ℕ) → i < l.k → Settled (rows_of l.places) l.work i)

abbrev pub invariant-loop-p : goal.invariant-loop-p
invariant-loop-p l = Sound (rows_of l.places) l.work × ((i : ℕ) → i < length l.places → Settled (rows_of l.places) l.work i)

abbrev pub decreases-loop-p : goal.decreases-loop-p
decreases-loop-p l = work_left l.work
