use Rattle.std.proofs.Common.{◌<◌, ◌≤◌, ℕ, get_or}
use Rattle.audit_checks.specs.Rows.{rows_of, row, Names}
use Rattle.audit_cycles.proofs.cycles.never_rises.Given as goal

abbrev pub invariant-loop-i : goal.invariant-loop-i
invariant-loop-i l = (k : ℕ) → k < l.i → (p : ℕ) → Names (row (rows_of l.places) k) p → get_or l.numbers p 0 ≤ get_or l.numbers k 0
