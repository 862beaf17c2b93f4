use Rattle.std.proofs.Common.{◌<◌, ◌≤◌, ℕ, get_or}
use Rattle.audit_cycles.proofs.cycles.highest.Given as goal

abbrev pub invariant-loop-p : goal.invariant-loop-p
invariant-loop-p l = (i : ℕ) → i < l.p-index → get_or l.numbers (get_or l.named i (0, 0)).0 0 ≤ l.high
