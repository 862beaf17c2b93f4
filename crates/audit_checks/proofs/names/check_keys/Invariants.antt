use Rattle.audit_checks.proofs.Keys.{IsApart}
use Rattle.audit_checks.proofs.names.check_keys.Given as goal

abbrev pub invariant-loop-i : goal.invariant-loop-i
invariant-loop-i l = IsApart l.keys l.i
