use Rattle.audit_blocks.proofs.Once.{IsApart}
use Rattle.audit_blocks.proofs.versions.check_once.Given as goal

abbrev pub invariant-loop-i : goal.invariant-loop-i
invariant-loop-i l = IsApart l.written l.i
