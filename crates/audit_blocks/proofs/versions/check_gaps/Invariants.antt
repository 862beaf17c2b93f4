use Rattle.audit_blocks.specs.Versions.{IsWholeTo}
use Rattle.audit_blocks.proofs.versions.check_gaps.Given as goal

abbrev pub invariant-loop-i : goal.invariant-loop-i
invariant-loop-i l = IsWholeTo l.written l.i
