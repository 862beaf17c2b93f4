use Rattle.std.proofs.Common.{take}
use Rattle.audit_blocks.specs.Versions.{AreWritten}
use Rattle.audit_blocks.proofs.written.written_in.Given as goal

abbrev pub invariant-loop-i : goal.invariant-loop-i
invariant-loop-i l = AreWritten (take l.i l.tasks) l.written.items
