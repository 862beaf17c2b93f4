use Rattle.std.proofs.Common.{◌≡◌, vec_len}
use Rattle.audit_blocks.specs.Readers.{AreNexts}
use Rattle.audit_blocks.proofs.readers.next_writers.Given as goal

abbrev pub invariant-loop-i : goal.invariant-loop-i
invariant-loop-i l = AreNexts l.written l.i l.nexts.items × (vec_len l.nexts ≡ l.count)
