use Rattle.std.proofs.Common.{◌≡◌, replicate, None}
use Rattle.audit_blocks.proofs.readers.no_writers.Given as goal

abbrev pub invariant-loop : goal.invariant-loop
invariant-loop l = l.nexts.items ≡ replicate l.counter None
