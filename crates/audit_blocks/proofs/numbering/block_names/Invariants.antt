use Rattle.audit_blocks.specs.Names.{AreNamesTo}
use Rattle.audit_blocks.proofs.numbering.block_names.Given as goal

abbrev pub invariant-loop-i : goal.invariant-loop-i
invariant-loop-i l = AreNamesTo l.written l.i l.names.items
