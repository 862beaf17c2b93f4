use Rattle.audit_blocks.specs.Names.{ArePlacedTo}
use Rattle.audit_blocks.proofs.numbering.numbered_blocks.Given as goal

abbrev pub invariant-loop-i : goal.invariant-loop-i
invariant-loop-i l = ArePlacedTo l.names.items l.tasks l.i l.places.items l.count
