use Rattle.audit_checks.specs.Links.{places_in}
use Rattle.audit_blocks.specs.Readers.{IsLateTo, IsLeastOf}
use Rattle.audit_blocks.proofs.readers.late_writer.Given as goal

abbrev pub invariant-loop-j : goal.invariant-loop-j
invariant-loop-j l = IsLeastOf (IsLateTo (places_in l.links) l.nexts l.r l.j) l.least
