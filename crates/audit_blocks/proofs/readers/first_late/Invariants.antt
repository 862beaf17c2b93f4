use Rattle.audit_checks.specs.Links.{places_in}
use Rattle.audit_blocks.specs.Readers.{IsFirstOf}
use Rattle.audit_blocks.proofs.readers.first_late.Given as goal

abbrev pub invariant-loop-r : goal.invariant-loop-r
invariant-loop-r l = IsFirstOf l.tasks (places_in l.links) l.nexts l.r l.first
