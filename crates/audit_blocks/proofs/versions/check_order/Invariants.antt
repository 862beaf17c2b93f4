use Rattle.audit_checks.specs.Links.{places_in}
use Rattle.audit_blocks.specs.Edges.{IsInTurnTo}
use Rattle.audit_blocks.proofs.versions.check_order.Given as goal

abbrev pub invariant-loop-i : goal.invariant-loop-i
invariant-loop-i l = IsInTurnTo l.written (places_in l.links) l.i
