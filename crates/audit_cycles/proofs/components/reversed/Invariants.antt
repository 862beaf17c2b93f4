use Rattle.std.proofs.Common.{length}
use Rattle.audit_cycles.specs.Components.{AreRows}
use Rattle.audit_cycles.proofs.components.reversed.Given as goal

abbrev pub invariant-loop-p : goal.invariant-loop-p
invariant-loop-p l = AreRows (length l.places) l.rows.items

abbrev pub invariant-loop-k : goal.invariant-loop-k
invariant-loop-k l = AreRows (length l.places) l.rows.items
