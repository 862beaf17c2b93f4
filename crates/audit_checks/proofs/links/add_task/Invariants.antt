use Rattle.std.proofs.Common.{length}
use Rattle.audit_checks.specs.Tasks.{places_of}
use Rattle.audit_checks.specs.Links.{places_in, succs_in}
use Rattle.audit_checks.proofs.Adding.{IsAdding}
use Rattle.audit_checks.proofs.links.add_task.Given as goal

abbrev pub invariant-loop-j : goal.invariant-loop-j
invariant-loop-j l = IsAdding l.keys (places_of l.task) (places_in l.links) (succs_in l.links) (places_in l.initial.links) (succs_in l.initial.links) (length l.tasks) l.k l.j
