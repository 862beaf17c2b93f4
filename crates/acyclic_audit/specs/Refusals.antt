-- Refusals and acceptance.
use Rattle.std.specs.Prelude.{◌≢◌, ℕ, List}
use Rattle.raw_graph.specs.declared.raw.RawTask.{RawTask}
use Rattle.audit_checks.specs.Accepted.{IsAccepted}
use Rattle.audit_checks.specs.declared.fault.AuditFault.{AuditFault}
use Rattle.audit_checks.specs.declared.fault.AuditFault.TheVariants.{OutOfMemory}

-- a refusal, but for want of memory, says that the graph is not accepted
abbrev pub Refuses : List RawTask → ℕ → AuditFault → Type 0
Refuses ts sink e = e ≢ OutOfMemory → ¬ IsAccepted ts sink
