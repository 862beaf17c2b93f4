-- From a source to an accepted graph and a plan.
use Rattle.std.specs.Prelude.{◌≢◌, List, Result, Ok, Err}
use Rattle.graph_model.specs.declared.plan.Strike.{Strike}
use Rattle.raw_graph.specs.declared.raw.RawGraph.{RawGraph}
use Rattle.audit_checks.specs.Faults.{IsFault}
use Rattle.audit_checks.specs.declared.fault.AuditFault.{AuditFault}
use Rattle.audit_checks.specs.declared.fault.AuditFault.TheVariants as audit
use Rattle.acyclic_audit.specs.declared.graph.FileGraph.{FileGraph}
use Rattle.graph_runner.specs.Accepting.{IsAcceptedAs}
use Rattle.graph_runner.specs.Loading.{Input, IsLoaded, FailsToLoad}
use Rattle.graph_runner.specs.declared.ending.Ending.{Ending}
use Rattle.graph_runner.specs.declared.ending.Ending.TheVariants.{Done, Usage, ReadFault, WriteFault, Text, Audit, Matrix, LivesSpent, ScheduleShort, OutOfMemory, TooLong}

-- the source's graph is not accepted, and this is the first refusal
pub record IsRefused (input : Input) (fault : AuditFault) : Type 0 where
  pub raw : RawGraph
  pub plan : List Strike
  pub loaded : IsLoaded input raw plan
  pub memory : fault ≢ audit.OutOfMemory
  pub stands : IsFault raw.tasks.items raw.sink.0 fault

-- why there is no accepted graph
abbrev pub FailsToAccept : Input → Ending → Type 0
FailsToAccept input (Audit fault) = IsRefused input fault
FailsToAccept input ReadFault = FailsToLoad input ReadFault
FailsToAccept input TooLong = FailsToLoad input TooLong
FailsToAccept input (Text fault) = FailsToLoad input (Text fault)
FailsToAccept input OutOfMemory = FailsToLoad input OutOfMemory
FailsToAccept input Done = ⊥
FailsToAccept input Usage = ⊥
FailsToAccept input WriteFault = ⊥
FailsToAccept input (Matrix fault) = ⊥
FailsToAccept input (LivesSpent k l c) = ⊥
FailsToAccept input (ScheduleShort pending) = ⊥

-- the source holds this plan and an accepted graph, which is this one
pub record IsOpened (input : Input) (g : FileGraph) (plan : List Strike) : Type 0 where
  pub raw : RawGraph
  pub loaded : IsLoaded input raw plan
  pub told : IsAcceptedAs raw g

abbrev pub Opens : Input → Result (FileGraph × List Strike) Ending → Type 0
Opens input (Ok r) = IsOpened input r.0 r.1
Opens input (Err ending) = FailsToAccept input ending
