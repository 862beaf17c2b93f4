-- From a source to an accepted graph, or the reason why there is none.
use Rattle.std.proofs.Common.{List, Err}
use Rattle.graph_model.specs.declared.plan.Strike.{Strike}
use Rattle.raw_graph.specs.declared.raw.RawGraph.{RawGraph}
use Rattle.audit_checks.specs.Faults.{IsFault}
use Rattle.audit_checks.specs.declared.fault.AuditFault.{AuditFault}
use Rattle.audit_checks.specs.declared.fault.AuditFault.TheVariants as audit
use Rattle.graph_runner.specs.Accepting.{Accepts}
use Rattle.graph_runner.specs.Endings.{audit_ending}
use Rattle.graph_runner.specs.Loading.{Input, IsLoaded, IsStopped, FailsToLoad}
use Rattle.graph_runner.specs.Opening.{FailsToAccept}
use Rattle.graph_runner.specs.declared.ending.Ending.{Ending}
use Rattle.graph_runner.specs.declared.ending.Ending.TheVariants.{Done, Usage, ReadFault, WriteFault, Text, Audit, Matrix, LivesSpent, ScheduleShort, OutOfMemory, TooLong}
use Rattle.graph_runner.proofs.Loads.{stopped}

pub refused : (raw : RawGraph) (fault : AuditFault) → IsFault raw.tasks.items raw.sink.0 fault → Accepts raw (Err (audit_ending fault))
refused raw audit.OutOfMemory stands = tt
refused raw (audit.DuplicateKey k) stands = ((λ e. cc), stands)
refused raw (audit.UnknownKey t k) stands = ((λ e. cc), stands)
refused raw (audit.NoSink k) stands = ((λ e. cc), stands)
refused raw (audit.TooManyPreds t n) stands = ((λ e. cc), stands)
refused raw (audit.TooManySuccs t n) stands = ((λ e. cc), stands)
refused raw (audit.Cycle k) stands = ((λ e. cc), stands)
refused raw (audit.VersionTwice b v) stands = ((λ e. cc), stands)
refused raw (audit.VersionGap b v) stands = ((λ e. cc), stands)
refused raw (audit.VersionOrder b v) stands = ((λ e. cc), stands)
refused raw (audit.ReaderNotBefore r w) stands = ((λ e. cc), stands)
refused raw (audit.InputCount t i) stands = ((λ e. cc), stands)

-- behind the loading room was refused
pub halted : (input : Input) (raw : RawGraph) (plan : List Strike) → IsLoaded input raw plan → IsStopped input
halted input raw plan loaded = stopped input loaded.bytes loaded.gave

-- where nothing was loaded, no graph was accepted
pub unloaded : (input : Input) (e : Ending) → FailsToLoad input e → FailsToAccept input e
unloaded input ReadFault fails = fails
unloaded input TooLong fails = fails
unloaded input (Text fault) fails = fails
unloaded input OutOfMemory fails = fails
unloaded input Done fails = absurd fails
unloaded input Usage fails = absurd fails
unloaded input WriteFault fails = absurd fails
unloaded input (Audit fault) fails = absurd fails
unloaded input (Matrix fault) fails = absurd fails
unloaded input (LivesSpent k l c) fails = absurd fails
unloaded input (ScheduleShort pending) fails = absurd fails

pub unaccepted : (input : Input) (raw : RawGraph) (plan : List Strike) (e : Ending) → IsLoaded input raw plan → Accepts raw (Err e) → FailsToAccept input e
unaccepted input raw plan (Audit fault) loaded accepts = record { raw = raw; plan = plan; loaded = loaded; memory = accepts.0; stands = accepts.1 }
unaccepted input raw plan OutOfMemory loaded accepts = halted input raw plan loaded
unaccepted input raw plan Done loaded accepts = absurd accepts
unaccepted input raw plan Usage loaded accepts = absurd accepts
unaccepted input raw plan ReadFault loaded accepts = absurd accepts
unaccepted input raw plan WriteFault loaded accepts = absurd accepts
unaccepted input raw plan (Text fault) loaded accepts = absurd accepts
unaccepted input raw plan (Matrix fault) loaded accepts = absurd accepts
unaccepted input raw plan (LivesSpent k l c) loaded accepts = absurd accepts
unaccepted input raw plan (ScheduleShort pending) loaded accepts = absurd accepts
unaccepted input raw plan TooLong loaded accepts = absurd accepts
