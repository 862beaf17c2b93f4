-- The audit of a graph that was read.
use Rattle.std.specs.Prelude.{◌≡◌, ◌≢◌, All, Result, Ok, Err}
use Rattle.formula_text.specs.Formulas.{tree}
use Rattle.raw_graph.specs.declared.raw.RawGraph.{RawGraph}
use Rattle.audit_checks.specs.Tasks.{key_of}
use Rattle.audit_checks.specs.Accepted.{IsAccepted}
use Rattle.audit_checks.specs.Faults.{IsFault}
use Rattle.audit_checks.specs.declared.fault.AuditFault.TheVariants as audit
use Rattle.acyclic_audit.specs.Meaning.{IsGraphOf}
use Rattle.acyclic_audit.specs.Views.{graph, tree_at}
use Rattle.acyclic_audit.specs.declared.graph.FileGraph.{FileGraph}
use Rattle.graph_runner.specs.declared.ending.Ending.{Ending}
use Rattle.graph_runner.specs.declared.ending.Ending.TheVariants.{Done, Usage, ReadFault, WriteFault, Text, Audit, Matrix, LivesSpent, ScheduleShort, OutOfMemory, TooLong}

-- the graph is accepted, and this is it, with its formulas
pub record IsAcceptedAs (raw : RawGraph) (g : FileGraph) : Type 0 where
  pub accepted : IsAccepted raw.tasks.items raw.sink.0
  pub is : IsGraphOf raw.tasks.items raw.sink.0 (graph g)
  pub trees : All (λ t. tree_at g (key_of t) ≡ tree t.formula) raw.tasks.items

abbrev pub Accepts : RawGraph → Result FileGraph Ending → Type 0
Accepts raw (Ok g) = IsAcceptedAs raw g
Accepts raw (Err (Audit fault)) = (fault ≢ audit.OutOfMemory) × IsFault raw.tasks.items raw.sink.0 fault
Accepts raw (Err OutOfMemory) = Unit {0}
Accepts raw (Err Done) = ⊥
Accepts raw (Err Usage) = ⊥
Accepts raw (Err ReadFault) = ⊥
Accepts raw (Err WriteFault) = ⊥
Accepts raw (Err (Text fault)) = ⊥
Accepts raw (Err (Matrix fault)) = ⊥
Accepts raw (Err (LivesSpent k l c)) = ⊥
Accepts raw (Err (ScheduleShort pending)) = ⊥
Accepts raw (Err TooLong) = ⊥
