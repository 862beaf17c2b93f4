-- From a source to a graph and a plan.
use Rattle.std.specs.Prelude.{◌≢◌, ℕ, ◌<◌, ◌≤◌, List, length, Option, Result, Ok, Err}
use Rattle.io_edge.specs.Bytes.{Took, IsAtEnd}
use Rattle.io_edge.specs.Causes.{Rose}
use Rattle.graph_model.specs.declared.plan.Strike.{Strike}
use Rattle.raw_graph.specs.declared.raw.RawGraph.{RawGraph}
use Rattle.raw_graph.specs.Graph.{file_with}
use Rattle.raw_graph.specs.Limits.{IsWithinLimits}
use Rattle.graph_reader.specs.Answers.{StandsFor, ReadsGraph}
use Rattle.graph_reader.specs.declared.fault.TextFault.{TextFault}
use Rattle.graph_reader.specs.declared.fault.TextFault.TheVariants as text
use Rattle.graph_runner.specs.declared.ending.Ending.{Ending}
use Rattle.graph_runner.specs.declared.ending.Ending.TheVariants.{Done, Usage, ReadFault, WriteFault, Text, Audit, Matrix, LivesSpent, ScheduleShort, OutOfMemory, TooLong}

-- the source before and after a call
pub record Input : Type 0 where
  pub left : Option (List ℕ)
  pub left_after : Option (List ℕ)
  pub faults : ℕ
  pub faults_after : ℕ

-- the most bytes that are read
abbrev pub input_limit : ℕ
input_limit = 67108864

-- the source was read to its end, and these were its bytes
pub record Gave (input : Input) (bytes : List ℕ) : Type 0 where
  pub took : Took input.left input.left_after bytes
  pub at_end : IsAtEnd input.left_after
  pub few : length bytes ≤ input_limit

-- the source's bytes stand for this graph and plan
pub record IsLoaded (input : Input) (raw : RawGraph) (plan : List Strike) : Type 0 where
  pub bytes : List ℕ
  pub gave : Gave input bytes
  pub stands : StandsFor bytes (file_with raw plan)

-- the source's bytes are no graph file, for this reason
pub record IsNoFile (input : Input) (fault : TextFault) : Type 0 where
  pub bytes : List ℕ
  pub gave : Gave input bytes
  pub memory : fault ≢ text.OutOfMemory
  pub fails : ReadsGraph bytes (Err fault)

-- a read failed, within the limit
pub record IsCutOff (input : Input) : Type 0 where
  pub bytes : List ℕ
  pub took : Took input.left input.left_after bytes
  pub few : length bytes ≤ input_limit
  pub rose : Rose input.faults input.faults_after

-- room was refused, within the limit
pub record IsStopped (input : Input) : Type 0 where
  pub bytes : List ℕ
  pub took : Took input.left input.left_after bytes
  pub few : length bytes ≤ input_limit

-- more bytes came than are read
pub record IsFlooded (input : Input) : Type 0 where
  pub bytes : List ℕ
  pub took : Took input.left input.left_after bytes
  pub many : input_limit < length bytes

-- why there are no bytes
abbrev pub FailsToTake : Input → Ending → Type 0
FailsToTake input ReadFault = IsCutOff input
FailsToTake input TooLong = IsFlooded input
FailsToTake input OutOfMemory = IsStopped input
FailsToTake input Done = ⊥
FailsToTake input Usage = ⊥
FailsToTake input WriteFault = ⊥
FailsToTake input (Text fault) = ⊥
FailsToTake input (Audit fault) = ⊥
FailsToTake input (Matrix fault) = ⊥
FailsToTake input (LivesSpent k l c) = ⊥
FailsToTake input (ScheduleShort pending) = ⊥

abbrev pub Takes : Input → Result (List ℕ) Ending → Type 0
Takes input (Ok bytes) = Gave input bytes
Takes input (Err ending) = FailsToTake input ending

-- why there is no graph and plan
abbrev pub FailsToLoad : Input → Ending → Type 0
FailsToLoad input ReadFault = FailsToTake input ReadFault
FailsToLoad input TooLong = FailsToTake input TooLong
FailsToLoad input (Text fault) = IsNoFile input fault
FailsToLoad input OutOfMemory = FailsToTake input OutOfMemory
FailsToLoad input Done = ⊥
FailsToLoad input Usage = ⊥
FailsToLoad input WriteFault = ⊥
FailsToLoad input (Audit fault) = ⊥
FailsToLoad input (Matrix fault) = ⊥
FailsToLoad input (LivesSpent k l c) = ⊥
FailsToLoad input (ScheduleShort pending) = ⊥

abbrev pub Loads : Input → Result (RawGraph × List Strike) Ending → Type 0
Loads input (Ok r) = IsLoaded input r.0 r.1 × IsWithinLimits (file_with r.0 r.1)
Loads input (Err ending) = FailsToLoad input ending
