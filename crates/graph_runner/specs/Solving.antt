-- The matrix of a source, whose blocked paths are run by workers.
use Rattle.std.specs.Prelude.{◌≡◌, ◌≢◌, ℕ, List, Result, Ok, Err}
use Rattle.graph_model.specs.Graph.{Graph}
use Rattle.graph_model.specs.Notes.{Note}
use Rattle.graph_model.specs.Serial.{Outcome}
use Rattle.graph_model.specs.declared.record.Record.{Record}
use Rattle.graph_model.specs.declared.plan.Strike.{Strike}
use Rattle.path_tasks.specs.Keys.{task_of}
use Rattle.path_tasks.specs.Paths.{tiles_of, path_graph}
use Rattle.apsp_graph.specs.Answers.{answer_text}
use Rattle.apsp_graph.specs.Blocked.{closure, task_made}
use Rattle.apsp_graph.specs.Matrices.{Matrix, IsMatrix}
use Rattle.apsp_graph.specs.Reading.{reading}
use Rattle.apsp_graph.specs.Views.{matrix_of}
use Rattle.apsp_graph.specs.declared.fault.MatrixFault.{MatrixFault}
use Rattle.apsp_graph.specs.declared.fault.MatrixFault.TheVariants as matrix
use Rattle.apsp_graph.specs.declared.graph.PathGraph.{PathGraph}
use Rattle.walks.specs.Walks.{HasLeast}
use Rattle.graph_runner.specs.Loading.{Input, Gave, FailsToTake}
use Rattle.graph_runner.specs.Running.{Fails, IsRun}
use Rattle.graph_runner.specs.Terms.{IsNeverOver}
use Rattle.graph_runner.specs.declared.ending.Ending.{Ending}
use Rattle.graph_runner.specs.declared.ending.Ending.TheVariants.{Done, Usage, ReadFault, WriteFault, Text, Audit, Matrix as NoMatrix, LivesSpent, ScheduleShort, OutOfMemory, TooLong}

-- the source was read to its end, and its bytes stand for this matrix
pub record IsRead (input : Input) (m : Matrix) : Type 0 where
  pub bytes : List ℕ
  pub gave : Gave input bytes
  pub stands : IsMatrix bytes m

-- the source's bytes stand for no matrix, for this first fault
pub record IsUnreadable (input : Input) (fault : MatrixFault) : Type 0 where
  pub bytes : List ℕ
  pub gave : Gave input bytes
  pub memory : fault ≢ matrix.OutOfMemory
  pub first : reading bytes ≡ Err fault

-- why there is no matrix
abbrev pub FailsToRead : Input → Ending → Type 0
FailsToRead input (NoMatrix fault) = IsUnreadable input fault
FailsToRead input ReadFault = FailsToTake input ReadFault
FailsToRead input TooLong = FailsToTake input TooLong
FailsToRead input OutOfMemory = FailsToTake input OutOfMemory
FailsToRead input Done = ⊥
FailsToRead input Usage = ⊥
FailsToRead input WriteFault = ⊥
FailsToRead input (Text fault) = ⊥
FailsToRead input (Audit fault) = ⊥
FailsToRead input (LivesSpent k l c) = ⊥
FailsToRead input (ScheduleShort pending) = ⊥

abbrev pub Reads : Input → Result (PathGraph × List Strike) Ending → Type 0
Reads input (Ok r) = IsRead input (matrix_of r.0 r.1)
Reads input (Err ending) = FailsToRead input ending

-- what a kernel makes of each task of a matrix
abbrev pub outcome_of : Matrix → Outcome
outcome_of m k lists = let b = tiles_of m.n m.side in task_made m.n m.side m.weights b (task_of b k) lists

-- the source holds this matrix, whose strikes are the plan; as a graph of tasks, and as what a kernel makes of each, it is this
pub record HoldsMatrix (input : Input) (m : Matrix) (plan : List Strike) (g : Graph) (outcome : Outcome) : Type 0 where
  pub read : IsRead input m
  pub strikes : plan ≡ m.strikes
  pub is : g ≡ path_graph (tiles_of m.n m.side) m.side
  pub makes : outcome ≡ outcome_of m

-- the same of some matrix
pub record HoldsText (input : Input) (plan : List Strike) (g : Graph) (outcome : Outcome) : Type 0 where
  pub matrix : Matrix
  pub holds : HoldsMatrix input matrix plan g outcome

-- The graph of the source's matrix was run to the sink's serial value, which is the tiles after all rounds, and the text is theirs. The number that they hold, and the text tells, for two vertices is the least weight of a walk
-- from the one to the other.
pub record IsSolved (input : Input) (records : List Record) (news : List (List Note)) (text : List ℕ) : Type 0 where
  pub matrix : Matrix
  pub ran : IsRun (HoldsMatrix input matrix) (closure matrix.n matrix.side matrix.weights) records news
  pub least : HasLeast matrix
  pub says : text ≡ answer_text matrix

-- what workers make of the source's matrix, where no life above this one is allowed
abbrev pub Solves : Input → ℕ → List Record → List (List Note) → Result (List ℕ) Ending → Type 0
Solves input lives records news (Ok text) = IsSolved input records news text
Solves input lives records news (Err ending) = Fails (HoldsText input) (FailsToRead input) IsNeverOver lives records news ending
