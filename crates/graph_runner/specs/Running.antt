-- What the run of a graph by workers comes to.
use Rattle.std.specs.Prelude.{◌≡◌, ℕ, ℤ, List, []}
use Rattle.graph_model.specs.Graph.{Graph}
use Rattle.graph_model.specs.Notes.{Note}
use Rattle.graph_model.specs.Serial.{Outcome}
use Rattle.graph_model.specs.declared.record.Record.{Record}
use Rattle.graph_model.specs.declared.plan.Strike.{Strike}
use Rattle.worker_pool.specs.Calling.{AreNeeded, all_calls}
use Rattle.worker_pool.specs.Completing.{AnswersPlan, IsComplete}
use Rattle.worker_pool.specs.Ends.{EndTells, IsFinished}
use Rattle.worker_pool.specs.declared.end.Why.{Why}
use Rattle.worker_pool.specs.declared.end.Why.TheVariants as why
use Rattle.graph_runner.specs.Notes.{AreRecorded}
use Rattle.graph_runner.specs.Workers.{IsDue}
use Rattle.graph_runner.specs.declared.ending.Ending.{Ending}
use Rattle.graph_runner.specs.declared.ending.Ending.TheVariants.{Done, Usage, ReadFault, WriteFault, Text, Audit, Matrix, LivesSpent, ScheduleShort, OutOfMemory, TooLong}

-- The graph was run to the sink's serial value, which is this one. The records are lawful: each place of a life was spent, and each life was computed and replaced, once at most, each later life
-- names a fault that landed or a version that was overwritten, and where no fault landed each task that the sink needs was computed once. They play the plan, whose strikes their replacements answer
-- to, and the probes were told of just what was computed.
pub record IsRun (Holds : List Strike → Graph → Outcome → Type 0) (value : List ℤ) (records : List Record) (news : List (List Note)) : Type 0 where
  pub plan : List Strike
  pub graph : Graph
  pub outcome : Outcome
  pub holds : Holds plan graph outcome
  pub finished : IsFinished graph outcome plan value records
  pub answers : AnswersPlan graph plan records
  pub noted : AreRecorded news records

-- the run ended without the value, for this reason, which its records show; none of them is missing, and its turns, if it had any, were over only where they may be
pub record IsCutShort (Holds : List Strike → Graph → Outcome → Type 0) (Over : Graph → List Strike → List Record → Type 0) (lives : ℕ) (reason : Why) (records : List Record) (news : List (List Note)) : Type 0 where
  pub plan : List Strike
  pub graph : Graph
  pub outcome : Outcome
  pub holds : Holds plan graph outcome
  pub tells : EndTells graph outcome plan lives reason records
  pub complete : IsComplete graph plan lives reason records
  pub due : IsDue Over graph plan records reason
  pub noted : AreRecorded news records

-- no task was computed
pub record IsIdle (records : List Record) (news : List (List Note)) : Type 0 where
  pub unrecorded : records ≡ []
  pub untold : all_calls news ≡ []

-- Room was refused. Before a run nothing was computed; a run that was refused room leaves no records, and the probes were told of tasks alone that the sink needs; behind a run to the serial value, room for its text was.
pub data LacksRoom (Holds : List Strike → Graph → Outcome → Type 0) (Refuses : Ending → Type 0) (records : List Record) (news : List (List Note)) : Type 0 where
  before : Refuses OutOfMemory → IsIdle records news → LacksRoom Holds Refuses records news
  within : (plan : List Strike) (graph : Graph) (outcome : Outcome) → Holds plan graph outcome → records ≡ [] → AreNeeded graph news → LacksRoom Holds Refuses records news
  behind : (value : List ℤ) → IsRun Holds value records news → LacksRoom Holds Refuses records news

-- why there is no value of a graph, where no life above this one is allowed: the run was cut short, by its turns only where they may be over; or, as told, there was nothing to be run, and nothing was
abbrev pub Fails : (List Strike → Graph → Outcome → Type 0) → (Ending → Type 0) → (Graph → List Strike → List Record → Type 0) → ℕ → List Record → List (List Note) → Ending → Type 0
Fails Holds Refuses Over lives records news (LivesSpent k l c) = IsCutShort Holds Over lives (why.LivesSpent k l c) records news
Fails Holds Refuses Over lives records news (ScheduleShort pending) = IsCutShort Holds Over lives (why.ScheduleShort pending) records news
Fails Holds Refuses Over lives records news OutOfMemory = LacksRoom Holds Refuses records news
Fails Holds Refuses Over lives records news ReadFault = Refuses ReadFault × IsIdle records news
Fails Holds Refuses Over lives records news TooLong = Refuses TooLong × IsIdle records news
Fails Holds Refuses Over lives records news (Text fault) = Refuses (Text fault) × IsIdle records news
Fails Holds Refuses Over lives records news (Audit fault) = Refuses (Audit fault) × IsIdle records news
Fails Holds Refuses Over lives records news (Matrix fault) = Refuses (Matrix fault) × IsIdle records news
Fails Holds Refuses Over lives records news Done = ⊥
Fails Holds Refuses Over lives records news Usage = ⊥
Fails Holds Refuses Over lives records news WriteFault = ⊥
