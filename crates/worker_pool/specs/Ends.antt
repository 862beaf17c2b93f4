-- What a run hands back: the serial value with lawful records that play the plan, or why there is none, with all records.
use Rattle.std.specs.Prelude.{◌≡◌, ◌≢◌, ℕ, ◌<◌, ℤ, List, ◌++◌, Option, Result, Ok, Err, slice_index}
use Rattle.graph_model.specs.Graph.{Graph as TaskGraph}
use Rattle.graph_model.specs.Notes.{Note}
use Rattle.graph_model.specs.Serial.{Outcome, serial}
use Rattle.graph_model.specs.declared.plan.Strike.{Strike}
use Rattle.graph_model.specs.declared.record.Cause.{Cause}
use Rattle.graph_model.specs.declared.record.Record.{Record}
use Rattle.core_state.specs.Counts.{count}
use Rattle.core_state.specs.Tests.{is_replaced}
use Rattle.core_state.specs.Graph.{Graph, Plan, Reached, Setting}
use Rattle.core_state.specs.Laws.{IsGrounded, LawfulRecords, Planned, Played, Shown, SixLaws}
use Rattle.core_state.specs.Rooted.{graph_of, plan_of, setting_of}
use Rattle.core_state.specs.declared.block.BlockCells.{BlockCells}
use Rattle.core_state.specs.declared.views.View.{View}
use Rattle.core_steps.specs.Table.{IsClosing}
use Rattle.core_laws.specs.Lists.{AreOfTasks, RootReplaced, RootShown}
use Rattle.worker_pool.specs.Calling.{CalledAsRecorded, OnlyCalled}
use Rattle.worker_pool.specs.declared.end.Why.{Why}
use Rattle.worker_pool.specs.declared.end.Why.TheVariants as why

-- the serial value of the sink, and lawful records of tasks that play the plan
pub record IsFinished (g : TaskGraph) (outcome : Outcome) (strikes : List Strike) (value : List ℤ) (records : List Record) : Type 0 where
  pub value_is : value ≡ serial g outcome g.sink
  pub of_tasks : AreOfTasks (graph_of g outcome) records
  pub lawful : ∥ LawfulRecords (graph_of g outcome) records ∥₁
  pub plays : Played (graph_of g outcome) (plan_of strikes) (λ q. count q records)

-- records of tasks alone, which keep the first six laws and show no strike that was not planned
pub record TasksLawful (g : Graph) (p : Plan) (tasks : List Record) : Type 0 where
  pub of_tasks : AreOfTasks g tasks
  pub six : ∥ SixLaws g tasks ∥₁
  pub planned : Planned g p (λ q. count q tasks)

-- the root's replacements: one of each life that was replaced, each with a cause that the records of tasks show
pub record RootLawful (g : Graph) (tasks root : List Record) : Type 0 where
  pub replaced : RootReplaced g root
  pub causes : ∥ RootShown g tasks root ∥₁

-- each life of the root below the greatest was replaced once
abbrev pub EachReplaced : Graph → List Record → Type 0
EachReplaced g root = (l : ℕ) → 0 < l → l < 65535 → count (is_replaced g.root l) root ≡ 1

-- A life that may have none after it: that of a task that the root needs, with its cause shown by all records; or the root's, told by the sink's key, with all replacements of the root among the records.
pub data IsSpent (g : Graph) (p : Plan) (lives k l : ℕ) (c : Cause) (records : List Record) : Type 0 where
  of_task : Reached g k → k ≢ g.root → l ≡ lives → TasksLawful g p records → Shown g (λ q. count q records) (IsGrounded g records) k l c → IsSpent g p lives k l c records
  of_root : (tasks root : List Record) → records ≡ tasks ++ root → k ≡ g.sink → l ≡ 65535 → TasksLawful g p tasks → RootLawful g tasks root → EachReplaced g root → Shown g (λ q. count q tasks) (IsGrounded g tasks) g.root l c → IsSpent g p lives k l c records

-- a closed table of this setting that left so much pending, with these records: words, blocks and records meet some views as the core's invariant says
pub record WasLeft (e : Setting) (pending : ℕ) (tasks root : List Record) : Type 0 where
  pub views : List View
  pub words : List ℕ
  pub blocks : List (Option BlockCells)
  pub pending_is : pending ≡ slice_index words 0
  pub closing : IsClosing e views words blocks tasks root

-- all records of a run that was cut short with so much pending: those of tasks, and the root's replacements behind them
pub record IsShort (e : Setting) (pending : ℕ) (records : List Record) : Type 0 where
  pub tasks : List Record
  pub root : List Record
  pub records_are : records ≡ tasks ++ root
  pub lawful : TasksLawful e.graph e.plan tasks
  pub of_root : RootLawful e.graph tasks root
  pub left : ∥ WasLeft e pending tasks root ∥₁

-- what a run tells that ended without the value
abbrev pub EndTells : TaskGraph → Outcome → List Strike → ℕ → Why → List Record → Type 0
EndTells g outcome strikes lives why.OutOfMemory records = Unit {0}
EndTells g outcome strikes lives (why.LivesSpent k l c) records = IsSpent (graph_of g outcome) (plan_of strikes) lives k.0 l c records
EndTells g outcome strikes lives (why.ScheduleShort pending) records = (pending ≢ 0) × IsShort (setting_of g outcome strikes lives) pending records

-- the kernels' calls of a run that ended without the value; where room was refused, records may be missing
abbrev pub EndCalls : TaskGraph → List (Option (List Note)) → List (Option (List Note)) → Why → List Record → Type 0
EndCalls g before now why.OutOfMemory records = OnlyCalled g before now
EndCalls g before now (why.LivesSpent k l c) records = CalledAsRecorded before now records
EndCalls g before now (why.ScheduleShort pending) records = CalledAsRecorded before now records

-- what a run comes to: the value, or why there is none, with its records
abbrev pub RunTells : TaskGraph → Outcome → List Strike → ℕ → Result (List ℤ) Why → List Record → Type 0
RunTells g outcome strikes lives (Ok value) records = IsFinished g outcome strikes value records
RunTells g outcome strikes lives (Err why) records = EndTells g outcome strikes lives why records

-- the kernels' calls of a run
abbrev pub RunCalls : TaskGraph → List (Option (List Note)) → List (Option (List Note)) → Result (List ℤ) Why → List Record → Type 0
RunCalls g before now (Ok value) records = CalledAsRecorded before now records
RunCalls g before now (Err why) records = EndCalls g before now why records

-- no record is missing
abbrev pub NoneMissing : Why → Type 0
NoneMissing why.OutOfMemory = ⊥
NoneMissing (why.LivesSpent k l c) = Unit {0}
NoneMissing (why.ScheduleShort pending) = Unit {0}

abbrev pub HasAllRecords : Result (List ℤ) Why → Type 0
HasAllRecords (Ok value) = Unit {0}
HasAllRecords (Err why) = NoneMissing why

-- something was not left pending
abbrev pub IsNotShort : Why → Type 0
IsNotShort why.OutOfMemory = Unit {0}
IsNotShort (why.LivesSpent k l c) = Unit {0}
IsNotShort (why.ScheduleShort pending) = ⊥
