-- The kernels of a run by workers, and what the run comes to.
use Rattle.std.specs.Prelude.{◌≡◌, ◌↔◌, ℕ, ℤ, List, [], length, All, Result, Ok, Err}
use Rattle.graph_model.specs.Graph.{Graph}
use Rattle.graph_model.specs.Notes.{Note}
use Rattle.graph_model.specs.Serial.{Outcome}
use Rattle.graph_model.specs.declared.plan.Strike.{Strike}
use Rattle.graph_model.specs.declared.record.Record.{Record}
use Rattle.worker_pool.specs.Calling.{AreNeeded}
use Rattle.worker_pool.specs.Completing.{AnswersPlan, IsComplete}
use Rattle.worker_pool.specs.Ends.{HasAllRecords, RunTells}
use Rattle.worker_pool.specs.declared.end.Why.{Why}
use Rattle.worker_pool.specs.declared.end.Why.TheVariants as why
use Rattle.graph_runner.specs.Notes.{AreRecorded}

-- so many kernels, each of which makes and takes this
pub record AreKernels {K : Type 0} (makes : Outcome) (takes : ℕ → List (List ℤ) → Type 0) (outcome : K → Outcome) (fits : K → ℕ → List (List ℤ) → Type 0) (count : ℕ) (kernels : List K) : Type 0 where
  pub many : length kernels ≡ count
  pub same_makes : All (λ a. outcome a ≡ makes) kernels
  pub same_takes : All (λ a. (k : ℕ) (lists : List (List ℤ)) → fits a k lists ↔ takes k lists) kernels

-- turns are over only where they may be
abbrev pub IsDue : (Graph → List Strike → List Record → Type 0) → Graph → List Strike → List Record → Why → Type 0
IsDue Over g strikes records why.OutOfMemory = Unit {0}
IsDue Over g strikes records (why.LivesSpent k l c) = Unit {0}
IsDue Over g strikes records (why.ScheduleShort pending) = Over g strikes records

-- where room was refused, no record is left
abbrev pub IsCleared : Result (List ℤ) Why → List Record → Type 0
IsCleared (Ok value) records = Unit {0}
IsCleared (Err why.OutOfMemory) records = records ≡ []
IsCleared (Err (why.LivesSpent k l c)) records = Unit {0}
IsCleared (Err (why.ScheduleShort pending)) records = Unit {0}

-- where room was refused, the probes were told of tasks alone that the sink needs
abbrev pub IsNeeded : Graph → Result (List ℤ) Why → List (List Note) → Type 0
IsNeeded g (Ok value) news = Unit {0}
IsNeeded g (Err why.OutOfMemory) news = AreNeeded g news
IsNeeded g (Err (why.LivesSpent k l c)) news = Unit {0}
IsNeeded g (Err (why.ScheduleShort pending)) news = Unit {0}

-- what a run says of its plan
abbrev pub RunAnswers : Graph → List Strike → ℕ → Result (List ℤ) Why → List Record → Type 0
RunAnswers g strikes lives (Ok value) records = AnswersPlan g strikes records
RunAnswers g strikes lives (Err reason) records = IsComplete g strikes lives reason records

-- what a run comes to: the value, or why there is none, with its records, and what the probes were told
pub record RunComes (g : Graph) (outcome : Outcome) (strikes : List Strike) (lives : ℕ) (made : Result (List ℤ) Why) (records : List Record) (news : List (List Note)) : Type 0 where
  pub tells : RunTells g outcome strikes lives made records
  pub answers : RunAnswers g strikes lives made records
  pub noted : HasAllRecords made → AreRecorded news records
  pub cleared : IsCleared made records
  pub needed : IsNeeded g made news
