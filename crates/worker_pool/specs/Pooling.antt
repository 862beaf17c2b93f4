-- The workers of a run at one table, between any two turns.
use Rattle.std.specs.Prelude.{◌≡◌, ◌≢◌, ℕ, ◌<◌, ℤ, List, [], Option, Some, None, All, length, slice_get, slice_index_or}
use Rattle.graph_model.specs.Graph.{Graph as TaskGraph, IsLawful}
use Rattle.graph_model.specs.Notes.{Note}
use Rattle.graph_model.specs.Serial.{Outcome}
use Rattle.graph_model.specs.declared.record.Cause.{Cause}
use Rattle.core_state.specs.Counts.{items}
use Rattle.core_state.specs.Tests.{is_suspect_for}
use Rattle.core_state.specs.Graph.{Setting, Sound, greatest_life}
use Rattle.core_state.specs.declared.views.View.{View}
use Rattle.core_steps.specs.Table.{view_in}
use Rattle.core_state.specs.Rooted.{root_key, setting_of}
use Rattle.core_state.specs.declared.job.Job.TheVariants as job
use Rattle.graph_model.specs.declared.plan.Strike.{Strike}
use Rattle.compute_notify.specs.Items.{job_item}
use Rattle.compute_notify.specs.Rooms.{HasRoom}
use Rattle.compute_notify.specs.Running.{Makes}
use Rattle.compute_notify.specs.Tasks.{IsNew}
use Rattle.compute_notify.specs.declared.task.Task.{Task}
use Rattle.worker_pool.specs.declared.worker.Work.TheVariants as work
use Rattle.worker_pool.specs.Calling.{HasCalled}
use Rattle.worker_pool.specs.Working.{WorkerHolds}
use Rattle.worker_pool.specs.declared.pool.Stop.{Stop}
use Rattle.worker_pool.specs.declared.pool.Stop.TheVariants as stop
use Rattle.worker_pool.specs.declared.worker.Worker.{Worker}

-- each worker holds what its view at the table holds
pub record WorkersHold (g : TaskGraph) (e : Setting) (vs : List View) (ws : List Worker) : Type 0 where
  pub same_count : length ws ≡ length vs
  pub each : (i : ℕ) (w : Worker) → slice_get ws i ≡ Some w → WorkerHolds g e (view_in vs i) w

-- each worker's kernel was called as often as its view has noted results, since the run began with these calls
pub record KernelsCalled (before now : List (Option (List Note))) (vs : List View) : Type 0 where
  pub same_count : length now ≡ length before
  pub each : (i : ℕ) → i < length before → HasCalled (slice_index_or before i None) (slice_index_or now i None) (view_in vs i)

-- some view at the table suspects this life for this cause, and the life is the greatest of its task
pub record IsLastLife (e : Setting) (vs : List View) (k l : ℕ) (c : Cause) : Type 0 where
  pub worker : ℕ
  pub greatest : l ≡ greatest_life e k
  pub suspected : 0 < items (is_suspect_for k l c) (view_in vs worker)

-- every kernel makes the values of the setting
abbrev pub KernelsMake : {K : Type 0} → TaskGraph → Setting → (K → Outcome) → (K → ℕ → List (List ℤ) → Type 0) → List K → Type 0
KernelsMake g e outcome fits ks = All (λ a. Makes g (outcome a) (fits a) e) ks

-- the setting of a run on these tasks, with some outcome, plan and greatest life
pub record IsRun (g : TaskGraph) (e : Setting) : Type 0 where
  pub outcome : Outcome
  pub strikes : List Strike
  pub lives : ℕ
  pub setting_is : e ≡ setting_of g outcome strikes lives
  pub laws : IsLawful g
  pub sound : Sound e

-- so many workers without work and hints, but for the first, which is to explore the root at this row
pub record AreNew (g : TaskGraph) (row count : ℕ) (ws : List Worker) : Type 0 where
  pub same_count : length ws ≡ count
  pub rooms : All (λ w. HasRoom g w.scratch) ws
  pub no_hints : All (λ w. w.hints.items ≡ []) ws
  pub others : (i : ℕ) (w : Worker) → 0 < i → slice_get ws i ≡ Some w → w.work ≡ work.Idle
  pub first : (w : Worker) → slice_get ws 0 ≡ Some w → (task : Task) × (w.work ≡ work.Busy task) × IsNew task (job_item (record { row = row; key = record { 0 = root_key }; life = 1 }) job.Explore)

-- all views but one stay
pub record OthersStay (before now : List View) (i : ℕ) : Type 0 where
  pub same_count : length now ≡ length before
  pub others : (j : ℕ) → j ≢ i → view_in now j ≡ view_in before j

-- what the turns of a run came to
abbrev pub StopTells : Setting → List View → Stop → Type 0
StopTells e vs stop.Over = Unit {0}
StopTells e vs stop.OutOfMemory = Unit {0}
StopTells e vs (stop.Spent s) = IsLastLife e vs s.key.0 s.life s.cause
