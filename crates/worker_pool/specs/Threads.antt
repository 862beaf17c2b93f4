-- The threads of a run: what each has, and how it ends.
use Rattle.std.specs.Prelude.{◌≡◌, ℕ, ◌<◌, ℤ, List, [], ◌∷◌, ◌++◌, Option, Some, None, All, length, slice_index_or}
use Rattle.graph_model.specs.Graph.{Graph as TaskGraph}
use Rattle.graph_model.specs.Notes.{Note}
use Rattle.graph_model.specs.Serial.{Outcome}
use Rattle.atomic_table.specs.Seated.{TableId}
use Rattle.core_state.specs.Counts.{facts}
use Rattle.core_state.specs.Tests.{is_idle}
use Rattle.core_state.specs.Graph.{Setting}
use Rattle.core_state.specs.Views.{blank}
use Rattle.core_state.specs.declared.views.View.{View}
use Rattle.compute_notify.specs.Running.{Makes, SameKernel}
use Rattle.task_table.specs.Passes.{Passing}
use Rattle.worker_pool.specs.Calling.{HasCalled}
use Rattle.worker_pool.specs.Pooling.{IsLastLife}
use Rattle.worker_pool.specs.Working.{SpentShown, WorkerHolds}
use Rattle.worker_pool.specs.declared.pool.Stop.{Stop}
use Rattle.worker_pool.specs.declared.pool.Stop.TheVariants as stop
use Rattle.worker_pool.specs.declared.slot.Ending.{Ending}
use Rattle.worker_pool.specs.declared.slot.Ending.TheVariants as ending
use Rattle.worker_pool.specs.declared.slot.Slot.{Slot}
use Rattle.worker_pool.specs.declared.slot.Station.{Station}

-- of a worker and what it has no more than hints has changed, and each of them that is left was there or
pub record SameStation (s t : Station) : Type 0 where
  pub worker : t.worker ≡ record s.worker { hints = t.worker.hints }
  pub hints : (rows : ℕ) → All (λ row. row < rows) s.worker.hints.items → All (λ row. row < rows) t.worker.hints.items
  pub posted : t.posted ≡ s.posted
  pub number : t.number ≡ s.number

-- the worker is between two turns, and its hints that were posted are kept
pub record StationHolds (g : TaskGraph) (e : Setting) (v : View) (s : Station) : Type 0 where
  pub worker : WorkerHolds g e v s.worker
  pub posted : s.posted ≡ []

-- how the worker of this view ended: without a block in hand, but where room was refused; over is what saw that nothing is pending
abbrev pub EndsWell : Setting → View → Ending → Type 0
EndsWell e v ending.Over = (v.hands ≡ []) × (0 < facts is_idle v)
EndsWell e v ending.Stopped = v.hands ≡ []
EndsWell e v ending.Refused = Unit {0}
EndsWell e v (ending.Spent s) = (v.hands ≡ []) × SpentShown e v (Some s)

-- the view of a slot's pass
abbrev pub view_of : Option Passing → View
view_of None = blank
view_of (Some p) = p.view

-- a slot has a pass of this table
abbrev pub IsOf : TableId → Option Passing → Type 0
IsOf z None = ⊥
IsOf z (Some p) = p.table ≡ z

-- a slot whose worker may begin
pub record IsReady {C K : Type 0} (g : TaskGraph) (e : Setting) (z : TableId) (outcome : K → Outcome) (fits : K → ℕ → List (List ℤ) → Type 0) (s : Slot C K) : Type 0 where
  pub of_table : IsOf z s.pass
  pub holds : StationHolds g e (view_of s.pass) s.station
  pub makes : Makes g (outcome s.kernel) (fits s.kernel) e

-- what a thread makes of a slot: the pass with as many parts, which ended well; the kernel was called as often as results were noted
pub record IsServed {C K : Type 0} (e : Setting) (z : TableId) (outcome : K → Outcome) (fits : K → ℕ → List (List ℤ) → Type 0) (calls : K → Option (List Note)) (s t : Slot C K) : Type 0 where
  pub of_table : IsOf z t.pass
  pub same_parts : (view_of t.pass).parts ≡ (view_of s.pass).parts
  pub ends : EndsWell e (view_of t.pass) t.ending
  pub called : (before : Option (List Note)) → HasCalled before (calls s.kernel) (view_of s.pass) → HasCalled before (calls t.kernel) (view_of t.pass)
  pub same_kernel : SameKernel (outcome s.kernel) (outcome t.kernel) (fits s.kernel) (fits t.kernel)

-- the view of a slot
abbrev pub slot_view : {C K : Type 0} → Slot C K → View
slot_view s = view_of s.pass

-- so it is for each slot
pub record AreServed {C K : Type 0} (e : Setting) (z : TableId) (outcome : K → Outcome) (fits : K → ℕ → List (List ℤ) → Type 0) (calls : K → Option (List Note)) (ss ts : List (Slot C K)) : Type 0 where
  pub same_count : length ts ≡ length ss
  pub each : (i : ℕ) (d : Slot C K) → i < length ss → IsServed e z outcome fits calls (slice_index_or ss i d) (slice_index_or ts i d)

-- what each element gives, that of the last first
abbrev pub turned : {A B : Type 0} → (A → B) → List A → List B
turned f [] = []
turned f (x ∷ xs) = turned f xs ++ f x ∷ []

-- by which of two ends a run ends: a refusal, else the first spent life, else a stop
abbrev pub either_ending : Ending → Ending → Ending
either_ending ending.Over x = x
either_ending ending.Refused x = ending.Refused
either_ending ending.Stopped ending.Over = ending.Stopped
either_ending ending.Stopped ending.Stopped = ending.Stopped
either_ending ending.Stopped ending.Refused = ending.Refused
either_ending ending.Stopped (ending.Spent t) = ending.Spent t
either_ending (ending.Spent s) ending.Over = ending.Spent s
either_ending (ending.Spent s) ending.Stopped = ending.Spent s
either_ending (ending.Spent s) ending.Refused = ending.Refused
either_ending (ending.Spent s) (ending.Spent t) = ending.Spent s

-- what ended the turns of a run that ends so; None after a refusal, where a block may be in hand
abbrev pub stop_of : Ending → Option Stop
stop_of ending.Over = Some stop.Over
stop_of ending.Stopped = Some stop.OutOfMemory
stop_of ending.Refused = None
stop_of (ending.Spent s) = Some (stop.Spent s)

-- no view has a block in hand
abbrev pub AreHome : List View → Type 0
AreHome vs = All (λ v. v.hands ≡ []) vs

-- by what a run ends whose workers have these views: over is what each saw, and the last life is suspected by one
abbrev pub AllTell : Setting → List View → Ending → Type 0
AllTell e vs ending.Over = AreHome vs × All (λ v. 0 < facts is_idle v) vs
AllTell e vs ending.Stopped = AreHome vs
AllTell e vs ending.Refused = Unit {0}
AllTell e vs (ending.Spent s) = AreHome vs × IsLastLife e vs s.key.0 s.life s.cause
