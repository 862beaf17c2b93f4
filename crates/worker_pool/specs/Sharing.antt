-- A run of several workers, as its charges see it: each move pays for itself, and some worker moves soon, so that no run falls short of turns that are enough.
use Rattle.std.specs.Prelude.{◌≡◌, ◌≢◌, ℕ, ◌+◌, ◌%◌, ◌<◌, false, List, [], ◌∷◌, Option, Some, None, length, map, set, slice_get, slice_index}
use Rattle.graph_model.specs.Graph.{Graph as TaskGraph}
use Rattle.graph_model.specs.declared.plan.Strike.{Strike}
use Rattle.core_state.specs.Graph.{Setting}
use Rattle.core_state.specs.Change.{Core}
use Rattle.core_state.specs.Events.{Event, after}
use Rattle.core_state.specs.declared.views.View.{View}
use Rattle.core_steps.specs.Table.{IsSound, Plain}
use Rattle.compute_notify.specs.Tasks.{ends_run}
use Rattle.compute_notify.specs.declared.task.Task.{Task}
use Rattle.recovery.specs.declared.turn.Turn.{Turn}
use Rattle.run_bounds.specs.Budgets.{enough_turns}
use Rattle.run_bounds.specs.Struck.{IsMade, Turned, core_in}
use Rattle.run_bounds.specs.Hinting.{HintTaken}
use Rattle.run_bounds.specs.Doing.{Doing}
use Rattle.run_bounds.specs.Doing.Doing.{asks, idle, works}
use Rattle.run_bounds.specs.Moving.{IsListed}
use Rattle.run_bounds.specs.Shared.{Actor, ActorTurn, IsOn, IsPart, IsTopped}
use Rattle.run_bounds.specs.Storm.{IsStormRun, enough_turns_of, most_cost}
use Rattle.worker_pool.specs.declared.worker.Work.{Work}
use Rattle.worker_pool.specs.declared.worker.Work.TheVariants as work
use Rattle.worker_pool.specs.declared.worker.Worker.{Worker}

-- what a worker does next
abbrev pub doing_of : Work → Doing
doing_of work.Idle = idle
doing_of (work.Serve row key i) = asks row key.0 i
doing_of (work.Busy task) = works task

-- a worker with its view, as the charges see it
abbrev pub actor_of : View → Worker → Actor
actor_of v w = record { view = v; doing = doing_of w.work; hints = w.hints.items }

-- each worker with its view
abbrev pub actors_of : List View → List Worker → List Actor
actors_of [] ws = []
actors_of (v ∷ vs) [] = []
actors_of (v ∷ vs) (w ∷ ws) = actor_of v w ∷ actors_of vs ws

-- a step from a seat that has made as many steps as this one, and was lent alike, led from this core to that one
pub record StepsCore {S : Type 0} (view : S → View) (happened : S → Event → ℕ → S → Type 0) (made : S → ℕ) (lender : S → List ℕ) (e : Setting) (before now : S) (s t : Core) : Type 0 where
  pub steps : (ready : S) (x : Event) (n : ℕ) (v : View) → made ready ≡ made before → lender ready ≡ lender before → happened ready x n now → view now ≡ after e x n v → IsMade e x n s t v (view now)

-- a turn of a task with a seat: where the run goes on, it made one step
abbrev pub TurnsTask : {S : Type 0} → (S → View) → (S → Event → ℕ → S → Type 0) → (S → ℕ) → (S → List ℕ) → Setting → List Strike → S → S → Task → Task → List ℕ → Turn → Type 0
TurnsTask view happened made lender e strikes before now task left rows told = (s t : Core) → StepsCore view happened made lender e before now s t → ends_run told ≡ false → Turned e strikes s t (view before) (view now) task left rows

-- a turn with a seat among others: by what the worker did before it and its hints, and what it does next with those that are left
pub record SharesTurn {S : Type 0} (view : S → View) (happened : S → Event → ℕ → S → Type 0) (made : S → ℕ) (lender : S → List ℕ) (e : Setting) (strikes : List Strike) (most : ℕ) (doing : Doing) (hints : List ℕ) (before : S) (next : Doing) (left : List ℕ) (now : S) : Type 0 where
  pub on : (s t : Core) → StepsCore view happened made lender e before now s t → IsPart e s (view before) → IsPart e t (view now) → IsTopped (view before) → ActorTurn e strikes most s t (record { view = view before; doing = doing; hints = hints }) (record { view = view now; doing = next; hints = left })

-- the workers of a table have made so many turns by this schedule
abbrev pub HaveMadeTurns : TaskGraph → Setting → List Strike → List ℕ → Plain → List Worker → ℕ → Type 0
HaveMadeTurns g e strikes schedule p ws turns = IsOn e strikes (most_cost g) schedule (core_in p) (actors_of p.views ws) turns

-- a turn of the worker that a schedule names is one more of those that were made, where something is pending after it
pub record MakesTurn (g : TaskGraph) (e : Setting) (strikes : List Strike) (worker : ℕ) (p : Plain) (ws : List Worker) (q : Plain) (us : List Worker) : Type 0 where
  pub made : IsStormRun g strikes e → IsSound e p → IsSound e q → slice_index q.words 0 ≢ 0 → (schedule : List ℕ) → IsListed schedule 0 → (turns : ℕ) → slice_index schedule (turns % length schedule) ≡ worker → HaveMadeTurns g e strikes schedule p ws turns → HaveMadeTurns g e strikes schedule q us (turns + 1)

-- a hint was taken from one of some lists of hints
pub record IsTakenFrom (row : ℕ) (before now : List (List ℕ)) : Type 0 where
  pub worker : ℕ
  pub hints : List ℕ
  pub left : List ℕ
  pub at : slice_get before worker ≡ Some hints
  pub taken : HintTaken hints row left
  pub now_is : now ≡ set before worker left

-- a hint was taken from one of the lists, or there was none in any
abbrev pub TakesHint : Option ℕ → List (List ℕ) → List (List ℕ) → Type 0
TakesHint None before now = ((i : ℕ) (hints : List ℕ) → slice_get before i ≡ Some hints → hints ≡ []) × (now ≡ before)
TakesHint (Some row) before now = IsTakenFrom row before now

-- the hints of each worker
abbrev pub all_hints : List Worker → List (List ℕ)
all_hints ws = map (λ (w : Worker). w.hints.items) ws

-- workers begin, and something is pending
pub record Begins (g : TaskGraph) (strikes : List Strike) (e : Setting) (p : Plain) (ws : List Worker) : Type 0 where
  pub run : IsStormRun g strikes e
  pub sound : IsSound e p
  pub some : slice_index p.words 0 ≢ 0
  pub none_made : (schedule : List ℕ) → IsListed schedule 0 → HaveMadeTurns g e strikes schedule p ws 0

-- So many turns by a schedule of so many are fewer than enough for the lives that were replaced. With an empty plan none was, and one worker makes fewer than are enough for it.
pub record IsPaid (g : TaskGraph) (strikes : List Strike) (workers schedule turns replaced : ℕ) : Type 0 where
  pub few : turns < enough_turns_of g schedule (length strikes) replaced
  pub empty : strikes ≡ [] → replaced ≡ 0
  pub calm : workers ≡ 1 → strikes ≡ [] → turns < enough_turns g
