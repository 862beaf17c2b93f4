-- What a worker's next turn rests on, and what a turn of it leaves.
use Rattle.std.specs.Prelude.{◌≡◌, ◌≢◌, ℕ, ◌<◌, Bool, true, false, List, [], Option, Some, None, All, Contains}
use Rattle.graph_model.specs.Graph.{Graph as TaskGraph}
use Rattle.core_state.specs.Asked.{IsCoreKey}
use Rattle.core_state.specs.Counts.{items}
use Rattle.core_state.specs.Tests.{is_suspect_for}
use Rattle.core_state.specs.Graph.{Setting, greatest_life}
use Rattle.core_state.specs.declared.views.View.{View}
use Rattle.recovery.specs.Memory.{KnowsKey}
use Rattle.recovery.specs.declared.turn.Turn.{Turn}
use Rattle.recovery.specs.declared.turn.Turn.TheVariants as turn
use Rattle.compute_notify.specs.Rooms.{HasRoom}
use Rattle.compute_notify.specs.Tasks.{Holds, TaskScratch, task_items}
use Rattle.compute_notify.specs.declared.scratch.Scratch.{Scratch}
use Rattle.worker_pool.specs.declared.worker.Spent.{Spent}
use Rattle.worker_pool.specs.declared.worker.Work.{Work}
use Rattle.worker_pool.specs.declared.worker.Work.TheVariants as work
use Rattle.worker_pool.specs.declared.worker.Worker.{Worker}

-- the view holds no work, no credit and no block
pub record IsIdle (v : View) : Type 0 where
  pub no_stacks : v.stacks ≡ []
  pub no_credit : v.spare ≡ 0
  pub no_hands : v.hands ≡ []

-- what is done next fits what the view holds and knows: nothing, a row to be asked, or a task that has something left
abbrev pub WorkHolds : TaskGraph → Setting → View → Work → Type 0
WorkHolds g e v work.Idle = IsIdle v
WorkHolds g e v (work.Serve row key job) = IsIdle v × KnowsKey e v row key.0 × IsCoreKey g key.0
WorkHolds g e v (work.Busy task) = Holds g e v task × (task_items task ≢ [])

-- the scratch has room for each task, and stands as the task's turn before left it
abbrev pub WorkScratch : Setting → TaskGraph → Scratch → Work → Type 0
WorkScratch e g s work.Idle = HasRoom g s
WorkScratch e g s (work.Serve row key job) = HasRoom g s
WorkScratch e g s (work.Busy task) = TaskScratch e g s task

-- a worker with its view of the table; each hint is a row of it
pub record WorkerHolds (g : TaskGraph) (e : Setting) (v : View) (w : Worker) : Type 0 where
  pub work : WorkHolds g e v w.work
  pub scratch : WorkScratch e g w.scratch w.work
  pub hints : All (λ row. row < e.shape.rows) w.hints.items

-- a worker as it is made, without work and hints
pub record IsNewWorker (g : TaskGraph) (w : Worker) : Type 0 where
  pub idle : w.work ≡ work.Idle
  pub room : HasRoom g w.scratch
  pub no_hints : w.hints.items ≡ []

abbrev pub is_idle : Work → Bool
is_idle work.Idle = true
is_idle (work.Serve row key job) = false
is_idle (work.Busy task) = false

-- the keys of the table are tasks and the root
abbrev pub NamesTasks : TaskGraph → Setting → Type 0
NamesTasks g e = (k : ℕ) → Contains e.keys k → IsCoreKey g k

-- a life that is spent is the greatest of its task, and the view suspects it for this cause
abbrev pub SpentShown : Setting → View → Option Spent → Type 0
SpentShown e v None = Unit {0}
SpentShown e v (Some s) = (s.life ≡ greatest_life e s.key.0) × (0 < items (is_suspect_for s.key.0 s.life s.cause) v)

-- what a turn of a task leaves to the run: the life that is spent, if one is
abbrev pub spent_of : Turn → Option Spent
spent_of (turn.LivesSpent k l c) = Some (record { key = k; life = l; cause = c })
spent_of turn.Going = None
spent_of turn.Done = None
spent_of (turn.Met row k l c) = None
spent_of (turn.Given row k i l) = None

-- the table's setting stays, and so does what the seat borrows and what the other seats know and hold
pub record KeepsTable {S : Type 0} (setting : S → Setting) (lender : S → List ℕ) (others : S → List View) (s t : S) : Type 0 where
  pub same_setting : setting t ≡ setting s
  pub same_lender : lender t ≡ lender s
  pub same_others : others t ≡ others s
