-- The re-entering of successors as a line, what its next step rests on, and what that step tells.
use Rattle.std.specs.Prelude.{◌≡◌, ℕ, ◌-◌, ◌<◌, Bool, true, false, List, ◌∷◌}
use Rattle.key_table.specs.Path.{HasPassed}
use Rattle.key_table.specs.Seeking.{Seeking}
use Rattle.graph_model.specs.Graph.{Graph as TaskGraph}
use Rattle.graph_model.specs.declared.key.Key.{Key}
use Rattle.core_state.specs.Asked.{IsCoreKey}
use Rattle.core_state.specs.Guards.{KnowsClosed}
use Rattle.core_state.specs.Effects.{all_ports}
use Rattle.core_state.specs.Graph.{Graph, Setting}
use Rattle.core_state.specs.Lines.{Line, HasLines, of}
use Rattle.core_state.specs.declared.job.Job.TheVariants as job
use Rattle.core_state.specs.declared.views.Item.TheVariants as item
use Rattle.core_state.specs.declared.views.View.{View}
use Rattle.core_steps.specs.Seat.{known_of}
use Rattle.recovery.specs.Memory.{KnowsKey, IsOnTop}
use Rattle.recovery.specs.Serving.{IsPort}
use Rattle.recovery.specs.declared.reenter.Reached.{Reached}
use Rattle.recovery.specs.declared.reenter.Reached.TheVariants as reached
use Rattle.recovery.specs.declared.reenter.Reenter.{Reenter}
use Rattle.recovery.specs.declared.reenter.Way.{Way}
use Rattle.recovery.specs.declared.reenter.Way.TheVariants as way

-- the ports of the task from one on, on top
abbrev pub port_lines : Graph → ℕ → ℕ → ℕ → List Line → List Line
port_lines g k l q b = of (item.Reenter k l (all_ports q (g.ports k - q))) ∷ b

-- the search looks along the path of the key, and each row that it has passed is known to hold another
pub record IsSearch (e : Setting) (v : View) (key : ℕ) (s : Seeking) : Type 0 where
  pub key_is : s.key ≡ key
  pub rows_are : s.rows ≡ e.shape.rows
  pub looks : s.makes ≡ false
  pub within : s.passed < s.rows
  pub passed : HasPassed (known_of v) s.key s.rows s.passed

-- how far the successor was reached
abbrev pub FitsWay : Setting → View → ℕ → ℕ → Way → Type 0
FitsWay e v k q way.Start = Unit {0}
FitsWay e v k q (way.Seek s) = IsSearch e v (e.graph.succ k q).task s
FitsWay e v k q (way.Load r) = KnowsKey e v r (e.graph.succ k q).task
FitsWay e v k q (way.Register r) = KnowsKey e v r (e.graph.succ k q).task
FitsWay e v k q (way.Spend r) = KnowsKey e v r (e.graph.succ k q).task × KnowsClosed e v k q

-- the next step is on a word that may show the mark of a strike
abbrev pub reads_mark : Way → Bool
reads_mark way.Start = false
reads_mark (way.Seek s) = false
reads_mark (way.Load r) = true
reads_mark (way.Register r) = true
reads_mark (way.Spend r) = true

-- the step saw a mark
abbrev pub is_mark : Reached → Bool
is_mark reached.Going = false
is_mark (reached.Last r k l) = false
is_mark (reached.Mark r k l c) = true

-- the lines above those of the ports, by what the step told
abbrev pub reached_lines : Reached → List Line → List Line
reached_lines reached.Going b = b
reached_lines (reached.Last r k l) b = of (item.Owe k.0 job.Compute l) ∷ b
reached_lines (reached.Mark r k l c) b = of (item.Suspect k.0 l c false) ∷ b

-- the row and the key that the step told
abbrev pub IsAbout : Reached → ℕ → Key → Type 0
IsAbout reached.Going row key = Unit {0}
IsAbout (reached.Last r k l) row key = (r ≡ row) × (k ≡ key)
IsAbout (reached.Mark r k l c) row key = (r ≡ row) × (k ≡ key)

-- a task or the root that a step tells is known by its row
pub record IsTold (g : TaskGraph) (e : Setting) (v : View) (r k : ℕ) : Type 0 where
  pub is_key : IsCoreKey g k
  pub known : KnowsKey e v r k

abbrev pub ReachedTells : TaskGraph → Setting → View → Reached → Type 0
ReachedTells g e v reached.Going = Unit {0}
ReachedTells g e v (reached.Last r k l) = IsTold g e v r k.0
ReachedTells g e v (reached.Mark r k l c) = IsTold g e v r k.0

-- the work on the ports of a task from one on
pub record IsPortWork (e : Setting) (v : View) (k q : ℕ) : Type 0 where
  pub life : ℕ
  pub top : IsOnTop e v (port_lines e.graph k life q)

-- the place of the successor at this port may be spent
pub record MaySpend (e : Setting) (v : View) (q successor place : ℕ) : Type 0 where
  pub task : ℕ
  pub port : IsPort e.graph task q successor place
  pub closed : KnowsClosed e v task q
  pub work : IsPortWork e v task q

-- a step of the re-entering from a port on: what it leaves of the lines, and what the next one rests on
pub record Reenters (e : Setting) (v w : View) (k : ℕ) (before now : Reenter) (told : Reached) : Type 0 where
  pub lines : (life : ℕ) (b : List Line) → HasLines e v (port_lines e.graph k life before.port b) → HasLines e w (reached_lines told (port_lines e.graph k life now.port b))
  pub way : FitsWay e w k now.port now.way
