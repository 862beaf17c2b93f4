-- One step of a view, whatever was struck, which leaves all words of the core but its own; what stands first in a view; and what a turn of a task tells of its step.
use Rattle.std.specs.Prelude.{◌≡◌, ◌≢◌, ℕ, ◌+◌, Bool, true, false, List, [], ◌∷◌, Some}
use Rattle.graph_model.specs.declared.plan.Strike.{Strike}
use Rattle.graph_model.specs.declared.record.Cause.{Cause}
use Rattle.graph_model.specs.declared.record.Cause.TheVariants as cause
use Rattle.core_state.specs.Graph.{Setting}
use Rattle.core_state.specs.Words.{Spot, inside, recovery, replacing, standing_life}
use Rattle.core_state.specs.Change.{Core}
use Rattle.core_state.specs.Events.{Event, after, at, left}
use Rattle.core_state.specs.Lines.{Line, flat, of}
use Rattle.core_state.specs.declared.views.Item.TheVariants as line
use Rattle.core_state.specs.declared.views.View.{View}
use Rattle.core_steps.specs.Table.{Plain, core_by}
use Rattle.compute_notify.specs.Eventing.{item_event, item_hints, item_prepared}
use Rattle.compute_notify.specs.Resting.{FallsGood, LeavesAbove, LetsFall}
use Rattle.compute_notify.specs.Tasks.{IsNext, task_items, task_rest}
use Rattle.compute_notify.specs.declared.item.Item.{Item}
use Rattle.compute_notify.specs.declared.task.Task.{Task}

-- what the parts of the invariant see of a plain table
abbrev pub core_in : Plain → Core
core_in q = core_by q.shape q.words q.blocks q.views

-- an event found this number in its word, left there what it leaves, and changed the view
pub record IsMade (e : Setting) (x : Event) (n : ℕ) (s t : Core) (v w : View) : Type 0 where
  pub view_is : w ≡ after e x n v
  pub found_is : inside e.shape (at x) ≡ true → s.word (at x) ≡ n
  pub left_is : inside e.shape (at x) ≡ true → t.word (at x) ≡ left e x n
  pub others : (a : Spot) → a ≢ at x → t.word a ≡ s.word a

-- how many lives of the row's key there were, the one that comes next among them where one is being replaced
abbrev pub lives_of : Core → ℕ → ℕ
lives_of s r = standing_life (s.word (recovery r)) + replacing (s.word (recovery r))

-- a mark of a word is the cause
abbrev pub by_mark : Cause → Bool
by_mark cause.Descriptor = true
by_mark cause.Notify = true
by_mark _ = false

-- the life stands first to be replaced, for a mark of a word
pub record IsBlamed (v : View) (k l : ℕ) : Type 0 where
  pub cause : Cause
  pub waits : Bool
  pub below : List Line
  pub marked : by_mark cause ≡ true
  pub top : flat v.stacks ≡ of (line.Suspect k l cause waits) ∷ below

-- a renewal of the key stands first
pub record IsRenewed (v : View) (k : ℕ) : Type 0 where
  pub life : ℕ
  pub done : ℕ
  pub below : List Line
  pub top : flat v.stacks ≡ of (line.Renew k life done) ∷ below

-- What a turn of a task tells that made a step: the item that was turned, its step, the hints that it brought, and how much is left.
pub record Turned (e : Setting) (p : List Strike) (s t : Core) (v w : View) (before now : Task) (rows : List ℕ) : Type 0 where
  pub found : ℕ
  pub left : List Item
  pub item : Item
  pub is_next : IsNext e.graph p (task_items before) left (Some item)
  pub stepped : IsMade e (item_event e v p before.hand now.hand item) found s t (item_prepared e.graph item v) w
  pub hints : rows ≡ item_hints item []
  pub rest : LetsFall e p (item_event e v p before.hand now.hand item) found (task_rest e p before) (task_rest e p now)
  pub good : FallsGood e before.hand item (task_rest e p before) (task_rest e p now)
  pub again : LeavesAbove e.graph p found item left (task_items now)
