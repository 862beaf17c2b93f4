-- What the step of a task's turn, or a turn without a step, comes to for its view.
use Rattle.std.proofs.Common.{◌≡◌, ◌⊎◌, ⊎_elim, ℕ, ◌+◌, ◌≤◌, Bool, true, false, not, List, [], ◌∷◌, Option, Some, None, refl, ap, sym, ◌∙◌, subst, arith}
use Rattle.graph_model.specs.Graph.{Graph as TaskGraph}
use Rattle.graph_model.specs.Notes.{Note}
use Rattle.graph_model.specs.declared.plan.Strike.{Strike}
use Rattle.core_state.specs.Graph.{Setting}
use Rattle.core_state.specs.Events.{Event}
use Rattle.core_state.specs.Sure.{IsSure}
use Rattle.core_state.specs.declared.views.View.{View}
use Rattle.recovery.specs.Memory.{Remembers}
use Rattle.recovery.specs.declared.turn.Turn.{Turn}
use Rattle.recovery.specs.declared.turn.Turn.TheVariants as turn
use Rattle.compute_notify.specs.Eventing.{item_calls, item_event, item_prepared, steps_on}
use Rattle.compute_notify.specs.Items.{is_spent}
use Rattle.compute_notify.specs.Running.{Runs}
use Rattle.compute_notify.specs.Stepping.{HasStepped}
use Rattle.compute_notify.specs.Tasks.{HasTurned, Holds, IsNext, NewCalls, TaskTells, ends_run, stacked, task_items, task_turn}
use Rattle.compute_notify.specs.declared.item.Came.{Came}
use Rattle.compute_notify.specs.declared.item.Came.TheVariants as came
use Rattle.compute_notify.specs.declared.item.Item.{Item}
use Rattle.compute_notify.specs.declared.item.Item.TheVariants as item
use Rattle.compute_notify.specs.declared.scratch.Scratch.{Scratch}
use Rattle.compute_notify.specs.declared.task.Task.{Task}
use Rattle.compute_notify.proofs.BelowStrikes.{step_keeps, stepped_sure, stepped_view}
use Rattle.compute_notify.proofs.Keeping.{KeepsStrikes, keeps_same}
use Rattle.compute_notify.proofs.Recording.{still_calls, turn_calls}
use Rattle.compute_notify.proofs.Turned.{next_lines, next_stands, turned_holds, turned_tells}

-- a kernel is called for a step alone
still_item : (x : Item) → steps_on x ≡ false → (g : Rattle.core_state.specs.Graph.Graph) (calls : Option (List Note)) → item_calls g x calls ≡ calls
still_item (item.Recover r) still g calls = refl
still_item item.Credit still g calls = absurd cc
still_item (item.Explore x) still g calls = absurd cc
still_item (item.Compute x) still g calls = absurd cc
still_item (item.Close x) still g calls = absurd cc
still_item (item.Notify x) still g calls = absurd cc
still_item (item.Look x) still g calls = absurd cc
still_item (item.Owe x) still g calls = absurd cc

-- what is told ends the run where no further life is left
pub ends_spent : (c : Came) (left : ℕ) → ends_run (task_turn c left) ≡ is_spent c
ends_spent came.Nothing left = by (Rattle.std.proofs.Common.eqb left 0)
  where
    by : (b : Bool) → ends_run (Rattle.std.proofs.Common.cond b turn.Done turn.Going) ≡ false
    by true = refl
    by false = refl
ends_spent (came.Above x) left = by (Rattle.std.proofs.Common.eqb left 0)
  where
    by : (b : Bool) → ends_run (Rattle.std.proofs.Common.cond b turn.Done turn.Going) ≡ false
    by true = refl
    by false = refl
ends_spent (came.Stack x) left = by (Rattle.std.proofs.Common.eqb left 0)
  where
    by : (b : Bool) → ends_run (Rattle.std.proofs.Common.cond b turn.Done turn.Going) ≡ false
    by true = refl
    by false = refl
ends_spent (came.Spent k l c) left = refl

module _ {S : Type 0} {setting : S → Setting} {view : S → View} {made : S → ℕ} {last shown : S → ℕ × ℕ} {happened : S → Event → ℕ → S → Type 0} {lender : S → List ℕ} {others : S → List View} {s t : S} (spare : S → ℕ)
    (g : TaskGraph) (strikes : List Strike) (lives : ℕ) (runs : Runs g strikes lives (setting s)) (task : Task) (holds : Holds g (setting s) (view s) task) (left : List Item) (x : Item) (next : IsNext (setting s).graph strikes (task_items task) left (Some x))
    (now : Task) (still : steps_on x ≡ false → t ≡ s)
    (step : steps_on x ≡ true → HasStepped setting view made spare last shown happened lender others (item_prepared (setting s).graph x) (item_event (setting s) (view s) strikes task.hand now.hand x) s t) where
  -- with a step or without
  by_step : {X : Type 0} → (steps_on x ≡ true → X) → (steps_on x ≡ false → X) → X
  by_step {X} first second = by (steps_on x) refl
    where
      by : (b : Bool) → steps_on x ≡ b → X
      by true is = first is
      by false is = second is

  pub turn_keeps : KeepsStrikes (setting s) (view s) (view t) (stacked (setting s).graph left [])
  turn_keeps = by_step
      (λ on. let q = step on in step_keeps g strikes lives (setting s) (view s) (view t) runs holds.sure task.hand now.hand (shown t).1 x (stacked (setting s).graph left []) (view q.ready)
      (next_stands g strikes lives (setting s) (view s) runs task holds left x next).fits next.2 (next_lines g strikes lives (setting s) (view s) runs task holds left x next) q.prepared_is (stepped_view spare q))
      (λ off. keeps_same (setting s) (view s) (view t) (stacked (setting s).graph left []) (ap (λ u. (view u).strikes) (still off)))

  pub turn_sure : IsSure (setting s) (view t)
  turn_sure = by_step (λ on. stepped_sure spare (step on)) (λ off. subst (λ u. IsSure (setting s) (view u)) (sym (still off)) holds.sure)

  pub turn_notes : (calls after : Option (List Note)) → after ≡ item_calls (setting s).graph x calls → NewCalls calls after (view s) (view t)
  turn_notes calls after same = by_step
      (λ on. let q = step on in turn_calls (setting s) (item_event (setting s) (view s) strikes task.hand now.hand x) (shown t).1 (view s) (view t) (view q.ready) (stepped_view spare q) calls after (setting s).graph x q.prepared_is same)
      (λ off. subst (λ o. NewCalls calls o (view s) (view t)) (sym (same ∙ still_item x off (setting s).graph calls)) (subst (λ u. NewCalls calls calls (view s) (view u)) (sym (still off)) (still_calls (view s) calls)))

  module _ (scratch : Scratch) (told : Turn) (turned : HasTurned g (setting s) (view s) (view t) x left now scratch told) (spent : ends_run told ≡ not (steps_on x)) where
    pub turn_holds : Remembers (view s) (view t) → (x ≡ item.Credit → now.items.items ≡ left) → Holds g (setting s) (view t) now
    turn_holds more ends = turned_holds g strikes lives (setting s) (view s) (view t) runs task holds left x next now scratch told turned more turn_keeps turn_sure ends

    is_told : is_spent turned.after.came ≡ not (steps_on x)
    is_told = sym (ends_spent turned.after.came (Rattle.std.proofs.Common.length now.items.items)) ∙ ap ends_run (sym turned.told_is) ∙ spent

    stops : (b : Bool) → steps_on x ≡ b → not b ≡ true → t ≡ s
    stops true on z = absurd cc
    stops false off z = still off

    pub turn_tells : TaskTells (setting s) (view t) now told
    turn_tells = turned_tells g strikes lives (setting s) (view s) (view t) runs task holds left x next now scratch told turned is_told (λ ended. ap view (stops (steps_on x) refl (sym is_told ∙ ended)))
