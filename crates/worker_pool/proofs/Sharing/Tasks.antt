-- A turn of a task with a seat, as the charges see it.
use Rattle.std.proofs.Common.{◌≡◌, ℕ, List, [], Option, None, Some, false, refl, ap, ◌∙◌, subst}
use Rattle.graph_model.specs.declared.plan.Strike.{Strike}
use Rattle.core_state.specs.Change.{Core}
use Rattle.core_state.specs.Events.{Event, after}
use Rattle.core_state.specs.Graph.{Setting}
use Rattle.core_state.specs.declared.block.BlockCells.{BlockCells}
use Rattle.core_state.specs.declared.views.View.{View}
use Rattle.core_steps.specs.Seat.{IsStep}
use Rattle.recovery.specs.declared.turn.Turn.{Turn}
use Rattle.recovery.specs.declared.turn.Turn.TheVariants as turn
use Rattle.compute_notify.specs.Eventing.{item_event, item_hints, item_prepared}
use Rattle.compute_notify.specs.Resting.{FallsGood, LeavesAbove, LetsFall}
use Rattle.compute_notify.specs.Stepping.{HasStepped}
use Rattle.compute_notify.specs.Tasks.{IsNext, SameTask, begun_items, ends_run, items_rest, task_items, task_rest}
use Rattle.compute_notify.specs.declared.item.Item.{Item}
use Rattle.compute_notify.specs.declared.task.Task.{Task}
use Rattle.run_bounds.specs.Struck.{IsMade, Turned}
use Rattle.worker_pool.specs.Sharing.{StepsCore}
use Rattle.worker_pool.specs.Working.{spent_of}

-- what holds of a seat that is as new as another
pub steps_from : {S : Type 0} {view : S → View} {happened : S → Event → ℕ → S → Type 0} {made : S → ℕ} {lender : S → List ℕ} (e : Setting) (before ready now : S) (s t : Core) → made ready ≡ made before → lender ready ≡ lender before → StepsCore view happened made lender e before now s t → StepsCore view happened made lender e ready now s t
steps_from e before ready now s t same_made same_lender steps = record { steps = λ u x n v a b did is. steps.steps u x n v (a ∙ same_made) (b ∙ same_lender) did is }

module _ {S : Type 0} {setting : S → Setting} {view : S → View} {made : S → ℕ} {last shown : S → ℕ × ℕ} {happened : S → Event → ℕ → S → Type 0} {lender : S → List ℕ} {others : S → List View} where
  -- a step that was made once room was made
  pub stepped_after : (e : Setting) (before ready now : S) (s t : Core) (x : View → Event) → setting ready ≡ e → view ready ≡ view before → made ready ≡ made before → lender ready ≡ lender before → StepsCore view happened made lender e before now s t
      → IsStep setting view made last shown happened lender others (x (view ready)) ready now → IsMade e (x (view before)) (shown now).1 s t (view before) (view now)
  stepped_after e before ready now s t x same_setting same_view same_made same_lender steps step = let n : ℕ = (shown now).1 in
      steps.steps ready (x (view before)) n (view before) same_made same_lender (subst (λ (v : View). happened ready (x v) n now) same_view step.stepped)
      (step.view_is ∙ ap (λ (d : Setting). after d (x (view ready)) n (view ready)) same_setting ∙ ap (λ (v : View). after e (x v) n v) same_view)

module _ {S : Type 0} {setting : S → Setting} {view : S → View} {made spare : S → ℕ} {last shown : S → ℕ × ℕ} {happened : S → Event → ℕ → S → Type 0} {lender : S → List ℕ} {others : S → List View} where
  -- a turn of a task that made a step
  pub task_turned : (p : List Strike) (before now : S) (s t : Core) (task left : Task) (below : List Item) (x : Item) (rows : List ℕ) → StepsCore view happened made lender (setting before) before now s t → IsNext (setting before).graph p (task_items task) below (Some x)
      → HasStepped setting view made spare last shown happened lender others (item_prepared (setting before).graph x) (item_event (setting before) (view before) p task.hand left.hand x) before now → rows ≡ item_hints x []
      → LetsFall (setting before) p (item_event (setting before) (view before) p task.hand left.hand x) (shown now).1 (task_rest (setting before) p task) (task_rest (setting before) p left) → FallsGood (setting before) task.hand x (task_rest (setting before) p task) (task_rest (setting before) p left)
      → LeavesAbove (setting before).graph p (shown now).1 x below (task_items left) → Turned (setting before) p s t (view before) (view now) task left rows
  task_turned p before now s t task left below x rows steps next step hinted rest good again = let n : ℕ = (shown now).1 in let event : Event = item_event (setting before) (view before) p task.hand left.hand x in record {
    found = n;
    left = below;
    item = x;
    is_next = next;
    stepped = steps.steps step.ready event n (item_prepared (setting before).graph x (view before)) step.same_made step.same_lender step.step.stepped
        (step.step.view_is ∙ ap (λ (d : Setting). after d event n (view step.ready)) step.same_setting ∙ ap (after (setting before) event n) step.prepared_is);
    hints = hinted;
    rest = rest;
    good = good;
    again = again;
  }

-- room for more items changes no task
pub items_as : (t u : Task) → SameTask t u → task_items u ≡ task_items t
items_as t u same = ap (λ (b : Option Item). begun_items b u.items.items) same.same_begins ∙ ap (begun_items t.begins) same.same_items

pub reserved_turned : (e : Setting) (p : List Strike) (s t : Core) (v w : View) (before ready now : Task) (rows : List ℕ) → SameTask before ready → Turned e p s t v w ready now rows → Turned e p s t v w before now rows
reserved_turned e p s t v w before ready now rows same turned = record {
  found = turned.found;
  left = turned.left;
  item = turned.item;
  is_next = subst (λ (xs : List Item). IsNext e.graph p xs turned.left (Some turned.item)) items turned.is_next;
  stepped = subst (λ (h : Option BlockCells). IsMade e (item_event e v p h now.hand turned.item) turned.found s t (item_prepared e.graph turned.item v) w) same.same_hand turned.stepped;
  hints = turned.hints;
  rest = subst (λ (n : ℕ). LetsFall e p (item_event e v p before.hand now.hand turned.item) turned.found n (task_rest e p now)) rests
      (subst (λ (h : Option BlockCells). LetsFall e p (item_event e v p h now.hand turned.item) turned.found (task_rest e p ready) (task_rest e p now)) same.same_hand turned.rest);
  good = subst (λ (n : ℕ). FallsGood e before.hand turned.item n (task_rest e p now)) rests (subst (λ (h : Option BlockCells). FallsGood e h turned.item (task_rest e p ready) (task_rest e p now)) same.same_hand turned.good);
  again = turned.again;
}
  where
    items : task_items ready ≡ task_items before
    items = items_as before ready same

    rests : task_rest e p ready ≡ task_rest e p before
    rests = ap (λ (h : Option BlockCells). items_rest e p h (task_items ready)) same.same_hand ∙ ap (items_rest e p before.hand) items

-- where no life is spent the run goes on
pub goes_on_told : (x : Turn) → spent_of x ≡ None → ends_run x ≡ false
goes_on_told turn.Going none = refl
goes_on_told turn.Done none = refl
goes_on_told (turn.Met row k l c) none = refl
goes_on_told (turn.Given row k i l) none = refl
goes_on_told (turn.LivesSpent k l c) none = absurd cc
