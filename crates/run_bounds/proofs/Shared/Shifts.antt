-- Each turn of a task is a move that is paid, or in vain.
use Rattle.std.proofs.Common.{◌≡◌, ℕ, ◌+◌, ◌*◌, ◌≤◌, List, [], ◌∷◌, length, Some, None, arith, ap, sym, ◌∙◌, subst}
use Rattle.graph_model.specs.Graph.{Graph as TaskGraph}
use Rattle.graph_model.specs.declared.plan.Strike.{Strike}
use Rattle.core_state.specs.Change.{Core}
use Rattle.core_state.specs.Graph.{Setting}
use Rattle.core_state.specs.Lines.{flat}
use Rattle.core_state.specs.declared.views.View.{View}
use Rattle.compute_notify.specs.Eventing.{item_event, item_hints, item_prepared}
use Rattle.compute_notify.specs.Items.{Stands}
use Rattle.compute_notify.specs.Resting.{FallsGood, LeavesAbove, LetsFall, suspect_rest}
use Rattle.compute_notify.specs.Running.{Runs}
use Rattle.compute_notify.specs.Striking.{strike_left}
use Rattle.compute_notify.specs.Tasks.{Holds, IsNext, task_items, task_rest}
use Rattle.compute_notify.specs.Working.{FitsTop}
use Rattle.compute_notify.specs.declared.close.Close.{Close}
use Rattle.compute_notify.specs.declared.item.Item.{Item}
use Rattle.compute_notify.specs.declared.item.Item.TheVariants as item
use Rattle.compute_notify.specs.declared.task.Task.{Task}
use Rattle.compute_notify.proofs.Turned.{next_stands, next_top}
use Rattle.run_bounds.specs.Hinting.{HintsPut}
use Rattle.run_bounds.specs.Light.{lines_weight, task_light}
use Rattle.run_bounds.specs.Shared.{IsPart, IsTopped}
use Rattle.run_bounds.specs.Struck.{IsMade, Turned}
use Rattle.run_bounds.proofs.Light.{task_is}
use Rattle.run_bounds.proofs.Shared.Balancing.{Paid, seen_next}
use Rattle.run_bounds.proofs.Shared.Closing.{closes_pays}
use Rattle.run_bounds.proofs.Shared.Meeting.{IsElecting, MayElect, electing, free_hands}
use Rattle.run_bounds.proofs.Shared.Shifting.{elects_pays, posts_pays, renews_pays, serves_pays}
use Rattle.run_bounds.proofs.Storm.Originating.{sort_of}
use Rattle.run_bounds.proofs.Storm.Preparing.{prepared}
use Rattle.run_bounds.proofs.Storm.Sorts.{Plain, Sort}
use Rattle.run_bounds.proofs.Shared.Growing.{closing_step}

module _ (e : Setting) (s t : Core) (v w : View) (p : List Strike) (most : ℕ) (few : (k : ℕ) → 2 * suspect_rest e k + 2 ≤ most) (part : IsPart e s v) (topped : IsTopped v) (g : TaskGraph) (lives : ℕ) (runs : Runs g p lives e) (task now : Task) (holds : Holds g e v task) (then : Holds g e w now) (hints left : List ℕ)
    (others : List Item) (y : Item) (next : IsNext e.graph p (task_items task) others (Some y)) (n : ℕ) (step : IsMade e (item_event e v p task.hand now.hand y) n s t (item_prepared e.graph y v) w)
    (lets : LetsFall e p (item_event e v p task.hand now.hand y) n (task_rest e p task) (task_rest e p now)) (again : LeavesAbove e.graph p n y others (task_items now)) (put : HintsPut hints (item_hints y []) left) where
  stands : Stands g e v y
  stands = next_stands g p lives e v runs task holds others y next

  on_top : FitsTop e v task.hand y
  on_top = next_top g p lives e v runs task holds others y next

  before : task_rest e p task ≡ task_light e p task + lines_weight e (flat v.stacks)
  before = task_is e p v task holds.lines

  later : task_rest e p now ≡ task_light e p now + lines_weight e (flat w.stacks)
  later = task_is e p w now then.lines

  -- so many hints are there then
  hinted : (rows : List ℕ) → item_hints y [] ≡ rows → length left ≡ length hints + length rows
  hinted rows is = put.all ∙ ap (λ xs. length hints + length xs) is

  unhinted : item_hints y [] ≡ [] → length left ≡ length hints
  unhinted is = let a = hinted [] is in omega (arith, a)

  -- a closing
  closed : (c : Close) → y ≡ item.Close c → strike_left e.graph p (item.Close c) ≡ None → Paid e s t v w p most task now hints left
  closed c is none_left =
      let stood : Stands g e v (item.Close c) = subst (Stands g e v) is stands in
      let event_is = closing_step g e p v task.hand now.hand y stands c is none_left in
      closes_pays e s t v w p most part task now hints left before later (unhinted (ap (λ z. item_hints z []) is)) g lives runs others c (subst (λ z. IsNext e.graph p (task_items task) others (Some z)) is next) stood (subst (FitsTop e v task.hand) is on_top) none_left n
      (subst (λ z. IsMade e z n s t v w) event_is (subst (λ z. IsMade e (item_event e v p task.hand now.hand y) n s t (item_prepared e.graph z v) w) is step)) (subst (λ z. LeavesAbove e.graph p n z others (task_items now)) is again)
      (subst (λ z. LetsFall e p z n (task_rest e p task) (task_rest e p now)) event_is lets)

  shifts_item : FallsGood e task.hand y (task_rest e p task) (task_rest e p now) → Paid e s t v w p most task now hints left
  shifts_item good = by (sort_of part w g p lives runs n task.hand now.hand (task_rest e p task) (task_rest e p now) y stands on_top next.2 good step.view_is)
    where
      by : Sort e p v (item_prepared e.graph y v) w n (task_rest e p now + 1 ≤ task_rest e p task) y (item_event e v p task.hand now.hand y) (item_hints y []) → Paid e s t v w p most task now hints left
      by (Sort.closes c is none_left) = closed c is none_left
      by (Sort.posts r i k l b is rows same row top) = posts_pays e s t v w p most few part task now hints left before later g lives runs (hinted (r ∷ []) rows) r i k l b n row top (subst (λ z. IsMade e z n s t v w) is (subst (λ z. IsMade e (item_event e v p task.hand now.hand y) n s t z w) same step)) (subst (λ z. LetsFall e p z n (task_rest e p task) (task_rest e p now)) is lets)
      by (Sort.elects r k l c waits b is rows same row top) = let it : IsElecting g p lives e v runs task.hand now.hand y = electing g p lives e v runs task.hand now.hand y (subst MayElect (sym is) tt) in
          elects_pays e s t v w p most few part task now hints left before later (unhinted rows) topped g others it.recover (subst (λ z. IsNext e.graph p (task_items task) others (Some z)) it.is_item next) (subst (Stands g e v) it.is_item stands) (subst (FitsTop e v task.hand) it.is_item on_top) it.in_phase r k l c waits b n row top
          (subst (λ z. IsMade e z n s t v w) is (subst (λ z. IsMade e (item_event e v p task.hand now.hand y) n s t z w) same step)) (subst (λ z. LeavesAbove e.graph p n z others (task_items now)) it.is_item again) (subst (λ z. LetsFall e p z n (task_rest e p task) (task_rest e p now)) is lets)
      by (Sort.renews r k l d b is rows same row top) = renews_pays e s t v w p most few part task now hints left before later (unhinted rows) (item_event e v p task.hand now.hand y) r k l d b n is top (subst (λ z. IsMade e (item_event e v p task.hand now.hand y) n s t z w) same step) lets
      by (Sort.serves is plain rows) = serves_pays e s t v w p most few part task now hints left before later (unhinted rows) topped plain
          (λ seen. let at : y ≡ item.Close seen.close = seen_next e p s task others y next seen in
          subst (Plain e v (item_prepared e.graph y v) w n (task_rest e p now + 1 ≤ task_rest e p task)) (closing_step g e p v task.hand now.hand y stands seen.close at seen.no_strike) is)
          (item_prepared e.graph y v) (prepared g e v y stands) (item_event e v p task.hand now.hand y) n (free_hands g p lives e v runs task.hand now.hand y stands on_top) step is lets

-- a turn of a task
pub shifts : {e : Setting} {s t : Core} {v w : View} (p : List Strike) (most : ℕ) → ((k : ℕ) → 2 * suspect_rest e k + 2 ≤ most) → IsPart e s v → IsPart e t w → IsTopped v
    → (g : TaskGraph) (lives : ℕ) → Runs g p lives e → (task now : Task) → Holds g e v task → Holds g e w now → (hints rows left : List ℕ) → Turned e p s t v w task now rows → HintsPut hints rows left
    → Paid e s t v w p most task now hints left
shifts {e} {s} {t} {v} {w} p most few part _ topped g lives runs task now holds then hints rows left turned put =
    shifts_item e s t v w p most few part topped g lives runs task now holds then hints left turned.left turned.item turned.is_next turned.found turned.stepped turned.rest turned.again (subst (λ z. HintsPut hints z left) turned.hints put) turned.good
