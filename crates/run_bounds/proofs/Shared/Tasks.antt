-- A turn of a task, of several workers: it is paid or in vain, no hint is lost by it, and at its end the worker is idle.
use Rattle.std.proofs.Common.{◌≡◌, ◌≢◌, ℕ, ◌+◌, ◌*◌, ◌<◌, ◌≤◌, false, eqb, List, [], ◌∷◌, ◌++◌, ⊎_elim, arith, refl, ap, sym, ◌∙◌, subst}
use mathlib.Core.Logic.{dite}
use native.Mathlib.Decide.{ℕ_discrete}
use Rattle.graph_model.specs.Graph.{Graph as TaskGraph}
use Rattle.graph_model.specs.declared.plan.Strike.{Strike}
use Rattle.core_state.specs.Change.{Core}
use Rattle.core_state.specs.Counts.{hit}
use Rattle.core_state.specs.Events.{Event}
use Rattle.core_state.specs.Events.Event.{post}
use Rattle.core_state.specs.Graph.{Setting}
use Rattle.core_state.specs.Words.{posted}
use Rattle.core_state.specs.declared.job.Job.{Job}
use Rattle.core_state.specs.declared.job.Job.TheVariants as job
use Rattle.core_state.specs.declared.views.View.{View}
use Rattle.core_state.proofs.Base.Counting.{bump_is, eqb_here, not_here}
use Rattle.compute_notify.specs.Eventing.{item_event, item_hints, item_prepared}
use Rattle.compute_notify.specs.Items.{Stands}
use Rattle.compute_notify.specs.Resting.{suspect_rest}
use Rattle.compute_notify.specs.Running.{Runs}
use Rattle.compute_notify.specs.Tasks.{FromCredit, Holds, task_items, task_rest}
use Rattle.compute_notify.specs.Working.{FitsTop}
use Rattle.compute_notify.specs.declared.item.Item.{Item}
use Rattle.compute_notify.specs.declared.task.Task.{Task}
use Rattle.compute_notify.proofs.Turned.{next_stands, next_top}
use Rattle.run_bounds.specs.Doing.{Doing, asked_hints, fresh_hints}
use Rattle.run_bounds.specs.Doing.Doing.{idle, works}
use Rattle.run_bounds.specs.Hinting.{HasHints, HintsPut, times}
use Rattle.run_bounds.specs.Light.{items_light, task_light}
use Rattle.run_bounds.specs.Shared.{ActorTurn, Charge, IsPart, IsTopped, Pays}
use Rattle.run_bounds.specs.Struck.{IsMade, Turned}
use Rattle.run_bounds.proofs.Hinting.{compute_posted, explore_posted, hints_as}
use Rattle.run_bounds.proofs.Shared.Growing.{Goes, closing_is, goes}
use Rattle.run_bounds.proofs.Storm.Originating.{sort_of}
use Rattle.run_bounds.proofs.Storm.Sorts.{Renews, Sort, plain_apart}
use Rattle.run_bounds.proofs.Storm.Words.{hints_stay, on_job}
use Rattle.run_bounds.proofs.Shared.Shifts.{shifts}
use Rattle.run_bounds.proofs.Shared.Balancing.{Paid}

-- hints that others hold stay enough with those of a worker
abbrev Hinted : Setting → Core → Core → Doing → List ℕ → Doing → List ℕ → Type 0
Hinted e s t d hints d' left = (r fresh asked : ℕ) → r < e.shape.rows → HasHints (fresh + fresh_hints r d hints) (asked + asked_hints r d) (s.word (posted job.Explore r)) (s.word (posted job.Compute r))
    → HasHints (fresh + fresh_hints r d' left) (asked + asked_hints r d') (t.word (posted job.Explore r)) (t.word (posted job.Compute r))

module _ {e : Setting} {s t : Core} {u w : View} (n : ℕ) (task now : Task) (hints left : List ℕ) where
  -- a step that posts nothing
  hinted_on : (x : Event) → IsMade e x n s t u w → on_job x ≡ false → HintsPut hints [] left → Hinted e s t (works task) hints (works now) left
  hinted_on x step off put r fresh asked low old = let a = put.each r in hints_as (fresh + fresh_hints r (works now) left) (asked + asked_hints r (works now)) (omega (arith, a)) refl (hints_stay step off r old)

  -- a post, which brings a hint of its row
  module _ (r : ℕ) (i : Job) (k l : ℕ) (step : IsMade e (post r i k l) n s t u w) (put : HintsPut hints (r ∷ []) left) where
    row_in : (j : Job) (q : ℕ) → q ≢ r → t.word (posted j q) ≡ s.word (posted j q)
    row_in j q other = step.others (posted j q) (λ same. other (let z : q ≡ r = cc in z))

    at_row : (fresh asked : ℕ) → HasHints (fresh + fresh_hints r (works task) hints) (asked + asked_hints r (works task)) (s.word (posted job.Explore r)) (s.word (posted job.Compute r)) → HasHints (fresh + fresh_hints r (works now) left) (asked + asked_hints r (works now)) (t.word (posted job.Explore r)) (t.word (posted job.Compute r))
    at_row fresh asked old = let a = put.each r in let c = ap hit (eqb_here r) in let d = bump_is (eqb r r) 0 in
        hints_as (fresh + fresh_hints r (works now) left) (asked + asked_hints r (works now)) (omega (arith, a, c, d)) refl (by i refl (hints_as (fresh + times r hints) (asked + 0) (omega arith) refl old))
      where
        by : (o : Job) → o ≡ i → HasHints (fresh + times r hints) (asked + 0) (s.word (posted job.Explore r)) (s.word (posted job.Compute r)) → HasHints (fresh + times r hints + 1) (asked + 0) (t.word (posted job.Explore r)) (t.word (posted job.Compute r))
        by job.Explore is has = explore_posted (t.word (posted job.Explore r)) (t.word (posted job.Compute r)) (λ some. let z = step.others (posted job.Compute r) (λ same. let q : job.Compute ≡ i = cc in let u : job.Compute ≡ job.Explore = q ∙ sym is in cc) in omega (arith, z, some)) has
        by job.Compute is has = compute_posted (t.word (posted job.Explore r)) (t.word (posted job.Compute r)) (λ some. let z = step.others (posted job.Explore r) (λ same. let q : job.Explore ≡ i = cc in let u : job.Explore ≡ job.Compute = q ∙ sym is in cc) in omega (arith, z, some)) has

    posted_on : Hinted e s t (works task) hints (works now) left
    posted_on q fresh asked low = dite (ℕ_discrete q r)
        (λ here. subst (λ m. HasHints (fresh + fresh_hints m (works task) hints) (asked + asked_hints m (works task)) (s.word (posted job.Explore m)) (s.word (posted job.Compute m)) → HasHints (fresh + fresh_hints m (works now) left) (asked + asked_hints m (works now)) (t.word (posted job.Explore m)) (t.word (posted job.Compute m))) (sym here) (at_row fresh asked))
        (λ other old. let a = put.each q in let z = not_here q r other in let d = bump_is (eqb q r) 0 in let f : ℕ = fresh + fresh_hints q (works task) hints in
        hints_as (fresh + fresh_hints q (works now) left) (asked + asked_hints q (works now)) (omega (arith, a, z, d)) refl
        (subst (λ m. HasHints (fresh + fresh_hints q (works task) hints) (asked + 0) m (t.word (posted job.Compute q))) (sym (row_in job.Explore q other)) (subst (λ m. HasHints (fresh + fresh_hints q (works task) hints) (asked + 0) (s.word (posted job.Explore q)) m) (sym (row_in job.Compute q other)) old)))

-- a task with a turn before it is not at its end
some_left : (e : Setting) (p : List Strike) (task : Task) (left gone : List Item) (y : Item) → FromCredit (task_items task) → task_items task ≡ left ++ y ∷ gone → 1 ≤ task_light e p task
some_left e p task left gone y bottom is = by (task_items task) left is bottom
  where
    by : (xs left : List Item) → xs ≡ left ++ y ∷ gone → FromCredit xs → 1 ≤ items_light e p task.hand xs
    by [] [] same first = absurd (let z : [] ≡ y ∷ gone = same in cc)
    by [] (x ∷ left) same first = absurd (let z : [] ≡ x ∷ (left ++ y ∷ gone) = same in cc)
    by (x ∷ []) left same first = subst (λ z. 1 ≤ items_light e p task.hand (z ∷ [])) (sym first) (omega arith)
    by (x ∷ z ∷ zs) left same first = subst (λ q. 1 ≤ items_light e p task.hand (q ∷ z ∷ zs)) (sym first) (omega arith)

module _ {e : Setting} {s t : Core} {v w : View} (p : List Strike) (most : ℕ) (part : IsPart e s v) (topped : IsTopped v) (g : TaskGraph) (lives : ℕ) (runs : Runs g p lives e) (task now : Task) (holds : Holds g e v task) (hints rows left : List ℕ) (turned : Turned e p s t v w task now rows) (put : HintsPut hints rows left) where
  stands : Stands g e v turned.item
  stands = next_stands g p lives e v runs task holds turned.left turned.item turned.is_next

  on_top : FitsTop e v task.hand turned.item
  on_top = next_top g p lives e v runs task holds turned.left turned.item turned.is_next

  abbrev event : Event
  event = item_event e v p task.hand now.hand turned.item

  sort : Sort e p v (item_prepared e.graph turned.item v) w turned.found (task_rest e p now + 1 ≤ task_rest e p task) turned.item (item_event e v p task.hand now.hand turned.item) (item_hints turned.item [])
  sort = sort_of part w g p lives runs turned.found task.hand now.hand (task_rest e p task) (task_rest e p now) turned.item stands on_top turned.is_next.2 turned.good turned.stepped.view_is

  went : Goes v w
  went = goes e v w turned.found topped g p (task_rest e p now + 1 ≤ task_rest e p task) task.hand now.hand turned.item stands turned.is_next.2 turned.stepped.view_is sort

  -- no hint is lost
  hinted : Hinted e s t (works task) hints (works now) left
  hinted = by sort
    where
      rows_are : (others : List ℕ) → item_hints turned.item [] ≡ others → HintsPut hints others left
      rows_are others is = subst (λ z. HintsPut hints z left) (turned.hints ∙ is) put

      -- the step of this event
      made : (x : Event) → event ≡ x → IsMade e x turned.found s t (item_prepared e.graph turned.item v) w
      made x is = subst (λ z. IsMade e z turned.found s t (item_prepared e.graph turned.item v) w) is turned.stepped

      apart : (r k l d : ℕ) → Renews event r k l d → on_job event ≡ false
      apart r k l d renews = ⊎_elim (λ is. ap on_job is) (λ other. ⊎_elim (λ is. ap on_job is) (λ is. ap on_job is) other) renews

      by : Sort e p v (item_prepared e.graph turned.item v) w turned.found (task_rest e p now + 1 ≤ task_rest e p task) turned.item (item_event e v p task.hand now.hand turned.item) (item_hints turned.item []) → Hinted e s t (works task) hints (works now) left
      by (Sort.closes c at none_left) = let it = closing_is g e p v task.hand now.hand turned.item stands turned.is_next.2 c at none_left in hinted_on turned.found task now hints left event turned.stepped (ap on_job it.event_is) (rows_are [] it.none_hinted)
      by (Sort.posts r i k l b is rows same row top) = posted_on turned.found task now hints left r i k l (made (post r i k l) is) (rows_are (r ∷ []) rows)
      by (Sort.elects r k l c waits b is rows same row top) = hinted_on turned.found task now hints left event turned.stepped (ap on_job is) (rows_are [] rows)
      by (Sort.renews r k l d b renews rows same row top) = hinted_on turned.found task now hints left event turned.stepped (apart r k l d renews) (rows_are [] rows)
      by (Sort.serves plainly plain rows) = hinted_on turned.found task now hints left event turned.stepped (plain_apart e v (item_prepared e.graph turned.item v) w turned.found (task_rest e p now + 1 ≤ task_rest e p task) event plainly) (rows_are [] rows)

  -- a turn that is paid or in vain
  module _ (pays : Paid e s t v w p most task now hints left) where
    turned_pays : ActorTurn e p most s t (record { view = v; doing = works task; hints = hints }) (record { view = w; doing = works now; hints = left })
    turned_pays = record { grows = went.grows; topped = went.topped; hinted = hinted; pays = pays }

    -- the last one is a move
    done_pays : ActorTurn e p most s t (record { view = v; doing = works task; hints = hints }) (record { view = w; doing = idle; hints = left })
    done_pays = record { grows = went.grows; topped = went.topped; hinted = hinted; pays = by pays }
      where
        by : Paid e s t v w p most task now hints left → Pays e p most s t (record { view = v; doing = works task; hints = hints }) (record { view = w; doing = idle; hints = left })
        by (Pays.moves cost charge less) = Pays.moves cost charge (omega (arith, less))
        by (Pays.stalls less stall) = Pays.moves 0 Charge.nothing (let a = some_left e p task turned.left turned.is_next.0 turned.item holds.bottom turned.is_next.1 in let b = stall.same_hints in omega (arith, a, b))

-- a turn of a task that goes on
pub task_turned : {e : Setting} {s t : Core} {v w : View} (p : List Strike) (most : ℕ) → ((k : ℕ) → 2 * suspect_rest e k + 2 ≤ most) → IsPart e s v → IsPart e t w → IsTopped v
    → (g : TaskGraph) (lives : ℕ) → Runs g p lives e → (task now : Task) → Holds g e v task → Holds g e w now → (hints rows left : List ℕ) → Turned e p s t v w task now rows → HintsPut hints rows left
    → ActorTurn e p most s t (record { view = v; doing = works task; hints = hints }) (record { view = w; doing = works now; hints = left })
task_turned p most few part later topped g lives runs task now holds holds_now hints rows left turned put =
    turned_pays p most part topped g lives runs task now holds hints rows left turned put (shifts p most few part later topped g lives runs task now holds holds_now hints rows left turned put)

-- the same where the task is done
pub done_turned : {e : Setting} {s t : Core} {v w : View} (p : List Strike) (most : ℕ) → ((k : ℕ) → 2 * suspect_rest e k + 2 ≤ most) → IsPart e s v → IsPart e t w → IsTopped v
    → (g : TaskGraph) (lives : ℕ) → Runs g p lives e → (task now : Task) → Holds g e v task → Holds g e w now → (hints rows left : List ℕ) → Turned e p s t v w task now rows → HintsPut hints rows left → task_items now ≡ []
    → ActorTurn e p most s t (record { view = v; doing = works task; hints = hints }) (record { view = w; doing = idle; hints = left })
done_turned p most few part later topped g lives runs task now holds holds_now hints rows left turned put done =
    done_pays p most part topped g lives runs task now holds hints rows left turned put (shifts p most few part later topped g lives runs task now holds holds_now hints rows left turned put)
