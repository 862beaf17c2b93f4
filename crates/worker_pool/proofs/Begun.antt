-- A job that came to a worker without work is a task of which the next turn can be made.
use Rattle.std.proofs.Common.{◌≡◌, ◌≢◌, ◌∙◌, [], ◌∷◌, Option, None, ap, subst, sym, refl, arith}
use Rattle.graph_model.specs.Graph.{Graph as TaskGraph}
use Rattle.graph_model.specs.declared.plan.Point.TheVariants as point
use Rattle.core_state.specs.Asked.{IsCoreKey}
use Rattle.core_state.specs.Graph.{Setting}
use Rattle.core_state.specs.Lines.{HasLines, came_lines}
use Rattle.core_state.specs.Sure.{IsFresh, IsSure}
use Rattle.core_state.specs.declared.block.BlockCells.{BlockCells}
use Rattle.core_state.specs.declared.job.Job.{Job}
use Rattle.core_state.specs.declared.job.Job.TheVariants as job
use Rattle.core_state.specs.declared.views.View.{View}
use Rattle.core_state.proofs.Lines.After.{came_some}
use Rattle.recovery.specs.Memory.{KnowsKey}
use Rattle.compute_notify.specs.Items.{FitsItem, item_credits, job_item}
use Rattle.compute_notify.specs.Rooms.{FitsScratch, HasRoom}
use Rattle.compute_notify.specs.Tasks.{AllBelow, FitsAll, FromCredit, Holds, IsNew, SomeScratch, SomeTop, TaskScratch, Unbegun, begun_items, last_of, some_credits, stacked, task_items}
use Rattle.compute_notify.specs.Working.{FitsTop}
use Rattle.compute_notify.specs.declared.duty.Duty.{Duty}
use Rattle.compute_notify.specs.declared.item.Item.{Item}
use Rattle.compute_notify.specs.declared.item.Item.TheVariants as item
use Rattle.compute_notify.specs.declared.scratch.Scratch.{Scratch}
use Rattle.compute_notify.specs.declared.task.Task.{Task}
use Rattle.compute_notify.proofs.Fitting.{fits_fresh}

-- a task that has only its first item
new_items : (t : Task) (x : Item) → IsNew t x → task_items t ≡ item.Credit ∷ x ∷ []
new_items t x is = ap (λ (b : Option Item). begun_items b t.items.items) is.begins_with

pub some_items : (t : Task) (x : Item) → IsNew t x → task_items t ≢ []
some_items t x is none = let both : item.Credit ∷ x ∷ [] ≡ [] = sym (new_items t x is) ∙ none in cc

module _ (g : TaskGraph) (e : Setting) (w : View) (duty : Duty) where
  -- the facts of the item with which a job begins
  job_fits : (i : Job) → IsCoreKey g duty.key.0 → KnowsKey e w duty.row duty.key.0 → IsFresh e w i duty.key.0 duty.life → FitsItem g e w (job_item duty i)
  job_fits job.Explore is knows fresh = record {
    duty = record { is_key = is; known = knows };
    place = omega arith;
    reaching = tt;
    strikes = fits_fresh e w point.Explored duty.key.0 duty.life job.Explore refl fresh;
    none_made = λ low. refl;
  }
  job_fits job.Compute is knows fresh = record {
    duty = record { is_key = is; known = knows };
    in_phase = fits_fresh e w point.Ready duty.key.0 duty.life job.Compute refl fresh;
    computed = fits_fresh e w point.Computed duty.key.0 duty.life job.Compute refl fresh;
    notified = fits_fresh e w point.Notified duty.key.0 duty.life job.Compute refl fresh;
  }

  job_lines : (i : Job) → duty.life ≢ 0 → HasLines e w (came_lines i duty.key.0 duty.life []) → HasLines e w (stacked e.graph (item.Credit ∷ job_item duty i ∷ []) [])
  job_lines job.Explore some lines = subst (HasLines e w) (came_some job.Explore duty.key.0 duty.life [] some) lines
  job_lines job.Compute some lines = subst (HasLines e w) (came_some job.Compute duty.key.0 duty.life [] some) lines

  job_credits : (i : Job) → item_credits (job_item duty i) ≡ 0
  job_credits job.Explore = refl
  job_credits job.Compute = refl

  job_top : (i : Job) → w.hands ≡ [] → FitsTop e w None (job_item duty i)
  job_top job.Explore none = none
  job_top job.Compute none = none

  job_scratch : (i : Job) (s : Scratch) → HasRoom g s → FitsScratch e g s (job_item duty i)
  job_scratch job.Explore s room = room
  job_scratch job.Compute s room = (room, tt)

  module _ (t : Task) (i : Job) (new : IsNew t (job_item duty i)) where
    items_are : task_items t ≡ item.Credit ∷ job_item duty i ∷ []
    items_are = new_items t (job_item duty i) new

    pub new_scratch : (s : Scratch) → HasRoom g s → TaskScratch e g s t
    new_scratch s room = subst (λ xs. SomeScratch e g s (last_of xs)) (sym items_are) (job_scratch i s room)

    new_top : w.hands ≡ [] → SomeTop e w t.hand (last_of (task_items t))
    new_top none = subst (λ xs. SomeTop e w t.hand (last_of xs)) (sym items_are) (subst (λ (h : Option BlockCells). FitsTop e w h (job_item duty i)) (sym new.no_block) (job_top i none))

    pub new_holds : IsCoreKey g duty.key.0 → KnowsKey e w duty.row duty.key.0 → IsFresh e w i duty.key.0 duty.life → duty.life ≢ 0 → HasLines e w (came_lines i duty.key.0 duty.life []) → w.spare ≡ 0 → w.hands ≡ [] → IsSure e w → Holds g e w t
    new_holds is knows fresh some lines credits none sure = record {
      lines = subst (λ xs. HasLines e w (stacked e.graph xs [])) (sym items_are) (job_lines i some lines);
      fits = subst (FitsAll g e w) (sym items_are) (tt, (job_fits i is knows fresh, tt));
      below = subst AllBelow (sym items_are) (tt, tt);
      bottom = subst FromCredit (sym items_are) refl;
      credits = credits ∙ sym (job_credits i) ∙ ap (λ xs. some_credits (last_of xs)) (sym items_are);
      top = new_top none;
      begun = subst (λ (b : Option Item). Unbegun b t.items.items) (sym new.begins_with) new.no_items;
      sure = sure;
    }
