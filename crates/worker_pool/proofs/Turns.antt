-- What a turn of a worker leaves: of a look, of asking a row for a job, and of a task.
use Rattle.std.proofs.Common.{◌≡◌, ◌≢◌, ◌∙◌, ℕ, ◌<◌, Bool, true, false, List, [], Some, ap, arith, subst, sym, refl}
use mathlib.Core.Bool.{true≢false}
use Rattle.graph_model.specs.Graph.{Graph as TaskGraph}
use Rattle.graph_model.specs.declared.key.Key.{Key}
use Rattle.core_state.specs.Asked.{IsCoreKey}
use Rattle.core_state.specs.Counts.{items, known_key}
use Rattle.core_state.specs.Graph.{Setting}
use Rattle.core_state.specs.Events.{after, Event}
use Rattle.core_state.specs.Events.Event.{look, take}
use Rattle.core_state.specs.Lines.{HasLines, counted, settled}
use Rattle.core_state.specs.Sure.{IsFresh, IsSure}
use Rattle.core_state.specs.Tests.{is_suspect_for}
use Rattle.core_state.specs.declared.job.Job.{Job}
use Rattle.core_state.specs.declared.job.Job.TheVariants as job
use Rattle.core_state.specs.declared.views.Item.{Item as Held}
use Rattle.core_state.specs.declared.views.View.{View}
use Rattle.core_state.proofs.Lines.Counts.{items_counted}
use Rattle.core_steps.specs.Seat.{known_of}
use Rattle.recovery.proofs.Knowing.{known_is}
use Rattle.recovery.specs.Memory.{KnowsKey}
use Rattle.recovery.specs.declared.turn.Turn.{Turn}
use Rattle.recovery.specs.declared.turn.Turn.TheVariants as turn
use Rattle.compute_notify.specs.Items.{job_item}
use Rattle.compute_notify.specs.Rooms.{HasRoom}
use Rattle.compute_notify.specs.Stepping.{HasStepped}
use Rattle.compute_notify.specs.Tasks.{Holds, IsNew, SomeScratch, SomeTop, TaskScratch, TaskTells, ends_run, last_of, stacked, task_items}
use Rattle.compute_notify.specs.declared.duty.Duty.{Duty}
use Rattle.compute_notify.specs.declared.item.Item.{Item}
use Rattle.compute_notify.specs.declared.scratch.Scratch.{Scratch}
use Rattle.compute_notify.specs.declared.task.Task.{Task}
use Rattle.worker_pool.specs.Working.{IsIdle, KeepsTable, SpentShown, WorkHolds, WorkScratch, WorkerHolds, is_idle, spent_of}
use Rattle.worker_pool.specs.declared.worker.Work.{Work}
use Rattle.worker_pool.specs.declared.worker.Work.TheVariants as work
use Rattle.worker_pool.specs.declared.worker.Worker.{Worker}
use Rattle.worker_pool.proofs.Begun.{new_holds, some_items}
use Rattle.worker_pool.proofs.Idling.{looked, taken_credit, taken_hands, taken_knows, taken_lines}

-- no work is what has none to do
pub idle_is : (x : Work) → is_idle x ≡ true → x ≡ work.Idle
idle_is work.Idle idle = refl
idle_is (work.Serve row key i) idle = absurd (true≢false (sym idle))
idle_is (work.Busy t) idle = absurd (true≢false (sym idle))

module _ (g : TaskGraph) (e : Setting) (v w : View) (before : Worker) (idle : is_idle before.work ≡ true) (holds : WorkerHolds g e v before) (r n : ℕ) (is : w ≡ after e (look r) n v) where
  free : IsIdle w
  free = looked e v (subst (WorkHolds g e v) (idle_is before.work idle) holds.work) r n w is

  -- the row has a key, and is asked for a job next
  pub looked_key : (key : Key) → r < e.shape.rows → known_of w r ≡ Some key.0 → IsCoreKey g key.0 → WorkerHolds g e w (record before { work = work.Serve r key job.Explore })
  looked_key key low known names = record {
    work = (free, record { low = low; key_is = known }, names);
    scratch = subst (WorkScratch e g before.scratch) (idle_is before.work idle) holds.scratch;
    hints = holds.hints;
  }

-- the asking of a row, at another name of the seat's setting and view
pub taken_as : (e d : Setting) (v u w : View) (r k l n : ℕ) (i : Job) → d ≡ e → u ≡ v → KnowsKey e v r k → l ≡ n → w ≡ after d (take r i (known_key r u)) n u → w ≡ after e (take r i k) l v
taken_as e d v u w r k l n i same_setting same_view knows same_life is = is ∙ ap (λ (x : Setting). after x (take r i (known_key r u)) n u) same_setting ∙ ap (λ (x : View). after e (take r i (known_key r x)) n x) same_view
    ∙ ap (λ (m : ℕ). after e (take r i m) n v) (known_is e v r k knows) ∙ ap (λ (m : ℕ). after e (take r i k) m v) (sym same_life)

pub fresh_as : (e d : Setting) (v u w : View) (r k l : ℕ) (i : Job) → d ≡ e → u ≡ v → KnowsKey e v r k → IsFresh d w i (known_key r u) l → IsFresh e w i k l
fresh_as e d v u w r k l i same_setting same_view knows fresh = subst (λ (x : Setting). IsFresh x w i k l) same_setting
    (subst (λ (m : ℕ). IsFresh d w i m l) (ap (known_key r) same_view ∙ known_is e v r k knows) fresh)

-- a job came with its credit: the worker has its task
pub served_job : (g : TaskGraph) (e : Setting) (v w : View) (duty : Duty) (i : Job) (t : Task) → IsIdle v → w ≡ after e (take duty.row i duty.key.0) duty.life v → IsNew t (job_item duty i) → IsCoreKey g duty.key.0 → KnowsKey e v duty.row duty.key.0 → duty.life ≢ 0 → IsFresh e w i duty.key.0 duty.life → IsSure e w → WorkHolds g e w (work.Busy t)
served_job g e v w duty i t idle is new names knows some fresh sure = (
  new_holds g e w duty t i new names (taken_knows e duty.row i duty.key.0 duty.life v w is duty.row duty.key.0 knows) fresh some
      (taken_lines e v idle duty.row i duty.key.0 duty.life w is) (taken_credit e v idle duty.row i duty.key.0 duty.life w is) (taken_hands e v idle duty.row i duty.key.0 duty.life w is) sure,
  some_items t (job_item duty i) new,
)

module _ (g : TaskGraph) (e : Setting) (w : View) (t : Task) where
  -- a task that is done leaves no work and no block
  pub done_idle : Holds g e w t → TaskTells e w t turn.Done → IsIdle w
  done_idle holds tells = record {
    no_stacks = tells.1;
    no_credit = tells.2;
    no_hands = (subst (λ xs. SomeTop e w t.hand (last_of xs)) tells.0 holds.top).0;
  }

  pub done_scratch : (s : Scratch) → TaskScratch e g s t → TaskTells e w t turn.Done → HasRoom g s
  done_scratch s scratch tells = subst (λ xs. SomeScratch e g s (last_of xs)) tells.0 scratch

  -- a view without lines suspects nothing
  none_there : task_items t ≡ [] → HasLines e w (stacked e.graph (task_items t) []) → (p : Held → Bool) → items p w ≡ 0
  none_there none lines p = items_counted p w ∙ ap (counted p) (lines.lines_are ∙ ap (λ (xs : List Item). settled e.graph e.plan w.strikes (stacked e.graph xs [])) none)

  -- a task that is not done has something left
  pub left_items : (told : Turn) → (told ≡ turn.Done → ⊥) → Holds g e w t → TaskTells e w t told → task_items t ≢ []
  left_items turn.Going other holds tells = tells
  left_items turn.Done other holds tells = absurd (other refl)
  left_items (turn.Met row k l c) other holds tells = absurd tells
  left_items (turn.Given row k i l) other holds tells = absurd tells
  left_items (turn.LivesSpent k l c) other holds tells = λ none. let is = none_there none holds.lines (is_suspect_for k.0 l c) in omega (arith, is, tells.1)

  -- the life that ends a run is shown by the view
  pub spent_shown : (told : Turn) → TaskTells e w t told → SpentShown e w (spent_of told)
  spent_shown turn.Going tells = tt
  spent_shown turn.Done tells = tt
  spent_shown (turn.Met row k l c) tells = tt
  spent_shown (turn.Given row k i l) tells = tt
  spent_shown (turn.LivesSpent k l c) tells = tells

-- What no turn changes.
module _ {S : Type 0} {setting : S → Setting} {view : S → View} {made spare : S → ℕ} {last shown : S → ℕ × ℕ} {happened : S → Event → ℕ → S → Type 0} {lender : S → List ℕ} {others : S → List View} where
  -- a turn of a task makes one step, or ends the run and changes nothing
  pub keeps_turned : (prepare : View → View) (x : Event) (s t : S) (told : Turn) → (ends_run told ≡ true → t ≡ s) → (ends_run told ≡ false → HasStepped setting view made spare last shown happened lender others prepare x s t) → KeepsTable setting lender others s t
  keeps_turned prepare x s t told still step = by (ends_run told) refl
    where
      stayed : t ≡ s → KeepsTable setting lender others s t
      stayed same = record { same_setting = ap setting same; same_lender = ap lender same; same_others = ap others same }

      stepped : HasStepped setting view made spare last shown happened lender others prepare x s t → KeepsTable setting lender others s t
      stepped step = let table = step.step.table in record {
        same_setting = table.same_setting ∙ step.same_setting;
        same_lender = table.same_lender ∙ step.same_lender;
        same_others = table.same_others ∙ step.same_others;
      }

      by : (b : Bool) → ends_run told ≡ b → KeepsTable setting lender others s t
      by true ends = stayed (still ends)
      by false goes = stepped (step goes)
