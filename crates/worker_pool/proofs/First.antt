-- The workers of a table as it is made: the first is to explore the root, the others have no work.
use Rattle.std.proofs.Common.{slice_index, Bool, cond, Option, Some, None, slice_get, inl, ◌≡◌, ◌∙◌, ℕ, zero, suc, ◌+◌, ◌-◌, ◌%◌, ◌<◌, ◌≤◌, All, ⊎_elim, List, [], length, length-set, set, replicate, slice_index_or, ap, subst, sym, refl, arith}
use mathlib.Core.Logic.{dite}
use native.Mathlib.Decide.{ℕ_discrete}
use Rattle.std.proofs.lemmas.List.Elements.{All-get_or, All-nil, All-set, All-weaker}
use Rattle.std.proofs.lemmas.List.{length-replicate}
use Rattle.std.proofs.lemmas.Nat.{mod_below}
use Rattle.std.proofs.lemmas.Option.{get_or_from_slice_get, slice_get_within}
use Rattle.graph_model.specs.Graph.{Graph as TaskGraph}
use Rattle.graph_model.specs.Notes.{Note}
use Rattle.core_state.specs.Counts.{word_in}
use Rattle.core_state.specs.Lines.{HasLines, came_lines}
use Rattle.core_state.specs.Sure.{IsSure}
use Rattle.core_state.proofs.Base.Counting.{eqb_here}
use Rattle.core_state.proofs.Base.Sums.{total_within}
use Rattle.core_state.proofs.Own.Sure.{sure_of}
use Rattle.core_state.specs.Rooted.{graph_of, root_key}
use Rattle.core_state.specs.Shapes.{IsLayoutOf}
use Rattle.core_state.specs.Words.{Shape}
use Rattle.core_state.specs.declared.layout.Layout.{Layout}
use Rattle.core_state.proofs.Start.Root.{cells_root, cells_task}
use Rattle.core_state.proofs.Start.Setting.{shape_fits}
use Rattle.core_state.specs.declared.job.Job.TheVariants as job
use Rattle.core_state.specs.Graph.{Setting}
use Rattle.core_state.specs.Views.{bare, blank, opener, all_parts}
use Rattle.core_state.specs.declared.views.Known.{Known}
use Rattle.core_state.specs.declared.views.View.{View}
use Rattle.core_steps.specs.Table.{IsSound, Plain, core_by, shape_of, view_in}
use Rattle.core_steps.proofs.Changing.{elem_at}
use Rattle.core_steps.proofs.Telling.{key_in-suc}
use Rattle.recovery.specs.Memory.{KnowsKey}
use Rattle.compute_notify.specs.declared.duty.Duty.{Duty}
use Rattle.compute_notify.specs.Items.{job_item}
use Rattle.compute_notify.specs.Rooms.{HasRoom}
use Rattle.compute_notify.specs.Tasks.{IsNew}
use Rattle.compute_notify.specs.declared.task.Task.{Task}
use Rattle.worker_pool.specs.Calling.{HasCalled}
use Rattle.worker_pool.specs.Joining.{begun_views}
use Rattle.worker_pool.specs.Pooling.{AreNew, IsRun, KernelsCalled, WorkersHold}
use Rattle.worker_pool.specs.Working.{IsIdle, IsNewWorker, WorkHolds, WorkScratch, WorkerHolds}
use Rattle.worker_pool.proofs.Begun.{new_holds, new_scratch, some_items}
use Rattle.worker_pool.proofs.Calls.{called_still, none_called}
use Rattle.worker_pool.specs.declared.worker.Work.TheVariants as work
use Rattle.worker_pool.specs.declared.worker.Worker.{Worker}
use Rattle.worker_pool.proofs.Pooling.{set_tells}

-- a view that only knows something, and one that was joined away, have no work
bare_idle : (n : ℕ) (knows : List Known) → IsIdle (bare n knows)
bare_idle n knows = record { no_stacks = refl; no_credit = refl; no_hands = refl }

blank_idle : IsIdle blank
blank_idle = record { no_stacks = refl; no_credit = refl; no_hands = refl }

many_idle : (knows : List Known) (count i : ℕ) → IsIdle (view_in (replicate count (bare 1 knows)) i)
many_idle knows zero i = blank_idle
many_idle knows (suc count) zero = bare_idle 1 knows
many_idle knows (suc count) (suc i) = many_idle knows count i

others_idle : (e : Setting) (knows : List Known) (workers i : ℕ) → IsIdle (view_in (begun_views e knows workers) (suc i))
others_idle e knows workers i = many_idle knows (workers - 1) i

-- no result was noted yet
many_bare : (knows : List Known) (count i : ℕ) → (view_in (replicate count (bare 1 knows)) i).records ≡ []
many_bare knows zero i = refl
many_bare knows (suc count) zero = refl
many_bare knows (suc count) (suc i) = many_bare knows count i

others_bare : (e : Setting) (knows : List Known) (workers i : ℕ) → (view_in (begun_views e knows workers) (suc i)).records ≡ []
others_bare e knows workers i = many_bare knows (workers - 1) i

-- what holds of all holds of the one at a place
pub all_at : {X : Type 0} (P : X → Type 0) (xs : List X) (i : ℕ) (x : X) → All P xs → slice_get xs i ≡ Some x → P x
all_at P xs i x all at = subst P (get_or_from_slice_get xs i x x at) (All-get_or P xs i x (slice_get_within xs i x at) all)

-- new workers, of which the first was given a task
pub are_new : (g : TaskGraph) (row count : ℕ) (ws : List Worker) (w : Worker) (t : Task) → All (IsNewWorker g) ws → length ws ≡ count → IsNewWorker g w → IsNew t (job_item (record { row = row; key = record { 0 = root_key }; life = 1 }) job.Explore) → AreNew g row count (set ws 0 (record w { work = work.Busy t }))
are_new g row count ws w t all many new begins = record {
  same_count = length-set ws 0 _ ∙ many;
  rooms = All-set (λ x. HasRoom g x.scratch) ws 0 _ new.room (All-weaker (IsNewWorker g) (λ x. HasRoom g x.scratch) (λ x is. is.room) ws all);
  no_hints = All-set (λ x. x.hints.items ≡ []) ws 0 _ new.no_hints (All-weaker (IsNewWorker g) (λ x. x.hints.items ≡ []) (λ x is. is.no_hints) ws all);
  others = λ i x some at. ⊎_elim (λ here. absurd (let a = here.0 in omega (arith, some, a)))
      (λ other. (all_at (IsNewWorker g) ws i x all other.1).idle)
      (set_tells ws 0 i (record w { work = work.Busy t }) x at);
  first = λ x at. ⊎_elim (λ here. (t, ap (λ (y : Worker). y.work) here.1, begins)) (λ other. absurd (other.0 refl))
      (set_tells ws 0 0 (record w { work = work.Busy t }) x at);
}

-- as many views as workers
pub first_count : (e : Setting) (knows : List Known) (workers : ℕ) → 1 ≤ workers → length (begun_views e knows workers) ≡ workers
first_count e knows workers some = let a : length (replicate (workers - 1) (bare 1 knows)) ≡ workers - 1 = length-replicate (workers - 1) (bare 1 knows) in omega (arith, a, some)

-- a sound table tells of each of its views what holds of a view
pub views_sure : (e : Setting) (p : Plain) → IsSound e p → All (IsSure e) p.views
views_sure e p sound i d low = sure_of e (core_by p.shape p.words p.blocks p.views) sound.holds (slice_index_or p.views i d) (λ f. total_within p.views i (slice_index_or p.views i d) f (elem_at p.views i d low))

module _ (g : TaskGraph) (e : Setting) (run : IsRun g e) (knows : List Known) (workers : ℕ) (vs : List View) (views : vs ≡ begun_views e knows workers) where
  abbrev pub row : ℕ
  row = root_key % e.shape.rows

  abbrev pub duty : Duty
  duty = record { row = row; key = record { 0 = root_key }; life = 1 }

  abbrev pub opening : View
  opening = opener (all_parts - (workers - 1)) root_key row

  opening_is : view_in vs 0 ≡ opening
  opening_is = ap (λ (us : List View). view_in us 0) views ∙ ap (λ (root : ℕ). opener (all_parts - (workers - 1)) root (root % e.shape.rows)) (ap (λ (d : Setting). d.graph.root) run.setting_is)

  opening_knows : KnowsKey e opening row root_key
  opening_knows = record { low = mod_below root_key e.shape.rows run.sound.some_row; key_is = key_in-suc (word_in row opening.known) root_key (ap (λ (b : Bool). cond b (root_key + 1) 0) (eqb_here row)) }

  opening_lines : HasLines e opening (came_lines job.Explore root_key 1 [])
  opening_lines = record { lines_are = refl }

  idle_later : (i : ℕ) → IsIdle (view_in vs (suc i))
  idle_later i = subst (λ (us : List View). IsIdle (view_in us (suc i))) (sym views) (others_idle e knows workers i)

  module _ (ws : List Worker) (new : AreNew g row workers ws) (many : length ws ≡ length vs) (sure : IsSure e (view_in vs 0)) where
    no_rows : (i : ℕ) (w : Worker) → slice_get ws i ≡ Some w → All (λ r. r < e.shape.rows) w.hints.items
    no_rows i w at = subst (All (λ r. r < e.shape.rows)) (sym (all_at (λ x. x.hints.items ≡ []) ws i w new.no_hints at)) (All-nil (λ r. r < e.shape.rows))

    room : (i : ℕ) (w : Worker) → slice_get ws i ≡ Some w → HasRoom g w.scratch
    room i w at = all_at (λ x. HasRoom g x.scratch) ws i w new.rooms at

    opener_holds : (w : Worker) → slice_get ws 0 ≡ Some w → WorkerHolds g e opening w
    opener_holds w at = let task = new.first w at in record {
      work = subst (WorkHolds g e opening) (sym task.1) (
        new_holds g e opening duty task.0 job.Explore task.2 (inl refl) opening_knows (λ n low of_key of_life of_job. refl) (λ none. omega (arith, none)) opening_lines refl refl (subst (IsSure e) opening_is sure),
        some_items task.0 (job_item duty job.Explore) task.2,
      );
      scratch = subst (WorkScratch e g w.scratch) (sym task.1) (new_scratch g e opening duty task.0 job.Explore task.2 w.scratch (room 0 w at));
      hints = no_rows 0 w at;
    }

    later_holds : (i : ℕ) (w : Worker) → slice_get ws (suc i) ≡ Some w → WorkerHolds g e (view_in vs (suc i)) w
    later_holds i w at = let none = new.others (suc i) w (omega arith) at in record {
      work = subst (WorkHolds g e (view_in vs (suc i))) (sym none) (idle_later i);
      scratch = subst (WorkScratch e g w.scratch) (sym none) (room (suc i) w at);
      hints = no_rows (suc i) w at;
    }

    -- each new worker holds what its view holds
    pub first_hold : WorkersHold g e vs ws
    first_hold = record { same_count = many; each = each }
      where
        each : (i : ℕ) (w : Worker) → slice_get ws i ≡ Some w → WorkerHolds g e (view_in vs i) w
        each zero w at = subst (λ (v : View). WorkerHolds g e v w) (sym opening_is) (opener_holds w at)
        each (suc i) w at = later_holds i w at

  -- no kernel was called, and no result noted
  pub first_called : (before : List (Option (List Note))) → KernelsCalled before before vs
  first_called before = record { same_count = refl; each = λ i low. each i (slice_index_or before i None) }
    where
      each : (i : ℕ) (calls : Option (List Note)) → HasCalled calls calls (view_in vs i)
      each zero calls = subst (HasCalled calls calls) (sym opening_is) (called_still calls calls (bare 1 []) opening (λ k l. refl) (none_called calls (bare 1 []) refl))
      each (suc i) calls = none_called calls (view_in vs (suc i)) (subst (λ (us : List View). (view_in us (suc i)).records ≡ []) (sym views) (others_bare e knows workers i))

-- the blocks of the layout have as many cells as the setting says
pub cells_are : (g : TaskGraph) (e : Setting) (x : Layout) → IsRun g e → IsLayoutOf g x → (b : ℕ) → b < length x.cells.items → slice_index x.cells.items b ≡ e.graph.cells b
cells_are g e x run layout b low = by ∙ ap (λ (d : Setting). d.graph.cells b) (sym run.setting_is)
  where
    by : slice_index x.cells.items b ≡ (graph_of g run.outcome).cells b
    by = dite (ℕ_discrete b g.block_count)
        (λ is. ap (slice_index x.cells.items) is ∙ get_or_from_slice_get x.cells.items g.block_count (g.cells (g.block g.sink)) 0 layout.root_cells ∙ sym (cells_root root_key g run.outcome b is))
        (λ ne. get_or_from_slice_get x.cells.items b (g.cells b) 0 (layout.cells b (let a = layout.blocks in omega (arith, a, low, ne))) ∙ sym (cells_task root_key g run.outcome b ne))

-- the layout has the setting's shape
pub shape_is : (g : TaskGraph) (e : Setting) (x : Layout) → IsRun g e → IsLayoutOf g x → e.shape ≡ shape_of x
shape_is g e x run layout = ap (λ (d : Setting). d.shape) run.setting_is ∙ shape_fits g x layout

-- the root's row by the rows of the layout is that of the setting
pub root_at : (g : TaskGraph) (e : Setting) (x : Layout) → IsRun g e → IsLayoutOf g x → (at : ℕ) → at ≡ root_key % x.rows → at ≡ root_key % e.shape.rows
root_at g e x run layout at is = is ∙ sym (ap (λ (h : Shape). root_key % h.rows) (shape_is g e x run layout))
