-- What the turns of seats rest on: the setting of their run, and the views with which they begin.
use Rattle.std.proofs.Common.{◌≡◌, ◌∙◌, ℕ, ◌%◌, ◌+◌, ◌-◌, ◌<◌, ◌≤◌, Bool, false, cond, is_some, List, [], Option, Some, None, length, slice_get, inl, ap, subst, sym, refl, arith}
use Rattle.std.proofs.lemmas.Nat.{mod_below}
use Rattle.graph_model.specs.Graph.{Graph}
use Rattle.graph_model.specs.Plans.{HasTaskKeys}
use Rattle.graph_model.specs.declared.plan.Strike.{Strike}
use Rattle.acyclic_audit.specs.Views.{graph}
use Rattle.acyclic_audit.specs.declared.graph.FileGraph.{FileGraph}
use Rattle.core_state.specs.Counts.{word_in}
use Rattle.core_state.specs.Graph.{Setting}
use Rattle.core_state.specs.Guards.{CanTakeTurn}
use Rattle.core_state.specs.Rooted.{root_key}
use Rattle.core_state.specs.Shapes.{IsLayoutOf, IsWidest, SameLayout}
use Rattle.core_state.specs.Sure.{IsSure}
use Rattle.core_state.specs.Views.{all_parts, less_one, opener}
use Rattle.core_state.specs.declared.job.Job.TheVariants as job
use Rattle.core_state.specs.declared.layout.Layout.{Layout}
use Rattle.core_state.specs.declared.views.View.{View}
use Rattle.core_state.proofs.Base.Counting.{eqb_here}
use Rattle.core_state.proofs.Start.Asked.{graph_matches}
use Rattle.core_steps.proofs.Telling.{key_in-suc}
use Rattle.recovery.specs.Memory.{KnowsKey}
use Rattle.compute_notify.specs.Items.{job_item}
use Rattle.compute_notify.specs.Rooms.{HasRoom}
use Rattle.compute_notify.specs.Running.{Makes, Runs}
use Rattle.compute_notify.specs.Tasks.{Holds, IsNew}
use Rattle.compute_notify.specs.declared.duty.Duty.{Duty}
use Rattle.compute_notify.specs.declared.scratch.Scratch.{Scratch}
use Rattle.compute_notify.specs.declared.task.Task.{Task}
use Rattle.graph_runner.specs.Formulas.{FitsFormula, formula_outcome}
use Rattle.graph_runner.proofs.Valuing.{can_be}
use Rattle.task_table.specs.Kept.{first_view}
use Rattle.worker_pool.specs.Pooling.{IsRun}
use Rattle.worker_pool.specs.Working.{NamesTasks}
use Rattle.worker_pool.proofs.Begun.{new_holds, new_scratch, some_items}
use Rattle.worker_pool.proofs.Settings.{is_run, names_tasks, runs}
use Rattle.table_tests.specs.Sitting.{HasScratch, HasTwoBlocks, Sits, WorksOn, setting_for}

-- The setting of a run of a file's graph.
module _ (g : FileGraph) (strikes : List Strike) where
  pub makes_here : Makes (graph g) (formula_outcome g) (FitsFormula g) (setting_for g strikes)
  makes_here = record { graph_is = graph_matches (graph g) (formula_outcome g) g.lawful; can = (can_be g).inputs }

  pub names_here : NamesTasks (graph g) (setting_for g strikes)
  names_here = names_tasks (graph g) (formula_outcome g) strikes 65535

  module _ (few : length strikes ≤ 4096) (keys : HasTaskKeys strikes) where
    pub runs_here : Runs (graph g) strikes 65535 (setting_for g strikes)
    runs_here = runs (graph g) (formula_outcome g) g.lawful strikes 65535 few keys (omega arith, omega arith) (can_be g).cells

    pub run_here : IsRun (graph g) (setting_for g strikes)
    run_here = is_run (graph g) (formula_outcome g) g.lawful strikes 65535 few keys (omega arith, omega arith) (can_be g).cells

-- The first seat of a table that begins, whose row of the root is r.
module _ (g : FileGraph) (e : Setting) (run : IsRun (graph g) e) (r : ℕ) (row : r ≡ root_key % e.shape.rows) where
  -- the view of the seat that is to explore the root
  abbrev opening : View
  opening = opener (all_parts - 1) root_key r

  opening_is : less_one (first_view e) ≡ opening
  opening_is = ap (λ (root : ℕ). opener (all_parts - 1) root (root % e.shape.rows)) (ap (λ (d : Setting). d.graph.root) run.setting_is) ∙ ap (opener (all_parts - 1) root_key) (sym row)

  opening_knows : KnowsKey e opening r root_key
  opening_knows = record {
    low = subst (λ (n : ℕ). n < e.shape.rows) (sym row) (mod_below root_key e.shape.rows run.sound.some_row);
    key_is = key_in-suc (word_in r opening.known) root_key (ap (λ (b : Bool). cond b (root_key + 1) 0) (eqb_here r));
  }

  abbrev duty : Duty
  duty = record { row = r; key = record { 0 = root_key }; life = 1 }

  pub first_sits : (v : View) → v ≡ less_one (first_view e) → IsSure e v → (t : Task) (s : Scratch) → IsNew t (job_item (record { row = r; key = record { 0 = root_key }; life = 1 }) job.Explore) → HasRoom (graph g) s → Sits (graph g) e v (Some t) s
  first_sits v begins sure t s new room = let is = begins ∙ opening_is in (
    (
      subst (λ (u : View). Holds (graph g) e u t) (sym is) (new_holds (graph g) e opening duty t job.Explore new (inl refl) opening_knows (λ n low of_key of_life of_job. refl) (λ none. omega (arith, none)) (record { lines_are = refl }) refl refl (subst (IsSure e) is sure)),
      some_items t (job_item duty job.Explore) new,
    ),
    new_scratch (graph g) e opening duty t job.Explore new s room,
  )

-- a layout that was copied is one of the same graph
pub copied : (g : Graph) (x y : Layout) → IsLayoutOf g x → SameLayout x y → IsLayoutOf g y
copied g x y is same = record {
  rows = same.rows ∙ is.rows;
  widest = subst (IsWidest g) (sym same.words) is.widest;
  blocks = ap (λ (cs : List ℕ). length cs) same.cells ∙ is.blocks;
  cells = λ b low. ap (λ (cs : List ℕ). slice_get cs b) same.cells ∙ is.cells b low;
  root_cells = ap (λ (cs : List ℕ). slice_get cs g.block_count) same.cells ∙ is.root_cells;
}

-- with no block in hand one of the first two can be taken
pub can_take : (e : Setting) (v : View) → HasTwoBlocks e → v.hands ≡ [] → (b : ℕ) → b < 2 → CanTakeTurn e v b
can_take e v two none b low = let many = two.two in let root = two.root in record {
  low = omega (arith, low, many, root);
  free = none;
  of_root = λ is. absurd (omega (arith, is, low, many));
}

pub none_there : (t : Option Task) → is_some t ≡ false → t ≡ None
none_there None is = refl
none_there (Some t) is = cc

-- a seat without a task has no block in hand, and room in its scratch for each task
module _ (g : Graph) (e : Setting) (v : View) (t : Option Task) (s : Scratch) (sits : Sits g e v t s) (none : t ≡ None) where
  pub free_hands : v.hands ≡ []
  free_hands = (subst (WorksOn g e v) none sits.0).no_hands

  pub free_room : HasRoom g s
  free_room = subst (HasScratch g e s) none sits.1
