-- What is left of a task is what is left without its suspects, and what the suspects among its lines weigh.
use Rattle.std.proofs.Common.{◌≡◌, ℕ, ◌+◌, ◌≤◌, Bool, true, false, cond, List, [], ◌∷◌, Option, None, arith, refl, ap, ◌∙◌}
use Rattle.graph_model.specs.declared.plan.Strike.{Strike}
use Rattle.graph_model.specs.declared.record.Cause.{Cause}
use Rattle.graph_model.specs.declared.record.Cause.TheVariants as cause
use Rattle.core_state.specs.Graph.{Graph, Plan, Setting}
use Rattle.core_state.specs.Lines.{Line, HasLines, credit, flat, of, settled}
use Rattle.core_state.specs.Views.{is_finished}
use Rattle.core_state.specs.declared.block.BlockCells.{BlockCells}
use Rattle.core_state.specs.declared.views.Item.{Item as Piece}
use Rattle.core_state.specs.declared.views.Item.TheVariants as line
use Rattle.core_state.specs.declared.views.View.{View}
use Rattle.recovery.specs.Recovering.{phase_lines}
use Rattle.recovery.specs.Resting.{phase_rest}
use Rattle.recovery.specs.declared.recover.Phase.{Phase}
use Rattle.recovery.specs.declared.recover.Phase.TheVariants as phase
use Rattle.compute_notify.specs.Items.{compute_lines, item_lines}
use Rattle.compute_notify.specs.Resting.{item_rest, suspect_rest}
use Rattle.compute_notify.specs.Tasks.{items_rest, stacked, task_items, task_rest}
use Rattle.compute_notify.specs.declared.compute.Phase.{Phase as Computing}
use Rattle.compute_notify.specs.declared.compute.Phase.TheVariants as computing
use Rattle.compute_notify.specs.declared.duty.Duty.{Duty}
use Rattle.compute_notify.specs.declared.item.Item.{Item}
use Rattle.compute_notify.specs.declared.item.Item.TheVariants as item
use Rattle.compute_notify.specs.declared.task.Task.{Task}
use Rattle.run_bounds.specs.Light.{item_light, items_light, lines_weight, phase_light, piece_weight, suspect_light, task_light}

-- a suspect weighs no more than its replacement
pub light_low : (e : Setting) (k : ℕ) (c : Cause) → suspect_light c ≤ suspect_rest e k
light_low e k (cause.Block b v f) = omega arith
light_low e k cause.Descriptor = omega arith
light_low e k cause.Notify = omega arith

module _ (e : Setting) where
  phase_is : (k l : ℕ) (c : Cause) (waits : Bool) (x : Phase) (b : List Line) → phase_rest e k x + lines_weight e b ≡ phase_light e k c x + lines_weight e (phase_lines e.graph k l c waits x b)
  phase_is k l c waits phase.Suspect b = let a = light_low e k c in omega (arith, a)
  phase_is k l c waits (phase.Renew done) b = omega arith
  phase_is k l c waits phase.Finish b = omega arith
  phase_is k l c waits (phase.Owe owe behind) b = omega arith
  phase_is k l c waits (phase.Reenter reenter) b = omega arith
  phase_is k l c waits phase.Passed b = omega arith
  phase_is k l c waits phase.Over b = omega arith

  computing_is : (duty : Duty) (x : Computing) (b : List Line) → lines_weight e (compute_lines e.graph duty x b) ≡ lines_weight e b
  computing_is duty (computing.Ready made) b = omega arith
  computing_is duty (computing.Reading input) b = omega arith
  computing_is duty computing.Writing b = omega arith

  module _ (p : List Strike) where
    item_is : (h : Option BlockCells) (x : Item) (b : List Line) → item_rest e p h x + lines_weight e b ≡ item_light e p h x + lines_weight e (item_lines e.graph x b)
    item_is h item.Credit b = omega arith
    item_is h (item.Explore x) b = omega arith
    item_is h (item.Compute c) b = let a = computing_is c.duty c.phase b in omega (arith, a)
    item_is h (item.Close c) b = omega arith
    item_is h (item.Notify n) b = omega arith
    item_is h (item.Look k) b = let a = light_low e k.duty.key.0 k.cause in omega (arith, a)
    item_is h (item.Owe o) b = omega arith
    item_is h (item.Recover r) b = phase_is r.key.0 r.life r.cause r.wait r.phase b

    pub items_are : (h : Option BlockCells) (xs : List Item) (b : List Line) → items_rest e p h xs + lines_weight e b ≡ items_light e p h xs + lines_weight e (stacked e.graph xs b)
    items_are h [] b = omega arith
    items_are h (x ∷ []) b = item_is h x b
    items_are h (x ∷ y ∷ ys) b = let a = item_is None x b in let c = items_are h (y ∷ ys) (item_lines e.graph x b) in omega (arith, a, c)

  -- what is finished weighs nothing
  finished_weighs : (g : Graph) (p : Plan) (made : List ℕ) (x : Piece) → is_finished g p made x ≡ true → piece_weight e x ≡ 0
  finished_weighs g p made (line.Suspect k l c waits) is = absurd cc
  finished_weighs g p made (line.Explore k l j) is = refl
  finished_weighs g p made (line.Compute k l loaded read m) is = refl
  finished_weighs g p made (line.Close k l w) is = refl
  finished_weighs g p made (line.Notify k l w qs) is = refl
  finished_weighs g p made (line.Renew k l d) is = refl
  finished_weighs g p made (line.Reenter k l qs) is = refl
  finished_weighs g p made (line.Owe k i l) is = refl

  settled_weighs : (g : Graph) (p : Plan) (made : List ℕ) (b : List Line) → lines_weight e (settled g p made b) ≡ lines_weight e b
  settled_weighs g p made [] = refl
  settled_weighs g p made (credit ∷ b) = refl
  settled_weighs g p made (of x ∷ b) = by (settled_weighs g p made b) (is_finished g p made x) refl
    where
      by : lines_weight e (settled g p made b) ≡ lines_weight e b → (c : Bool) → is_finished g p made x ≡ c → lines_weight e (cond c (settled g p made b) (of x ∷ b)) ≡ piece_weight e x + lines_weight e b
      by same true is = let z = finished_weighs g p made x is in omega (arith, same, z)
      by same false is = refl

  pub lines_weigh : (v : View) (ls : List Line) → HasLines e v ls → lines_weight e (flat v.stacks) ≡ lines_weight e ls
  lines_weigh v ls lines = ap (lines_weight e) lines.lines_are ∙ settled_weighs e.graph e.plan v.strikes ls

  -- a task whose lines are those of the view
  pub task_is : (p : List Strike) (v : View) (t : Task) → HasLines e v (stacked e.graph (task_items t) []) → task_rest e p t ≡ task_light e p t + lines_weight e (flat v.stacks)
  task_is p v t lines = let a = items_are p t.hand (task_items t) [] in let b = lines_weigh v (stacked e.graph (task_items t) []) lines in omega (arith, a, b)
