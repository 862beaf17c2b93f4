-- What the step of a strike leaves as it was: the lines, the spare credits and what the view knows.
use Rattle.std.proofs.Common.{◌≡◌, ◌∙◌, ℕ, false, List, [], ◌∷◌, Option, Some, None, refl}
use Rattle.graph_model.specs.declared.plan.Target.{Target}
use Rattle.graph_model.specs.declared.plan.Target.TheVariants as target
use Rattle.core_state.specs.Counts.{known_key}
use Rattle.core_state.specs.Effects.{read_items}
use Rattle.core_state.specs.Graph.{Setting}
use Rattle.core_state.specs.Events.{after}
use Rattle.core_state.specs.Lines.{Line, HasLines, flat, of}
use Rattle.core_state.specs.Outcome.{spare_left}
use Rattle.core_state.specs.declared.block.BlockCells.{BlockCells}
use Rattle.core_state.specs.declared.views.Item.{Item}
use Rattle.core_state.specs.declared.views.View.{View}
use Rattle.core_state.proofs.Lines.After.{misses_block, strikes_block, strikes_descriptor, strikes_notify, takes_turn}
use Rattle.core_state.proofs.Lines.Outcomes.{leaves}
use Rattle.core_state.proofs.Lines.Remembers.{names_row}
use Rattle.core_steps.specs.Seat.{cells_in}
use Rattle.block_store.specs.Turned.{blow_of, spoiled, struck_home}
use Rattle.block_store.specs.declared.answers.Blow.{Blow}
use Rattle.block_store.specs.declared.answers.Blow.TheVariants as blow
use Rattle.recovery.specs.Memory.{Remembers}
use Rattle.recovery.proofs.Knowing.{remembers_apart}
use Rattle.compute_notify.specs.Striking.{strike_event}
use Rattle.compute_notify.specs.declared.duty.Duty.{Duty}

home_spare : (e : Setting) (v : View) (k l b : ℕ) (x : BlockCells) (answer : Blow) → spare_left e (struck_home k l b answer x) v ≡ v.spare
home_spare e v k l b x blow.Landed = refl
home_spare e v k l b x blow.Missed = refl
home_spare e v k l b x blow.Busy = refl

home_row : (k l b : ℕ) (x : BlockCells) (answer : Blow) → names_row (struck_home k l b answer x) ≡ false
home_row k l b x blow.Landed = refl
home_row k l b x blow.Missed = refl
home_row k l b x blow.Busy = refl

module _ (e : Setting) (v : View) (duty : Duty) where
  spare_same : (on : Target) (h now : Option BlockCells) → spare_left e (strike_event e v duty on h now) v ≡ v.spare
  spare_same target.Descriptor h now = refl
  spare_same (target.Notify w) h now = refl
  spare_same target.Block None now = refl
  spare_same target.Block (Some x) now = home_spare e v duty.key.0 duty.life (e.graph.block duty.key.0) x (blow_of (e.graph.version duty.key.0) x)

  no_row : (on : Target) (h now : Option BlockCells) → names_row (strike_event e v duty on h now) ≡ false
  no_row target.Descriptor h now = refl
  no_row (target.Notify w) h now = refl
  no_row target.Block None now = refl
  no_row target.Block (Some x) now = home_row duty.key.0 duty.life (e.graph.block duty.key.0) x (blow_of (e.graph.version duty.key.0) x)

  module _ (w : View) (m : ℕ) (x : Item) (b : List Line) (top : flat v.stacks ≡ of x ∷ b) (reads_none : (a : ℕ) (was : BlockCells) → read_items e.graph a was (x ∷ []) ≡ x ∷ []) where
    home_lines : (block : ℕ) (was : BlockCells) (answer : Blow) → w ≡ after e (struck_home duty.key.0 duty.life block answer was) m v → HasLines e w (of x ∷ b)
    home_lines block was blow.Landed is = strikes_block e v w m duty.key.0 duty.life block was (spoiled was) (of x) b top is
    home_lines block was blow.Missed is = misses_block e v w m block was x b (reads_none block was) top is
    home_lines block was blow.Busy is = misses_block e v w m block was x b (reads_none block was) top is

    -- the item at whose point the strike is made stays on top of the others; finished, it goes with the step
    pub strike_lines : (on : Target) (h now : Option BlockCells) → w ≡ after e (strike_event e v duty on h now) m v → HasLines e w (of x ∷ b)
    strike_lines target.Descriptor h now is = strikes_descriptor e v w m (known_key duty.row v) duty.life (of x) b top is
    strike_lines (target.Notify a) h now is = strikes_notify e v w m (known_key duty.row v) duty.life a (of x) b top is
    strike_lines target.Block None now is = takes_turn e v w m (e.graph.block duty.key.0) (cells_in now) (of x) b top is
    strike_lines target.Block (Some was) now is = home_lines (e.graph.block duty.key.0) was (blow_of (e.graph.version duty.key.0) was) is

  module _ (w : View) (m : ℕ) (on : Target) (h now : Option BlockCells) (is : w ≡ after e (strike_event e v duty on h now) m v) where
    pub strike_spare : w.spare ≡ v.spare
    strike_spare = let a = leaves e (strike_event e v duty on h now) m v w is in a.spare_is ∙ spare_same on h now

    pub strike_remembers : Remembers v w
    strike_remembers = remembers_apart e (strike_event e v duty on h now) m v w (no_row on h now) is
