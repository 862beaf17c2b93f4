-- Where no block is in hand, none is needed for what is topmost after a turn.
use Rattle.std.proofs.Common.{◌≡◌, nat_lt, Bool, true, false, cond, [], Option, Some, None, refl, subst, sym}
use Rattle.core_state.specs.Graph.{Setting}
use Rattle.core_state.specs.declared.block.BlockCells.{BlockCells}
use Rattle.core_state.specs.declared.views.View.{View}
use Rattle.compute_notify.specs.Working.{AfterHand, ComputeHand, FitsTop, HasBlock, came_hand, left_hand}
use Rattle.compute_notify.specs.declared.compute.Phase.{Phase}
use Rattle.compute_notify.specs.declared.compute.Phase.TheVariants as phase
use Rattle.compute_notify.specs.declared.duty.Duty.{Duty}
use Rattle.compute_notify.specs.declared.item.After.{After}
use Rattle.compute_notify.specs.declared.item.Came.{Came}
use Rattle.compute_notify.specs.declared.item.Came.TheVariants as came
use Rattle.compute_notify.specs.declared.item.Item.{Item}
use Rattle.compute_notify.specs.declared.item.Item.TheVariants as item

abbrev no_block : Option BlockCells
no_block = None

module _ (e : Setting) (w : View) (free : w.hands ≡ []) where
  compute_free : (duty : Duty) (p : Phase) → ComputeHand e w duty p None
  compute_free duty (phase.Ready made) = free
  compute_free duty (phase.Reading input) = by (nat_lt input (e.graph.inputs duty.key.0))
    where
      by : (b : Bool) → cond b (HasBlock e w (e.graph.block (e.graph.pred duty.key.0 input).task) None) ((w.hands ≡ []) × (no_block ≡ None))
      by true = free
      by false = (free, refl)
  compute_free duty phase.Writing = free

  pub top_free : (x : Item) → FitsTop e w None x
  top_free item.Credit = (free, refl)
  top_free (item.Explore x) = free
  top_free (item.Compute c) = compute_free c.duty c.phase
  top_free (item.Close c) = free
  top_free (item.Notify n) = (free, refl)
  top_free (item.Look x) = (free, refl)
  top_free (item.Owe o) = (free, refl)
  top_free (item.Recover r) = (free, refl)

  left_free : (o : Option Item) → left_hand e w None o
  left_free None = (free, refl)
  left_free (Some x) = top_free x

  came_free : (c : Came) (o : Option Item) → came_hand e w None c o
  came_free came.Nothing o = left_free o
  came_free (came.Above x) o = top_free x
  came_free (came.Stack x) o = top_free x
  came_free (came.Spent k l c) o = left_free o

  -- the block in hand after a turn that leaves none
  pub after_free : (h : Option BlockCells) (a : After) → h ≡ None → AfterHand e w h a
  after_free h a none = subst (λ x. AfterHand e w x a) (sym none) (came_free a.came a.left)
