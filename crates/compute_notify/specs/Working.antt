-- The block that the topmost item has in hand.
use Rattle.std.specs.Prelude.{◌≡◌, ℕ, cond, nat_lt, [], ◌∷◌, Option, Some, None}
use Rattle.core_state.specs.Graph.{Graph, Setting}
use Rattle.core_state.specs.declared.block.BlockCells.{BlockCells}
use Rattle.core_state.specs.declared.views.View.{View}
use Rattle.block_store.specs.Turned.{IsTaken}
use Rattle.compute_notify.specs.Striking.{FitsHand}
use Rattle.compute_notify.specs.declared.compute.Phase.{Phase}
use Rattle.compute_notify.specs.declared.compute.Phase.TheVariants as phase
use Rattle.compute_notify.specs.declared.duty.Duty.{Duty}
use Rattle.compute_notify.specs.declared.item.After.{After}
use Rattle.compute_notify.specs.declared.item.Came.{Came}
use Rattle.compute_notify.specs.declared.item.Came.TheVariants as came
use Rattle.compute_notify.specs.declared.item.Item.{Item}
use Rattle.compute_notify.specs.declared.item.Item.TheVariants as item

-- nothing is in hand, or this block alone
abbrev pub HasBlock : Setting → View → ℕ → Option BlockCells → Type 0
HasBlock e v b None = v.hands ≡ []
HasBlock e v b (Some x) = IsTaken e v b x × (v.hands ≡ record { block = b; held = x } ∷ [])

-- the block of the input that is read, or the own one, whose result was made
abbrev pub block_at : Graph → ℕ → Phase → ℕ
block_at g k (phase.Ready made) = g.block k
block_at g k (phase.Reading input) = g.block (g.pred k input).task
block_at g k phase.Writing = g.block k

-- while all inputs are read and the result isn't made, nothing is in hand
abbrev pub ComputeHand : Setting → View → Duty → Phase → Option BlockCells → Type 0
ComputeHand e v duty (phase.Ready made) h = FitsHand e v duty.key.0 duty.life h
ComputeHand e v duty (phase.Reading input) h = cond (nat_lt input (e.graph.inputs duty.key.0)) (HasBlock e v (e.graph.block (e.graph.pred duty.key.0 input).task) h) ((v.hands ≡ []) × (h ≡ None))
ComputeHand e v duty phase.Writing h = HasBlock e v (e.graph.block duty.key.0) h

-- the block in hand while an item is topmost: for a strike at its point, to be read or to be written
abbrev pub FitsTop : Setting → View → Option BlockCells → Item → Type 0
FitsTop e v h (item.Explore x) = FitsHand e v x.duty.key.0 x.duty.life h
FitsTop e v h (item.Close c) = FitsHand e v c.duty.key.0 c.duty.life h
FitsTop e v h (item.Compute c) = ComputeHand e v c.duty c.phase h
FitsTop e v h _ = (v.hands ≡ []) × (h ≡ None)

abbrev pub left_hand : Setting → View → Option BlockCells → Option Item → Type 0
left_hand e v h None = (v.hands ≡ []) × (h ≡ None)
left_hand e v h (Some x) = FitsTop e v h x

-- the block in hand after a turn, for what is topmost then
abbrev pub came_hand : Setting → View → Option BlockCells → Came → Option Item → Type 0
came_hand e v h (came.Above x) left = FitsTop e v h x
came_hand e v h (came.Stack x) left = FitsTop e v h x
came_hand e v h _ left = left_hand e v h left

abbrev pub AfterHand : Setting → View → Option BlockCells → After → Type 0
AfterHand e v h a = came_hand e v h a.came a.left
