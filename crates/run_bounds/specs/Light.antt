-- How much is left of a task where a replacement is not counted before its election is won. So a suspect may come and go as often as another worker lets it.
use Rattle.std.specs.Prelude.{ℕ, ◌+◌, ◌-◌, List, [], ◌∷◌, Option, None}
use Rattle.graph_model.specs.declared.plan.Strike.{Strike}
use Rattle.graph_model.specs.declared.record.Cause.{Cause}
use Rattle.graph_model.specs.declared.record.Cause.TheVariants as cause
use Rattle.core_state.specs.Graph.{Setting}
use Rattle.core_state.specs.Lines.{Line, credit, of}
use Rattle.core_state.specs.declared.block.BlockCells.{BlockCells}
use Rattle.core_state.specs.declared.views.Item.{Item as Piece}
use Rattle.core_state.specs.declared.views.Item.TheVariants as line
use Rattle.recovery.specs.Resting.{phase_rest}
use Rattle.recovery.specs.declared.recover.Phase.{Phase}
use Rattle.recovery.specs.declared.recover.Phase.TheVariants as phase
use Rattle.compute_notify.specs.Resting.{item_rest, look_way_rest, suspect_rest}
use Rattle.compute_notify.specs.Tasks.{task_items}
use Rattle.compute_notify.specs.declared.item.Item.{Item}
use Rattle.compute_notify.specs.declared.item.Item.TheVariants as item
use Rattle.compute_notify.specs.declared.task.Task.{Task}

-- a suspect of a bad block, which is met once in a life, is left as one step; that of a mark as none
abbrev pub suspect_light : Cause → ℕ
suspect_light (cause.Block b v f) = 1
suspect_light _ = 0

abbrev pub phase_light : Setting → ℕ → Cause → Phase → ℕ
phase_light e k c phase.Suspect = suspect_light c
phase_light e k c x = phase_rest e k x

-- the same of an item; who looks at a writer stands for a suspect
abbrev pub item_light : Setting → List Strike → Option BlockCells → Item → ℕ
item_light e p h (item.Look x) = look_way_rest e.shape.rows x.way + suspect_rest e (e.graph.pred x.duty.key.0 x.input).task + suspect_light x.cause
item_light e p h (item.Recover r) = phase_light e r.key.0 r.cause r.phase
item_light e p h x = item_rest e p h x

-- the same of items; the block in hand is that of the last
abbrev pub items_light : Setting → List Strike → Option BlockCells → List Item → ℕ
items_light e p h [] = 0
items_light e p h (x ∷ []) = item_light e p h x
items_light e p h (x ∷ y ∷ ys) = item_light e p None x + items_light e p h (y ∷ ys)

abbrev pub task_light : Setting → List Strike → Task → ℕ
task_light e p t = items_light e p t.hand (task_items t)

-- how much less that is for a line
abbrev pub piece_weight : Setting → Piece → ℕ
piece_weight e (line.Suspect k l c waits) = suspect_rest e k - suspect_light c
piece_weight e _ = 0

-- for all lines
abbrev pub lines_weight : Setting → List Line → ℕ
lines_weight e [] = 0
lines_weight e (credit ∷ b) = lines_weight e b
lines_weight e (of x ∷ b) = piece_weight e x + lines_weight e b

-- the same of items above each other
abbrev pub pieces_weight : Setting → List Piece → ℕ
pieces_weight e [] = 0
pieces_weight e (x ∷ xs) = piece_weight e x + pieces_weight e xs
