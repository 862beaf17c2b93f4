-- What one step tells the seat that makes it.
use Rattle.std.specs.Prelude.{◌≡◌, ◌≢◌, ℕ, ◌<◌, ◌^◌, ◌==◌, Bool, false, List, [], ◌∷◌, length, slice_index, slice_set, Option, Some, None}
use mathlib.Core.Option.{some}
use lib.ListN.{get_elem?}
use Rattle.atomic_table.specs.Table.{Me}
use Rattle.core_state.specs.Graph.{Setting}
use Rattle.core_state.specs.Change.{no_cells}
use Rattle.core_state.specs.Effects.{after_computed}
use Rattle.atomic_table.specs.Seated.{TableId}
use Rattle.core_state.specs.Events.{Event, Event as event, after, at, Can}
use Rattle.core_state.specs.Words.{place_of, stop}
use Rattle.core_state.specs.declared.block.BlockCells.{BlockCells}
use Rattle.core_state.specs.declared.views.Hand.{Hand}
use Rattle.core_state.specs.declared.views.View.{View}
use Rattle.core_steps.specs.Seat.{cells_in}
use Rattle.core_steps.specs.Table.{WordsAfter, word_count}
use Rattle.task_table.specs.Kept.{Board, Kept}

-- a seat of a shared table, as its view and slots
abbrev pub Mine : Type 0
Mine = Me (Option BlockCells) View

-- some shared table that keeps its rule has a seat with this view
pub record Seated (e : Setting) (v : View) : Type 0 where
  pub board : Board
  pub kept : Kept e board
  pub seat : ℕ
  pub here : get_elem? board.views seat ≡ some v

-- at a moment when a seat had this view, the word at this place held the number
pub record Glance (e : Setting) (word : ℕ) (v : View) (n : ℕ) : Type 0 where
  pub seated : Seated e v
  pub found_is : n ≡ slice_index seated.board.words word
  pub few : n < 2 ^ 64

-- the moment of a step: the table before it and after it, which both keep the rule; a seat's view becomes another and all others stay, and one word, which held the number, becomes what the event leaves of it
pub record Moment (e : Setting) (x : Event) (n : ℕ) (v w : View) : Type 0 where
  pub before : Board
  pub now : Board
  pub seat : ℕ
  pub kept_before : Kept e before
  pub kept_now : Kept e now
  pub was : get_elem? before.views seat ≡ some v
  pub views_are : now.views ≡ slice_set before.views seat w
  pub words_are : WordsAfter e x n before.words now.words

-- a step of a seat with view v, which found the number: its view and slots now, and the moment
pub record Did (e : Setting) (x : Event) (slots : List (ℕ × Option BlockCells)) (v : View) (n : ℕ) (now : Mine) : Type 0 where
  pub view_is : now.0 ≡ after e x n v
  pub slots_are : now.1 ≡ slots
  pub moment : Moment e x n v now.0

-- a seat has taken block b, which lies in its slot
pub record Taken (e : Setting) (b : ℕ) (me now : Mine) : Type 0 where
  pub block : BlockCells
  pub did : Did e (event.take_turn b block) ((b, Some block) ∷ me.1) me.0 0 now
  pub sized : length block.cells ≡ e.graph.cells b
  -- unstruck, it holds the value of its version
  pub good : block.struck ≡ false → 0 < block.tag → block.cells ≡ e.graph.value (e.graph.writer b block.tag)

-- a seat was to take block b: the number 0 gives it, and else another has it
pub record Took (e : Setting) (b : ℕ) (me : Mine) (n : ℕ) (now : Mine) : Type 0 where
  pub taken : n ≡ 0 → Taken e b me now
  pub refused : n ≢ 0 → (n ≡ 1) × Did e (event.take_turn b no_cells) me.1 me.0 n now

-- a result was made, which enters the view without a step
pub record Made (e : Setting) (k l : ℕ) (me now : Mine) : Type 0 where
  pub view_is : now.0 ≡ after_computed k l me.0
  pub slots_are : now.1 ≡ me.1
  pub seated : Seated e now.0

-- a look that is no step
pub record Looked (e : Setting) (word : ℕ) (me : Mine) (n : ℕ) (now : Mine) : Type 0 where
  pub same : now ≡ me
  pub glance : Glance e word me.0 n

-- the table was stopped at a moment when a seat had this view, or was not
pub record StopSeen (e : Setting) (v : View) (stopped : Bool) : Type 0 where
  pub found : ℕ
  pub glance : Glance e (place_of e.shape stop) v found
  pub told_is : stopped ≡ (found == 1)

-- the slots of the blocks in hand, whose blocks were taken out
abbrev pub emptied : List Hand → List (ℕ × Option BlockCells)
emptied [] = []
emptied (x ∷ xs) = (x.block, None) ∷ emptied xs

-- the block that lies in the slot that was taken last
abbrev pub first_block : List (ℕ × Option BlockCells) → BlockCells
first_block [] = no_cells
first_block (x ∷ xs) = cells_in x.1

-- the table has so many words and slots
abbrev pub IsWide : Setting → TableId → Type 0
IsWide e z = (z.words ≡ word_count e.shape) × (z.slots ≡ e.shape.blocks)

-- a seat with a share of the table may make this event on the word at this place
pub record IsReady (e : Setting) (z : TableId) (v : View) (x : Event) (word : ℕ) : Type 0 where
  pub wide : IsWide e z
  pub seated : Seated e v
  pub live : 0 < v.parts
  pub can : Can e v x
  pub word_is : word ≡ place_of e.shape (at x)
