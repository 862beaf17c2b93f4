-- What the caller of a table's key words is, where its view is known.
use Rattle.std.specs.Prelude.{◌≡◌, ℕ, zero, suc, ◌+◌, ◌<◌, List, Option, Some, None}
use Rattle.core_state.specs.Change.{no_cells, cells_or, held_in}
use Rattle.core_state.specs.Graph.{Setting}
use Rattle.core_state.specs.Words.{Spot, place_of}
use Rattle.core_state.specs.Counts.{items, word_in}
use Rattle.core_state.specs.Tests.{is_exploring, notifies, suspects_block}
use Rattle.core_state.specs.Events.{Event, at, after}
use Rattle.core_state.specs.Events.Event.{claim, look}
use Rattle.core_state.specs.Sure.{IsSure, IsFound}
use Rattle.core_state.specs.declared.block.BlockCells.{BlockCells}
use Rattle.core_state.specs.declared.views.View.{View}

-- the key that the number of a key word tells
abbrev pub key_in : ℕ → Option ℕ
key_in zero = None
key_in (suc k) = Some k

-- the key that the view knows of a row
abbrev pub known_of : View → ℕ → Option ℕ
known_of v r = key_in (word_in r v.known)

module _ (e : Setting) (v : View) (k : ℕ) where
  -- the view explores at a place that names the key
  pub record Explores : Type 0 where
    pub explorer : ℕ
    pub life : ℕ
    pub place : ℕ
    pub exploring : 0 < items (is_exploring explorer life place) v
    pub is_place : place < e.graph.places explorer
    pub names : (e.graph.pred explorer place).task ≡ k

  -- the view is to tell a port that leads to the key, or suspects a task for a version that the key writes
  pub data Awaits : Type 0 where
    by_port : (p q : ℕ) → 0 < items (notifies p q) v → (e.graph.succ p q).task ≡ k → Awaits
    by_block : (b u : ℕ) → 0 < items (suspects_block b u) v → e.graph.writer b u ≡ k → Awaits

-- a claim of a key, or a look, which has no key
abbrev pub key_event : ℕ → Option ℕ → Event
key_event r None = look r
key_event r (Some k) = claim r k

-- the row and the number of the last claim or look, once this event has found this number
abbrev pub last_after : Event → ℕ → ℕ × ℕ → ℕ × ℕ
last_after (claim r k) n last = (r, n)
last_after (look r) n last = (r, n)
last_after _ n last = last

-- the word at this spot was the last that the seat stepped on
abbrev pub Shows : Setting → Spot → ℕ × ℕ → Type 0
Shows e a shown = shown.0 ≡ place_of e.shape a

-- what no step of a seat changes: what is fixed for its table, what it borrows, what the other seats know and hold. And the seat's own view is as every view is.
pub record IsSameTable {S : Type 0} (setting : S → Setting) (view : S → View) (lender : S → List ℕ) (others : S → List View) (s t : S) : Type 0 where
  pub same_setting : setting t ≡ setting s
  pub same_lender : lender t ≡ lender s
  pub same_others : others t ≡ others s
  pub sure : IsSure (setting t) (view t)

-- one step of a seat: the event on the word at its spot, which held the number that is shown, and all that follows for the seat
pub record IsStep {S : Type 0} (setting : S → Setting) (view : S → View) (made : S → ℕ) (last shown : S → ℕ × ℕ) (happened : S → Event → ℕ → S → Type 0) (lender : S → List ℕ) (others : S → List View) (x : Event) (s t : S) : Type 0 where
  pub word : Shows (setting s) (at x) (shown t)
  pub view_is : view t ≡ after (setting s) x (shown t).1 (view s)
  pub one_made : made t ≡ made s + 1
  pub last_is : last t ≡ last_after x (shown t).1 (last s)
  -- the table's word held this number, and holds what the event leaves of it
  pub stepped : happened s x (shown t).1 t
  -- what the seat knew of the word is true of the number
  pub found : IsFound (setting s) (view s) (at x) (shown t).1
  pub table : IsSameTable setting view lender others s t

-- the steps that a seat has made: how many, the place and the number of the last word, and the row and the number of the last claim or look
pub record Trace : Type 0 where
  pub made : ℕ
  pub shown : ℕ × ℕ
  pub last : ℕ × ℕ

-- what the view has in hand of a block
abbrev pub hand_of : View → ℕ → BlockCells
hand_of v b = cells_or no_cells (held_in b v.hands)

-- the block, or one that was never written where there is none
abbrev pub cells_in : Option BlockCells → BlockCells
cells_in None = no_cells
cells_in (Some x) = x

-- a turn word of 0 gives the block, and one of 1 gives none
abbrev pub TurnTells : Option BlockCells → ℕ → Type 0
TurnTells None n = n ≡ 1
TurnTells (Some x) n = n ≡ 0
