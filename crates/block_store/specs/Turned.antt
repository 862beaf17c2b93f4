-- What the turn of a block asks of the view, and what it answers and leaves.
use Rattle.std.specs.Prelude.{◌≡◌, ℕ, ℤ, ◌+◌, ◌<◌, Bool, true, false, cond, List, ◌∷◌, Option, Some, None, length, map}
use Rattle.core_state.specs.Guards.{AtWork, InHand, MakesStrike, flipped}
use Rattle.core_state.specs.Change.{no_cells}
use Rattle.core_state.specs.Effects.{found_in, is_good}
use Rattle.core_state.specs.Graph.{Setting}
use Rattle.core_state.specs.Events.{Event, Event as event}
use Rattle.core_state.specs.declared.block.BlockCells.{BlockCells}
use Rattle.core_state.specs.declared.views.Item.{Item}
use Rattle.core_state.specs.declared.views.Item.TheVariants as item
use Rattle.core_state.specs.declared.views.View.{View}
use Rattle.core_steps.specs.Seat.{IsStep}
use Rattle.graph_model.specs.declared.record.Cause.TheVariants as cause
use Rattle.graph_model.specs.declared.plan.Target.TheVariants as target
use Rattle.block_store.specs.declared.answers.Blow.{Blow}
use Rattle.block_store.specs.declared.answers.Blow.TheVariants as blow
use Rattle.block_store.specs.declared.answers.Put.{Put}
use Rattle.block_store.specs.declared.answers.Put.TheVariants as put
use Rattle.block_store.specs.declared.answers.Read.{Read}
use Rattle.block_store.specs.declared.answers.Read.TheVariants as read

module _ (e : Setting) (v : View) (b : ℕ) where
  -- the block is in hand as this view took it: with as many cells as the graph says, and unstruck with the value of its version
  pub record IsTaken (x : BlockCells) : Type 0 where
    pub hand : InHand v b x
    pub cells : length x.cells ≡ e.graph.cells b
    pub value : x.struck ≡ false → 0 < x.tag → x.cells ≡ e.graph.value (e.graph.writer b x.tag)

  -- the computing at work reads this version of the block next
  pub record ReadsNext (version : ℕ) : Type 0 where
    pub key : ℕ
    pub life : ℕ
    pub read : ℕ
    pub made : Bool
    pub at_work : AtWork v (item.Compute key life true read made)
    pub is_input : read < e.graph.inputs key
    pub block_is : b ≡ e.graph.block (e.graph.pred key read).task
    pub version_is : version ≡ e.graph.version (e.graph.pred key read).task

  -- the computing at work is of this life of the key, has made its result, and writes this version of the block
  pub record WritesNext (key life version : ℕ) : Type 0 where
    pub read : ℕ
    pub at_work : AtWork v (item.Compute key life true read true)
    pub block_is : b ≡ e.graph.block key
    pub version_is : version ≡ e.graph.version key

  -- the next strike of the view is on the block, in which this life of the key writes this version
  pub record StrikesNext (key life version : ℕ) : Type 0 where
    pub strikes : MakesStrike e v key life target.Block
    pub block_is : b ≡ e.graph.block key
    pub version_is : version ≡ e.graph.version key

-- what reading this version answers of a block that was taken: good where it holds the version unstruck, else bad with what was found
abbrev pub read_of : ℕ → BlockCells → Read
read_of version x = cond (is_good version x) read.Good (read.Bad (found_in version x))

-- the item at work after a reading: one more input was read, or the computing is suspected for the bad block
abbrev pub read_item : ℕ → ℕ → Read → Item → Item
read_item b version read.Good (item.Compute k l loaded n made) = item.Compute k l loaded (n + 1) made
read_item b version (read.Bad found) (item.Compute k l loaded n made) = item.Suspect k l (cause.Block b version found) false
read_item b version _ x = x

-- the block with a version's cells, unstruck
abbrev pub filled : ℕ → List ℤ → BlockCells
filled version cells = record { tag = version; struck = false; cells = cells }

-- the block struck: its mark set, and each cell complemented
abbrev pub spoiled : BlockCells → BlockCells
spoiled x = record { tag = x.tag; struck = true; cells = map flipped x.cells }

-- what a strike answers of a block that was taken: it lands where the version stands there unstruck
abbrev pub blow_of : ℕ → BlockCells → Blow
blow_of version x = cond (is_good version x) blow.Landed blow.Missed

-- the strikes that the view has made: a strike is made whether it lands or misses
abbrev pub strikes_of : Blow → ℕ → List ℕ → List ℕ
strikes_of blow.Busy n made = made
strikes_of _ n made = n ∷ made

-- how the block goes home: struck where the strike landed, and else as it was
abbrev pub struck_home : ℕ → ℕ → ℕ → Blow → BlockCells → Event
struck_home key life b blow.Landed x = event.give_struck key life b x (spoiled x)
struck_home key life b _ x = event.give_read b x

-- the event by which a reading brings the block home: none where the block wasn't to be had
abbrev pub read_home : ℕ → Read → Option (BlockCells → Event)
read_home b read.Busy = None
read_home b _ = Some (event.give_read b)

-- the event by which a writing brings the block home
abbrev pub put_home : ℕ → ℕ → ℕ → ℕ → List ℤ → Put → Option (BlockCells → Event)
put_home key life b version cells put.Busy = None
put_home key life b version cells put.Done = Some (λ x. event.give_written key life b x (filled version cells))

-- the event by which a strike brings the block home
abbrev pub blow_home : ℕ → ℕ → ℕ → Blow → Option (BlockCells → Event)
blow_home key life b blow.Busy = None
blow_home key life b answer = Some (struck_home key life b answer)

module _ {S : Type 0} (setting : S → Setting) (view : S → View) (made : S → ℕ) (last shown : S → ℕ × ℕ) (happened : S → Event → ℕ → S → Type 0) (lender : S → List ℕ) (others : S → List View) (b : ℕ) where
  -- the block wasn't to be had: the seat made one step, on the block's turn word, which was 1
  pub record IsBusy (s t : S) : Type 0 where
    pub step : IsStep setting view made last shown happened lender others (event.take_turn b no_cells) s t
    pub taken : (shown t).1 ≡ 1

  -- the seat made two steps: it took the block, by what the block was it answers this, and with this event it brought the block home
  pub record HasTurned {A : Type 0} (answer : A) (told : BlockCells → A) (home : BlockCells → Event) (s t : S) : Type 0 where
    pub middle : S
    pub was : BlockCells
    pub takes : IsStep setting view made last shown happened lender others (event.take_turn b was) s middle
    pub free : (shown middle).1 ≡ 0
    pub is_taken : IsTaken (setting middle) (view middle) b was
    pub is_told : answer ≡ told was
    pub goes_home : IsStep setting view made last shown happened lender others (home was) middle t

  -- what a whole call on a block does, by the event that brings the block home, or none
  abbrev pub Turns : {A : Type 0} → A → (BlockCells → A) → Option (BlockCells → Event) → S → S → Type 0
  Turns answer told None s t = IsBusy s t
  Turns answer told (Some home) s t = HasTurned answer told home s t
