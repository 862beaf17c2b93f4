-- The step that a call of a seat is.
use Rattle.std.specs.Prelude.{ℕ, Bool, true, false, eqb}
use Rattle.core_state.specs.Change.{no_cells}
use Rattle.core_state.specs.Counts.{known_key}
use Rattle.core_state.specs.Events.{Event, Event as event}
use Rattle.core_state.specs.declared.block.BlockCells.{BlockCells}
use Rattle.core_state.specs.declared.views.View.{View}
use Rattle.core_steps.specs.Seat.{hand_of}
use Rattle.core_steps.specs.Serving.{work_life, work_waits}
use Rattle.core_steps.specs.declared.kinds.BlockKind.{BlockKind}
use Rattle.core_steps.specs.declared.kinds.BlockKind.TheVariants.{TakeTurn, GiveRead, GiveWritten, GiveStruck}
use Rattle.core_steps.specs.declared.kinds.Kind.{Kind}
use Rattle.core_steps.specs.declared.kinds.Kind.TheVariants.{Claim, Look, LoadPending, LoadStop, Post, Take, Register, Spend, Buy, DropCredit, Stop, LoadDescriptor, LoadNotify, LoadRecovery, RefuseTurn, Close, RenewNotify, RenewDescriptor, Finish, StrikeDescriptor, StrikeNotify, Elect}

-- the event of the view; the key of a row is the one that the view knows
abbrev pub event_of : View → Kind → Event
event_of v (Claim row key) = event.claim row key
event_of v (Look row) = event.look row
event_of v LoadPending = event.load_pending
event_of v LoadStop = event.load_stop
event_of v (Post row job life) = event.post row job (known_key row v) life
event_of v (Take row job) = event.take row job (known_key row v)
event_of v (Register row port) = event.register row (known_key row v) port
event_of v (Spend row place) = event.spend row (known_key row v) place
event_of v Buy = event.buy
event_of v DropCredit = event.drop_credit
event_of v Stop = event.halt
event_of v (LoadDescriptor row) = event.load_descriptor row (known_key row v)
event_of v (LoadNotify row word) = event.load_notify row (known_key row v) word
event_of v (LoadRecovery row) = event.load_recovery row (known_key row v)
event_of v (Close row life word seen) = event.close row (known_key row v) life word seen
event_of v (RefuseTurn b) = event.take_turn b no_cells
event_of v (RenewNotify row word) = event.renew_notify row (known_key row v) (work_life v) word
event_of v (RenewDescriptor row) = event.renew_descriptor row (known_key row v) (work_life v)
event_of v (Finish row) = event.finish row (known_key row v) (work_life v)
event_of v (StrikeDescriptor row) = event.strike_descriptor row (known_key row v) (work_life v)
event_of v (StrikeNotify row word) = event.strike_notify row (known_key row v) (work_life v) word
event_of v (Elect row life cause) = event.elect row (known_key row v) life cause (work_waits v)

-- the event of the view on the turn of the block b, which is given with what it holds then
abbrev pub block_event : View → BlockKind → ℕ → BlockCells → Event
block_event v TakeTurn b x = event.take_turn b x
block_event v GiveRead b x = event.give_read b x
block_event v (GiveWritten key life) b x = event.give_written key life b (hand_of v b) x
block_event v (GiveStruck key life) b x = event.give_struck key life b (hand_of v b) x

-- whether an event that finds the number n moves a block
abbrev pub moves_block : Event → ℕ → Bool
moves_block (event.take_turn b x) n = eqb n 0
moves_block (event.give_read b x) n = true
moves_block (event.give_written key life b x y) n = true
moves_block (event.give_struck key life b x y) n = true
moves_block _ n = false

-- whether a block is given
abbrev pub gives : BlockKind → Bool
gives TakeTurn = false
gives GiveRead = true
gives (GiveWritten key life) = true
gives (GiveStruck key life) = true
