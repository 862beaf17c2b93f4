-- The event of a turn, as a function of the item. A row's key is the one that the view knows.
use Rattle.std.specs.Prelude.{ℕ, ◌/◌, Bool, true, false, ◌&&◌, not, cond, nat_lt, eqb, List, Option, Some, None}
use Rattle.graph_model.specs.Notes.{Note, noted as told_note}
use Rattle.graph_model.specs.declared.plan.Strike.{Strike}
use Rattle.key_table.specs.Seeking.{next_row}
use Rattle.core_state.specs.Counts.{known_key}
use Rattle.core_state.specs.Effects.{after_computed}
use Rattle.core_state.specs.Graph.{Graph, Setting}
use Rattle.core_state.specs.Events.{Event}
use Rattle.core_state.specs.Events.Event.{claim, look, load_descriptor, load_notify, register, spend, close, drop_credit, take_turn, give_read, give_written}
use Rattle.core_state.specs.Packed.{notify_word}
use Rattle.core_state.specs.Rooted.{root_key}
use Rattle.core_state.specs.declared.block.BlockCells.{BlockCells}
use Rattle.core_state.specs.declared.views.View.{View}
use Rattle.core_steps.specs.Seat.{cells_in}
use Rattle.block_store.specs.Turned.{filled}
use Rattle.recovery.specs.Happening.{first_search, owe_event, turn_event}
use Rattle.recovery.specs.Owing.{owe_hints}
use Rattle.recovery.specs.Recovering.{makes_step, turn_hints}
use Rattle.compute_notify.specs.Items.{first_port}
use Rattle.compute_notify.specs.Striking.{seen_word, strike_event, strike_left}
use Rattle.compute_notify.specs.declared.close.Close.{Close}
use Rattle.compute_notify.specs.declared.compute.Compute.{Compute}
use Rattle.compute_notify.specs.declared.compute.Phase.{Phase}
use Rattle.compute_notify.specs.declared.compute.Phase.TheVariants as phase
use Rattle.compute_notify.specs.declared.duty.Duty.{Duty}
use Rattle.compute_notify.specs.declared.explore.Explore.{Explore}
use Rattle.compute_notify.specs.declared.explore.Way.{Way as Reaching}
use Rattle.compute_notify.specs.declared.explore.Way.TheVariants as reaching
use Rattle.compute_notify.specs.declared.item.Item.{Item}
use Rattle.compute_notify.specs.declared.item.Item.TheVariants as item
use Rattle.compute_notify.specs.declared.look.Look.{Look}
use Rattle.compute_notify.specs.declared.look.Way.{Way as Looking}
use Rattle.compute_notify.specs.declared.look.Way.TheVariants as looking
use Rattle.compute_notify.specs.declared.notify.Notify.{Notify}
use Rattle.compute_notify.specs.declared.notify.Way.{Way as Telling}
use Rattle.compute_notify.specs.declared.notify.Way.TheVariants as telling
use Rattle.compute_notify.specs.declared.strikes.Next.{Next}

-- a step at a place of an exploring
abbrev pub explore_event : Setting → View → Explore → Reaching → Event
explore_event e v x reaching.Start = claim (next_row (first_search (e.graph.pred x.duty.key.0 x.place).task e.shape.rows)) (e.graph.pred x.duty.key.0 x.place).task
explore_event e v x (reaching.Seek s) = claim (next_row s) s.key
explore_event e v x (reaching.Register r) = register r (known_key r v) (e.graph.pred x.duty.key.0 x.place).port
explore_event e v x reaching.Spend = spend x.duty.row (known_key x.duty.row v) x.place

-- a step at a place, or the spending of the self place behind the last
abbrev pub explored_event : Setting → View → Explore → Event
explored_event e v x = cond (nat_lt x.place (e.graph.places x.duty.key.0)) (explore_event e v x x.way) (spend x.duty.row (known_key x.duty.row v) 40)

-- the exchange of the word as it is taken to be
abbrev pub close_event : View → Close → Event
close_event v c = close c.duty.row (known_key c.duty.row v) c.duty.life c.word (notify_word (seen_word c.duty.life c.seen))

-- a step for the lowest port of a telling
abbrev pub notify_event : Setting → View → Notify → Telling → Event
notify_event e v n telling.Start = look (next_row (first_search (e.graph.succ n.key.0 (first_port n)).task e.shape.rows))
notify_event e v n (telling.Seek s) = look (next_row s)
notify_event e v n (telling.Spend r) = spend r (known_key r v) (e.graph.succ n.key.0 (first_port n)).place

-- a step towards the writer of a bad block
abbrev pub look_event : Setting → View → Look → Looking → Event
look_event e v x looking.Start = look (next_row (first_search (e.graph.pred x.duty.key.0 x.input).task e.shape.rows))
look_event e v x (looking.Seek s) = look (next_row s)
look_event e v x (looking.Load r) = load_notify r (known_key r v) ((e.graph.pred x.duty.key.0 x.input).port / 40)

-- the block of an input is taken, or goes home as it was
abbrev pub reading_event : ℕ → Option BlockCells → Option BlockCells → Event
reading_event b None now = take_turn b (cells_in now)
reading_event b (Some x) now = give_read b x

-- the own block is taken, or goes home with the value
abbrev pub writing_event : Setting → Option BlockCells → Option BlockCells → Duty → Event
writing_event e None now duty = take_turn (e.graph.block duty.key.0) (cells_in now)
writing_event e (Some x) now duty = give_written duty.key.0 duty.life (e.graph.block duty.key.0) x (filled (e.graph.version duty.key.0) (e.graph.value duty.key.0))

abbrev pub phase_event : Setting → View → Option BlockCells → Option BlockCells → Duty → Phase → Event
phase_event e v h now duty (phase.Ready made) = load_descriptor duty.row (known_key duty.row v)
phase_event e v h now duty (phase.Reading input) = cond (nat_lt input (e.graph.inputs duty.key.0)) (reading_event (e.graph.block (e.graph.pred duty.key.0 input).task) h now) (writing_event e h now duty)
phase_event e v h now duty phase.Writing = writing_event e h now duty

-- The event of an item away from strikes; h is the block in hand before, and now the one after.
abbrev pub plain_event : Setting → View → Option BlockCells → Option BlockCells → Item → Event
plain_event e v h now item.Credit = drop_credit
plain_event e v h now (item.Explore x) = explored_event e v x
plain_event e v h now (item.Compute c) = phase_event e v h now c.duty c.phase
plain_event e v h now (item.Close c) = close_event v c
plain_event e v h now (item.Notify n) = notify_event e v n n.way
plain_event e v h now (item.Look x) = look_event e v x x.way
plain_event e v h now (item.Owe o) = owe_event v o
plain_event e v h now (item.Recover r) = turn_event e v r

-- whose strike is made at the point of an item; that of other items is never asked
abbrev pub duty_of : Item → Duty
duty_of (item.Explore x) = x.duty
duty_of (item.Compute c) = c.duty
duty_of (item.Close c) = c.duty
duty_of _ = record { row = 0; key = record { 0 = 0 }; life = 0 }

-- a strike comes first, where one is left at the item's point
abbrev pub with_strike : Setting → View → Option BlockCells → Option BlockCells → Item → Option Next → Event
with_strike e v h now x None = plain_event e v h now x
with_strike e v h now x (Some next) = strike_event e v (duty_of x) next.target h now

abbrev pub item_event : Setting → View → List Strike → Option BlockCells → Option BlockCells → Item → Event
item_event e v strikes h now x = with_strike e v h now x (strike_left e.graph strikes x)

abbrev pub compute_event : Setting → View → List Strike → Option BlockCells → Option BlockCells → Compute → Event
compute_event e v strikes h now c = item_event e v strikes h now (item.Compute c)

-- all inputs were read, and the result is made in this turn
abbrev pub computes : Graph → Compute → Phase → Bool
computes g c (phase.Reading input) = not (nat_lt input (g.inputs c.duty.key.0))
computes g c (phase.Ready made) = false
computes g c phase.Writing = false

-- the view from which the step is made: with the result, where it is made in this turn
abbrev pub prepared : Graph → Compute → View → View
prepared g c v = cond (computes g c c.phase) (after_computed c.duty.key.0 c.duty.life v) v

-- the kernel's calls, with this one where it is made; the root's result is its input
abbrev pub calls_after : Graph → Compute → Option (List Note) → Option (List Note)
calls_after g c calls = cond (computes g c c.phase && not (eqb c.duty.key.0 root_key)) (told_note calls (c.duty.key.0, c.duty.life)) calls

-- the same for any item
abbrev pub item_prepared : Graph → Item → View → View
item_prepared g (item.Compute c) v = prepared g c v
item_prepared g _ v = v

abbrev pub item_calls : Graph → Item → Option (List Note) → Option (List Note)
item_calls g (item.Compute c) calls = calls_after g c calls
item_calls g _ calls = calls

-- a post hints at its row
abbrev pub item_hints : Item → List ℕ → List ℕ
item_hints (item.Owe o) rows = owe_hints o rows
item_hints (item.Recover r) rows = turn_hints r.phase rows
item_hints _ rows = rows

-- the next turn of the item makes a step
abbrev pub steps_on : Item → Bool
steps_on (item.Recover r) = makes_step r
steps_on _ = true
