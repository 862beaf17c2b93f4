-- The event of a turn, as a function of what is left. A row's key is the one that the view knows.
use Rattle.std.specs.Prelude.{ℕ, cond, nat_lt, false}
use Rattle.key_table.specs.Seeking.{Seeking, next_row}
use Rattle.core_state.specs.Counts.{known_key}
use Rattle.core_state.specs.Graph.{Setting}
use Rattle.core_state.specs.Events.{Event}
use Rattle.core_state.specs.Events.Event.{look, load_descriptor, load_stop, register, spend, elect, renew_notify, renew_descriptor, finish, post, buy}
use Rattle.core_state.specs.declared.views.View.{View}
use Rattle.core_steps.specs.Serving.{work_life, work_waits}
use Rattle.recovery.specs.declared.owe.Owe.{Owe}
use Rattle.recovery.specs.declared.recover.Phase.{Phase}
use Rattle.recovery.specs.declared.recover.Phase.TheVariants as phase
use Rattle.recovery.specs.declared.recover.Recover.{Recover}
use Rattle.recovery.specs.declared.reenter.Reenter.{Reenter}
use Rattle.recovery.specs.declared.reenter.Way.{Way}
use Rattle.recovery.specs.declared.reenter.Way.TheVariants as way

-- the search for a key that has passed no row yet, and makes none
abbrev pub first_search : ℕ → ℕ → Seeking
first_search key rows = record { key = key; rows = rows; passed = 0; makes = false }

-- a credit is bought for the job, or it is posted
abbrev pub owe_event : View → Owe → Event
owe_event v o = cond o.bought (post o.row o.job (known_key o.row v) o.life) buy

-- a step towards the successor of port q of k, whose row is r
abbrev pub way_event : Setting → View → ℕ → ℕ → ℕ → Way → Event
way_event e v r k q way.Start = look (next_row (first_search (e.graph.succ k q).task e.shape.rows))
way_event e v r k q (way.Seek s) = look (next_row s)
way_event e v r k q (way.Load at) = load_descriptor at (known_key at v)
way_event e v r k q (way.Register at) = register r (known_key r v) q
way_event e v r k q (way.Spend at) = spend at (known_key at v) (e.graph.succ k q).place

-- the event of a phase; where nothing is left no turn makes a step, and the event stands for none
abbrev pub phase_event : Setting → View → Recover → Phase → Event
phase_event e v r phase.Suspect = elect r.row (known_key r.row v) r.life r.cause (work_waits v)
phase_event e v r (phase.Renew done) = cond (nat_lt done (e.graph.notify_words r.key.0)) (renew_notify r.row (known_key r.row v) (work_life v) done) (renew_descriptor r.row (known_key r.row v) (work_life v))
phase_event e v r phase.Finish = finish r.row (known_key r.row v) (work_life v)
phase_event e v r (phase.Owe owe behind) = owe_event v owe
phase_event e v r (phase.Reenter reenter) = way_event e v r.row r.key.0 reenter.port reenter.way
phase_event e v r phase.Passed = load_stop
phase_event e v r phase.Over = load_stop

-- the event of the next turn
abbrev pub turn_event : Setting → View → Recover → Event
turn_event e v r = phase_event e v r r.phase
