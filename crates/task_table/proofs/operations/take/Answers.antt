use Rattle.core_state.specs.Change.{no_cells}
use Rattle.core_state.specs.Events.Event.{take_turn}
use Rattle.task_table.proofs.Allowed.{ready_low, take_allowed}
use Rattle.task_table.proofs.operations.take.Goals as goal

pub exchange_taking-requires-clause-table : goal.exchange_taking-requires-clause-table
exchange_taking-requires-clause-table g c = let q = c.requires in (q.table, ready_low g.C.Course.setting c.args.table.now.table_id c.args.seat.now.me.0 (take_turn c.args.block no_cells) c.args.word (record { wide = q.wide; seated = q.seated; live = q.live; can = q.can; word_is = q.word }))

pub exchange_taking-requires-clause-keeps : goal.exchange_taking-requires-clause-keeps
exchange_taking-requires-clause-keeps g c = let q = c.requires in take_allowed g.C.Course.setting c.args.table.now.table_id.slots c.args.seat.now.id c.args.seat.now.me q.live c.args.block q.can c.args.word q.word
