use Rattle.core_steps.specs.Kinds.{event_of}
use Rattle.task_table.proofs.Allowed.{calm_allowed, ready_low}
use Rattle.task_table.proofs.operations.swap.Goals as goal

pub swap_told-requires-clause-table : goal.swap_told-requires-clause-table
swap_told-requires-clause-table g c = (c.requires.table, ready_low g.C.Course.setting c.args.table.now.table_id c.args.seat.now.me.0 (event_of c.args.seat.now.me.0 c.args.kind) c.args.word c.requires.ready)

pub swap_told-requires-clause-keeps : goal.swap_told-requires-clause-keeps
swap_told-requires-clause-keeps g c = let r = c.requires.ready in calm_allowed g.C.Course.setting c.args.table.now.table_id.slots c.args.seat.now.id c.args.seat.now.me r.live (event_of c.args.seat.now.me.0 c.args.kind) r.can c.args.word _ r.word_is c.requires.calm (λ n seen. c.requires.leaves n)
