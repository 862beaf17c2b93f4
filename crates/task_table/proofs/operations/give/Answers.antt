use Rattle.core_steps.specs.Kinds.{block_event}
use Rattle.task_table.specs.Moments.{first_block}
use Rattle.task_table.proofs.Allowed.{give_allowed, ready_low}
use Rattle.task_table.proofs.operations.give.Goals as goal

pub swap_giving-requires-clause-table : goal.swap_giving-requires-clause-table
swap_giving-requires-clause-table g c = let me = c.args.seat.now.me in (c.requires.table, ready_low g.C.Course.setting c.args.table.now.table_id me.0 (block_event me.0 c.args.kind c.args.block (first_block me.1)) c.args.word c.requires.ready)

pub swap_giving-requires-clause-keeps : goal.swap_giving-requires-clause-keeps
swap_giving-requires-clause-keeps g c = let r = c.requires.ready in let me = c.args.seat.now.me in
    give_allowed g.C.Course.setting c.args.table.now.table_id.slots c.args.seat.now.id me r.live c.args.kind c.args.block (first_block me.1) _ c.requires.gives r.can c.requires.lies c.args.word r.word_is
