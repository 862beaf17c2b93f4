use Rattle.task_table.proofs.Allowed.{look_allowed}
use Rattle.task_table.proofs.operations.glance.Goals as goal

pub load_only-requires-clause-keeps : goal.load_only-requires-clause-keeps
load_only-requires-clause-keeps g c = look_allowed g.C.Course.setting c.args.table.now.table_id.slots c.args.seat.now.id c.args.seat.now.me c.args.word
