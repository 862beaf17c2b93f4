use Rattle.std.proofs.Common.{arith}
use Rattle.task_table.proofs.Allowed.{make_allowed}
use Rattle.task_table.proofs.operations.make.Goals as goal

pub load_made-requires-clause-table : goal.load_made-requires-clause-table
load_made-requires-clause-table g c = (c.requires.table, let a = c.requires.wide.0 in omega (arith, a))

pub load_made-requires-clause-keeps : goal.load_made-requires-clause-keeps
load_made-requires-clause-keeps g c = make_allowed g.C.Course.setting c.args.table.now.table_id.slots c.args.seat.now.id c.args.seat.now.me c.requires.live c.args.key c.args.life c.requires.can
