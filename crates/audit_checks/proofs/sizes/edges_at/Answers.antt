use Rattle.std.proofs.Common.{arith}
use Rattle.audit_checks.proofs.EdgeCounts.{count_sink, count_other}
use Rattle.audit_checks.proofs.LeastTask.{keys_count}
use Rattle.audit_checks.proofs.sizes.edges_at.Goals as goal

pub bounds-keys-i : goal.bounds-keys-i
bounds-keys-i c = omega (arith, keys_count c.args.tasks.now c.args.keys.now c.requires.counted.is)

pub returns-then-keys-i : goal.returns-then-keys-i
returns-then-keys-i c = λ d. omega (
  arith,
  c.len.ensures,
  count_sink c.args.tasks.now c.args.sink c.args.keys.now c.args.succs.now c.args.i c.index-succs-i.result c.requires.counted c.requires.task (omega arith) c.index-succs-i.is c.if-keys-i.true d,
)

pub returns : goal.returns
returns c = λ d. omega (
  arith,
  c.len-2.ensures,
  count_other c.args.tasks.now c.args.sink c.args.keys.now c.args.succs.now c.args.i c.index-succs-i-2.result c.requires.counted c.requires.task (omega arith) c.index-succs-i-2.is c.if-keys-i.false d,
)
