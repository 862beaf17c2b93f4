use Rattle.std.proofs.Common.{arith}
use Rattle.audit_checks.proofs.LeastTask.{twice_fault}
use Rattle.audit_checks.proofs.names.check_keys.Goals as goal

pub returns-then-keys-i-clause-err : goal.returns-then-keys-i-clause-err
returns-then-keys-i-clause-err c = λ sink.
    twice_fault c.args.tasks.now c.args.keys.now c.loop-i.i c.requires.keys c.requires.sorted c.loop-i.invariant (omega arith) (omega arith) c.if-keys-i.true
