use Rattle.std.proofs.Common.{length, arith}
use Rattle.audit_cycles.proofs.Searching.{named_at, named_within}
use Rattle.audit_cycles.proofs.CycleLaws.{high_all}
use Rattle.audit_cycles.proofs.cycles.highest.Goals as goal

pub bounds-numbers-p : goal.bounds-numbers-p
bounds-numbers-p c = named_within (length c.args.numbers.now) c.args.named.now _ c.requires (named_at c.args.named.now c.loop-p.p-index (omega arith))

pub returns : goal.returns
returns c = high_all c.args.numbers.now c.args.named.now c.loop-p.p-index c.loop-p.high c.loop-p.invariant (omega arith)
