use Rattle.std.proofs.Common.{◌<◌, ◌-◌, ℕ, Option, length, ap, arith, rules}
use Rattle.std.proofs.lemmas.List.{length-replicate}
use Rattle.audit_blocks.specs.Versions.{at, entry}
use Rattle.audit_blocks.proofs.NextLemmas.{next_all, next_none, next_same, next_more}
use Rattle.audit_blocks.proofs.readers.next_writers.Goals.{then-before-here, else-before-here}
use Rattle.audit_blocks.proofs.readers.next_writers.Goals as goal

pub loop-i-init : goal.loop-i-init
loop-i-init c = (
  next_none c.args.written.now c.args.count c.in_ok-nexts.nexts.items c.in_ok-nexts.ensures,
  omega (arith, ap length c.in_ok-nexts.ensures, length-replicate {A = Option ℕ}),
)

pub loop-i-preserved : goal.loop-i-preserved
loop-i-preserved c = elim c.if-before-here.branch [
  | then-before-here w ↦
      let low : (at c.args.written.now (c.loop-i.i - 1)).writer < c.args.count = c.requires.inside (c.loop-i.i - 1) (entry 0 0 0) (omega arith) in
      rw w.nexts-is (
        next_more c.args.written.now c.loop-i.i c.loop-i.nexts.items c.requires.own c.loop-i.invariant.0 (omega arith) (omega arith, w.if-before-here.true) (omega (arith, low, c.loop-i.invariant.1)),
        first_of (omega (arith, c.loop-i.invariant.1), search rules),
      )
  | else-before-here w ↦ rw w.nexts-is (next_same c.args.written.now c.loop-i.i c.loop-i.nexts.items c.loop-i.invariant.0 (λ same. w.if-before-here.false same.1), c.loop-i.invariant.1)
]

pub returns-clause-nexts : goal.returns-clause-nexts
returns-clause-nexts c = next_all c.args.written.now c.loop-i.i c.loop-i.nexts.items c.loop-i.invariant.0 (omega arith)
