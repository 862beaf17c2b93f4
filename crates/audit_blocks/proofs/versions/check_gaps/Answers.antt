use Rattle.std.proofs.Common.{arith}
use Rattle.audit_blocks.proofs.Gaps.{gap_fault, whole_more}
use Rattle.audit_blocks.proofs.versions.check_gaps.Goals as goal

pub loop-i-init : goal.loop-i-init
loop-i-init c = record { next = λ i last inside is. absurd (omega arith) }

pub returns-then-next-version-clause-err : goal.returns-then-next-version-clause-err
returns-then-next-version-clause-err c = λ ts sink are sizes acyclic once. (
  sizes,
  acyclic,
  once,
  gap_fault ts c.args.written.now c.loop-i.i c.last_version-last.result are c.requires.rising c.loop-i.invariant (omega arith) c.last_version-last.ensures.last (omega (arith, c.last_version-last.ensures.below)),
)

pub loop-i-preserved : goal.loop-i-preserved
loop-i-preserved c = whole_more c.args.written.now c.loop-i.i c.last_version-last.result c.loop-i.invariant c.last_version-last.ensures.last (omega (arith, c.last_version-last.ensures.below))

pub returns-clause-ok : goal.returns-clause-ok
returns-clause-ok c = record { next = λ i last inside is. c.loop-i.invariant.next i last (omega arith) is }
