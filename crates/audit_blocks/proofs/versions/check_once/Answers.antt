use Rattle.std.proofs.Common.{◌-◌, refl, arith}
use Rattle.audit_blocks.specs.Versions.{at}
use Rattle.audit_blocks.proofs.Once.{apart_more, rising, twice_fault}
use Rattle.audit_blocks.proofs.versions.check_once.Goals.{else-before-here-via-then-before-here+else-before-here-2, else-before-here-via-else-before-here}
use Rattle.audit_blocks.proofs.versions.check_once.Goals as goal

pub loop-i-init : goal.loop-i-init
loop-i-init c = record { apart = λ j low high. absurd (omega arith) }

pub returns-then-before-here-2-clause-err : goal.returns-then-before-here-2-clause-err
returns-then-before-here-2-clause-err c = λ ts sink are sizes acyclic. (
  sizes,
  acyclic,
  twice_fault ts c.args.written.now c.loop-i.i (at c.args.written.now (c.loop-i.i - 1)) (at c.args.written.now c.loop-i.i) are c.requires c.loop-i.invariant (omega arith) (omega arith)
      refl refl c.if-before-here.true c.if-before-here-2.true,
)

pub loop-i-preserved : goal.loop-i-preserved
loop-i-preserved c =
    apart_more c.args.written.now c.loop-i.i (at c.args.written.now (c.loop-i.i - 1)) (at c.args.written.now c.loop-i.i) c.requires c.loop-i.invariant (omega arith) (omega arith) refl refl
    (λ block version. elim c.else-before-here.branch [
      | else-before-here-via-then-before-here+else-before-here-2 w ↦ w.if-before-here-2.false version
      | else-before-here-via-else-before-here w ↦ w.if-before-here.false block
    ])

pub returns-clause-ok : goal.returns-clause-ok
returns-clause-ok c = rising c.args.written.now c.loop-i.i c.requires c.loop-i.invariant (omega arith)
