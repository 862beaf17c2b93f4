use Rattle.std.proofs.Common.{◌≡◌, length, subst, arith}
use Rattle.audit_checks.specs.Links.{places_in}
use Rattle.audit_blocks.specs.Readers.{IsLateTo, IsLeastOf}
use Rattle.audit_blocks.proofs.LateLemmas.{late_more}
use Rattle.audit_blocks.proofs.readers.late_writer.Goals as goal

pub loop-j-preserved : goal.loop-j-preserved
loop-j-preserved c = rw c.lesser-least.ensures
    (late_more (places_in c.args.links.now) c.args.nexts.now c.args.r c.loop-j.j c.loop-j.least c.overwriter-late.result c.loop-j.invariant c.overwriter-late.ensures)

pub returns : goal.returns
returns c =
    let e : c.loop-j.j ≡ length c.args.task.now.inputs = omega arith in
    subst (λ n. IsLeastOf (IsLateTo (places_in c.args.links.now) c.args.nexts.now c.args.r n) c.loop-j.least) e c.loop-j.invariant
