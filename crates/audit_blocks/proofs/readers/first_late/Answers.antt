use Rattle.std.proofs.Common.{◌≡◌, length, refl, subst, arith}
use Rattle.std.proofs.lemmas.Option.{slice_get_read}
use Rattle.audit_checks.specs.Links.{places_in}
use Rattle.audit_blocks.specs.Readers.{IsFirstOf}
use Rattle.audit_blocks.proofs.LateLemmas.{first_more}
use Rattle.audit_blocks.proofs.readers.first_late.Goals as goal

pub loop-r-preserved : goal.loop-r-preserved
loop-r-preserved c = rw c.sooner-first.ensures
    (first_more c.args.tasks.now (places_in c.args.links.now) c.args.nexts.now c.loop-r.r c.index-tasks-r.result c.loop-r.first c.late_writer-writer.result
    (slice_get_read c.args.tasks.now (length c.args.tasks.now) c.loop-r.r c.index-tasks-r.result refl (omega arith) c.index-tasks-r.is) c.loop-r.invariant c.late_writer-writer.ensures)

pub returns : goal.returns
returns c =
    let e : c.loop-r.r ≡ length c.args.tasks.now = omega arith in
    subst (λ n. IsFirstOf c.args.tasks.now (places_in c.args.links.now) c.args.nexts.now n c.loop-r.first) e c.loop-r.invariant
