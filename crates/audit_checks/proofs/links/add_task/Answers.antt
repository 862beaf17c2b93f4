use Rattle.std.proofs.Common.{◌∙◌, length, refl, subst, sym, arith, Contains}
use Rattle.audit_checks.specs.Tasks.{places_of}
use Rattle.audit_checks.specs.Rows.{row}
use Rattle.audit_checks.specs.Links.{places_in, succs_in}
use Rattle.audit_checks.proofs.LeastTask.{known_place, keys_count}
use Rattle.audit_checks.proofs.Adding.{add_more}
use Rattle.audit_checks.proofs.PortOrder.{stand_next}
use Rattle.audit_checks.proofs.links.add_task.Goals as goal

pub number_of-p-requires-clause-known : goal.number_of-p-requires-clause-known
number_of-p-requires-clause-known c =
    subst (Contains c.args.keys.now) (sym c.place.ensures)
    (known_place c.args.tasks.now c.args.keys.now c.args.k c.index-tasks-k.result c.loop-j.j c.requires.keys c.requires.known c.requires.task c.index-tasks-k.is (omega arith))

pub loop-j-preserved : goal.loop-j-preserved
loop-j-preserved c =
    rw (c.in_ok-add_edge.ensures.places, c.in_ok-add_edge.ensures.succs)
    (add_more c.args.keys.now (places_of c.index-tasks-k.result) (places_in c.loop-j.links) (succs_in c.loop-j.links) (places_in c.args.links.now) (succs_in c.args.links.now)
    (length c.args.tasks.now) c.args.k c.loop-j.j c.number_of-p.result (length (row (succs_in c.loop-j.links) c.number_of-p.result)) c.loop-j.invariant
    c.requires.ascending (omega arith) c.requires.task (omega (arith, c.number_of-p.ensures.inside, keys_count c.args.tasks.now c.args.keys.now c.requires.keys))
    c.number_of-p.ensures.inside (c.number_of-p.ensures.key ∙ c.place.ensures) refl)

pub returns-clause-stand : goal.returns-clause-stand
returns-clause-stand c = stand_next (succs_in c.loop-j.links) c.args.k c.loop-j.j c.loop-j.invariant.stand
