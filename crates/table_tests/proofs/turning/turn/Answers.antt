use Rattle.std.proofs.Common.{◌∙◌, subst, sym}
use Rattle.acyclic_audit.specs.Views.{graph}
use Rattle.worker_pool.specs.Working.{NamesTasks}
use Rattle.table_tests.proofs.Sitting.{free_room, names_here}
use Rattle.table_tests.proofs.turning.turn.Goals as goal

pub returns-in_ok-hand-in-Some-pop-clause-sits : goal.returns-in_ok-hand-in-Some-pop-clause-sits
returns-in_ok-hand-in-Some-pop-clause-sits g c = let tasks = graph c.args.terms.now.graph.now in let e = g.C.Course.setting in let hand = c.args.hand.now in let did = c.in_ok-hand-in-Some-pop.ensures in
    let names = subst (NamesTasks tasks) (sym c.requires.setting) (names_here c.args.terms.now.graph.now c.args.terms.now.plan.now) in
    (did.works tasks names, did.scratch tasks hand.scratch (free_room tasks e c.args.seat.now.pass.view hand.task hand.scratch c.requires.sits (sym c.take.ensures.value ∙ c.in-None.is)))
