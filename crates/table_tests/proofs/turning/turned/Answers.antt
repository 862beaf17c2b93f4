use Rattle.compute_notify.specs.Tasks.{task_items}
use Rattle.worker_pool.proofs.Hinting.{has_next}
use Rattle.worker_pool.proofs.Turns.{keeps_turned}
use Rattle.table_tests.proofs.turning.turned.Goals as goal

pub returns-clause-table : goal.returns-clause-table
returns-clause-table g c = let r = c.requires in
    let next = has_next (g.T.Steps.setting c.args.steps.now).graph c.args.terms.now.plan.now (task_items c.args.task.now) r.holds.bottom r.some in
    keeps_turned _ _ c.args.steps.now c.turn.new.steps c.turn.result c.turn.ensures.still (c.turn.ensures.step next.0 next.1 next.2)
