use Rattle.std.proofs.Common.{◌∙◌, List, Option, ap, rules, subst, sym}
use Rattle.graph_model.specs.Notes.{Note}
use Rattle.compute_notify.specs.Tasks.{NewCalls, task_items}
use Rattle.compute_notify.specs.Eventing.{item_hints}
use Rattle.worker_pool.proofs.Sharing.Tasks.{task_turned}
use Rattle.worker_pool.proofs.Hinting.{has_next}
use Rattle.worker_pool.proofs.Turns.{keeps_turned}
use Rattle.worker_pool.proofs.worker.turn_of.Goals as goal

pub returns-clause-table : goal.returns-clause-table
returns-clause-table g c = let r = c.requires in
    let next = has_next (g.T.Steps.setting c.args.steps.now).graph c.args.terms.now.plan.now (task_items c.args.task.now) r.holds.bottom r.some in
    keeps_turned _ _ c.args.steps.now c.turn.new.steps c.turn.result c.turn.ensures.still (c.turn.ensures.step next.0 next.1 next.2)

pub returns-clause-calls : goal.returns-clause-calls
returns-clause-calls g c = subst (λ (n : Option (List Note)). NewCalls (g.Ke.Kernel.calls c.args.kernel.now) n (g.T.Steps.view c.args.steps.now) (g.T.Steps.view c.turn.new.steps)) (ap g.Ke.Kernel.calls (sym (search rules))) c.turn.ensures.calls

pub returns-clause-posted : goal.returns-clause-posted
returns-clause-posted g c = λ left x is. (search rules) ∙ c.turn.ensures.hints left x is

pub returns-clause-turned : goal.returns-clause-turned
returns-clause-turned g c = λ s t steps goes. let r = c.requires in let turn = c.turn.ensures in
    let next = has_next (g.T.Steps.setting c.args.steps.now).graph c.args.terms.now.plan.now (task_items c.args.task.now) r.holds.bottom r.some in
    task_turned c.args.terms.now.plan.now c.args.steps.now c.turn.new.steps s t c.args.task.now c.turn.new.self next.0 next.1 _ steps next.2 (turn.step next.0 next.1 next.2 goes)
    ((search rules) ∙ turn.hints next.0 next.1 next.2 ∙ ap (item_hints next.1) r.posted) (turn.rest next.0 next.1 next.2 goes) (turn.good next.0 next.1 next.2) (turn.again next.0 next.1 next.2)
