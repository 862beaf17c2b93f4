use Rattle.std.proofs.Common.{List, Option, Some, subst, sym}
use Rattle.graph_model.specs.Notes.{Note}
use Rattle.core_state.specs.Graph.{Setting}
use Rattle.core_state.specs.declared.views.View.{View}
use Rattle.compute_notify.specs.Tasks.{IsNext, NewCalls, task_items}
use Rattle.compute_notify.specs.declared.item.Item.{Item}
use Rattle.run_bounds.specs.Struck.{Turned}
use Rattle.worker_pool.specs.Sharing.{StepsCore}
use Rattle.worker_pool.proofs.Calls.{called_on}
use Rattle.worker_pool.proofs.Sharing.Tasks.{items_as, reserved_turned, steps_from}
use Rattle.worker_pool.proofs.Hinting.{turn_few, turn_rows}
use Rattle.worker_pool.proofs.worker.work_on.Goals as goal

pub returns-clause-calls : goal.returns-clause-calls
returns-clause-calls g c = λ before. let now = g.Ke.Kernel.calls c.turn_of.new.kernel in let w = g.T.Steps.view c.turn_of.new.steps in
    called_on before _ now _ w
    (subst (λ (v : View). NewCalls (g.Ke.Kernel.calls c.args.kernel.now) now v w) c.reserve.ensures.view
    (subst (λ (n : Option (List Note)). NewCalls n now (g.T.Steps.view c.reserve.new.self) w) c.reserve-3.ensures.same_calls c.turn_of.ensures.calls))

pub returns-clause-posted : goal.returns-clause-posted
returns-clause-posted g c = let r = c.requires in let e = g.T.Steps.setting c.args.steps.now in let strikes = c.args.terms.now.plan.now in let task = c.reserve-2.new.self in
    turn_rows (g.G.TaskGraph.graph c.args.terms.now.graph.now) e (g.T.Steps.view c.args.steps.now) strikes c.args.task.now c.args.posted.now _ r.holds r.some r.posted
    (λ left x is. c.turn_of.ensures.posted left x
    (subst (λ (d : Setting). IsNext d.graph strikes (task_items task) left (Some x)) (sym c.reserve.ensures.table.same_setting)
    (subst (λ (xs : List Item). IsNext e.graph strikes xs left (Some x)) (sym (items_as c.args.task.now task c.reserve-2.ensures.same)) is)))

pub returns-clause-few : goal.returns-clause-few
returns-clause-few g c = let r = c.requires in let e = g.T.Steps.setting c.args.steps.now in let strikes = c.args.terms.now.plan.now in let task = c.reserve-2.new.self in
    turn_few e.graph strikes c.args.task.now c.args.posted.now _ r.holds.bottom r.some r.posted
    (λ left x is. c.turn_of.ensures.posted left x
    (subst (λ (d : Setting). IsNext d.graph strikes (task_items task) left (Some x)) (sym c.reserve.ensures.table.same_setting)
    (subst (λ (xs : List Item). IsNext e.graph strikes xs left (Some x)) (sym (items_as c.args.task.now task c.reserve-2.ensures.same)) is)))

pub returns-clause-turned : goal.returns-clause-turned
returns-clause-turned g c = λ s t steps goes. let e = g.T.Steps.setting c.args.steps.now in let v = g.T.Steps.view c.args.steps.now in let w = g.T.Steps.view c.turn_of.new.steps in let r = c.reserve.ensures in let task = c.reserve-2.new.self in let p = c.args.terms.now.plan.now in
    reserved_turned e p s t v w c.args.task.now task c.turn_of.new.task c.turn_of.new.posted c.reserve-2.ensures.same
    (subst (λ (u : View). Turned e p s t u w task c.turn_of.new.task c.turn_of.new.posted) r.view
    (subst (λ (d : Setting). Turned d p s t (g.T.Steps.view c.reserve.new.self) w task c.turn_of.new.task c.turn_of.new.posted) r.table.same_setting
    (c.turn_of.ensures.turned s t (subst (λ (d : Setting). StepsCore g.T.Steps.view g.T.Steps.happened g.T.KeyWords.made g.T.Steps.lender d c.reserve.new.self c.turn_of.new.steps s t) (sym r.table.same_setting) (steps_from e c.args.steps.now c.reserve.new.self c.turn_of.new.steps s t r.made r.table.same_lender steps)) goes)))
