use Rattle.std.proofs.Common.{◌∙◌, None, Some, subst, sym}
use Rattle.acyclic_audit.specs.Views.{graph}
use Rattle.acyclic_audit.specs.declared.graph.FileGraph.{FileGraph}
use Rattle.core_state.specs.Graph.{Setting}
use Rattle.compute_notify.specs.Running.{Makes, Runs}
use Rattle.compute_notify.specs.Tasks.{TaskTells}
use Rattle.graph_runner.specs.Formulas.{FitsFormula, formula_outcome}
use Rattle.worker_pool.proofs.Pooling.{makes_on}
use Rattle.worker_pool.proofs.Turns.{done_idle, done_scratch, left_items}
use Rattle.table_tests.specs.Sitting.{Sits, setting_for}
use Rattle.table_tests.proofs.Sitting.{makes_here, runs_here}
use Rattle.table_tests.proofs.turning.work.Goals as goal

pub turned-told-requires-clause-runs : goal.turned-told-requires-clause-runs
turned-told-requires-clause-runs g c κs within = let tasks = c.args.terms.now.graph.now in let strikes = c.args.terms.now.plan.now in
    subst (λ (e : Setting). Runs (graph tasks) strikes 65535 e) (sym (c.reserve.ensures.table.same_setting ∙ c.requires.setting)) (runs_here tasks strikes c.len.ensures.few c.len.ensures.keys)

pub turned-told-requires-clause-makes : goal.turned-told-requires-clause-makes
turned-told-requires-clause-makes g c κs within = let tasks = c.args.terms.now.graph.now in let strikes = c.args.terms.now.plan.now in
    makes_on _ _ _ _ _ _ (record { same_outcome = c.reserve-3.ensures.same_outcome; same_fits = c.reserve-3.ensures.same_fits })
    (subst (λ (e : Setting). Makes (graph tasks) (formula_outcome c.new-kernel.result.graph.now) (FitsFormula c.new-kernel.result.graph.now) e) (sym (c.reserve.ensures.table.same_setting ∙ c.requires.setting))
    (subst (λ (f : FileGraph). Makes (graph tasks) (formula_outcome f) (FitsFormula f) (setting_for tasks strikes)) (sym c.new-kernel.ensures.graph) (makes_here tasks strikes)))

pub returns-in-Done-clause-sits : goal.returns-in-Done-clause-sits
returns-in-Done-clause-sits g c = let tasks = graph c.args.terms.now.graph.now in let e = g.T.Steps.setting c.reserve.new.self in let w = g.T.Steps.view c.turned-told.new.steps in
    let now = c.turned-told.new.task in let left = c.turned-told.new.scratch in let did = c.turned-told.ensures in
    let tells = subst (TaskTells e w now) c.in-Done.is did.tells in
    subst (λ (d : Setting). Sits tasks d w None left) c.reserve.ensures.table.same_setting (done_idle tasks e w now did.holds tells, done_scratch tasks e w now left did.scratch tells)

pub returns-in_default-clause-sits : goal.returns-in_default-clause-sits
returns-in_default-clause-sits g c = let tasks = graph c.args.terms.now.graph.now in let e = g.T.Steps.setting c.reserve.new.self in let w = g.T.Steps.view c.turned-told.new.steps in
    let now = c.turned-told.new.task in let left = c.turned-told.new.scratch in let did = c.turned-told.ensures in
    subst (λ (d : Setting). Sits tasks d w (Some now) left) c.reserve.ensures.table.same_setting
    ((did.holds, left_items tasks e w now c.turned-told.result c.in_default.not-Done did.holds did.tells), did.scratch)
