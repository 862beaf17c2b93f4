use Rattle.std.proofs.Common.{length, subst}
use Rattle.std.proofs.lemmas.Result.{IfErr-at_err}
use Rattle.worker_pool.specs.Calling.{first_outcome}
use Rattle.worker_pool.specs.Ends.{IsNotShort, RunTells}
use Rattle.worker_pool.proofs.Sharing.Ending.{planned_ends}
use Rattle.worker_pool.proofs.Completing.{complete, answers_finished}
use Rattle.worker_pool.proofs.Settings.{is_run, kernels_make, runs}
use Rattle.worker_pool.proofs.run.run_virtual.Goals as goal

pub run_all-value-requires-clause-run : goal.run_all-value-requires-clause-run
run_all-value-requires-clause-run g c κs within =
    let laws = (g.met.G.TaskGraph g.world.𝓛 g.world.𝓜 g.world.𝓡 ((λ s x. x), (λ x. x), (λ x. x), λ x. x)).lawful c.args.graph.now in
    is_run _ (first_outcome g.Ke.Kernel.outcome c.args.kernels.items) laws c.args.plan.now c.args.lives c.len.ensures.few c.len.ensures.keys c.requires.lives c.requires.can.cells

pub run_all-value-requires-clause-runs : goal.run_all-value-requires-clause-runs
run_all-value-requires-clause-runs g c κs within =
    let laws = (g.met.G.TaskGraph g.world.𝓛 g.world.𝓜 g.world.𝓡 ((λ s x. x), (λ x. x), (λ x. x), λ x. x)).lawful c.args.graph.now in
    runs _ (first_outcome g.Ke.Kernel.outcome c.args.kernels.items) laws c.args.plan.now c.args.lives c.len.ensures.few c.len.ensures.keys c.requires.lives c.requires.can.cells

pub run_all-value-requires-clause-outcome : goal.run_all-value-requires-clause-outcome
run_all-value-requires-clause-outcome g c κs within =
    let laws = (g.met.G.TaskGraph g.world.𝓛 g.world.𝓜 g.world.𝓡 ((λ s x. x), (λ x. x), (λ x. x), λ x. x)).lawful c.args.graph.now in
    kernels_make g.Ke.Kernel.outcome g.Ke.Kernel.fits c.args.kernels.items _ c.args.plan.now c.args.lives laws c.requires.alike c.requires.can

pub returns-in-Ok-clause-answers : goal.returns-in-Ok-clause-answers
returns-in-Ok-clause-answers g c =
    let laws = (g.met.G.TaskGraph g.world.𝓛 g.world.𝓜 g.world.𝓡 ((λ s x. x), (λ x. x), (λ x. x), λ x. x)).lawful c.args.graph.now in let a = c.args in let outcome = first_outcome g.Ke.Kernel.outcome a.kernels.items in let records = c.run_all-value.result.1.items in
    answers_finished _ outcome laws a.plan.now c.in-Ok.value records (subst (λ r. RunTells (g.G.TaskGraph.graph a.graph.now) outcome a.plan.now a.lives r records) c.in-Ok.is c.run_all-value.ensures.tells)

pub returns-in-Err-clause-complete : goal.returns-in-Err-clause-complete
returns-in-Err-clause-complete g c =
    let laws = (g.met.G.TaskGraph g.world.𝓛 g.world.𝓜 g.world.𝓡 ((λ s x. x), (λ x. x), (λ x. x), λ x. x)).lawful c.args.graph.now in let a = c.args in let outcome = first_outcome g.Ke.Kernel.outcome a.kernels.items in let records = c.run_all-value.result.1.items in
    complete _ outcome laws a.plan.now a.lives c.in-Err.why records (subst (λ r. RunTells (g.G.TaskGraph.graph a.graph.now) outcome a.plan.now a.lives r records) c.in-Err.is c.run_all-value.ensures.tells)

pub returns-in-Err-clause-calm : goal.returns-in-Err-clause-calm
returns-in-Err-clause-calm g c = λ one empty enough. IfErr-at_err IsNotShort c.in-Err.is (c.run_all-value.ensures.calm one empty enough)

pub returns-in-Err-clause-paid : goal.returns-in-Err-clause-paid
returns-in-Err-clause-paid g c = λ listed enough. IfErr-at_err IsNotShort c.in-Err.is (c.run_all-value.ensures.paid listed enough)

pub returns-in-Err-clause-empty : goal.returns-in-Err-clause-empty
returns-in-Err-clause-empty g c = λ listed empty enough. IfErr-at_err IsNotShort c.in-Err.is (c.run_all-value.ensures.empty listed empty enough)

pub returns-in-Err-clause-planned : goal.returns-in-Err-clause-planned
returns-in-Err-clause-planned g c = λ listed words single enough.
    let laws = (g.met.G.TaskGraph g.world.𝓛 g.world.𝓜 g.world.𝓡 ((λ s x. x), (λ x. x), (λ x. x), λ x. x)).lawful c.args.graph.now in let a = c.args in let outcome = first_outcome g.Ke.Kernel.outcome a.kernels.items in let records = c.run_all-value.result.1.items in
    planned_ends (g.G.TaskGraph.graph a.graph.now) a.plan.now (length a.schedule.now) a.turns c.in-Err.why records (λ made. IfErr-at_err IsNotShort c.in-Err.is (c.run_all-value.ensures.paid listed made))
    (complete _ outcome laws a.plan.now a.lives c.in-Err.why records (subst (λ r. RunTells (g.G.TaskGraph.graph a.graph.now) outcome a.plan.now a.lives r records) c.in-Err.is c.run_all-value.ensures.tells)).answers words single enough
