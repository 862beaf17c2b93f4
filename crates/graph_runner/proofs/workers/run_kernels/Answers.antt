use Rattle.worker_pool.specs.Calling.{first_outcome}
use Rattle.graph_runner.specs.Terms.{MayEnd}
use Rattle.graph_runner.proofs.Outcomes.{cleared, kept_answers, kept_calls, kept_due, kept_tells}
use Rattle.graph_runner.proofs.workers.run_kernels.Goals as goal

pub returns-in-Err-clause-tells : goal.returns-in-Err-clause-tells
returns-in-Err-clause-tells g c =
    kept_tells (g.G.TaskGraph.graph c.args.graph.now) (first_outcome g.Ke.Kernel.outcome c.args.kernels.items) c.args.plan.now c.args.terms.now.lives c.in-Err.field-0.why c.in-Err.field-0.records.items _
    c.whole_records.ensures.all c.in-Err.ensures.ended

pub returns-in-Err-clause-answers : goal.returns-in-Err-clause-answers
returns-in-Err-clause-answers g c = kept_answers _ _ _ c.in-Err.field-0.why c.in-Err.field-0.records.items _ c.whole_records.ensures.all c.in-Err.ensures.complete

pub returns-in-Err-clause-calls : goal.returns-in-Err-clause-calls
returns-in-Err-clause-calls g c = kept_calls _ _ _ c.in-Err.field-0.why c.in-Err.field-0.records.items _ c.whole_records.ensures.all c.in-Err.ensures.end_calls

pub returns-in-Err-clause-cleared : goal.returns-in-Err-clause-cleared
returns-in-Err-clause-cleared g c = cleared c.in-Err.field-0.why _ c.whole_records.ensures.cleared

pub returns-in-Err-clause-due : goal.returns-in-Err-clause-due
returns-in-Err-clause-due g c = kept_due (MayEnd c.args.terms.now.workers c.args.terms.now.pace) (g.G.TaskGraph.graph c.args.graph.now) c.args.plan.now c.in-Err.field-0.why c.in-Err.field-0.records.items _ c.whole_records.ensures.all c.in-Err.ensures.due
