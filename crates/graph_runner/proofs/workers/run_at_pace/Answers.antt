use Rattle.std.proofs.Common.{◌∙◌}
use Rattle.graph_runner.specs.Terms.{MayEnd}
use Rattle.graph_runner.proofs.Outcomes.{threads_due, turns_due}
use Rattle.graph_runner.proofs.workers.run_at_pace.Goals as goal

pub returns-in-Threads-clause-due : goal.returns-in-Threads-clause-due
returns-in-Threads-clause-due g c =
    threads_due (λ r. r.why) (λ r. r.records.items) c.run_graph.result (MayEnd c.args.terms.now.workers c.args.terms.now.pace) (g.G.TaskGraph.graph c.args.graph.now) c.args.plan.now c.run_graph.ensures.waits

pub returns-in-Turns-clause-due : goal.returns-in-Turns-clause-due
returns-in-Turns-clause-due g c =
    let within = rw c.in-Turns.is at c.requires.terms.pace in let run = c.run_virtual.ensures in
    rw c.in-Turns.is
    (turns_due c.turns_for-turns.result c.in-Turns.schedule.now (g.G.TaskGraph.graph c.args.graph.now) c.args.plan.now c.in-Turns.turns c.turns_for-turns.ensures.count (λ none. c.turns_for-turns.ensures.enough none within.0) c.args.terms.now.workers
    (λ r. r.why) (λ r. r.records.items) c.run_virtual.result run.paid run.planned run.empty (λ one. run.calm (c.requires.kernels ∙ one)))
