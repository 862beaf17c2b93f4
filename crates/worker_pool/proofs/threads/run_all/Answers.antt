use Rattle.std.proofs.Common.{◌∙◌, map, subst, sym}
use Rattle.std.proofs.lemmas.List.{length-map}
use Rattle.worker_pool.specs.Calling.{OnlyCalled}
use Rattle.worker_pool.proofs.Sums.{none_called_at_all}
use Rattle.worker_pool.proofs.threads.run_all.Goals as goal

pub returns-in-Ok-clause-calls : goal.returns-in-Ok-clause-calls
returns-in-Ok-clause-calls g c = let calls = g.Ke.Kernel.calls in
    c.close_left.ensures.calls (map calls c.args.kernels.now.items) _ (length-map c.args.kernels.now.items calls ∙ sym c.in-Ok.ensures.count) c.in-Ok.ensures.calls c.requires.run

pub returns-in-Err-clause-calls : goal.returns-in-Err-clause-calls
returns-in-Err-clause-calls g c = let calls = g.Ke.Kernel.calls in let tasks = g.G.TaskGraph.graph c.args.terms.now.graph.now in
    subst (λ ks. OnlyCalled tasks (map calls c.args.kernels.now.items) (map calls ks)) (sym c.in-Err.ensures.err) (none_called_at_all tasks (map calls c.args.kernels.now.items))
