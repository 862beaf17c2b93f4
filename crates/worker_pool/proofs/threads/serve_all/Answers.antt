use Rattle.std.proofs.Common.{rules, slice_index_or, subst, sym}
use Rattle.worker_pool.specs.Threads.{IsReady, IsServed}
use Rattle.worker_pool.proofs.threads.serve_all.Goals as goal

pub for_each_mut-requires-clause-accepts : goal.for_each_mut-requires-clause-accepts
for_each_mut-requires-clause-accepts g c = λ κs within i p low at. ((c.requires.run, c.requires.runs, subst (IsReady (g.G.TaskGraph.graph c.args.terms.now.graph.now) g.C.Course.setting c.args.table.now g.Ke.Kernel.outcome g.Ke.Kernel.fits) (sym at) (c.requires.ready i p.now low)), (search rules))

pub returns-then-count-gt0 : goal.returns-then-count-gt0
returns-then-count-gt0 g c = let o = g.Ke.Kernel.outcome in let f = g.Ke.Kernel.fits in let n = g.Ke.Kernel.calls in let e = g.C.Course.setting in let z = c.args.table.now in record {
  served = record {
    same_count = c.for_each_mut.auto.s;
    each = λ i d low. let x = (c.for_each_mut.ensures i d low).1 in subst (λ t. IsServed e z o f n (slice_index_or c.args.slots.now i d) t) x.left (subst (λ s. IsServed e z o f n s x.after_call.now) x.argument_is x.call);
  };
}
