use Rattle.std.proofs.Common.{◌≡◌, List, [], Option, length, map}
use Rattle.graph_model.specs.Notes.{Note}
use Rattle.run_bounds.specs.Moving.{IsListed}
use Rattle.worker_pool.specs.Calling.{SameKernels}
use Rattle.worker_pool.specs.Sharing.{Begins}
use Rattle.worker_pool.specs.Pooling.{KernelsCalled, KernelsMake, WorkersHold}
use Rattle.worker_pool.proofs.Sharing.Tables.{IsMidway}
use Rattle.worker_pool.proofs.pool.Pool.run.Given as goal

-- between turns each worker holds what its view holds, no hint is unkept, each kernel makes the values of the setting and was called as often as its worker's view has noted results; and the turns of a run whose schedule names the first worker are paid
abbrev pub invariant-loop-i : goal.invariant-loop-i
invariant-loop-i g l = record {
  holds : WorkersHold (g.G.TaskGraph.graph l.terms.graph.now) g.C.Course.setting l.self.table.views l.self.workers.items;
  kept : l.self.posted ≡ [];
  make : KernelsMake (g.G.TaskGraph.graph l.terms.graph.now) g.C.Course.setting g.Ke.Kernel.outcome g.Ke.Kernel.fits l.kernels.items;
  same : SameKernels g.Ke.Kernel.outcome g.Ke.Kernel.fits l.initial.kernels.items l.kernels.items;
  views : length l.self.table.views ≡ length l.initial.self.table.views;
  called : (before : List (Option (List Note))) → KernelsCalled before (map g.Ke.Kernel.calls l.initial.kernels.items) l.initial.self.table.views → KernelsCalled before (map g.Ke.Kernel.calls l.kernels.items) l.self.table.views;
  paid : Begins (g.G.TaskGraph.graph l.terms.graph.now) l.terms.plan.now g.C.Course.setting l.initial.self.table l.initial.self.workers.items → IsListed l.schedule 0 → IsMidway (g.G.TaskGraph.graph l.terms.graph.now) l.terms.plan.now g.C.Course.setting l.schedule l.self.table l.self.workers.items l.i;
}
