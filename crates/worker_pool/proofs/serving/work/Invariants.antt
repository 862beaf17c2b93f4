use Rattle.std.proofs.Common.{◌≡◌, List, Option}
use Rattle.graph_model.specs.Notes.{Note}
use Rattle.compute_notify.specs.Running.{SameKernel}
use Rattle.task_table.specs.Passes.{lender_of}
use Rattle.worker_pool.specs.Calling.{HasCalled}
use Rattle.worker_pool.specs.Threads.{StationHolds}
use Rattle.worker_pool.proofs.serving.work.Given as goal

-- between turns the worker holds what its view holds; its kernel means what it meant, and was called as often as results were noted
abbrev pub invariant-loop : goal.invariant-loop
invariant-loop g l =
    (goal.iterator-loop g).can_next l.iterator' × (goal.iterator-loop g).is_finite l.iterator'
    × StationHolds (g.G.TaskGraph.graph l.terms.graph.now) g.C.Course.setting l.seat.pass.view l.station
    × ((before : Option (List Note)) → HasCalled before (g.Ke.Kernel.calls l.fn.kernel) l.fn.seat.pass.view → HasCalled before (g.Ke.Kernel.calls l.kernel) l.seat.pass.view)
    × SameKernel (g.Ke.Kernel.outcome l.fn.kernel) (g.Ke.Kernel.outcome l.kernel) (g.Ke.Kernel.fits l.fn.kernel) (g.Ke.Kernel.fits l.kernel)
    × (lender_of l.seat.pass ≡ lender_of l.fn.seat.pass)
