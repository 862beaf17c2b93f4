use Rattle.core_state.specs.Asked.{InEachGraphOf}
use Rattle.compute_notify.proofs.Computing.Needs.{IsWide}
use Rattle.compute_notify.proofs.scratch.Need.widest.Given as goal

-- the need of the root and of the tasks so far
abbrev pub invariant-loop-i : goal.invariant-loop-i
invariant-loop-i g l = InEachGraphOf (g.G.TaskGraph.graph l.graph) (λ r. IsWide (g.G.TaskGraph.graph l.graph) r l.i l.need)
