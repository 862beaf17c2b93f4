use Rattle.std.proofs.Common.{◌≤◌}
use Rattle.core_state.specs.Asked.{InEachGraphOf}
use Rattle.compute_notify.proofs.Computing.Needs.{IsUpTo}
use Rattle.compute_notify.proofs.scratch.Need.of.Given as goal

-- the need of the places so far
abbrev pub invariant-loop-place : goal.invariant-loop-place
invariant-loop-place g l = (l.need.lists ≤ l.place) × InEachGraphOf (g.G.TaskGraph.graph l.graph.graph.now) (λ r. IsUpTo r l.key.0 l.place l.need)
