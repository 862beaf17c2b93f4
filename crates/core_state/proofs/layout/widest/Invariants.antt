use Rattle.core_state.proofs.Start.Widest.{WidestOf}
use Rattle.core_state.proofs.layout.widest.Given as goal

-- the number so far is the widest of the tasks so far
abbrev pub invariant-loop-i : goal.invariant-loop-i
invariant-loop-i g l = WidestOf (g.G.TaskGraph.graph l.graph) l.i l.widest
