use Rattle.std.proofs.Common.{◌≡◌, ◌++◌, drop}
use Rattle.apsp_graph.specs.Writing.{spaced}
use Rattle.apsp_graph.proofs.writing.push_spaced.Given as goal

abbrev pub invariant-loop-weight : goal.invariant-loop-weight
invariant-loop-weight l = l.text.items ++ spaced (drop l.weight-index l.weights) ≡ l.fn.text.items ++ spaced l.weights
