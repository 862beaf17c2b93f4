use Rattle.std.proofs.Common.{◌≡◌, ◌*◌, ◌≤◌, length, take}
use Rattle.std.specs.List.{sum_by}
use Rattle.graph_runner.proofs.terms.place_count.Given as goal

abbrev pub invariant-loop-i : goal.invariant-loop-i
invariant-loop-i g l =
    let graph = g.G.TaskGraph.graph l.graph in (l.count ≡ sum_by (λ k. length (graph.preds k)) (take l.i graph.keys)) × (l.count ≤ 40 * l.i)
