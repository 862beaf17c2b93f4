use Rattle.std.proofs.Common.{◌+◌, ◌*◌, ◌/◌, ◌%◌}
use Rattle.apsp_graph.specs.Blocked.{edge}
use Rattle.apsp_graph.proofs.Filling.{FilledTo}
use Rattle.apsp_graph.proofs.tiles.load.Given as goal

abbrev pub invariant-loop-p : goal.invariant-loop-p
invariant-loop-p l = FilledTo (λ k. edge l.graph.n l.graph.weights.items (l.row * l.side + k / l.side) (l.column * l.side + k % l.side)) l.out (l.p * l.side)
