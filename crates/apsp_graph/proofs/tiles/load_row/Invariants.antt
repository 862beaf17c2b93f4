use Rattle.std.proofs.Common.{◌≡◌, ◌<◌, ◌+◌, ℕ, pos, get_or}
use Rattle.apsp_graph.specs.Blocked.{edge}
use Rattle.apsp_graph.proofs.tiles.load_row.Given as goal

abbrev pub invariant-loop-q : goal.invariant-loop-q
invariant-loop-q l = (k : ℕ) → k < l.q → get_or l.out k (pos 0) ≡ edge l.graph.n l.graph.weights.items l.from (l.first + k)
