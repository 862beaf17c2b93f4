use Rattle.std.proofs.Common.{◌+◌, ◌*◌}
use Rattle.apsp_graph.specs.Blocked.{beside_at}
use Rattle.apsp_graph.proofs.Filling.{FilledTo}
use Rattle.apsp_graph.proofs.tiles.gather.Given as goal

abbrev pub invariant-loop-row : goal.invariant-loop-row
invariant-loop-row l = FilledTo (beside_at l.b l.side l.inputs.lists) l.out (l.row * (l.b * l.side))

abbrev pub invariant-loop-tile : goal.invariant-loop-tile
invariant-loop-tile l = FilledTo (beside_at l.b l.side l.inputs.lists) l.out (l.row * (l.b * l.side) + l.tile * l.side)
