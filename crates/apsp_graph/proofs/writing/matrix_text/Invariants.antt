use Rattle.std.proofs.Common.{◌≡◌}
use Rattle.apsp_graph.specs.Writing.{lines_to}
use Rattle.apsp_graph.proofs.writing.matrix_text.Given as goal

abbrev pub invariant-loop-i : goal.invariant-loop-i
invariant-loop-i l = l.text.items ≡ lines_to l.wide l.n l.cells l.i
