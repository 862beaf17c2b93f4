use Rattle.std.proofs.Common.{◌≡◌, ◌+◌, ◌-◌, length}
use Rattle.apsp_graph.specs.Lines.{words_of}
use Rattle.apsp_graph.specs.Reading.{row_from}
use Rattle.apsp_graph.specs.Steps.{with_front}
use Rattle.apsp_graph.proofs.reading.row.Given as goal

abbrev pub invariant-loop-j : goal.invariant-loop-j
invariant-loop-j l = record {
  gives : with_front l.weights.items (row_from l.number l.i l.j (l.n - l.j) (words_of l.rest)) ≡ with_front l.fn.weights.items (row_from l.number l.i 0 l.n (words_of l.line));
  length : length l.weights.items ≡ length l.fn.weights.items + l.j;
}
