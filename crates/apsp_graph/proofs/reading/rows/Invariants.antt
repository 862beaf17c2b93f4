use Rattle.std.proofs.Common.{◌≡◌, ◌+◌, ◌-◌, ◌*◌, length}
use Rattle.apsp_graph.specs.Reading.{rows_from}
use Rattle.apsp_graph.specs.Steps.{with_rows, words_left}
use Rattle.apsp_graph.proofs.reading.rows.Given as goal

abbrev pub invariant-loop-i : goal.invariant-loop-i
invariant-loop-i l = record {
  gives : with_rows l.weights.items (rows_from l.n l.i (l.n - l.i) (words_left l.at)) ≡ with_rows l.fn.weights.items (rows_from l.n 0 l.n (words_left l.lines));
  number : l.at.number ≡ l.i + 2;
  length : length l.weights.items ≡ length l.fn.weights.items + l.i * l.n;
}
