use Rattle.apsp_graph.proofs.NumberLemmas.{IsReadTo}
use Rattle.apsp_graph.proofs.numbers.number.Given as goal

abbrev pub invariant-loop-b : goal.invariant-loop-b
invariant-loop-b l = IsReadTo l.word l.b-index l.value
