use Rattle.std.proofs.Common.{◌≡◌, ◌-◌, ◌<◌, ◌≤◌, ◌^◌, length}
use Rattle.std.specs.List.{All}
use Rattle.apsp_graph.specs.Reading.{strikes_from}
use Rattle.apsp_graph.specs.Steps.{with_front, words_left}
use Rattle.apsp_graph.proofs.strikes.strikes.Given as goal

abbrev pub invariant-loop-line : goal.invariant-loop-line
invariant-loop-line l = record {
  gives : with_front l.strikes.items (strikes_from l.top l.at.number (4096 - length l.strikes.items) (words_left l.at)) ≡ strikes_from l.top l.lines.number 4096 (words_left l.lines);
  few : length l.strikes.items ≤ 4096;
  keys : All (λ s. s.key.0 < 2 ^ 63) l.strikes.items;
}

abbrev pub decreases-loop-line : goal.decreases-loop-line
decreases-loop-line l = length l.at.rest.now
