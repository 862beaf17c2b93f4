use Rattle.std.proofs.Common.{◌≡◌, ◌≤◌, ◌+◌, ◌*◌, []}
use Rattle.bench_steps.proofs.kinds.turns.Given as goal

abbrev pub invariant-loop-i : goal.invariant-loop-i
invariant-loop-i g l = record {
  setting : g.T.Steps.setting l.steps ≡ g.T.Steps.setting l.initial.steps;
  hands : (g.T.Steps.view l.steps).hands ≡ [];
  room : l.many * 2 ≤ g.T.KeyWords.spare l.steps + l.i * 2;
}
