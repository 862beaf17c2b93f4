use Rattle.std.proofs.Common.{◌≤◌, ◌+◌}
use Rattle.bench_steps.proofs.kinds.claims.Given as goal

abbrev pub invariant-loop-i : goal.invariant-loop-i
invariant-loop-i g l = record {
  may : g.T.KeyWords.may l.steps l.key.0;
  room : l.many ≤ g.T.KeyWords.spare l.steps + l.i;
}
