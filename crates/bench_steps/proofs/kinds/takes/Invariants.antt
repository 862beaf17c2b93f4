use Rattle.std.proofs.Common.{◌≤◌, ◌+◌}
use Rattle.recovery.specs.Memory.{KnowsKey}
use Rattle.bench_steps.proofs.kinds.takes.Given as goal

abbrev pub invariant-loop-i : goal.invariant-loop-i
invariant-loop-i g l = record {
  known : KnowsKey (g.T.Steps.setting l.steps) (g.T.Steps.view l.steps) l.row l.key.0;
  room : l.many ≤ g.T.KeyWords.spare l.steps + l.i;
}
