use Rattle.std.proofs.Common.{◌≡◌, ◌+◌, ◌≤◌, ◌++◌, map, vec_capacity, vec_len}
use Rattle.graph_runner.proofs.probed.put_back.Given as goal

abbrev pub invariant-loop-kernel : goal.invariant-loop-kernel
invariant-loop-kernel g l = record {
  all : map g.Ke.Kernel.calls l.kernels.items ++ map g.P.Probe.notes l.probes.items ≡ map g.Ke.Kernel.calls l.fn.kernels.items ++ map g.P.Probe.notes l.fn.probes.items;
  room : vec_len l.kernels + vec_len l.probes ≤ vec_capacity l.probes;
}

abbrev pub decreases-loop-kernel : goal.decreases-loop-kernel
decreases-loop-kernel g l = goal.left-loop-kernel g l
