use Rattle.std.proofs.Common.{◌≡◌, ◌↔◌, ◌+◌, ◌≤◌, ◌++◌, ℕ, ℤ, List, All, length, map, vec_capacity, vec_len}
use Rattle.graph_runner.proofs.probed.kernels_of.Given as goal

abbrev pub invariant-loop : goal.invariant-loop
invariant-loop g l = record {
  many : length l.kernels.items ≡ l.counter;
  same_makes : All (λ a. g.Ke.Kernel.outcome a ≡ g.Ke.Probed.makes l.graph) l.kernels.items;
  same_takes : All (λ a. (k : ℕ) (lists : List (List ℤ)) → g.Ke.Kernel.fits a k lists ↔ g.Ke.Probed.takes l.graph k lists) l.kernels.items;
  front : map g.Ke.Kernel.calls l.kernels.items ++ map g.P.Probe.notes l.probes.items ≡ map g.P.Probe.notes l.fn.probes.items;
  left : vec_len l.probes + l.counter ≡ vec_len l.fn.probes;
  room : l.count ≤ vec_capacity l.kernels;
  held : vec_capacity l.probes ≡ vec_capacity l.fn.probes;
}
