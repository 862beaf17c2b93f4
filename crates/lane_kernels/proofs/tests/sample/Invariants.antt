use Rattle.std.proofs.Common.{◌≡◌, pos, ◌≤ℤ◌, length}
use Rattle.std.specs.List.{All}
use Rattle.lane_kernels.proofs.tests.sample.Given as goal

abbrev pub invariant-loop-place : goal.invariant-loop-place
invariant-loop-place l = record {
  length : length l.tile.items ≡ l.place;
  weights : All (λ z. pos 0 ≤ℤ z) l.tile.items;
}
