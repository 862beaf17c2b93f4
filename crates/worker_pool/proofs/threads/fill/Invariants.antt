use Rattle.std.proofs.Common.{◌≡◌, ◌+◌, ◌≤◌, ◌++◌, All, [], length, vec_capacity}
use Rattle.atomic_table.specs.Seated.{TableId}
use Rattle.worker_pool.specs.Joining.{AreOf, views_of}
use Rattle.worker_pool.specs.Threads.{IsOf, slot_view, turned}
use Rattle.worker_pool.proofs.threads.fill.Given as goal

-- what is left and what the slots have are all, in their order
abbrev pub invariant-loop-kernel : goal.invariant-loop-kernel
invariant-loop-kernel g l = record {
  kernels : l.kernels.items ++ turned (λ s. s.kernel) l.slots.items ≡ l.fn.kernels.items;
  views : views_of l.passes.items ++ turned slot_view l.slots.items ≡ views_of l.fn.passes.items;
  workers : l.workers.items ++ turned (λ s. s.station.worker) l.slots.items ≡ l.fn.workers.items;
  tables : (z : TableId) → AreOf z l.fn.passes.items → AreOf z l.passes.items × All (λ s. IsOf z s.pass) l.slots.items;
  posted : All (λ r. r.posted ≡ []) l.racks.items × All (λ s. s.station.posted ≡ []) l.slots.items;
  passes_left : length l.passes.items ≡ length l.kernels.items;
  workers_left : length l.workers.items ≡ length l.kernels.items;
  racks_left : length l.racks.items ≡ length l.kernels.items;
  room : length l.slots.items + length l.kernels.items ≤ vec_capacity l.slots;
  kernel_room : vec_capacity l.kernels ≡ vec_capacity l.fn.kernels;
  pass_room : vec_capacity l.passes ≡ vec_capacity l.fn.passes;
}

abbrev pub decreases-loop-kernel : goal.decreases-loop-kernel
decreases-loop-kernel g l = length l.kernels.items
