use Rattle.std.proofs.Common.{◌≡◌, ◌+◌, ◌≤◌, ◌++◌, All, length, vec_capacity}
use Rattle.atomic_table.specs.Seated.{TableId}
use Rattle.core_state.specs.Sure.{IsSure}
use Rattle.worker_pool.specs.Joining.{AreOf, views_of}
use Rattle.worker_pool.specs.Threads.{AllTell, EndsWell, IsOf, slot_view, turned}
use Rattle.worker_pool.proofs.threads.gather.Given as goal

-- what was taken and what the slots still have are all, in their order
abbrev pub invariant-loop-slot : goal.invariant-loop-slot
invariant-loop-slot g l = record {
  kernels : l.kernels.items ++ turned (λ s. s.kernel) l.slots.items ≡ turned (λ s. s.kernel) l.fn.slots.items;
  views : views_of l.passes.items ++ turned slot_view l.slots.items ≡ turned slot_view l.fn.slots.items;
  tables : (z : TableId) → All (λ s. IsOf z s.pass) l.fn.slots.items → AreOf z l.passes.items × All (λ s. IsOf z s.pass) l.slots.items;
  ends : All (λ s. EndsWell g.C.Course.setting (slot_view s) s.ending) l.slots.items;
  tells : AllTell g.C.Course.setting (views_of l.passes.items) l.all;
  sure : All (λ p. IsSure g.C.Course.setting p.view) l.passes.items;
  kernel_room : length l.kernels.items + length l.slots.items ≤ vec_capacity l.kernels;
  pass_room : length l.passes.items + length l.slots.items ≤ vec_capacity l.passes;
}

abbrev pub decreases-loop-slot : goal.decreases-loop-slot
decreases-loop-slot g l = length l.slots.items
