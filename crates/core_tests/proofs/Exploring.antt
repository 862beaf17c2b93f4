-- The seat that is to explore the root comes to the task first.
use Rattle.std.proofs.Common.{refl, arith}
use Rattle.core_state.specs.Guards.{AtWork}
use Rattle.core_state.specs.Views.{opener}
use Rattle.core_state.specs.declared.views.Item.TheVariants as item
use Rattle.core_steps.specs.Seat.{Explores}
use Rattle.core_steps.proofs.Walking.{IsSettled}
use Rattle.core_tests.specs.OneTask.{root, one_task}

pub opener_explores : Explores one_task (opener 63 root 0) 1
opener_explores = record { explorer = root; life = 1; place = 0; exploring = omega arith; is_place = omega arith; names = refl }

pub opener_at_work : AtWork (opener 63 root 0) (item.Explore root 1 0)
opener_at_work = record { stack = _; others = _; below = _; stacks_are = refl; items_are = refl }

pub opener_settled : IsSettled one_task (opener 63 root 0)
opener_settled = refl
