-- The seat that is to explore the root of a graph of one task.
use Rattle.std.proofs.Common.{refl, arith}
use Rattle.core_state.specs.Views.{opener}
use Rattle.core_steps.specs.Seat.{Explores}
use Rattle.core_tests.specs.OneTask.{root, one_task}
use Rattle.recovery.specs.Memory.{KnowsKey}

pub explores : Explores one_task (opener 64 root 0) 1
explores = record { explorer = root; life = 1; place = 0; exploring = omega arith; is_place = omega arith; names = refl }

pub knows : KnowsKey one_task (opener 64 root 0) 0 root
knows = record { low = omega arith; key_is = refl }
