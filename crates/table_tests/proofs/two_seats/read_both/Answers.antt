use Rattle.std.proofs.Common.{arith, subst, sym}
use Rattle.table_tests.specs.Sitting.{HasTwoBlocks}
use Rattle.table_tests.proofs.Sitting.{can_take}
use Rattle.table_tests.proofs.two_seats.read_both.Goals as goal

pub take_turn-requires-clause-can : goal.take_turn-requires-clause-can
take_turn-requires-clause-can g c = can_take _ _ c.requires.blocks.0 c.requires.hands.0 0 (omega arith)

pub read-of_held-requires-clause-can : goal.read-of_held-requires-clause-can
read-of_held-requires-clause-can g c = can_take _ _ c.requires.blocks.1 c.requires.hands.1 0 (omega arith)

pub read-of_other-requires-clause-can : goal.read-of_other-requires-clause-can
read-of_other-requires-clause-can g c = can_take _ _ (subst HasTwoBlocks (sym c.read-of_held.ensures.table.same_setting) c.requires.blocks.1) c.read-of_held.ensures.hands 1 (omega arith)
