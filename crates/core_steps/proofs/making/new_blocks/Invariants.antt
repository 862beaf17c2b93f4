use Rattle.std.proofs.Common.{◌≡◌, length}
use Rattle.core_steps.specs.Table.{IsFilled, IsUnwritten}
use Rattle.core_steps.proofs.making.new_blocks.Given as goal

-- the blocks so far
abbrev pub invariant-loop-i : goal.invariant-loop-i
invariant-loop-i l = (length l.blocks.items ≡ l.i) × IsUnwritten l.blocks.items × IsFilled l.cells l.blocks.items
