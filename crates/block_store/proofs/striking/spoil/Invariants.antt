use Rattle.std.proofs.Common.{◌≡◌}
use Rattle.block_store.proofs.Flipping.{flipped_to}
use Rattle.block_store.proofs.striking.spoil.Given as goal

abbrev pub invariant-loop-cell : goal.invariant-loop-cell
invariant-loop-cell l = l.cell-items ≡ flipped_to l.cell-index l.taken.cells
