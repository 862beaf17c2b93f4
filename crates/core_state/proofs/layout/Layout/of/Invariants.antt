use Rattle.std.proofs.Common.{◌≡◌, ℕ, ◌<◌, Some, length, slice_get}
use Rattle.core_state.proofs.layout.Layout.of.Given as goal

-- the cells so far are those of the blocks so far
abbrev pub invariant-loop-block : goal.invariant-loop-block
invariant-loop-block g l = (length l.cells.items ≡ l.block) × ((b : ℕ) → b < l.block → slice_get l.cells.items b ≡ Some ((g.G.TaskGraph.graph l.graph).cells b))
