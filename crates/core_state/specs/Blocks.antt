-- Blocks: each is at home or in the hand of one view, and what it holds is a version's value or was struck.
use Rattle.std.specs.Prelude.{◌≡◌, ℕ, ◌<◌, ◌≤◌, true, false}
use Rattle.core_state.specs.Graph.{Setting}
use Rattle.core_state.specs.Words.{turn}
use Rattle.core_state.specs.Counts.{in_hand}
use Rattle.core_state.specs.Tests.{is_version, is_struck_version}
use Rattle.core_state.specs.Change.{Core, many}
use Rattle.core_state.specs.declared.block.BlockCells.{BlockCells}

module _ (e : Setting) (s : Core) where
  -- what the block b holds
  pub record Holds (b : ℕ) (x : BlockCells) : Type 0 where
    -- unstruck, a version's cells are the serial value of its writer
    pub good : x.struck ≡ false → 0 < x.tag → x.cells ≡ e.graph.value (e.graph.writer b x.tag)
    pub written : 0 < x.tag → 0 < many s (is_version b x.tag)
    pub struck : x.struck ≡ true → (0 < x.tag) × (0 < many s (is_struck_version b x.tag))
    -- a version that lies below another that was written was written twice; so a block of which a version was written has a tag
    pub twice : (u : ℕ) → x.tag < u → 0 < many s (is_version b u) → 2 ≤ many s (is_version b x.tag)
    pub root : b ≡ e.graph.block e.graph.root → x.struck ≡ false

  -- the block is in the hand of the one view whose turn it is, or at home, and holds what it may
  pub record BlockOk (b : ℕ) : Type 0 where
    pub taken : s.word (turn b) ≡ s.total (in_hand b)
    pub once : s.total (in_hand b) ≤ 1
    pub holds : Holds b (s.block b)

  -- so it is for each block of the table
  pub record Blocks : Type 0 where
    pub each : (b : ℕ) → b < e.shape.blocks → BlockOk b
