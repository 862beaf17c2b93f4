-- What the blocks of a core that meets the invariant say to one of its views.
use Rattle.std.proofs.Common.{◌≡◌, ◌≢◌, ℕ, ◌<◌, true, length, arith, sym, ap, refl, ◌∙◌}
use Rattle.core_state.specs.Graph.{Setting, Sound}
use Rattle.core_state.specs.Graph.Reached.{itself}
use Rattle.core_state.specs.Words.{turn}
use Rattle.core_state.specs.Change.{Core, Sums}
use Rattle.core_state.specs.Counts.{hit, in_hand}
use Rattle.core_state.specs.Guards.{CanGiveWritten, InHand}
use Rattle.core_state.specs.Invariant.{Invariant}
use Rattle.core_state.specs.declared.block.BlockCells.{BlockCells}
use Rattle.core_state.specs.declared.views.View.{View}
use Rattle.core_state.proofs.Base.Counting.{eqb_here}
use Rattle.core_state.proofs.Blocks.AtWork.{key_row}
use Rattle.core_state.proofs.Blocks.Home.{hand_left}
use Rattle.core_state.proofs.Blocks.Versions.{version_written}
use Rattle.core_steps.proofs.AnyCore.{IsViewOf}

-- who has a block in hand, has it
pub hand_some : (b : ℕ) (y : BlockCells) (v : View) → InHand v b y → 0 < in_hand b v
hand_some b y v hand = let a = hand_left b b y v hand in let f = ap hit (eqb_here b) in omega (arith, a, f)

module _ {e : Setting} {s : Core} {v : View} (x : IsViewOf e s v) (b : ℕ) where
  -- a block in hand is in one hand
  pub held_once : (was : BlockCells) → InHand v b was → b < e.shape.blocks → s.total (in_hand b) ≡ 1
  held_once was hand low = let a = x.within (in_hand b) in let f = hand_some b was v hand in let g = (x.holds.blocks.each b low).once in omega (arith, a, f, g)

  -- a value that is given has as many cells as its block
  pub value_sized : (k l : ℕ) (was now : BlockCells) → CanGiveWritten e v k l b was now → length now.cells ≡ e.graph.cells b
  value_sized k l was now can = let row = key_row e s x.sums k l can.read true v can.at_work x.within x.holds in
      ap length can.cells_are ∙ x.fit.value_fits k (x.holds.keys.reached row.0 k row.1) ∙ ap e.graph.cells (sym can.block_is)

module _ (e : Setting) (s : Core) (inv : Invariant e s) where
  -- a turn word that is not 0 is 1
  pub turn_one : (b : ℕ) → b < e.shape.blocks → s.word (turn b) ≢ 0 → s.word (turn b) ≡ 1
  turn_one b low ne = let x = inv.blocks.each b low in let a = x.taken in let f = x.once in omega (arith, a, f, ne)

  -- the root's block holds the root's value, where it was written
  pub root_good : Sound e → Sums s → 0 < (s.block (e.graph.block e.graph.root)).tag → (s.block (e.graph.block e.graph.root)).cells ≡ e.graph.value e.graph.root
  root_good fit sums full = let b : ℕ = e.graph.block e.graph.root in let holds = (inv.blocks.each b (fit.blocks_fit e.graph.root itself)).holds in
      let by = version_written e fit s sums inv.records b (s.block b).tag (holds.written full) in
      holds.good (holds.root refl) full ∙ ap e.graph.value (fit.lawful.root_block.1 (e.graph.writer b (s.block b).tag) by.2)
