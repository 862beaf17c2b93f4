-- One event, as the parts of the invariant see it: words by name, blocks by number, and sums over the views. No list of words or of views is in sight.
use Rattle.std.specs.Prelude.{◌≡◌, ◌≢◌, ℕ, ◌+◌, ◌<◌, ◌≤◌, Bool, false, cond, eqb, List, [], ◌∷◌}
use mathlib.Core.Option.{Option, some, none}
use Rattle.core_state.specs.Words.{Spot, Shape, read, turn}
use Rattle.core_state.specs.Counts.{total_of, noted}
use Rattle.atomic_table.specs.Table.{State}
use Rattle.core_state.specs.declared.block.BlockCells.{BlockCells}
use Rattle.core_state.specs.declared.views.Hand.{Hand}
use Rattle.graph_model.specs.declared.record.Record.{Record}
use Rattle.core_state.specs.declared.views.View.{View}

-- what the parts of the invariant see of a table: its words by name, the sums over its views, and what its blocks hold
pub record Core : Type 0 where
  pub word : Spot → ℕ
  pub total : (View → ℕ) → ℕ
  -- what a block holds, at home or in a hand
  pub block : ℕ → BlockCells

-- how many records of all views pass a test
abbrev pub many : Core → (Record → Bool) → ℕ
many s p = s.total (noted p)

-- a block that was never written
abbrev pub no_cells : BlockCells
no_cells = record { tag = 0; struck = false; cells = [] }

-- the block, as the first hand that has it took it
abbrev pub held_in : ℕ → List Hand → Option BlockCells
held_in b [] = none
held_in b (x ∷ xs) = cond (eqb b x.block) (some x.held) (held_in b xs)

-- the first of two, if there is one
abbrev pub or_else : Option BlockCells → Option BlockCells → Option BlockCells
or_else none y = y
or_else (some x) y = some x

-- the block, as the first view that has it in hand took it
abbrev pub held_by : ℕ → List View → Option BlockCells
held_by b [] = none
held_by b (v ∷ vs) = or_else (held_in b v.hands) (held_by b vs)

-- the block in a hand, and else what lies at home
abbrev pub cells_or : BlockCells → Option BlockCells → BlockCells
cells_or x none = x
cells_or x (some y) = y

-- the block b: in a hand as it was taken, and else as it lies at home, where home b reads the home
unfoldable pub block_of : (ℕ → BlockCells) → List View → ℕ → BlockCells
block_of home vs b = cells_or (home b) (held_by b vs)

-- the core of a table that is given by a list of words, a list of homes and a list of views
abbrev pub core_of : {S : Type 0} → Shape → (List (Option S) → ℕ → BlockCells) → State S View → Core
core_of h home s = record { word = read h s.words; total = total_of s.views; block = block_of (home s.homes) s.views }

-- one event: the word at a spot changes from found to left, and one view from before to after
pub record Change (s t : Core) (at : Spot) (found left : ℕ) (before after : View) : Type 0 where
  pub found_is : s.word at ≡ found
  pub left_is : t.word at ≡ left
  pub others : (b : Spot) → b ≢ at → t.word b ≡ s.word b
  pub sums : (f : View → ℕ) → t.total f + f before ≡ s.total f + f after
  pub within : (f : View → ℕ) → f before ≤ s.total f
  -- where the view that steps has all of g, it has all of what no view has without g
  pub alone : (f g : View → ℕ) → ((u : View) → g u ≡ 0 → f u ≡ 0) → s.total g ≤ g before → s.total f ≡ f before
  pub blocks : (b : ℕ) → turn b ≢ at → t.block b ≡ s.block b

-- one view changes and no word: what a seat has noted by itself enters its view, or items of which nothing is left go
pub record Shift (s t : Core) (before after : View) : Type 0 where
  pub words : (b : Spot) → t.word b ≡ s.word b
  pub sums : (f : View → ℕ) → t.total f + f before ≡ s.total f + f after
  pub within : (f : View → ℕ) → f before ≤ s.total f
  pub blocks : (b : ℕ) → t.block b ≡ s.block b

-- a new view is cut off from one
pub record Split (s t : Core) (whole left right : View) : Type 0 where
  pub words : (b : Spot) → t.word b ≡ s.word b
  pub sums : (f : View → ℕ) → t.total f + f whole ≡ s.total f + (f left + f right)
  pub within : (f : View → ℕ) → f whole ≤ s.total f
  pub blocks : (b : ℕ) → t.block b ≡ s.block b

-- one view takes in another, which is left spent
pub record Join (s t : Core) (into left both spent : View) : Type 0 where
  pub words : (b : Spot) → t.word b ≡ s.word b
  pub sums : (f : View → ℕ) → t.total f + (f into + f left) ≡ s.total f + (f both + f spent)
  pub within : (f : View → ℕ) → f into + f left ≤ s.total f
  pub blocks : (b : ℕ) → t.block b ≡ s.block b

-- what holds of every sum over views
pub record Sums (s : Core) : Type 0 where
  pub none : (f g : View → ℕ) → ((v : View) → f v ≡ 0 → g v ≡ 0) → s.total f ≡ 0 → s.total g ≡ 0
  pub add : (f g : View → ℕ) → s.total (λ v. f v + g v) ≡ s.total f + s.total g
  pub below : (f g : View → ℕ) → ((v : View) → f v ≤ g v) → s.total f ≤ s.total g
  -- a sum that is not 0 has a view that adds to it
  pub some : (f : View → ℕ) → 0 < s.total f → (v : View) × (0 < f v) × ((g : View → ℕ) → g v ≤ s.total g)
