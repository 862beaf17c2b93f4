-- The measures of a shared table, and what its last pass leaves.
use Rattle.std.specs.Prelude.{◌≡◌, ◌≢◌, ℕ, ◌+◌, ◌^◌, List}
use mathlib.Core.Option.{some}
use lib.ListN.{get_elem?}
use Rattle.core_state.specs.Graph.{Setting}
use Rattle.core_state.specs.RowWords.{shape_with}
use Rattle.core_state.specs.Views.{blank}
use Rattle.core_state.specs.declared.block.BlockCells.{BlockCells}
use Rattle.core_state.specs.declared.row_words.RowWords.{RowWords}
use Rattle.core_state.specs.declared.views.View.{View}
use Rattle.graph_model.specs.declared.record.Record.{Record}
use Rattle.core_steps.specs.Table.{IsClosing}

-- the rows of a table and their words, and how many blocks it has, are those of the setting, and the last block is the root's
pub record IsFor (e : Setting) (places : RowWords) (blocks : ℕ) : Type 0 where
  pub shape_is : shape_with places blocks ≡ e.shape
  pub root_is : e.graph.root ≡ 2 ^ 63
  pub root_last : e.graph.block e.graph.root + 1 ≡ blocks

-- of these views one is this, and all others are blank
pub record IsAlone (vs : List View) (v : View) : Type 0 where
  pub seat : ℕ
  pub here : get_elem? vs seat ≡ some v
  pub others : (i : ℕ) (w : View) → i ≢ seat → get_elem? vs i ≡ some w → w ≡ blank

-- what the last pass of a table leaves: its view beside blank ones meets the words, blocks and records
pub record IsLast (e : Setting) (v : View) (ws : List ℕ) (bs : List (Rattle.std.specs.Prelude.Option BlockCells)) (records root_replaced : List Record) : Type 0 where
  pub views : List View
  pub alone : IsAlone views v
  pub closing : IsClosing e views ws bs records root_replaced
