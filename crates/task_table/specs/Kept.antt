-- A shared table between any two steps: its words, its slots and the views of all seats, as the plain table's clauses see them.
use Rattle.std.specs.Prelude.{◌≡◌, ◌≢◌, ℕ, ◌&&◌, Bool, cond, List, [], ◌∷◌, ◌++◌, map, Option, Some, None}
use mathlib.Core.Option.{some, none}
use mathlib.Core.Option.{Option as Home}
use lib.ListN.{get_elem?}
use Rattle.atomic_table.specs.Table.{State}
use Rattle.core_state.specs.Graph.{Setting}
use Rattle.core_state.specs.Invariant.{Seats}
use Rattle.core_state.specs.Views.{all_parts, opener}
use Rattle.core_state.specs.declared.block.BlockCells.{BlockCells}
use Rattle.core_state.specs.declared.views.View.{View}
use Rattle.graph_model.specs.declared.record.Record.{Record}
use Rattle.core_steps.specs.Table.{Plain, Stored, IsSound, is_kept, is_root_replaced}

-- what a slot holds: a block, and None while the block is in hand
abbrev pub Slot : Type 0
Slot = Option BlockCells

-- a shared table: its words, the slots at home, and the views of all seats
abbrev pub Board : Type 0
Board = State (Option BlockCells) View

-- the block of a slot that is at home
abbrev pub at_rest : Home (Option BlockCells) → Option BlockCells
at_rest none = None
at_rest (some x) = x

-- the blocks that are at home
abbrev pub blocks_in : List (Home (Option BlockCells)) → List (Option BlockCells)
blocks_in homes = map at_rest homes

-- the records that pass a test
abbrev pub those : (Record → Bool) → List Record → List Record
those p [] = []
those p (x ∷ xs) = cond (p x) (x ∷ those p xs) (those p xs)

-- of the records of a view, those that its seat keeps
abbrev pub store_of : ℕ → View → Stored
store_of root v = record { records = those (is_kept root) v.records; room = 0 }

-- the stores of all seats
abbrev pub stores_of : ℕ → List View → List Stored
stores_of root vs = map (store_of root) vs

-- the root's replacements that all views have
abbrev pub replaced_of : ℕ → List View → List Record
replaced_of root [] = []
replaced_of root (v ∷ vs) = those (is_root_replaced root) v.records ++ replaced_of root vs

-- the plain table with these words, views and blocks, whose records are those of the views
abbrev pub plain_of : Setting → Board → Plain
plain_of e s = record {
  words = s.words;
  views = s.views;
  blocks = blocks_in s.homes;
  stores = stores_of e.graph.root s.views;
  root_replaced = replaced_of e.graph.root s.views;
  shape = e.shape;
  root_room = e.graph.cells (e.graph.block e.graph.root);
  replaced_room = 0;
}

-- what holds between any two steps: all that holds of a plain table, the seats share the table, and a slot at home has its block
pub record Kept (e : Setting) (s : Board) : Type 0 where
  pub sound : IsSound e (plain_of e s)
  pub seats : Seats s.views
  pub full : (b : ℕ) (x : Option BlockCells) → get_elem? s.homes b ≡ some (some x) → x ≢ None

-- the view of the first seat: it is to explore the root, and has all parts
abbrev pub first_view : Setting → View
first_view e = opener all_parts e.graph.root (Rattle.std.specs.Prelude.◌%◌ e.graph.root e.shape.rows)
