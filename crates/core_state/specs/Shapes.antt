-- How large the table of a graph is.
use Rattle.std.specs.Prelude.{◌≡◌, ℕ, ◌+◌, ◌/◌, ◌<◌, ◌≤◌, max, length, Some, slice_get, eqb, cond}
use Rattle.graph_model.specs.Graph.{Graph, IsTask}
use Rattle.core_state.specs.declared.layout.Layout.{Layout}

-- a task's successor edges, for the sink with the root's edge counted
abbrev pub edges_of : Graph → ℕ → ℕ
edges_of g k = cond (eqb k g.sink) (length (g.succs k) + 1) (length (g.succs k))

-- its notify words: one for each 40 edges, and at least one
abbrev pub words_of : Graph → ℕ → ℕ
words_of g k = max 1 ((edges_of g k + 39) / 40)

-- the number is the least that is at least 1 and at least what each task needs
pub record IsWidest (g : Graph) (n : ℕ) : Type 0 where
  pub some_word : 1 ≤ n
  pub enough : (k : ℕ) → IsTask g k → words_of g k ≤ n
  pub least : (m : ℕ) → 1 ≤ m → ((k : ℕ) → IsTask g k → words_of g k ≤ m) → n ≤ m

-- one row more than there are tasks, for the root; and one block more, with the cells of the sink's block
pub record IsLayoutOf (g : Graph) (x : Layout) : Type 0 where
  pub rows : x.rows ≡ length g.keys + 1
  pub widest : IsWidest g x.words_per_row
  pub blocks : length x.cells.items ≡ g.block_count + 1
  pub cells : (b : ℕ) → b < g.block_count → slice_get x.cells.items b ≡ Some (g.cells b)
  pub root_cells : slice_get x.cells.items g.block_count ≡ Some (g.cells (g.block g.sink))

-- the same sizes
pub record SameLayout (x y : Layout) : Type 0 where
  pub rows : y.rows ≡ x.rows
  pub words : y.words_per_row ≡ x.words_per_row
  pub cells : y.cells.items ≡ x.cells.items
