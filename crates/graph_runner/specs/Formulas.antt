-- What the kernel of a file's graph computes.
use Rattle.std.specs.Prelude.{◌≡◌, ℕ, ℤ, List, [], ◌∷◌, length, All}
use Rattle.std.specs.List.{flat_map}
use Rattle.formula_text.specs.Trees.{value_of}
use Rattle.graph_model.specs.Graph.{IsTask}
use Rattle.acyclic_audit.specs.Views.{graph, tree_at}
use Rattle.acyclic_audit.specs.declared.graph.FileGraph.{FileGraph}

-- the cells of lists, one behind the other
abbrev pub cells_of : List (List ℤ) → List ℤ
cells_of lists = flat_map (λ cells. cells) lists

-- one cell: the value of the task's formula at the cells of its inputs
abbrev pub formula_outcome : FileGraph → ℕ → List (List ℤ) → List ℤ
formula_outcome g k lists = value_of (tree_at g k) (cells_of lists) ∷ []

-- the key is a task, and there is one list of one cell for each of its data predecessors
pub record FitsFormula (g : FileGraph) (k : ℕ) (lists : List (List ℤ)) : Type 0 where
  pub task : IsTask (graph g) k
  pub count : length lists ≡ (graph g).inputs k
  pub single : All (λ cells. length cells ≡ 1) lists
