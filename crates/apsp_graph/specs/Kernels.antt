-- What the kernel of a matrix's graph computes, and what it takes.
use Rattle.std.specs.Prelude.{◌≡◌, ℕ, ◌*◌, ℤ, List, length, All}
use Rattle.lane_kernels.specs.MinPlus.{IsNonNegative}
use Rattle.graph_model.specs.Graph.{IsTask}
use Rattle.path_tasks.specs.declared.Task.{Task}
use Rattle.path_tasks.specs.declared.Task.TheVariants.{Tile, Gather, Sink}
use Rattle.path_tasks.specs.Tasks.{input_count_of}
use Rattle.path_tasks.specs.Keys.{task_of}
use Rattle.path_tasks.specs.Paths.{tiles_of}
use Rattle.apsp_graph.specs.Blocked.{task_made}
use Rattle.apsp_graph.specs.Views.{graph}
use Rattle.apsp_graph.specs.declared.graph.PathGraph.{PathGraph}

-- what a task makes of the lists of its data predecessors
abbrev pub path_outcome : PathGraph → ℕ → List (List ℤ) → List ℤ
path_outcome g k lists = let b = tiles_of g.n g.side in task_made g.n g.side g.weights.items b (task_of b k) lists

-- how many cells each input of a task has
abbrev pub cells_in : ℕ → ℕ → Task → ℕ
cells_in b side (Tile t i j) = side * side
cells_in b side (Gather i) = side * side
cells_in b side Sink = b * (side * side)

-- so many lists of so many cells, none of which is below 0
pub record AreInputs (count cells : ℕ) (lists : List (List ℤ)) : Type 0 where
  pub many : length lists ≡ count
  pub sized : All (λ xs. length xs ≡ cells) lists
  pub weights : All IsNonNegative lists

-- the key is a task, and there is a list for each of its data predecessors
pub record FitsPath (g : PathGraph) (k : ℕ) (lists : List (List ℤ)) : Type 0 where
  pub task : IsTask (graph g) k
  pub inputs : let b = tiles_of g.n g.side in AreInputs (input_count_of b (task_of b k)) (cells_in b g.side (task_of b k)) lists
