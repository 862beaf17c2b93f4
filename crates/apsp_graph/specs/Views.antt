-- A graph and a plan as a matrix with its strikes, the graph of its tasks, and the length of the whole.
use Rattle.std.specs.Prelude.{ℕ, List}
use Rattle.graph_model.specs.Graph.{Graph}
use Rattle.graph_model.specs.declared.plan.Strike.{Strike}
use Rattle.path_tasks.specs.Paths.{tiles_of, path_graph}
use Rattle.apsp_graph.specs.declared.graph.PathGraph.{PathGraph}
use Rattle.apsp_graph.specs.Matrices.{Matrix}

-- what stands in the graph, and the strikes
abbrev pub matrix_of : PathGraph → List Strike → Matrix
matrix_of g strikes = record { n = g.n; side = g.side; weights = g.weights.items; strikes = strikes }

-- the graph of its tasks
abbrev pub graph : PathGraph → Graph
graph g = path_graph (tiles_of g.n g.side) g.side

-- how many cells the sink's block has
abbrev pub sink_cells : PathGraph → ℕ
sink_cells g = (graph g).cells ((graph g).block (graph g).sink)
