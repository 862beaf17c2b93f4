-- What contracts see of a file's graph.
use Rattle.std.specs.Prelude.{ℕ}
use Rattle.formula_text.specs.Trees.{Tree}
use Rattle.graph_model.specs.Graph.{Graph}
use Rattle.acyclic_audit.specs.declared.graph.FileGraph.{FileGraph}
use Rattle.acyclic_audit.specs.FileGraphs.{graph_of, tree_in}

-- the task graph that its calls answer from
abbrev pub graph : FileGraph → Graph
graph g = graph_of g.keys.items g.tasks.items g.found

-- the formula of a task
abbrev pub tree_at : FileGraph → ℕ → Tree
tree_at g k = tree_in g.keys.items g.tasks.items k
