-- What the call `pred` answers.
use Rattle.std.specs.Prelude.{ℕ, ◌<◌, ◌≤◌}
use Rattle.graph_model.specs.Graph.{Graph, IsPred}
use Rattle.graph_model.specs.declared.graph.Edge.{Edge}
use Rattle.graph_model.specs.declared.graph.Kind.{Kind}
use Rattle.graph_model.specs.declared.graph.Kind.TheVariants.{Data, Order}

abbrev pub IsKind : Graph → ℕ → ℕ → Kind → Type 0
IsKind g k j Data = j < g.inputs k
IsKind g k j Order = g.inputs k ≤ j

pub record IsEdge (g : Graph) (k j : ℕ) (e : Edge) : Type 0 where
  pub pred : IsPred g k j e.key.0 e.port
  pub kind : IsKind g k j e.kind
