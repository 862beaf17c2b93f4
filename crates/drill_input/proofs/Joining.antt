-- For callers: what `generated` and `audit` ensure makes an audited graph that of the number.
use Rattle.std.proofs.Common.{◌≡◌, ℕ, ℤ, List, [], ◌∷◌, ap, subst, All}
use Rattle.std.specs.List.{flat_map}
use Rattle.formula_text.specs.Formulas.{tree}
use Rattle.formula_text.specs.Trees.{Tree, value_of}
use Rattle.graph_model.specs.Graph.{Graph}
use Rattle.raw_graph.specs.Graph.{graph_of}
use Rattle.raw_graph.specs.Graph as raw
use Rattle.raw_graph.specs.declared.raw.RawGraph.{RawGraph}
use Rattle.audit_checks.specs.Tasks.{key_of}
use Rattle.acyclic_audit.specs.Meaning.{IsGraphOf}
use Rattle.drill_input.specs.Drill.{drill_graph}
use Rattle.drill_input.specs.Values.{IsDrill}

-- the outcome of formulas that are known by key
pub drill_from : (number : ℕ) (r : RawGraph) (g : Graph) (tree_at : ℕ → Tree) → graph_of r ≡ drill_graph number → IsGraphOf r.tasks.items r.sink.0 g → All (λ t. tree_at (key_of t) ≡ tree t.formula) r.tasks.items
    → IsDrill number g (λ k lists. value_of (tree_at k) (flat_map (λ (cells : List ℤ). cells) lists) ∷ [])
drill_from number r g tree_at made is trees = record {
  tasks = r.tasks.items;
  made = ap (λ (x : raw.Graph). x.tasks) made;
  graph = subst (λ (sink : ℕ). IsGraphOf r.tasks.items sink g) (ap (λ (x : raw.Graph). x.sink) made) is;
  computes = λ i d inside lists. ap (λ (t : Tree). value_of t (flat_map (λ (cells : List ℤ). cells) lists) ∷ []) (trees i d inside);
}
