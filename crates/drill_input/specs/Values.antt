-- What the graph of a number is worth by serial evaluation.
use Rattle.std.specs.Prelude.{◌≡◌, ℕ, ℤ, List, [], ◌∷◌, All, map}
use Rattle.std.specs.List.{flat_map}
use Rattle.formula_text.specs.Formulas.{tree}
use Rattle.formula_text.specs.Trees.{value_of}
use Rattle.graph_model.specs.Graph.{Graph}
use Rattle.graph_model.specs.Serial.{Outcome}
use Rattle.raw_graph.specs.Graph.{task_of}
use Rattle.raw_graph.specs.declared.raw.RawTask.{RawTask}
use Rattle.audit_checks.specs.Tasks.{key_of}
use Rattle.acyclic_audit.specs.Meaning.{IsGraphOf}
use Rattle.drill_input.specs.Drill.{drill_tasks}

-- the outcome of each of these tasks is one cell: the value of its formula at the cells of its inputs
abbrev pub ComputesFormulas : List RawTask → Outcome → Type 0
ComputesFormulas ts outcome = All (λ t. (lists : List (List ℤ)) → outcome (key_of t) lists ≡ value_of (tree t.formula) (flat_map (λ cells. cells) lists) ∷ []) ts

-- g is the task graph of the number's tasks, and their outcomes are those of their formulas
pub record IsDrill (number : ℕ) (g : Graph) (outcome : Outcome) : Type 0 where
  pub tasks : List RawTask
  pub made : map task_of tasks ≡ drill_tasks number
  pub graph : IsGraphOf tasks 20000 g
  pub computes : ComputesFormulas tasks outcome
