-- The setting that a task graph gives is one that a seat may work on.
use Rattle.std.proofs.Common.{ℕ, suc, List, ⊎_elim, sym, arith}
use Rattle.graph_model.specs.Graph.{Graph as TaskGraph, IsLawful}
use Rattle.graph_model.specs.Serial.{Outcome}
use Rattle.graph_model.specs.declared.plan.Strike.{Strike}
use Rattle.core_state.specs.Rooted.{setting_of}
use Rattle.core_state.proofs.Start.Asked.{graph_matches}
use Rattle.core_state.proofs.Start.Setting.{lawful_graph}
use Rattle.recovery.specs.Serving.{Serves}

pub serves_its_setting : (g : TaskGraph) (outcome : Outcome) (strikes : List Strike) (lives : ℕ) → IsLawful g → Serves g (setting_of g outcome strikes lives)
serves_its_setting g outcome strikes lives laws = record {
  outcome = outcome;
  graph = graph_matches g outcome laws;
  lawful = lawful_graph g outcome laws;
  listed = λ k key. ⊎_elim (λ is. (0, omega arith, sym is)) (λ has. (suc has.0, let low = has.1 in omega (arith, low), has.2)) key;
}
