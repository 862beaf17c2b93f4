-- What the graph of a run and its greatest life are in the seat's words.
use Rattle.std.proofs.Common.{◌≡◌, ℕ, List, cond, eqb, ap, sym, ◌∙◌}
use Rattle.graph_model.specs.Graph.{Graph as TaskGraph}
use Rattle.graph_model.specs.declared.plan.Strike.{Strike}
use Rattle.core_state.specs.Graph.{Setting, greatest_life}
use Rattle.core_state.specs.Rooted.{root_key}
use Rattle.compute_notify.specs.Running.{Runs, life_limit}

-- the greatest life that the caller allows is that of the seat
pub limit_is : (g : TaskGraph) (strikes : List Strike) (lives : ℕ) (e : Setting) → Runs g strikes lives e → (k : ℕ) → life_limit k lives ≡ greatest_life e k
limit_is g strikes lives e runs k = ap (λ m. cond (eqb k root_key) 65535 m) (sym runs.lives_are) ∙ ap (λ r. cond (eqb k r) 65535 e.lives) (sym runs.serves.graph.root)
