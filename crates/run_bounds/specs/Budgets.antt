-- How many turns are enough for one worker where the plan is empty.
use Rattle.std.specs.Prelude.{◌≡◌, ℕ, ◌+◌, ◌*◌, List, length}
use Rattle.std.specs.List.{sum_by}
use Rattle.graph_model.specs.Graph.{Graph as TaskGraph, IsLawful}
use Rattle.graph_model.specs.Serial.{Outcome}
use Rattle.graph_model.specs.declared.plan.Strike.{Strike}
use Rattle.core_state.specs.Graph.{Setting}
use Rattle.core_state.specs.Rooted.{setting_of}

-- how many places of predecessors all tasks have together
abbrev pub all_places : TaskGraph → ℕ
all_places g = sum_by (λ k. length (g.preds k)) g.keys

-- so many turns are enough for one worker where the plan is empty
abbrev pub enough_turns : TaskGraph → ℕ
enough_turns g = 200 * (length g.keys + 1) * (all_places g + length g.keys + 2)

-- a run on these tasks, whatever its plan
pub record IsRunOf (g : TaskGraph) (e : Setting) : Type 0 where
  pub outcome : Outcome
  pub strikes : List Strike
  pub lives : ℕ
  pub setting_is : e ≡ setting_of g outcome strikes lives
  pub laws : IsLawful g
