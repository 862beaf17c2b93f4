-- How many tasks the sink needs.
use Rattle.std.specs.Prelude.{◌≡◌, ℕ, ◌↔◌, List, length, Contains}
use Rattle.std.specs.List.Sorted.{IsStrictlyIncreasing}
use Rattle.graph_model.specs.Graph.{Graph}
use Rattle.graph_model.specs.Reaching.{IsReachable}

-- n is how many keys are reachable: there is a list of just these, each once, of that length
pub record IsReachedCount (g : Graph) (n : ℕ) : Type 0 where
  pub keys : List ℕ
  pub ascending : IsStrictlyIncreasing keys
  pub reached : (k : ℕ) → Contains keys k ↔ IsReachable g k
  pub count : n ≡ length keys
