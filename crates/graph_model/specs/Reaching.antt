-- The tasks that the sink needs.
use Rattle.std.specs.Prelude.{◌≡◌, ℕ, List, length, Bool, true, Some, slice_get}
use Rattle.graph_model.specs.Graph.{Graph, IsPred}

-- the least set that holds the sink and, with each task, all its predecessors
pub data IsReachable (g : Graph) : ℕ → Type 0 where
  at_sink : IsReachable g g.sink
  above : (k j p q : ℕ) → IsReachable g k → IsPred g k j p q → IsReachable g p

-- the task with the number i has the key k
abbrev pub IsNumber : Graph → ℕ → ℕ → Type 0
IsNumber g i k = slice_get g.keys i ≡ Some k

-- by number: exactly the reachable tasks have a flag
pub record AreFlags (g : Graph) (flags : List Bool) : Type 0 where
  pub long : length flags ≡ length g.keys
  pub sound : (i k : ℕ) → IsNumber g i k → slice_get flags i ≡ Some true → IsReachable g k
  pub complete : (i k : ℕ) → IsNumber g i k → IsReachable g k → slice_get flags i ≡ Some true
