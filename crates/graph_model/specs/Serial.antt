-- What a graph is worth by serial evaluation.
use Rattle.std.specs.Prelude.{ℕ, zero, suc, ℤ, List, [], map, take}
use Rattle.graph_model.specs.Graph.{Graph}

-- what a kernel makes of a task's key and of the lists of its data predecessors
abbrev pub Outcome : Type 0
Outcome = ℕ → List (List ℤ) → List ℤ

-- the data predecessors of a task, in the order of their places
abbrev pub inputs_of : Graph → ℕ → List ℕ
inputs_of g k = map (λ e. e.0) (take (g.inputs k) (g.preds k))

-- the value of a task below which no chain of predecessors has n or more
abbrev pub value_within : Graph → Outcome → ℕ → ℕ → List ℤ
value_within g outcome zero k = []
value_within g outcome (suc n) k = outcome k (map (value_within g outcome n) (inputs_of g k))

-- the serial value of a task: what the kernel makes of the serial values of its data predecessors; ranks fall
abbrev pub serial : Graph → Outcome → ℕ → List ℤ
serial g outcome k = value_within g outcome (suc (g.rank k)) k
