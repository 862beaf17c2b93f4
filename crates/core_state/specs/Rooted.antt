-- What a core is fixed to by the task graph, the kernel's outcome, the plan and the greatest life that a run is handed.
use Rattle.std.specs.Prelude.{◌≡◌, ℕ, ◌+◌, ◌^◌, Bool, cond, nat_lt, eqb, max, List, [], ◌∷◌, length, slice_index_or}
use Rattle.std.specs.List.{list_any}
use Rattle.graph_model.specs.Graph.{Graph as TaskGraph, IsPred, IsSucc}
use Rattle.graph_model.specs.Serial.{Outcome, serial}
use Rattle.graph_model.specs.declared.plan.Strike.{Strike}
use Rattle.graph_model.specs.declared.plan.Point.TheVariants as point
use Rattle.graph_model.specs.declared.plan.Target.TheVariants as target
use Rattle.core_state.specs.Graph.{Edge, Successor, Graph, Plan, Setting}
use Rattle.core_state.specs.Words.{Shape}
use Rattle.core_state.specs.Shapes.{edges_of, words_of}

-- whether the key is a task
abbrev pub has_task : TaskGraph → ℕ → Bool
has_task g k = list_any (eqb k) g.keys

-- what the root has, what a task has, and what any other key has
abbrev pub by_key : {X : Type 0} → ℕ → TaskGraph → ℕ → X → X → X → X
by_key root g k of_root of_task of_none = cond (eqb k root) of_root (cond (has_task g k) of_task of_none)

-- an entry of a list of predecessors, and one of a list of successors
abbrev pub edge_of : ℕ × ℕ → Edge
edge_of e = record { task = e.0; port = e.1 }

abbrev pub successor_of : ℕ × ℕ → Successor
successor_of e = record { task = e.0; place = e.1 }

-- the tasks with a hidden root of this key. The root waits at the sink's port behind the last; it writes the one version of the block behind the last; a key that is neither a task nor the root has no places, no ports and no block.
abbrev pub rooted : ℕ → TaskGraph → Outcome → Graph
rooted root g outcome = record {
  root = root;
  sink = g.sink;
  places = λ k. by_key root g k 1 (length (g.preds k)) 0;
  inputs = λ k. by_key root g k 1 (g.inputs k) 0;
  pred = λ k j. edge_of (cond (eqb k root) (g.sink, length (g.succs g.sink)) (slice_index_or (g.preds k) j (g.sink, 0)));
  ports = λ p. by_key root g p 0 (edges_of g p) 0;
  succ = λ p q. successor_of (slice_index_or (g.succs p) q (root, 0));
  notify_words = λ k. by_key root g k 1 (words_of g k) 1;
  block = λ k. by_key root g k g.block_count (g.block k) (g.block_count + 1);
  version = λ k. by_key root g k 1 (g.version k) 0;
  writer = λ b v. cond (eqb b g.block_count) root (g.writer b v);
  versions = λ b. cond (eqb b g.block_count) 1 (cond (nat_lt b g.block_count) (g.versions b) 0);
  cells = λ b. g.cells (cond (eqb b g.block_count) (g.block g.sink) b);
  value = λ k. serial g outcome (cond (eqb k root) g.sink k);
  rank = λ k. cond (eqb k root) (g.rank g.sink + 1) (g.rank k);
}

-- the key of the hidden root, above all tasks
abbrev pub root_key : ℕ
root_key = 2 ^ 63

-- the tasks with the hidden root, and the serial value of each
abbrev pub graph_of : TaskGraph → Outcome → Graph
graph_of g outcome = rooted root_key g outcome

-- the least number that is at least 1 and at least the notify words of each of these tasks
abbrev pub widest : TaskGraph → List ℕ → ℕ
widest g [] = 1
widest g (k ∷ ks) = max (words_of g k) (widest g ks)

-- one row more than there are tasks, for the root, and one block more
abbrev pub shape_for : TaskGraph → Shape
shape_for g = record { rows = length g.keys + 1; notify_words = widest g g.keys; blocks = g.block_count + 1 }

-- a strike that is never made
abbrev pub no_strike : Strike
no_strike = record { key = record { 0 = 0 }; life = 0; point = point.Explored; target = target.Descriptor }

-- the strikes of a list by their places
abbrev pub plan_of : List Strike → Plan
plan_of strikes = record { count = length strikes; strike = λ n. slice_index_or strikes n no_strike }

-- the setting of a run that is handed a graph with this outcome of its kernel, a plan and a greatest life
abbrev pub setting_of : TaskGraph → Outcome → List Strike → ℕ → Setting
setting_of g outcome strikes lives = record { graph = graph_of g outcome; shape = shape_for g; plan = plan_of strikes; lives = lives; keys = root_key ∷ g.keys }

-- for a task the graph has what the calls of the task graph answer, and its serial value
pub record IsTaskIn (g : TaskGraph) (outcome : Outcome) (r : Graph) (k : ℕ) : Type 0 where
  pub places : r.places k ≡ length (g.preds k)
  pub inputs : r.inputs k ≡ g.inputs k
  pub pred : (j p q : ℕ) → IsPred g k j p q → r.pred k j ≡ edge_of (p, q)
  pub ports : r.ports k ≡ edges_of g k
  pub succ : (q m j : ℕ) → IsSucc g k q m j → r.succ k q ≡ successor_of (m, j)
  pub notify_words : r.notify_words k ≡ words_of g k
  pub block : r.block k ≡ g.block k
  pub version : r.version k ≡ g.version k
  pub value : r.value k ≡ serial g outcome k

-- the root has the sink at its one place, which waits at the sink's last port; it has no ports, writes the last block once, and has the sink's serial value
pub record IsRootIn (g : TaskGraph) (outcome : Outcome) (r : Graph) : Type 0 where
  pub places : r.places r.root ≡ 1
  pub inputs : r.inputs r.root ≡ 1
  pub pred : r.pred r.root 0 ≡ edge_of (g.sink, length (g.succs g.sink))
  pub sink_ports : r.ports g.sink ≡ length (g.succs g.sink) + 1
  pub succ : r.succ g.sink (length (g.succs g.sink)) ≡ successor_of (r.root, 0)
  pub ports : r.ports r.root ≡ 0
  pub notify_words : r.notify_words r.root ≡ 1
  pub block : r.block r.root ≡ g.block_count
  pub version : r.version r.root ≡ 1
  pub writer : (v : ℕ) → r.writer g.block_count v ≡ r.root
  pub value : r.value r.root ≡ serial g outcome g.sink
