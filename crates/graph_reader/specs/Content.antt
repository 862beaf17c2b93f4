-- What a JSON value holds as a graph file. Where its checks fail, this is of no account.
use Rattle.std.specs.Prelude.{ℕ, pos, List, [], ◌∷◌, codes, Option, None, Some, Result, Ok, Err, option_map, option_and_then, unwrap_or}
use Rattle.formula_text.specs.Trees.{Tree, Number}
use Rattle.formula_text.specs.Machine.{reading}
use Rattle.formula_text.specs.declared.fault.FormulaFault.{FormulaFault}
use Rattle.serde_json.specs.Data.{Data, null, Items, no_items, item}
use Rattle.serde_json.specs.Find.{get, at, as_str, as_array}
use Rattle.graph_model.specs.declared.plan.Point.{Point}
use Rattle.graph_model.specs.declared.plan.Point.TheVariants.{Explored}
use Rattle.graph_model.specs.declared.plan.Target.{Target}
use Rattle.graph_model.specs.declared.plan.Target.TheVariants.{Descriptor, Notify, Block}
use Rattle.graph_model.specs.declared.plan.Strike.{Strike}
use Rattle.graph_reader.specs.Checks.{unsigned_of, field}
use Rattle.raw_graph.specs.Graph.{Task, Graph, File}
use Rattle.graph_reader.specs.Names.{point_of, target_of}

-- the number
abbrev pub number_in : Data → ℕ
number_in d = unwrap_or (unsigned_of d) 0

-- what each item holds
abbrev pub every : {X : Type 0} → (Data → X) → Items → List X
every content no_items = []
every content (item d ds) = content d ∷ every content ds

-- the items of an array
abbrev pub items_in : Data → Items
items_in d = unwrap_or (as_array d) no_items

-- keys: none where the value is null, as it is for an absent field
abbrev pub keys_in : Data → List ℕ
keys_in d = every number_in (items_in d)

-- the tree that was read
abbrev pub tree_or : Result Tree FormulaFault → Tree
tree_or (Ok t) = t
tree_or (Err e) = Number (pos 0)

-- the tree of a formula
abbrev pub tree_in : Data → Tree
tree_in d = tree_or (reading (unwrap_or (as_str d) []))

-- a block's name and version
abbrev pub block_in : Data → ℕ × ℕ
block_in d = (number_in (unwrap_or (at 0 d) null), number_in (unwrap_or (at 1 d) null))

-- a task; it has a block where one is stated
abbrev pub task_in : Data → Task
task_in d = record {
  key = number_in (field (codes "key") d);
  tree = tree_in (field (codes "formula") d);
  inputs = keys_in (field (codes "inputs") d);
  after = keys_in (field (codes "after") d);
  block = option_map block_in (get (codes "block") d);
}

-- the point of that name
abbrev pub point_in : Data → Point
point_in d = unwrap_or (option_and_then point_of (as_str d)) Explored

-- the target of that name
abbrev pub target_in : Data → Target
target_in d = unwrap_or (option_and_then target_of (as_str d)) Descriptor

-- a target with the word that is stated for it
abbrev pub with_word : Option Data → Target → Target
with_word None target = target
with_word (Some d) Descriptor = Descriptor
with_word (Some d) (Notify word) = Notify (number_in d)
with_word (Some d) Block = Block

-- a strike
abbrev pub strike_in : Data → Strike
strike_in d = record {
  key = record { 0 = number_in (field (codes "task") d) };
  life = number_in (field (codes "life") d);
  point = point_in (field (codes "point") d);
  target = with_word (get (codes "word") d) (target_in (field (codes "target") d));
}

-- the tasks in their order
abbrev pub tasks_in : Data → List Task
tasks_in d = every task_in (items_in d)

-- the graph
abbrev pub graph_in : Data → Graph
graph_in d = record { sink = number_in (field (codes "sink") d); tasks = tasks_in (field (codes "tasks") d) }

-- the strikes in their order; there are none where `faults` is absent
abbrev pub plan_in : Data → List Strike
plan_in d = every strike_in (items_in (field (codes "faults") d))

-- the graph and the plan
abbrev pub file_in : Data → File
file_in d = record { graph = graph_in d; plan = plan_in d }
