-- The limits of graph files.
use Rattle.std.specs.Prelude.{ℕ, ◌^◌, ◌<◌, ◌≤◌, List, length, All, Contains, IfSome}
use Rattle.graph_model.specs.declared.plan.Target.{Target}
use Rattle.graph_model.specs.declared.plan.Target.TheVariants.{Descriptor, Notify, Block}
use Rattle.graph_model.specs.declared.plan.Strike.{Strike}
use Rattle.raw_graph.specs.Graph.{Task, Graph, File, keys_of}

-- the number of a key
abbrev pub IsKey : ℕ → Type 0
IsKey k = k < 2 ^ 63

-- a block's name, and a version of it
abbrev pub IsBlock : ℕ × ℕ → Type 0
IsBlock b = (b.0 < 2 ^ 32) × (1 ≤ b.1) × (b.1 ≤ 16384)

-- a task with keys at all its places, however many these are
pub record IsTaskWithin (t : Task) : Type 0 where
  pub key : IsKey t.key
  pub inputs : All IsKey t.inputs
  pub after : All IsKey t.after
  pub block : IfSome t.block IsBlock

-- at most 16,384 tasks, each within its limits
pub record IsGraphWithin (g : Graph) : Type 0 where
  pub sink : IsKey g.sink
  pub few : length g.tasks ≤ 16384
  pub tasks : All IsTaskWithin g.tasks

-- a task has 16 notify words
abbrev pub IsTargetWithin : Target → Type 0
IsTargetWithin Descriptor = Unit {0}
IsTargetWithin (Notify word) = word ≤ 15
IsTargetWithin Block = Unit {0}

-- a strike on one of these tasks
pub record IsStrikeWithin (tasks : List Task) (s : Strike) : Type 0 where
  pub task : Contains (keys_of tasks) s.key.0
  pub first : 1 ≤ s.life
  pub last : s.life ≤ 65535
  pub target : IsTargetWithin s.target

-- a graph with at most 4,096 strikes on its tasks, all within the limits
pub record IsWithinLimits (f : File) : Type 0 where
  pub graph : IsGraphWithin f.graph
  pub few : length f.plan ≤ 4096
  pub strikes : All (IsStrikeWithin f.graph.tasks) f.plan
