-- A run's meanings, as the core sees them: every map is total, and what lies beyond a key's places, ports or versions is never read.
use Rattle.std.specs.Prelude.{◌≡◌, ◌≢◌, ◌⊎◌, ℕ, ℤ, ◌+◌, ◌/◌, ◌^◌, ◌<◌, ◌≤◌, List, [], length, Contains, cond, eqb}
use Rattle.core_state.specs.Words.{Shape}
use Rattle.graph_model.specs.declared.plan.Strike.{Strike}
use Rattle.graph_model.specs.declared.plan.Point.TheVariants as point
use Rattle.graph_model.specs.declared.plan.Target.TheVariants as target

-- a place's predecessor, and the port there at which the place waits
pub record Edge : Type 0 where
  pub task : ℕ
  pub port : ℕ

-- a port's successor, and the place there that the port serves
pub record Successor : Type 0 where
  pub task : ℕ
  pub place : ℕ

-- the tasks with the hidden root, whose one input is the sink
pub record Graph : Type 0 where
  pub root : ℕ
  pub sink : ℕ
  -- how many predecessor places a task has; the first so many of them are data inputs
  pub places : ℕ → ℕ
  pub inputs : ℕ → ℕ
  pub pred : ℕ → ℕ → Edge
  -- how many successor edges a task has, the root's edge on the sink counted
  pub ports : ℕ → ℕ
  pub succ : ℕ → ℕ → Successor
  pub notify_words : ℕ → ℕ
  -- the block and the version that a task writes, and which task writes a version
  pub block : ℕ → ℕ
  pub version : ℕ → ℕ
  pub writer : ℕ → ℕ → ℕ
  pub versions : ℕ → ℕ
  -- how many cells a block has
  pub cells : ℕ → ℕ
  -- the serial value of a task
  pub value : ℕ → List ℤ
  pub rank : ℕ → ℕ

-- the tasks on which the root depends, and the root itself
pub data Reached (g : Graph) : ℕ → Type 0 where
  itself : Reached g g.root
  through : (k j : ℕ) → Reached g k → j < g.places k → Reached g (g.pred k j).task

-- k reads version v of block b as one of its data inputs
pub record Reads (g : Graph) (k b v : ℕ) : Type 0 where
  pub input : ℕ
  pub is_input : input < g.inputs k
  pub of_block : g.block (g.pred k input).task ≡ b
  pub of_version : g.version (g.pred k input).task ≡ v

-- what the laws of a graph give the core, for the keys that can be reached
pub record Lawful (g : Graph) : Type 0 where
  pub few_places : (k : ℕ) → g.places k ≤ 40
  pub few_inputs : (k : ℕ) → g.inputs k ≤ g.places k
  pub falls : (k j : ℕ) → j < g.places k → g.rank (g.pred k j).task < g.rank k
  -- places and ports are each other's reverse
  pub back : (k j : ℕ) → j < g.places k → ((g.pred k j).port < g.ports (g.pred k j).task) × ((g.succ (g.pred k j).task (g.pred k j).port).task ≡ k) × ((g.succ (g.pred k j).task (g.pred k j).port).place ≡ j)
  pub forth : (p q : ℕ) → q < g.ports p → ((g.succ p q).place < g.places (g.succ p q).task) × ((g.pred (g.succ p q).task (g.succ p q).place).task ≡ p) × ((g.pred (g.succ p q).task (g.succ p q).place).port ≡ q)
  -- a task has one notify word for each 40 ports, and at least one
  pub enough_words : (p q : ℕ) → q < g.ports p → q / 40 < g.notify_words p
  pub some_word : (p : ℕ) → 0 < g.notify_words p
  -- versions are counted from 1, and each has one writer
  pub from_one : (k : ℕ) → Reached g k → (0 < g.version k) × (g.version k ≤ g.versions (g.block k))
  pub written_by : (k : ℕ) → Reached g k → g.writer (g.block k) (g.version k) ≡ k
  pub writes : (b v : ℕ) → 0 < v → v ≤ g.versions b → (g.block (g.writer b v) ≡ b) × (g.version (g.writer b v) ≡ v)
  -- the writer of the next version comes after the writer of this one, and after each other task that reads this one
  pub after_writer : (b v : ℕ) → 0 < v → v < g.versions b → (j : ℕ) × (j < g.places (g.writer b (v + 1))) × ((g.pred (g.writer b (v + 1)) j).task ≡ g.writer b v)
  pub after_readers : (b v k : ℕ) → 0 < v → v < g.versions b → k ≢ g.root → Reads g k b v → (k ≡ g.writer b (v + 1)) ⊎ ((j : ℕ) × (j < g.places (g.writer b (v + 1))) × ((g.pred (g.writer b (v + 1)) j).task ≡ k))
  -- the root
  pub root_places : (g.places g.root ≡ 1) × (g.inputs g.root ≡ 1) × ((g.pred g.root 0).task ≡ g.sink)
  pub root_ports : g.ports g.root ≡ 0
  pub root_alone : (k j : ℕ) → j < g.places k → (g.pred k j).task ≢ g.root
  pub root_block : ((g.versions (g.block g.root) ≡ 1) × (g.version g.root ≡ 1)) × ((k : ℕ) → g.block k ≡ g.block g.root → k ≡ g.root)
  pub root_value : g.value g.root ≡ g.value g.sink

-- the strikes of the plan by their places in it, from 0 to below count
pub record Plan : Type 0 where
  pub count : ℕ
  pub strike : ℕ → Strike

-- all that is fixed when a table is made
pub record Setting : Type 0 where
  pub graph : Graph
  pub shape : Shape
  pub plan : Plan
  -- the greatest life that the caller allows
  pub lives : ℕ
  -- the keys that may come to stand in the table
  pub keys : List ℕ

-- the greatest life of a key
abbrev pub greatest_life : Setting → ℕ → ℕ
greatest_life e k = cond (eqb k e.graph.root) 65535 e.lives

-- the laws, and that the shape is that of the graph
pub record Sound (e : Setting) : Type 0 where
  pub lawful : Lawful e.graph
  pub words_fit : (k : ℕ) → e.graph.notify_words k ≤ e.shape.notify_words
  pub blocks_fit : (k : ℕ) → Reached e.graph k → e.graph.block k < e.shape.blocks
  pub some_row : 0 < e.shape.rows
  pub some_life : (0 < e.lives) × (e.lives ≤ 65535)
  pub root_free : (n : ℕ) → n < e.plan.count → (e.plan.strike n).key.0 ≢ e.graph.root
  pub small : (e.shape.rows ≤ 2 ^ 21) × (e.shape.blocks ≤ 2 ^ 21)
  -- there is a row for each key that can be reached
  pub few_keys : length e.keys ≤ e.shape.rows
  pub listed : (k : ℕ) → Reached e.graph k → Contains e.keys k
  pub small_keys : (k : ℕ) → Reached e.graph k → k ≤ 2 ^ 63
  -- each value fits the block that it is written to
  pub value_fits : (k : ℕ) → Reached e.graph k → length (e.graph.value k) ≡ e.graph.cells (e.graph.block k)

-- a graph without tasks
abbrev pub no_graph : Graph
no_graph = record { root = 0; sink = 0; places = λ _. 0; inputs = λ _. 0; pred = λ _ _. record { task = 0; port = 0 }; ports = λ _. 0; succ = λ _ _. record { task = 0; place = 0 }; notify_words = λ _. 1; block = λ _. 0; version = λ _. 1; writer = λ _ _. 0; versions = λ _. 1; cells = λ _. 0; value = λ _. []; rank = λ _. 0 }

-- a setting that nobody has picked
abbrev pub no_setting : Setting
no_setting = record { graph = no_graph; shape = record { rows = 1; notify_words = 1; blocks = 1 }; plan = record { count = 0; strike = λ _. record { key = record { 0 = 0 }; life = 0; point = point.Explored; target = target.Descriptor } }; lives = 1; keys = [] }
