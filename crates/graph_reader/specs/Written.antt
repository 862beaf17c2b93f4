-- The JSON value of a file. Its members stand in the order of their names' bytes.
use Rattle.std.specs.Prelude.{ℕ, List, map, codes, Option, None, Some}
use Rattle.formula_text.specs.Writing.{text_of}
use Rattle.serde_json.specs.Data.{Data, number, string, array, object, unsigned, item, no_items, Members, no_members, member}
use Rattle.serde_json.specs.View.{items_of}
use Rattle.graph_model.specs.declared.plan.Point.{Point}
use Rattle.graph_model.specs.declared.plan.Point.TheVariants.{Explored, Ready, Computed, Notified}
use Rattle.graph_model.specs.declared.plan.Target.{Target}
use Rattle.graph_model.specs.declared.plan.Target.TheVariants.{Descriptor, Notify, Block}
use Rattle.graph_model.specs.declared.plan.Strike.{Strike}
use Rattle.raw_graph.specs.Graph.{Task, File}

-- a number
abbrev pub number_data : ℕ → Data
number_data n = number (unsigned n)

-- keys
abbrev pub keys_data : List ℕ → Data
keys_data keys = array (items_of (map number_data keys))

-- before later members, the block, which stands only where it was stated
abbrev pub with_block : Option (ℕ × ℕ) → Members → Members
with_block None later = later
with_block (Some b) later = member (codes "block") (array (item (number_data b.0) (item (number_data b.1) no_items))) later

-- a task
abbrev pub task_data : Task → Data
task_data t = object (
    member (codes "after") (keys_data t.after) (
    with_block t.block (
    member (codes "formula") (string (text_of t.tree)) (
    member (codes "inputs") (keys_data t.inputs) (
    member (codes "key") (number_data t.key) no_members)))))

-- the name of a point
abbrev pub point_name : Point → List ℕ
point_name Explored = codes "explored"
point_name Ready = codes "ready"
point_name Computed = codes "computed"
point_name Notified = codes "notified"

-- the target, the task, and the word of a notify word
abbrev pub target_members : Target → ℕ → Members
target_members Descriptor key = member (codes "target") (string (codes "descriptor")) (member (codes "task") (number_data key) no_members)
target_members (Notify word) key = member (codes "target") (string (codes "notify")) (member (codes "task") (number_data key) (member (codes "word") (number_data word) no_members))
target_members Block key = member (codes "target") (string (codes "block")) (member (codes "task") (number_data key) no_members)

-- a strike
abbrev pub strike_data : Strike → Data
strike_data s = object (member (codes "life") (number_data s.life) (member (codes "point") (string (point_name s.point)) (target_members s.target s.key.0)))

-- the whole
abbrev pub file_data : File → Data
file_data f = object (
    member (codes "faults") (array (items_of (map strike_data f.plan))) (
    member (codes "sink") (number_data f.graph.sink) (
    member (codes "tasks") (array (items_of (map task_data f.graph.tasks))) (
    member (codes "version") (number_data 1) no_members))))
