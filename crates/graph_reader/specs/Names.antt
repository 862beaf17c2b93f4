-- The names of the format.
use Rattle.std.specs.Prelude.{ℕ, List, [], ◌∷◌, codes, Option, None, Some, if◌then◌else◌}
use Rattle.std.specs.Str.{bytes_eq}
use Rattle.graph_model.specs.declared.plan.Point.{Point}
use Rattle.graph_model.specs.declared.plan.Point.TheVariants.{Explored, Ready, Computed, Notified}
use Rattle.graph_model.specs.declared.plan.Target.{Target}
use Rattle.graph_model.specs.declared.plan.Target.TheVariants.{Descriptor, Notify, Block}
use Rattle.graph_reader.specs.declared.names.Kind.{Kind}
use Rattle.graph_reader.specs.declared.names.Kind.TheVariants as kinds

-- the names of the whole
abbrev pub whole_names : List (List ℕ)
whole_names = codes "version" ∷ codes "sink" ∷ codes "tasks" ∷ codes "faults" ∷ []

-- the names of a task
abbrev pub task_names : List (List ℕ)
task_names = codes "key" ∷ codes "formula" ∷ codes "inputs" ∷ codes "after" ∷ codes "block" ∷ []

-- the names of a strike
abbrev pub strike_names : List (List ℕ)
strike_names = codes "task" ∷ codes "life" ∷ codes "point" ∷ codes "target" ∷ codes "word" ∷ []

-- the names of each kind of object
abbrev pub names_of : Kind → List (List ℕ)
names_of kinds.Whole = whole_names
names_of kinds.Task = task_names
names_of kinds.Strike = strike_names

-- the point of a name
abbrev pub point_of : List ℕ → Option Point
point_of name =
    if bytes_eq name (codes "explored") then Some Explored
    else (if bytes_eq name (codes "ready") then Some Ready
    else (if bytes_eq name (codes "computed") then Some Computed
    else (if bytes_eq name (codes "notified") then Some Notified else None)))

-- the target of a name; the word is 0 where none is stated
abbrev pub target_of : List ℕ → Option Target
target_of name =
    if bytes_eq name (codes "descriptor") then Some Descriptor
    else (if bytes_eq name (codes "notify") then Some (Notify 0)
    else (if bytes_eq name (codes "block") then Some Block else None))
