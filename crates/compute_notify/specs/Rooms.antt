-- Room in the scratch for the inputs and the output of a task.
use Rattle.std.specs.Prelude.{◌≡◌, Bool, true, false, ◌&&◌, ℕ, zero, suc, ◌+◌, ◌<◌, ◌≤◌, ℤ, List, [], ◌∷◌, ◌++◌, take, length}
use Rattle.graph_model.specs.Graph.{Graph as TaskGraph}
use Rattle.core_state.specs.Asked.{IsCoreKey, InEachGraphOf}
use Rattle.core_state.specs.Graph.{Graph, Setting}
use Rattle.compute_notify.specs.declared.compute.Compute.{Compute}
use Rattle.compute_notify.specs.declared.compute.Phase.{Phase}
use Rattle.compute_notify.specs.declared.compute.Phase.TheVariants as phase
use Rattle.compute_notify.specs.declared.item.After.{After}
use Rattle.compute_notify.specs.declared.item.Came.{Came}
use Rattle.compute_notify.specs.declared.item.Came.TheVariants as came
use Rattle.compute_notify.specs.declared.item.Item.{Item}
use Rattle.compute_notify.specs.declared.item.Item.TheVariants as item
use Rattle.compute_notify.specs.declared.scratch.Need.{Need}
use Rattle.compute_notify.specs.declared.scratch.Scratch.{Scratch}
use Rattle.std.specs.Prelude.{Option, Some, None}

-- how many cells the first n predecessors of k have together
abbrev pub cells_before : Graph → ℕ → ℕ → ℕ
cells_before r k zero = 0
cells_before r k (suc n) = cells_before r k n + r.cells (r.block (r.pred k n).task)

-- room for the lists of k's inputs, for their cells together, and for the longest of them and the output
pub record IsEnough (r : Graph) (k : ℕ) (need : Need) : Type 0 where
  pub lists : r.inputs k ≤ need.lists
  pub read : cells_before r k (r.inputs k) ≤ need.read
  pub own : r.cells (r.block k) ≤ need.longest
  pub each : (j : ℕ) → j < r.inputs k → r.cells (r.block (r.pred k j).task) ≤ need.longest

-- the room of a scratch, as a need that it meets
abbrev pub room_of : Scratch → Need
room_of s = record { lists = s.inputs.most_lists; read = s.inputs.most_cells; longest = length s.cells.items }

-- room for each task and for the root
pub record HasRoom (g : TaskGraph) (s : Scratch) : Type 0 where
  pub enough : InEachGraphOf g (λ r. (k : ℕ) → IsCoreKey g k → IsEnough r k (room_of s))

-- the values of the first n inputs of k, in order
abbrev pub input_values : Graph → ℕ → ℕ → List (List ℤ)
input_values r k zero = []
input_values r k (suc n) = input_values r k n ++ r.value (r.pred k n).task ∷ []

-- what stands in the scratch: the inputs that were read, or the output
abbrev pub HoldsValues : Graph → ℕ → Phase → Scratch → Type 0
HoldsValues r k (phase.Ready made) s = Unit {0}
HoldsValues r k (phase.Reading input) s = s.inputs.lists ≡ input_values r k input
HoldsValues r k phase.Writing s = take (r.cells (r.block k)) s.cells.items ≡ r.value k

-- the scratch stands as a computing's turn before left it, and has room for each task
abbrev pub FitsScratch : Setting → TaskGraph → Scratch → Item → Type 0
FitsScratch e g s (item.Compute c) = HasRoom g s × HoldsValues e.graph c.duty.key.0 c.phase s
FitsScratch e g s _ = HasRoom g s

abbrev pub left_scratch : Setting → TaskGraph → Scratch → Option Item → Type 0
left_scratch e g s None = HasRoom g s
left_scratch e g s (Some x) = FitsScratch e g s x

-- the scratch after a turn, for what is topmost then
abbrev pub came_scratch : Setting → TaskGraph → Scratch → Came → Option Item → Type 0
came_scratch e g s (came.Above x) left = FitsScratch e g s x
came_scratch e g s (came.Stack x) left = FitsScratch e g s x
came_scratch e g s _ left = left_scratch e g s left

abbrev pub AfterScratch : Setting → TaskGraph → Scratch → After → Type 0
AfterScratch e g s a = came_scratch e g s a.came a.left

-- what is left is a computing before its look at the descriptor
abbrev pub IsReady : After → Type 0
IsReady a = (c : Compute) × (made : ℕ) × (a.left ≡ Some (item.Compute c)) × (c.phase ≡ phase.Ready made) × (a.came ≡ came.Nothing)

-- an item that finds nothing of its own in the scratch
abbrev pub bare_phase : Phase → Bool
bare_phase (phase.Ready made) = true
bare_phase _ = false

abbrev pub bare_item : Item → Bool
bare_item (item.Compute c) = bare_phase c.phase
bare_item _ = true

abbrev pub bare_left : Option Item → Bool
bare_left None = true
bare_left (Some x) = bare_item x

abbrev pub bare_came : Came → Bool
bare_came (came.Above x) = bare_item x
bare_came (came.Stack x) = bare_item x
bare_came _ = true

-- a turn that leaves and brings only such items
abbrev pub is_bare : After → Bool
is_bare a = bare_left a.left && bare_came a.came

abbrev pub plain_came : Came → Bool
plain_came (came.Spent k l c) = false
plain_came now = bare_came now

-- a turn that leaves and brings only such items, and goes on with the run
abbrev pub is_plain : After → Bool
is_plain a = bare_left a.left && plain_came a.came
