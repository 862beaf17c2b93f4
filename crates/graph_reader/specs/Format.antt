-- The format: the checks of a file in their order.
use Rattle.std.specs.Prelude.{ℕ, ◌==◌, List, [], ◌∷◌, codes, Bool, Option, None, Some, Result, Ok, Err, if◌then◌else◌, nat_le, option_and_then}
use Rattle.std.specs.List.{list_any}
use Rattle.formula_text.specs.Trees.{Tree}
use Rattle.formula_text.specs.Machine.{reading}
use Rattle.formula_text.specs.declared.fault.FormulaFault.{FormulaFault}
use Rattle.serde_json.specs.Data.{Data, Items, no_items, item}
use Rattle.serde_json.specs.Events.{items_len}
use Rattle.serde_json.specs.Find.{as_str, as_array}
use Rattle.graph_model.specs.declared.plan.Target.{Target}
use Rattle.graph_model.specs.declared.plan.Target.TheVariants.{Descriptor, Notify, Block}
use Rattle.graph_reader.specs.Checks.{Check, of_kind, passes, number_check, each, object_check, names_check, field, needed, optional}
use Rattle.graph_reader.specs.Content.{number_in, target_in, tasks_in}
use Rattle.graph_reader.specs.Faults.{shape, range, within, first}
use Rattle.raw_graph.specs.Graph.{keys_of}
use Rattle.graph_reader.specs.Names.{whole_names, task_names, strike_names, point_of, target_of}
use Rattle.graph_reader.specs.declared.fault.TextFault.{TextFault}
use Rattle.graph_reader.specs.declared.fault.TextFault.TheVariants.{Formula, TooManyTasks, Version}

-- ---- kinds of values

-- a key is below 2^63
abbrev pub key_check : Check Data
key_check = number_check 0 9223372036854775807

-- an array of keys
abbrev pub keys_check : Check Data
keys_check d = of_kind (each key_check 0) (as_array d)

-- a formula that was read; a refusal names the task
abbrev pub read_check : ℕ → Result Tree FormulaFault → Option TextFault
read_check key (Ok t) = None
read_check key (Err e) = Some (Formula (record { 0 = key }) e)

-- a string that is a formula
abbrev pub formula_check : ℕ → Check Data
formula_check key d = of_kind (λ text. read_check key (reading text)) (as_str d)

-- two items: a block's name, and a version of it
abbrev pub pair_check : Check Items
pair_check no_items = Some shape
pair_check (item name no_items) = Some shape
pair_check (item name (item version no_items)) = first (within (codes "0") (number_check 0 4294967295 name) ∷ within (codes "1") (number_check 1 16384 version) ∷ [])
pair_check (item name (item version (item more ds))) = Some shape

-- an array of two items
abbrev pub block_check : Check Data
block_check d = of_kind pair_check (as_array d)

-- the name of a point
abbrev pub point_check : Check Data
point_check d = of_kind passes (option_and_then point_of (as_str d))

-- the name of a target
abbrev pub target_check : Check Data
target_check d = of_kind passes (option_and_then target_of (as_str d))

-- only the target `notify` has a word
abbrev pub word_check : Target → Check Data
word_check Descriptor d = Some shape
word_check (Notify word) d = number_check 0 15 d
word_check Block d = Some shape

-- a key of the tasks
abbrev pub task_key_check : (ℕ → Bool) → Check Data
task_key_check is_task d = first (key_check d ∷ (if is_task (number_in d) then None else Some shape) ∷ [])

-- an unsigned number, which is 1
abbrev pub version_check : Check Data
version_check d = first (number_check 0 18446744073709551615 d ∷ (if number_in d == 1 then None else Some Version) ∷ [])

-- at most so many items, else that fault; and each item
abbrev pub counted : ℕ → TextFault → Check Data → Check Items
counted most too_many check ds = if nat_le (items_len ds) most then each check 0 ds else Some too_many

-- an array of at most so many items
abbrev pub array_check : ℕ → TextFault → Check Data → Check Data
array_check most too_many check d = of_kind (counted most too_many check) (as_array d)

-- ---- objects

-- a task
abbrev pub task_check : Check Data
task_check d = first (
    object_check d
    ∷ names_check task_names d
    ∷ needed (codes "key") key_check d
    ∷ needed (codes "formula") (formula_check (number_in (field (codes "key") d))) d
    ∷ optional (codes "inputs") keys_check d
    ∷ optional (codes "after") keys_check d
    ∷ optional (codes "block") block_check d
    ∷ [])

-- a strike on one of the tasks
abbrev pub strike_check : (ℕ → Bool) → Check Data
strike_check is_task d = first (
    object_check d
    ∷ names_check strike_names d
    ∷ needed (codes "task") (task_key_check is_task) d
    ∷ needed (codes "life") (number_check 1 65535) d
    ∷ needed (codes "point") point_check d
    ∷ needed (codes "target") target_check d
    ∷ optional (codes "word") (word_check (target_in (field (codes "target") d))) d
    ∷ [])

-- at most 16,384 tasks
abbrev pub tasks_check : Check Data
tasks_check = array_check 16384 TooManyTasks task_check

-- at most 4,096 strikes
abbrev pub strikes_check : (ℕ → Bool) → Check Data
strikes_check is_task = array_check 4096 range (strike_check is_task)

-- the key is one of these
abbrev pub is_among : List ℕ → ℕ → Bool
is_among keys key = list_any (λ k. k == key) keys

-- the whole; the strikes come last, when the keys of the tasks are known
abbrev pub file_check : Check Data
file_check d = first (
    object_check d
    ∷ needed (codes "version") version_check d
    ∷ names_check whole_names d
    ∷ needed (codes "sink") key_check d
    ∷ needed (codes "tasks") tasks_check d
    ∷ optional (codes "faults") (strikes_check (is_among (keys_of (tasks_in (field (codes "tasks") d))))) d
    ∷ [])
