-- The path of each refusal is one line of printable text, since all its parts are.
use Rattle.std.proofs.Common.{ℕ, suc, Bool, true, false, cond, List, [], ◌∷◌, ◌++◌, Option, None, Some, IfSome, Result, Ok, Err, IfErr, nat_le, option_and_then, codes, decimal, refl, arith, subst, sym, inl, inr}
use Rattle.std.specs.Option.{option_or}
use Rattle.std.specs.Prelude.{◌==◌}
use Rattle.std.proofs.lemmas.Str.{NoCharPasses-nil, NoCharPasses-append}
use Rattle.std.specs.Char.{is_control}
use Rattle.formula_text.specs.Trees.{Tree}
use Rattle.formula_text.specs.Machine.{reading}
use Rattle.formula_text.specs.declared.fault.FormulaFault.{FormulaFault}
use Rattle.serde_json.specs.Data.{Data, Items, no_items, item, Members, no_members, member}
use Rattle.serde_json.specs.Events.{items_len}
use Rattle.serde_json.specs.Find.{get, as_str, as_array, as_object}
use Rattle.graph_model.specs.declared.plan.Strike.{Strike}
use Rattle.graph_model.specs.declared.plan.Target.{Target}
use Rattle.graph_model.specs.declared.plan.Target.TheVariants.{Descriptor, Notify, Block}
use Rattle.raw_graph.specs.Graph.{keys_of}
use Rattle.raw_graph.specs.declared.raw.RawGraph.{RawGraph}
use Rattle.graph_reader.specs.Answers.{ReadsGraph}
use Rattle.graph_reader.specs.Checks.{Check, of_kind, passes, unsigned_of, limits, number_check, each, object_check, has_name, members_check, names_check, field, needed, optional}
use Rattle.graph_reader.specs.Content.{number_in, target_in, tasks_in}
use Rattle.graph_reader.specs.Faults.{shape, range, under, within, first, HasLinePath}
use Rattle.graph_reader.specs.Format.{key_check, keys_check, read_check, formula_check, pair_check, block_check, point_check, target_check, word_check, task_key_check, version_check, counted, array_check, task_check, strike_check, tasks_check, strikes_check, is_among, file_check}
use Rattle.graph_reader.specs.Names.{whole_names, task_names, strike_names, point_of, target_of}
use Rattle.graph_reader.specs.Shown.{shown_name, IsOneLine}
use Rattle.graph_reader.specs.declared.fault.TextFault.{TextFault}
use Rattle.graph_reader.specs.declared.fault.TextFault.TheVariants.{NotJson, Shape, Range, Formula, TooManyTasks, Version, OutOfMemory}
use Rattle.graph_reader.proofs.Lines.{name_line, one_more}

-- what is wrong, where something is, has such a path
abbrev pub Lined : Option TextFault → Type 0
Lined fault = IfSome fault HasLinePath

-- a check whose faults have such paths
abbrev pub Lines : {X : Type 0} → Check X → Type 0
Lines {X} check = (x : X) → Lined (check x)

-- ---- parts

joined_line : (part path : List ℕ) → IsOneLine path → IsOneLine (47 ∷ (shown_name part ++ path))
joined_line part path line = one_more 47 (shown_name part ++ path) (omega arith) refl (NoCharPasses-append is_control (shown_name part) path (name_line part) line)

under_line : (part : List ℕ) (fault : TextFault) → HasLinePath fault → HasLinePath (under part fault)
under_line part (Shape path) line = joined_line part path line
under_line part (Range path) line = joined_line part path line
under_line part NotJson line = tt
under_line part (Formula task fault) line = tt
under_line part TooManyTasks line = tt
under_line part Version line = tt
under_line part OutOfMemory line = tt

within_line : (part : List ℕ) (fault : Option TextFault) → Lined fault → Lined (within part fault)
within_line part None line = tt
within_line part (Some fault) line = under_line part fault line

or_line : (a b : Option TextFault) → Lined a → Lined b → Lined (option_or a b)
or_line None b first later = later
or_line (Some fault) b first later = first

if_line : (b : Bool) (x y : Option TextFault) → Lined x → Lined y → Lined (cond b x y)
if_line true x y is_x is_y = is_x
if_line false x y is_x is_y = is_y

kind_line : {X : Type 0} (check : Check X) → Lines check → (o : Option X) → Lined (of_kind check o)
kind_line check lines None = NoCharPasses-nil is_control
kind_line check lines (Some x) = lines x

found_line : {X : Type 0} (check : X → Option TextFault) → ((x : X) → Lined (check x)) → (o : Option X) → Lined (option_and_then check o)
found_line check lines None = tt
found_line check lines (Some x) = lines x

needed_line : (name : List ℕ) (check : Check Data) → Lines check → Lines (needed name check)
needed_line name check lines d = within_line name (check (field name d)) (lines (field name d))

optional_line : (name : List ℕ) (check : Check Data) → Lines check → Lines (optional name check)
optional_line name check lines d = found_line (λ found. within name (check found)) (λ found. within_line name (check found) (lines found)) (get name d)

each_line : (check : Check Data) → Lines check → (position : ℕ) (ds : Items) → Lined (each check position ds)
each_line check lines position no_items = tt
each_line check lines position (item d ds) =
    or_line (within (decimal position) (check d)) (each check (suc position) ds) (within_line (decimal position) (check d) (lines d)) (each_line check lines (suc position) ds)

members_line : (names : List (List ℕ)) (ms : Members) → Lined (members_check names ms)
members_line names no_members = tt
members_line names (member name d ms) =
    if_line (has_name names name) (members_check names ms) (Some (under name shape)) (members_line names ms) (under_line name shape (NoCharPasses-nil is_control))

names_line : (names : List (List ℕ)) → Lines (names_check names)
names_line names d = found_line (members_check names) (members_line names) (as_object d)

object_line : Lines object_check
object_line d = kind_line passes (λ x. tt) (as_object d)

-- ---- kinds of values

limits_line : (low high : ℕ) → Lines (limits low high)
limits_line low high n = if_line _ None (Some range) tt (NoCharPasses-nil is_control)

number_line : (low high : ℕ) → Lines (number_check low high)
number_line low high d = kind_line (limits low high) (limits_line low high) (unsigned_of d)

key_line : Lines key_check
key_line d = number_line 0 9223372036854775807 d

keys_line : Lines keys_check
keys_line d = kind_line (each key_check 0) (each_line key_check key_line 0) (as_array d)

read_line : (key : ℕ) (r : Result Tree FormulaFault) → Lined (read_check key r)
read_line key (Ok t) = tt
read_line key (Err e) = tt

formula_line : (key : ℕ) → Lines (formula_check key)
formula_line key d = kind_line (λ text. read_check key (reading text)) (λ text. read_line key (reading text)) (as_str d)

pair_line : Lines pair_check
pair_line no_items = NoCharPasses-nil is_control
pair_line (item name no_items) = NoCharPasses-nil is_control
pair_line (item name (item version no_items)) =
    or_line (within (codes "0") (number_check 0 4294967295 name)) _ (within_line (codes "0") (number_check 0 4294967295 name) (number_line 0 4294967295 name))
    (or_line (within (codes "1") (number_check 1 16384 version)) None (within_line (codes "1") (number_check 1 16384 version) (number_line 1 16384 version)) tt)
pair_line (item name (item version (item more ds))) = NoCharPasses-nil is_control

block_line : Lines block_check
block_line d = kind_line pair_check pair_line (as_array d)

point_line : Lines point_check
point_line d = kind_line passes (λ x. tt) (option_and_then point_of (as_str d))

target_line : Lines target_check
target_line d = kind_line passes (λ x. tt) (option_and_then target_of (as_str d))

word_line : (target : Target) → Lines (word_check target)
word_line Descriptor d = NoCharPasses-nil is_control
word_line (Notify word) d = number_line 0 15 d
word_line Block d = NoCharPasses-nil is_control

task_key_line : (is_task : ℕ → Bool) → Lines (task_key_check is_task)
task_key_line is_task d = or_line (key_check d) _ (key_line d) (or_line _ None (if_line (is_task (number_in d)) None (Some shape) tt (NoCharPasses-nil is_control)) tt)

version_line : Lines version_check
version_line d = or_line (number_check 0 18446744073709551615 d) _ (number_line 0 18446744073709551615 d) (or_line _ None (if_line (number_in d == 1) None (Some Version) tt tt) tt)

array_line : (most : ℕ) (too_many : TextFault) (check : Check Data) → HasLinePath too_many → Lines check → Lines (array_check most too_many check)
array_line most too_many check line lines d =
    kind_line (counted most too_many check) (λ ds. if_line (nat_le (items_len ds) most) (each check 0 ds) (Some too_many) (each_line check lines 0 ds) line) (as_array d)

-- ---- objects

six_line : (a b c d f g : Option TextFault) → Lined a → Lined b → Lined c → Lined d → Lined f → Lined g → Lined (first (a ∷ b ∷ c ∷ d ∷ f ∷ g ∷ []))
six_line a b c d f g la lb lc ld lf lg = or_line a _ la (or_line b _ lb (or_line c _ lc (or_line d _ ld (or_line f _ lf (or_line g None lg tt)))))

seven_line : (a b c d f g h : Option TextFault) → Lined a → Lined b → Lined c → Lined d → Lined f → Lined g → Lined h → Lined (first (a ∷ b ∷ c ∷ d ∷ f ∷ g ∷ h ∷ []))
seven_line a b c d f g h la lb lc ld lf lg lh = or_line a _ la (six_line b c d f g h lb lc ld lf lg lh)

task_line : Lines task_check
task_line d =
    let key = number_in (field (codes "key") d) in
    seven_line _ _ _ _ _ _ _ (object_line d) (names_line task_names d) (needed_line (codes "key") key_check key_line d) (needed_line (codes "formula") (formula_check key) (formula_line key) d)
    (optional_line (codes "inputs") keys_check keys_line d) (optional_line (codes "after") keys_check keys_line d) (optional_line (codes "block") block_check block_line d)

strike_line : (is_task : ℕ → Bool) → Lines (strike_check is_task)
strike_line is_task d =
    let named = target_in (field (codes "target") d) in
    seven_line _ _ _ _ _ _ _ (object_line d) (names_line strike_names d) (needed_line (codes "task") (task_key_check is_task) (task_key_line is_task) d)
    (needed_line (codes "life") (number_check 1 65535) (number_line 1 65535) d) (needed_line (codes "point") point_check point_line d)
    (needed_line (codes "target") target_check target_line d) (optional_line (codes "word") (word_check named) (word_line named) d)

tasks_line : Lines tasks_check
tasks_line d = array_line 16384 TooManyTasks task_check tt task_line d

strikes_line : (is_task : ℕ → Bool) → Lines (strikes_check is_task)
strikes_line is_task d = array_line 4096 range (strike_check is_task) (NoCharPasses-nil is_control) (strike_line is_task) d

file_line : Lines file_check
file_line d =
    let is_task = is_among (keys_of (tasks_in (field (codes "tasks") d))) in
    six_line _ _ _ _ _ _ (object_line d) (needed_line (codes "version") version_check version_line d) (names_line whole_names d) (needed_line (codes "sink") key_check key_line d)
    (needed_line (codes "tasks") tasks_check tasks_line d) (optional_line (codes "faults") (strikes_check is_task) (strikes_line is_task) d)

-- a refusal of bytes
pub refusal_line : (bytes : List ℕ) (answer : Result (RawGraph × List Strike) TextFault) → ReadsGraph bytes answer → IfErr answer HasLinePath
refusal_line bytes (Ok r) reads = tt
refusal_line bytes (Err e) (inl memory) = subst HasLinePath (sym memory) tt
refusal_line bytes (Err e) (inr (inl text)) = subst HasLinePath (sym text.0) tt
refusal_line bytes (Err e) (inr (inr fails)) = subst Lined fails.fails (file_line fails.value)
