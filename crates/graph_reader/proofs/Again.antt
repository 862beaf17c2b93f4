-- What is written holds what was written.
use Rattle.std.proofs.Common.{◌≡◌, ℕ, List, [], ◌∷◌, map, Option, None, Some, Ok, refl}
use Rattle.formula_text.specs.Trees.{Tree}
use Rattle.formula_text.specs.Machine.{reading}
use Rattle.formula_text.specs.Writing.{text_of}
use Rattle.formula_text.specs.Formulas.{tree}
use Rattle.formula_text.proofs.RoundTrip.{reads_again}
use Rattle.std.specs.List.{All}
use Rattle.std.proofs.lemmas.List.Elements.{All-nil, All-cons, All-head, All-tail}
use Rattle.serde_json.specs.Data.{Data, string}
use Rattle.serde_json.specs.View.{items_of}
use Rattle.graph_model.specs.declared.plan.Point.{Point}
use Rattle.graph_model.specs.declared.plan.Point.TheVariants.{Explored, Ready, Computed, Notified}
use Rattle.graph_model.specs.declared.plan.Target.{Target}
use Rattle.graph_model.specs.declared.plan.Target.TheVariants.{Descriptor, Notify, Block}
use Rattle.graph_model.specs.declared.plan.Strike.{Strike}
use Rattle.graph_reader.specs.Content.{number_in, every, keys_in, tree_in, point_in, task_in, strike_in, file_in}
use Rattle.raw_graph.specs.Graph.{Task, File, task_of}
use Rattle.raw_graph.specs.declared.raw.RawTask.{RawTask}
use Rattle.graph_reader.specs.Written.{number_data, keys_data, point_name, task_data, strike_data, file_data}

every_again : {X : Type 0} (content : Data → X) (written : X → Data) → ((x : X) → content (written x) ≡ x) → (xs : List X) → every content (items_of (map written xs)) ≡ xs
every_again content written again [] = refl
every_again content written again (x ∷ xs) = rw (again x, every_again content written again xs) refl

pub keys_again : (keys : List ℕ) → keys_in (keys_data keys) ≡ keys
keys_again keys = every_again number_in number_data (λ n. refl) keys

pub tree_again : (t : Tree) → reading (text_of t) ≡ Ok t → tree_in (string (text_of t)) ≡ t
tree_again t is = rw is refl

pub point_again : (p : Point) → point_in (string (point_name p)) ≡ p
point_again Explored = refl
point_again Ready = refl
point_again Computed = refl
point_again Notified = refl

task_parts : (k : ℕ) (t : Tree) (i a : List ℕ) (b : Option (ℕ × ℕ)) → reading (text_of t) ≡ Ok t
    → (let task : Task = record { key = k; tree = t; inputs = i; after = a; block = b } in task_in (task_data task) ≡ task)
task_parts k t i a None is = rw (keys_again i, keys_again a, is) refl
task_parts k t i a (Some b) is = rw (keys_again i, keys_again a, is) refl

pub task_again : (t : Task) → reading (text_of t.tree) ≡ Ok t.tree → task_in (task_data t) ≡ t
task_again t is = task_parts t.key t.tree t.inputs t.after t.block is

-- each formula can be read again
abbrev pub AreReadable : List Task → Type 0
AreReadable tasks = All (λ t. reading (text_of t.tree) ≡ Ok t.tree) tasks

-- those in memory can
pub are_readable : (ts : List RawTask) → AreReadable (map task_of ts)
are_readable [] = All-nil (λ t. reading (text_of t.tree) ≡ Ok t.tree)
are_readable (t ∷ ts) = All-cons (λ t. reading (text_of t.tree) ≡ Ok t.tree) (task_of t) (map task_of ts) (reads_again (tree t.formula) t.formula.within) (are_readable ts)

pub tasks_again : (ts : List Task) → AreReadable ts → every task_in (items_of (map task_data ts)) ≡ ts
tasks_again [] all = refl
tasks_again (t ∷ ts) all =
    rw (task_again t (All-head (λ t. reading (text_of t.tree) ≡ Ok t.tree) t ts all), tasks_again ts (All-tail (λ t. reading (text_of t.tree) ≡ Ok t.tree) t ts all)) refl

strike_parts : (k l : ℕ) (p : Point) (t : Target)
    → (let strike : Strike = record { key = record { 0 = k }; life = l; point = p; target = t } in strike_in (strike_data strike) ≡ strike)
strike_parts k l p Descriptor = rw (point_again p) refl
strike_parts k l p (Notify word) = rw (point_again p) refl
strike_parts k l p Block = rw (point_again p) refl

pub strike_again : (s : Strike) → strike_in (strike_data s) ≡ s
strike_again s = strike_parts s.key.0 s.life s.point s.target

pub file_again : (f : File) → AreReadable f.graph.tasks → file_in (file_data f) ≡ f
file_again f readable =
    rw (tasks_again f.graph.tasks readable, every_again strike_in strike_data strike_again f.plan) refl
