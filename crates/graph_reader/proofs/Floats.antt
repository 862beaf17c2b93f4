-- What is written has no float.
use Rattle.std.proofs.Common.{◌≡◌, ℕ, ◌||◌, List, [], ◌∷◌, map, Bool, false, Option, None, Some, refl}
use Rattle.serde_json.specs.Data.{Data, Members}
use Rattle.serde_json.specs.View.{items_of}
use Rattle.serde_json.specs.Written.{has_float, items_have_float, members_have_float}
use Rattle.graph_model.specs.declared.plan.Target.{Target}
use Rattle.graph_model.specs.declared.plan.Target.TheVariants.{Descriptor, Notify, Block}
use Rattle.graph_model.specs.declared.plan.Strike.{Strike}
use Rattle.raw_graph.specs.Graph.{Task, File}
use Rattle.graph_reader.specs.Written.{number_data, keys_data, with_block, task_data, target_members, strike_data, file_data}

neither : (a b : Bool) → a ≡ false → b ≡ false → (a || b) ≡ false
neither a b e f = rw (e, f) refl

all_plain : {X : Type 0} (f : X → Data) → ((x : X) → has_float (f x) ≡ false) → (xs : List X) → items_have_float (items_of (map f xs)) ≡ false
all_plain f plain [] = refl
all_plain f plain (x ∷ xs) = neither (has_float (f x)) _ (plain x) (all_plain f plain xs)

keys_plain : (keys : List ℕ) → has_float (keys_data keys) ≡ false
keys_plain keys = all_plain number_data (λ k. refl) keys

block_plain : (b : Option (ℕ × ℕ)) (later : Members) → members_have_float later ≡ false → members_have_float (with_block b later) ≡ false
block_plain None later plain = plain
block_plain (Some b) later plain = plain

task_plain : (t : Task) → has_float (task_data t) ≡ false
task_plain t =
    neither (has_float (keys_data t.after)) _ (keys_plain t.after)
    (block_plain t.block _ (neither (has_float (keys_data t.inputs)) false (keys_plain t.inputs) refl))

target_plain : (target : Target) (key : ℕ) → members_have_float (target_members target key) ≡ false
target_plain Descriptor key = refl
target_plain (Notify word) key = refl
target_plain Block key = refl

strike_plain : (s : Strike) → has_float (strike_data s) ≡ false
strike_plain s = target_plain s.target s.key.0

pub file_plain : (f : File) → has_float (file_data f) ≡ false
file_plain f =
    neither (items_have_float (items_of (map strike_data f.plan))) _ (all_plain strike_data strike_plain f.plan)
    (neither (items_have_float (items_of (map task_data f.graph.tasks))) false (all_plain task_data task_plain f.graph.tasks) refl)
