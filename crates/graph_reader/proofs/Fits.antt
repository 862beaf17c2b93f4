-- What is within the limits passes its checks when it is written.
use Rattle.std.proofs.Common.{◌≡◌, ℕ, suc, ◌^◌, ◌<◌, ◌≤◌, List, [], ◌∷◌, length, map, All, Contains, Bool, true, Option, None, Some, IfSome, Ok, refl, ap, arith}
use Rattle.std.proofs.lemmas.Bool.Decides.{nat_tests}
use Rattle.std.proofs.lemmas.List.Elements.{All-head, All-tail, All-weaker, All-map, All-contains}
use Rattle.formula_text.specs.Trees.{Tree}
use Rattle.formula_text.specs.Machine.{reading}
use Rattle.formula_text.specs.Writing.{text_of}
use Rattle.serde_json.specs.Data.{Data, array}
use Rattle.serde_json.specs.Events.{items_len}
use Rattle.serde_json.specs.View.{items_of}
use Rattle.graph_model.specs.declared.plan.Point.{Point}
use Rattle.graph_model.specs.declared.plan.Point.TheVariants.{Explored, Ready, Computed, Notified}
use Rattle.graph_model.specs.declared.plan.Target.{Target}
use Rattle.graph_model.specs.declared.plan.Target.TheVariants.{Descriptor, Notify, Block}
use Rattle.graph_model.specs.declared.plan.Strike.{Strike}
use Rattle.raw_graph.specs.Graph.{Task, File, keys_of}
use Rattle.raw_graph.specs.Limits.{IsKey, IsBlock, IsTaskWithin, IsTargetWithin, IsStrikeWithin, IsWithinLimits}
use Rattle.graph_reader.specs.Checks.{Check, each, limits}
use Rattle.graph_reader.specs.Faults.{range}
use Rattle.graph_reader.specs.Format.{key_check, keys_check, array_check, task_check, strike_check, is_among, file_check}
use Rattle.graph_reader.specs.Written.{number_data, keys_data, task_data, strike_data, file_data}
use Rattle.graph_reader.specs.declared.fault.TextFault.{TextFault}
use Rattle.graph_reader.specs.declared.fault.TextFault.TheVariants.{TooManyTasks}
use Rattle.graph_reader.proofs.Again.{AreReadable, tasks_again}
use Rattle.graph_reader.proofs.Among.{among-contained}
use Rattle.graph_reader.proofs.Counted.{within_limit}

-- ---- numbers and keys

number_fits : (low high n : ℕ) → low ≤ n → n ≤ high → limits low high n ≡ None
number_fits low high n above below = grind (arith, nat_tests)

key_fits : (k : ℕ) → IsKey k → limits 0 9223372036854775807 k ≡ None
key_fits k small = number_fits 0 9223372036854775807 k (omega arith) (omega arith)

each_fits : {X : Type 0} (check : Check Data) (written : X → Data) (P : X → Type 0) → ((x : X) → P x → check (written x) ≡ None) → (k : ℕ) (xs : List X) → All P xs
    → each check k (items_of (map written xs)) ≡ None
each_fits check written P one k [] all = refl
each_fits check written P one k (x ∷ xs) all =
    rw (one x (All-head P x xs all), each_fits check written P one (suc k) xs (All-tail P x xs all)) refl

keys_fit : (keys : List ℕ) → All IsKey keys → keys_check (keys_data keys) ≡ None
keys_fit keys all = each_fits key_check number_data IsKey key_fits 0 keys all

-- ---- tasks

task_parts : (k : ℕ) (t : Tree) (i a : List ℕ) (b : Option (ℕ × ℕ)) → reading (text_of t) ≡ Ok t → IsKey k → All IsKey i → All IsKey a → IfSome b IsBlock
    → (let task : Task = record { key = k; tree = t; inputs = i; after = a; block = b } in task_check (task_data task) ≡ None)
task_parts k t i a None readable key inputs after block = rw (key_fits k key, readable, keys_fit i inputs, keys_fit a after) refl
task_parts k t i a (Some b) readable key inputs after block =
    rw (key_fits k key, readable, keys_fit i inputs, keys_fit a after, number_fits 0 4294967295 b.0 (omega arith) (omega (arith, block.0)), number_fits 1 16384 b.1 block.1 block.2) refl

-- a task that can be read, within its limits
abbrev IsSound : Task → Type 0
IsSound t = IsTaskWithin t × (reading (text_of t.tree) ≡ Ok t.tree)

task_fits : (t : Task) → IsSound t → task_check (task_data t) ≡ None
task_fits t sound = let w = sound.0 in task_parts t.key t.tree t.inputs t.after t.block sound.1 w.key w.inputs w.after w.block

are_sound : (ts : List Task) → All IsTaskWithin ts → AreReadable ts → All IsSound ts
are_sound ts all readable k d inside = (all k d inside, readable k d inside)

-- ---- strikes

strike_parts : (is_task : ℕ → Bool) (k l : ℕ) (p : Point) (t : Target) → limits 0 9223372036854775807 k ≡ None → is_task k ≡ true → limits 1 65535 l ≡ None → IsTargetWithin t
    → (let strike : Strike = record { key = record { 0 = k }; life = l; point = p; target = t } in strike_check is_task (strike_data strike) ≡ None)
strike_parts is_task k l Explored Descriptor key known life word = rw (key, known, life) refl
strike_parts is_task k l Ready Descriptor key known life word = rw (key, known, life) refl
strike_parts is_task k l Computed Descriptor key known life word = rw (key, known, life) refl
strike_parts is_task k l Notified Descriptor key known life word = rw (key, known, life) refl
strike_parts is_task k l Explored (Notify w) key known life word = rw (key, known, life, number_fits 0 15 w (omega arith) word) refl
strike_parts is_task k l Ready (Notify w) key known life word = rw (key, known, life, number_fits 0 15 w (omega arith) word) refl
strike_parts is_task k l Computed (Notify w) key known life word = rw (key, known, life, number_fits 0 15 w (omega arith) word) refl
strike_parts is_task k l Notified (Notify w) key known life word = rw (key, known, life, number_fits 0 15 w (omega arith) word) refl
strike_parts is_task k l Explored Block key known life word = rw (key, known, life) refl
strike_parts is_task k l Ready Block key known life word = rw (key, known, life) refl
strike_parts is_task k l Computed Block key known life word = rw (key, known, life) refl
strike_parts is_task k l Notified Block key known life word = rw (key, known, life) refl

-- a strike on these tasks has a key
strike_key : (tasks : List Task) (k : ℕ) → All IsTaskWithin tasks → Contains (keys_of tasks) k → IsKey k
strike_key tasks k all here = All-contains IsKey (keys_of tasks) k (All-map IsKey (λ task. task.key) tasks (All-weaker IsTaskWithin (λ task. IsKey task.key) (λ task w. w.key) tasks all)) here

pub strikes_have_keys : (f : File) → IsWithinLimits f → All (λ strike. strike.key.0 < 2 ^ 63) f.plan
strikes_have_keys f w = All-weaker (IsStrikeWithin f.graph.tasks) (λ strike. strike.key.0 < 2 ^ 63) (λ strike s. strike_key f.graph.tasks strike.key.0 w.graph.tasks s.task) f.plan w.strikes

strike_fits : (tasks : List Task) → All IsTaskWithin tasks → (s : Strike) → IsStrikeWithin tasks s → strike_check (is_among (keys_of tasks)) (strike_data s) ≡ None
strike_fits tasks all s w =
    strike_parts (is_among (keys_of tasks)) s.key.0 s.life s.point s.target (key_fits s.key.0 (strike_key tasks s.key.0 all w.task))
    (among-contained (keys_of tasks) s.key.0 w.task) (number_fits 1 65535 s.life w.first w.last) w.target

-- ---- the whole

written_length : {X : Type 0} (written : X → Data) (xs : List X) → items_len (items_of (map written xs)) ≡ length xs
written_length written [] = refl
written_length written (x ∷ xs) = ap suc (written_length written xs)

array_fits : {X : Type 0} (most : ℕ) (fault : TextFault) (check : Check Data) (written : X → Data) (P : X → Type 0) → ((x : X) → P x → check (written x) ≡ None) → (xs : List X)
    → length xs ≤ most → All P xs → array_check most fault check (array (items_of (map written xs))) ≡ None
array_fits most fault check written P one xs few all =
    rw (written_length written xs, within_limit (length xs) most (each check 0 (items_of (map written xs))) (Some fault) few) (each_fits check written P one 0 xs all)

pub file_fits : (f : File) → IsWithinLimits f → AreReadable f.graph.tasks → file_check (file_data f) ≡ None
file_fits f w readable =
    let tasks = f.graph.tasks in
    let g = w.graph in
    let checked = array_fits 16384 TooManyTasks task_check task_data IsSound task_fits tasks g.few (are_sound tasks g.tasks readable) in
    let struck = array_fits 4096 range (strike_check (is_among (keys_of tasks))) strike_data (IsStrikeWithin tasks) (strike_fits tasks g.tasks) f.plan w.few w.strikes in
    rw (key_fits f.graph.sink g.sink, checked, tasks_again tasks readable, struck) refl
