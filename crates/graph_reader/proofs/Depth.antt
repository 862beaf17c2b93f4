-- How deep what is written nests.
use Rattle.std.proofs.Common.{ℕ, ◌≤◌, List, [], ◌∷◌, map, Option, None, Some, arith, codes}
use Rattle.formula_text.specs.Writing.{text_of}
use Rattle.serde_json.specs.Data.{Data, string, Members, no_members, member, depth, items_depth, members_depth}
use Rattle.serde_json.specs.View.{items_of}
use Rattle.graph_model.specs.declared.plan.Target.{Target}
use Rattle.graph_model.specs.declared.plan.Target.TheVariants.{Descriptor, Notify, Block}
use Rattle.graph_model.specs.declared.plan.Strike.{Strike}
use Rattle.raw_graph.specs.Graph.{Task, File}
use Rattle.graph_reader.specs.Written.{number_data, keys_data, with_block, task_data, target_members, strike_data, file_data}

items_within : {X : Type 0} (f : X → Data) (n : ℕ) → ((x : X) → depth (f x) ≤ n) → (xs : List X) → items_depth (items_of (map f xs)) ≤ n
items_within f n one [] = omega arith
items_within f n one (x ∷ xs) = omega (arith, one x, items_within f n one xs)

keys_within : (keys : List ℕ) → depth (keys_data keys) ≤ 1
keys_within keys = omega (arith, items_within number_data 0 (λ k. omega arith) keys)

block_within : (b : Option (ℕ × ℕ)) (later : Members) → members_depth later ≤ 1 → members_depth (with_block b later) ≤ 1
block_within None later h = h
block_within (Some b) later h = omega (arith, h)

task_within : (t : Task) → depth (task_data t) ≤ 2
task_within t =
    let later = member (codes "formula") (string (text_of t.tree)) (member (codes "inputs") (keys_data t.inputs) (member (codes "key") (number_data t.key) no_members)) in
    let below : members_depth later ≤ 1 = omega (arith, keys_within t.inputs) in
    omega (arith, keys_within t.after, block_within t.block later below)

target_within : (target : Target) (key : ℕ) → members_depth (target_members target key) ≤ 0
target_within Descriptor key = omega arith
target_within (Notify word) key = omega arith
target_within Block key = omega arith

strike_within : (s : Strike) → depth (strike_data s) ≤ 1
strike_within s = omega (arith, target_within s.target s.key.0)

pub file_within : (f : File) → depth (file_data f) ≤ 127
file_within f = omega (arith, items_within strike_data 1 strike_within f.plan, items_within task_data 2 task_within f.graph.tasks)
