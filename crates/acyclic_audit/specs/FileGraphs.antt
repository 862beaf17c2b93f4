-- The task graph that the findings on tasks tell.
use Rattle.std.specs.Prelude.{◌≡◌, ◌-◌, ℕ, ◌<◌, ◌≤◌, List, Some, length, map, slice_index, slice_index_or, vec_len, Contains}
use Rattle.formula_text.specs.Formulas.{tree}
use Rattle.formula_text.specs.Trees.{Tree, Number, Uses}
use Rattle.std.specs.Prelude.{pos}
use Rattle.graph_model.specs.Graph.{Graph}
use Rattle.raw_graph.specs.declared.raw.RawTask.{RawTask}
use Rattle.audit_checks.specs.Tasks.{IsAscending}
use Rattle.audit_checks.specs.Rows.{cell}
use Rattle.audit_checks.specs.ByKey.{number_in, row_by}
use Rattle.audit_checks.specs.Links.{places_in, succs_in}
use Rattle.audit_blocks.specs.Numbering.{block_in, version_in, versions_in, writer_in}
use Rattle.acyclic_audit.specs.declared.findings.Findings.{Findings}

-- how many inputs each task gets
abbrev pub input_counts : List RawTask → List ℕ
input_counts ts = map (λ t. length t.inputs) ts

abbrev pub inputs_in : List ℕ → List RawTask → ℕ → ℕ
inputs_in keys ts k = slice_index (input_counts ts) (number_in keys k)

abbrev pub trees_of : List RawTask → List Tree
trees_of ts = map (λ t. tree t.formula) ts

-- the formula of a key's task
abbrev pub tree_in : List ℕ → List RawTask → ℕ → Tree
tree_in keys ts k = slice_index_or (trees_of ts) (number_in keys k) (Number (pos 0))

-- the task graph of tasks with ascending keys
abbrev pub graph_of : List ℕ → List RawTask → Findings → Graph
graph_of keys ts x = record {
  keys = keys;
  sink = slice_index keys x.sink;
  preds = row_by keys (places_in x.links);
  inputs = inputs_in keys ts;
  succs = row_by keys (succs_in x.links);
  block = block_in keys x.blocks.places.items;
  version = version_in keys x.blocks.places.items;
  block_count = x.blocks.count;
  versions = versions_in x.blocks.places.items;
  writer = writer_in keys x.blocks.places.items;
  cells = λ _. 1;
  rank = λ k. slice_index x.levels.items (number_in keys k) - 1;
}

-- there is a row for each key, and no row names another; a formula uses only inputs that are given
pub record IsWhole (keys : List ℕ) (ts : List RawTask) (x : Findings) : Type 0 where
  pub ascending : IsAscending keys
  pub few : length keys ≤ 16384
  pub sink : x.sink < length keys
  pub tasks : length ts ≡ length keys
  pub places : vec_len x.links.places ≡ length keys
  pub succs : vec_len x.links.succs ≡ length keys
  pub levels : vec_len x.levels ≡ length keys
  pub blocks : vec_len x.blocks.places ≡ length keys
  pub places_inside : (i j : ℕ) (e : ℕ × ℕ) → cell (places_in x.links) i j ≡ Some e → e.0 < length keys
  pub succs_inside : (i j : ℕ) (e : ℕ × ℕ) → cell (succs_in x.links) i j ≡ Some e → e.0 < length keys
  pub some_level : (i : ℕ) → i < length keys → 0 < slice_index x.levels.items i
  pub given : (k i : ℕ) → Contains keys k → Uses (tree_in keys ts k) i → i < inputs_in keys ts k
