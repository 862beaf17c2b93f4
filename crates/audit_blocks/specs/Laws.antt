-- What a task graph asks of its blocks, in the words of its law.
use Rattle.std.specs.Prelude.{◌≡◌, ◌≢◌, ◌==◌, ℕ, ◌+◌, ◌<◌, ◌≤◌, List, Some, Contains, IsTrue, slice_get}
use Rattle.std.specs.List.{list_any}
use Rattle.graph_model.specs.declared.graph.Place.{Place}
use Rattle.audit_blocks.specs.Numbering.{writer_in, versions_in, block_in, version_in}

-- some place names the key
abbrev pub names_key : List (ℕ × ℕ) → ℕ → Type 0
names_key es k = IsTrue (list_any (λ e. e.0 == k) es)

pub record HasBlockLaws (keys : List ℕ) (places : List Place) (count : ℕ) (preds succs : ℕ → List (ℕ × ℕ)) (inputs : ℕ → ℕ) : Type 0 where
  pub few_blocks : count ≤ 1048576
  pub block_inside : (k : ℕ) → Contains keys k → block_in keys places k < count
  pub version_inside : (k : ℕ) → Contains keys k → (1 ≤ version_in keys places k) × (version_in keys places k ≤ versions_in places (block_in keys places k))
  pub writes : (b v : ℕ) → b < count → 1 ≤ v → v ≤ versions_in places b → (block_in keys places (writer_in keys places b v) ≡ b) × (version_in keys places (writer_in keys places b v) ≡ v)
  pub writer_task : (b v : ℕ) → b < count → 1 ≤ v → v ≤ versions_in places b → ∥ Contains keys (writer_in keys places b v) ∥₁
  pub one_writer : (k : ℕ) → Contains keys k → writer_in keys places (block_in keys places k) (version_in keys places k) ≡ k
  pub ordered : (b v : ℕ) → b < count → 1 ≤ v → v < versions_in places b → names_key (preds (writer_in keys places b (v + 1))) (writer_in keys places b v)
  pub read_before : (b v q k j : ℕ) → b < count → 1 ≤ v → v < versions_in places b → slice_get (succs (writer_in keys places b v)) q ≡ Some (k, j) → j < inputs k
      → k ≢ writer_in keys places b (v + 1) → names_key (preds (writer_in keys places b (v + 1))) k
