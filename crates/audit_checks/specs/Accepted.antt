-- Which graphs are accepted.
use Rattle.std.specs.Prelude.{◌≢◌, ◌==◌, ℕ, ◌+◌, ◌<◌, ◌≤◌, List, length, All, Contains, count_by}
use Rattle.formula_text.specs.Formulas.{tree}
use Rattle.formula_text.specs.Trees.{HasInputs}
use Rattle.raw_graph.specs.declared.raw.RawTask.{RawTask}
use Rattle.audit_checks.specs.Tasks.{key_of, keys_of, places_of, succ_count, IsBefore, writes, Writes}

abbrev pub HasDistinctKeys : List RawTask → Type 0
HasDistinctKeys ts = (k : ℕ) → count_by (λ t. key_of t == k) ts ≤ 1

-- each place names a task
abbrev pub NamesTasks : List RawTask → Type 0
NamesTasks ts = All (λ t. All (Contains (keys_of ts)) (places_of t)) ts

abbrev pub HasFewPlaces : List RawTask → Type 0
HasFewPlaces ts = All (λ t. length (places_of t) ≤ 40) ts

abbrev pub HasFewEdges : List RawTask → ℕ → Type 0
HasFewEdges ts sink = All (λ t. succ_count ts sink (key_of t) ≤ 640) ts

-- numbers can be given to the tasks so that each predecessor has a smaller one
pub record IsAcyclic (ts : List RawTask) : Type 0 where
  pub number : ℕ → ℕ
  pub rises : (p k : ℕ) → IsBefore ts p k → number p < number k

abbrev pub HasOneWriter : List RawTask → Type 0
HasOneWriter ts = (b v : ℕ) → count_by (writes b v) ts ≤ 1

-- below a written version each one is written
abbrev pub HasAllVersions : List RawTask → Type 0
HasAllVersions ts = (t : RawTask) (b v w : ℕ) → Writes ts t b v → 1 ≤ w → w < v → (s : RawTask) × Writes ts s b w

-- the writer of a version is a direct predecessor of the next one's writer
abbrev pub HasOrderedWriters : List RawTask → Type 0
HasOrderedWriters ts = (s t : RawTask) (b v : ℕ) → Writes ts s b v → Writes ts t b (v + 1) → Contains (places_of t) (key_of s)

-- so is each other task that has it as a data predecessor
abbrev pub HasReadersBefore : List RawTask → Type 0
HasReadersBefore ts = (s t r : RawTask) (b v : ℕ) → Writes ts s b v → Writes ts t b (v + 1)
    → Contains ts r → Contains r.inputs (key_of s) → key_of r ≢ key_of t → Contains (places_of t) (key_of r)

-- a formula uses only inputs that are given
abbrev pub HasGivenInputs : List RawTask → Type 0
HasGivenInputs ts = All (λ t. HasInputs (tree t.formula) (length t.inputs)) ts

pub record IsAccepted (ts : List RawTask) (sink : ℕ) : Type 0 where
  pub distinct : HasDistinctKeys ts
  pub known : NamesTasks ts
  pub sink_task : Contains (keys_of ts) sink
  pub places : HasFewPlaces ts
  pub edges : HasFewEdges ts sink
  pub acyclic : IsAcyclic ts
  pub once : HasOneWriter ts
  pub whole : HasAllVersions ts
  pub ordered : HasOrderedWriters ts
  pub read : HasReadersBefore ts
  pub given : HasGivenInputs ts
