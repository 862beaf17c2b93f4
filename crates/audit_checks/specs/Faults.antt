-- What each refusal says. The first kind in their order that stands decides.
use Rattle.std.specs.Prelude.{◌≡◌, ◌≢◌, ◌==◌, ℕ, ◌+◌, ◌<◌, ◌≤◌, List, length, Contains, count_by, slice_index}
use Rattle.formula_text.specs.Formulas.{tree}
use Rattle.formula_text.specs.Trees.{Uses}
use Rattle.raw_graph.specs.declared.raw.RawTask.{RawTask}
use Rattle.audit_checks.specs.Tasks.{key_of, keys_of, places_of, succ_count, Leads, writes, Writes}
use Rattle.audit_checks.specs.Accepted.{HasDistinctKeys, NamesTasks, HasFewPlaces, HasFewEdges, IsAcyclic, HasOneWriter, HasAllVersions, HasOrderedWriters, HasReadersBefore}
use Rattle.audit_checks.specs.declared.fault.AuditFault.{AuditFault}
use Rattle.audit_checks.specs.declared.fault.AuditFault.TheVariants.{DuplicateKey, UnknownKey, NoSink, TooManyPreds, TooManySuccs, Cycle, VersionTwice, VersionGap, VersionOrder, ReaderNotBefore, InputCount, OutOfMemory}

pub record IsLeast (P : ℕ → Type 0) (n : ℕ) : Type 0 where
  pub holds : P n
  pub least : (m : ℕ) → m < n → ¬ P m

-- the least block, and in it the least version
pub record IsLeastPair (P : ℕ → ℕ → Type 0) (b v : ℕ) : Type 0 where
  pub holds : P b v
  pub least_block : (c w : ℕ) → c < b → ¬ P c w
  pub least_version : (w : ℕ) → w < v → ¬ P b w

-- the first of the names that is none of the keys
pub record IsFirstUnknown (keys names : List ℕ) (name : ℕ) : Type 0 where
  pub place : ℕ
  pub inside : place < length names
  pub named : slice_index names place ≡ name
  pub unknown : ¬ Contains keys name
  pub known : (i : ℕ) → i < place → Contains keys (slice_index names i)

-- a task with this key and P
pub record HasTask (ts : List RawTask) (P : RawTask → Type 0) (key : ℕ) : Type 0 where
  pub task : RawTask
  pub stands : Contains ts task
  pub key_is : key_of task ≡ key
  pub holds : P task

abbrev pub StandsTwice : List RawTask → ℕ → Type 0
StandsTwice ts k = 1 < count_by (λ t. key_of t == k) ts

abbrev pub HasUnknown : List RawTask → RawTask → Type 0
HasUnknown ts t = (name : ℕ) × IsFirstUnknown (keys_of ts) (places_of t) name

abbrev pub HasManyPlaces : RawTask → Type 0
HasManyPlaces t = 40 < length (places_of t)

abbrev pub HasManyEdges : List RawTask → ℕ → RawTask → Type 0
HasManyEdges ts sink t = 640 < succ_count ts sink (key_of t)

abbrev pub HasTwoWriters : List RawTask → ℕ → ℕ → Type 0
HasTwoWriters ts b v = 1 < count_by (writes b v) ts

pub record LacksVersion (ts : List RawTask) (b v : ℕ) : Type 0 where
  pub some : 1 ≤ v
  pub task : RawTask
  pub above : ℕ
  pub written : Writes ts task b above
  pub below : v < above
  pub lacks : (t : RawTask) → ¬ Writes ts t b v

pub record LacksOrder (ts : List RawTask) (b v : ℕ) : Type 0 where
  pub first : RawTask
  pub second : RawTask
  pub writes_first : Writes ts first b v
  pub writes_second : Writes ts second b (v + 1)
  pub apart : ¬ Contains (places_of second) (key_of first)

-- r reads what the task with the key `writer` overwrites, and is not before it
pub record ReadsLate (ts : List RawTask) (reader writer : ℕ) : Type 0 where
  pub first : RawTask
  pub second : RawTask
  pub task : RawTask
  pub block : ℕ
  pub version : ℕ
  pub writes_first : Writes ts first block version
  pub writes_second : Writes ts second block (version + 1)
  pub stands : Contains ts task
  pub reads : Contains task.inputs (key_of first)
  pub reader_key : key_of task ≡ reader
  pub writer_key : key_of second ≡ writer
  pub other : reader ≢ writer
  pub apart : ¬ Contains (places_of second) reader

abbrev pub LacksInput : RawTask → ℕ → Type 0
LacksInput t i = Uses (tree t.formula) i × (length t.inputs ≤ i)

-- ---- what holds where no earlier kind stands

pub record HasNames (ts : List RawTask) (sink : ℕ) : Type 0 where
  pub distinct : HasDistinctKeys ts
  pub known : NamesTasks ts
  pub sink_task : Contains (keys_of ts) sink

pub record HasSizes (ts : List RawTask) (sink : ℕ) : Type 0 where
  pub names : HasNames ts sink
  pub places : HasFewPlaces ts
  pub edges : HasFewEdges ts sink

pub record HasVersions (ts : List RawTask) (sink : ℕ) : Type 0 where
  pub sizes : HasSizes ts sink
  pub acyclic : IsAcyclic ts
  pub once : HasOneWriter ts
  pub whole : HasAllVersions ts

abbrev pub IsFault : List RawTask → ℕ → AuditFault → Type 0
IsFault ts sink (DuplicateKey k) = IsLeast (StandsTwice ts) k.0
IsFault ts sink (UnknownKey t k) = HasDistinctKeys ts
    × IsLeast (HasTask ts (HasUnknown ts)) t.0 × HasTask ts (λ task. IsFirstUnknown (keys_of ts) (places_of task) k.0) t.0
IsFault ts sink (NoSink k) = HasDistinctKeys ts × NamesTasks ts × (k.0 ≡ sink) × ¬ Contains (keys_of ts) sink
IsFault ts sink (TooManyPreds t n) = HasNames ts sink
    × IsLeast (HasTask ts HasManyPlaces) t.0 × HasTask ts (λ task. n ≡ length (places_of task)) t.0
IsFault ts sink (TooManySuccs t n) = HasNames ts sink × HasFewPlaces ts
    × IsLeast (HasTask ts (HasManyEdges ts sink)) t.0 × (n ≡ succ_count ts sink t.0)
IsFault ts sink (Cycle k) = HasSizes ts sink × IsLeast (λ key. Leads ts key key) k.0
IsFault ts sink (VersionTwice b v) = HasSizes ts sink × IsAcyclic ts × IsLeastPair (HasTwoWriters ts) b v
IsFault ts sink (VersionGap b v) = HasSizes ts sink × IsAcyclic ts × HasOneWriter ts × IsLeastPair (LacksVersion ts) b v
IsFault ts sink (VersionOrder b v) = HasVersions ts sink × IsLeastPair (LacksOrder ts) b v
IsFault ts sink (ReaderNotBefore r w) = HasVersions ts sink × HasOrderedWriters ts
    × IsLeast (λ writer. (reader : ℕ) × ReadsLate ts reader writer) w.0 × IsLeast (λ reader. ReadsLate ts reader w.0) r.0
IsFault ts sink (InputCount t i) = HasVersions ts sink × HasOrderedWriters ts × HasReadersBefore ts
    × IsLeast (HasTask ts (λ task. (j : ℕ) × LacksInput task j)) t.0 × HasTask ts (λ task. IsLeast (LacksInput task) i) t.0
IsFault ts sink OutOfMemory = Unit {0}
