-- Tasks that read a version and are not before the task that overwrites it. Tasks are named by their numbers.
use Rattle.std.specs.Prelude.{◌≡◌, ◌≢◌, ◌⊎◌, ◌-◌, ℕ, ◌<◌, ◌≤◌, List, length, false, Option, Some, None, cond, nat_lt, min, slice_get, slice_index_or}
use Rattle.raw_graph.specs.declared.raw.RawTask.{RawTask}
use Rattle.audit_checks.specs.Rows.{row}
use Rattle.audit_checks.specs.Faults.{IsLeast}
use Rattle.audit_blocks.specs.declared.written.Written.{Written}
use Rattle.audit_blocks.specs.declared.readers.Late.{Late}
use Rattle.audit_blocks.specs.Versions.{at, SameBlock}
use Rattle.audit_blocks.specs.Edges.{names_in}

-- a task writes no two of the versions
pub record HasOwnWriters (ws : List Written) : Type 0 where
  pub apart : (i j : ℕ) → i < length ws → j < length ws → (at ws i).writer ≡ (at ws j).writer → i ≡ j

-- some place has w as the writer, and the place before it has p, in one block
pub record IsNext (ws : List Written) (p w : ℕ) : Type 0 where
  pub place : ℕ
  pub inside : place < length ws
  pub same : SameBlock ws place
  pub first : (at ws (place - 1)).writer ≡ p
  pub second : (at ws place).writer ≡ w

-- by task: the writer of the version after its own
abbrev pub next_of : List (Option ℕ) → ℕ → Option ℕ
next_of nexts p = slice_index_or nexts p None

-- as far as the first n places tell
pub record AreNexts (ws : List Written) (n : ℕ) (nexts : List (Option ℕ)) : Type 0 where
  pub sound : (p w : ℕ) → next_of nexts p ≡ Some w → IsNext ws p w
  pub complete : (i : ℕ) → i < n → SameBlock ws i → next_of nexts (at ws (i - 1)).writer ≡ Some (at ws i).writer

-- the numbers are those of tasks
pub record AreInside (rows : List (List (ℕ × ℕ))) (nexts : List (Option ℕ)) : Type 0 where
  pub preds : (k j : ℕ) (e : ℕ × ℕ) → slice_get (row rows k) j ≡ Some e → e.0 < length nexts
  pub writers : (p w : ℕ) → next_of nexts p ≡ Some w → w < length rows

-- task w, which is another, overwrites what place j of task r reads, and does not name r
pub record IsLateAt (rows : List (List (ℕ × ℕ))) (nexts : List (Option ℕ)) (r j w : ℕ) : Type 0 where
  pub pred : ℕ × ℕ
  pub names : slice_get (row rows r) j ≡ Some pred
  pub next : next_of nexts pred.0 ≡ Some w
  pub other : w ≢ r
  pub apart : names_in rows w r ≡ false

-- at one of the first n places
pub record IsLateTo (rows : List (List (ℕ × ℕ))) (nexts : List (Option ℕ)) (r n w : ℕ) : Type 0 where
  pub place : ℕ
  pub early : place < n
  pub late : IsLateAt rows nexts r place w

-- at an input
pub record IsLate (ts : List RawTask) (rows : List (List (ℕ × ℕ))) (nexts : List (Option ℕ)) (r w : ℕ) : Type 0 where
  pub reader : RawTask
  pub stands : slice_get ts r ≡ Some reader
  pub late : IsLateTo rows nexts r (length reader.inputs) w

abbrev pub IsLeastOf : (ℕ → Type 0) → Option ℕ → Type 0
IsLeastOf P None = (n : ℕ) → ¬ P n
IsLeastOf P (Some n) = IsLeast P n

abbrev pub lesser_of : Option ℕ → Option ℕ → Option ℕ
lesser_of None b = b
lesser_of (Some x) None = Some x
lesser_of (Some x) (Some y) = Some (min x y)

-- among the first n readers, the least writer with a late reader, and its least one
pub record IsFirstLate (ts : List RawTask) (rows : List (List (ℕ × ℕ))) (nexts : List (Option ℕ)) (n : ℕ) (l : Late) : Type 0 where
  pub early : l.reader < n
  pub late : IsLate ts rows nexts l.reader l.writer
  pub least : (r w : ℕ) → r < n → IsLate ts rows nexts r w → (l.writer < w) ⊎ ((l.writer ≡ w) × (l.reader ≤ r))

abbrev pub IsFirstOf : List RawTask → List (List (ℕ × ℕ)) → List (Option ℕ) → ℕ → Option Late → Type 0
IsFirstOf ts rows nexts n None = (r w : ℕ) → r < n → ¬ IsLate ts rows nexts r w
IsFirstOf ts rows nexts n (Some l) = IsFirstLate ts rows nexts n l

abbrev pub sooner_of : Option Late → Option ℕ → ℕ → Option Late
sooner_of l None r = l
sooner_of None (Some w) r = Some (record { writer = w; reader = r })
sooner_of (Some l) (Some w) r = cond (nat_lt w l.writer) (Some (record { writer = w; reader = r })) (Some l)
