-- Reading the list of stated versions, and finding a stated version in it.
use Rattle.std.proofs.Common.{◌≡◌, ℕ, ◌<◌, true, List, length, refl, ap, sym, Contains, Some, slice_get}
use Rattle.std.specs.Prelude.{◌==◌}
use Rattle.std.proofs.lemmas.Bool.{and_parts, and_from, eq-eqb, eqb-true}
use Rattle.std.proofs.lemmas.Option.{slice_get-get_or, slice_get_read, slice_get_within, get_or_from_slice_get}
use Rattle.raw_graph.specs.declared.raw.RawTask.{RawTask}
use Rattle.audit_checks.specs.Tasks.{Writes}
use Rattle.audit_blocks.specs.declared.written.Written.{Written}
use Rattle.audit_blocks.specs.Versions.{entry, at, IsStated, tells, AreWritten}

pub get_at : (ws : List Written) (i : ℕ) → i < length ws → slice_get ws i ≡ Some (at ws i)
get_at ws i inside = slice_get-get_or ws i (entry 0 0 0) inside

pub at_get : (ws : List Written) (i : ℕ) (w : Written) → slice_get ws i ≡ Some w → at ws i ≡ w
at_get ws i w here = get_or_from_slice_get ws i w (entry 0 0 0) here

pub tells_true : (b v : ℕ) (w : Written) → w.block ≡ b → w.version ≡ v → tells b v w ≡ true
tells_true b v w x y = and_from (w.block == b) (w.version == v) (eq-eqb w.block b x) (eq-eqb w.version v y)

pub tells_is : (b v : ℕ) (w : Written) → tells b v w ≡ true → (w.block ≡ b) × (w.version ≡ v)
tells_is b v w e = let p = and_parts (w.block == b) (w.version == v) e in (eqb-true w.block b p.0, eqb-true w.version v p.1)

pub contains_get : {X : Type 0} (xs : List X) (i : ℕ) (x : X) → slice_get xs i ≡ Some x → Contains xs x
contains_get xs i x here = (i, slice_get_within xs i x here, get_or_from_slice_get xs i x x here)

pub get_contains : {X : Type 0} (xs : List X) (x : X) (has : Contains xs x) → slice_get xs has.0 ≡ Some x
get_contains xs x has = slice_get_read xs (length xs) has.0 x refl has.1 (sym has.2)

-- where the list has a task's stated version
pub record IsFound (ts : List RawTask) (ws : List Written) (t : RawTask) (b v : ℕ) : Type 0 where
  pub place : ℕ
  pub writer : ℕ
  pub inside : place < length ws
  pub block : (at ws place).block ≡ b
  pub version : (at ws place).version ≡ v
  pub writer_is : (at ws place).writer ≡ writer
  pub stands : slice_get ts writer ≡ Some t

pub found_at : (ts : List RawTask) (ws : List Written) (i : ℕ) (t : RawTask) (b v : ℕ) → AreWritten ts ws → slice_get ts i ≡ Some t → t.block ≡ Some (b, v)
    → (found : IsFound ts ws t b v) × (found.writer ≡ i)
found_at ts ws i t b v are stands states =
    let has = are.complete i t b v stands states in
    let e : at ws has.0 ≡ entry b v i = at_get ws has.0 (entry b v i) (get_contains ws (entry b v i) has) in (
      record { place = has.0; writer = i; inside = has.1; block = ap (λ w. w.block) e; version = ap (λ w. w.version) e; writer_is = ap (λ w. w.writer) e; stands = stands },
      refl,
    )

pub found : (ts : List RawTask) (ws : List Written) (t : RawTask) (b v : ℕ) → AreWritten ts ws → Writes ts t b v → IsFound ts ws t b v
found ts ws t b v are writes = (found_at ts ws writes.stands.0 t b v are (get_contains ts t writes.stands) writes.place).0

pub stated_at : (ts : List RawTask) (ws : List Written) (i : ℕ) → AreWritten ts ws → i < length ws → IsStated ts (at ws i)
stated_at ts ws i are inside = are.sound i (entry 0 0 0) inside

pub writes_at : (ts : List RawTask) (ws : List Written) (i : ℕ) (are : AreWritten ts ws) (inside : i < length ws) → Writes ts (stated_at ts ws i are inside).task (at ws i).block (at ws i).version
writes_at ts ws i are inside =
    let s = stated_at ts ws i are inside in record { stands = contains_get ts (at ws i).writer s.task s.stands; place = s.states }
