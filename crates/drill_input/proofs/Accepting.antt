-- The tasks of a number are accepted.
use Rattle.std.proofs.Common.{◌≡◌, ◌∙◌, ℕ, ◌+◌, ◌<◌, ◌≤◌, Bool, true, false, cond, List, length, get_or, map, refl, ap, sym, subst, arith, Contains, count_by, Option, Some, None, slice_get}
use Rattle.std.specs.Prelude.{◌==◌, ◌&&◌}
use Rattle.std.specs.Option.{option_map_or}
use Rattle.std.proofs.Math.ListN.{get_or-map}
use Rattle.std.proofs.lemmas.List.{length-map, get_or_default}
use Rattle.std.proofs.lemmas.List.Sums.{count_by-le-length}
use Rattle.std.proofs.lemmas.Option.{slice_get_within, get_or_from_slice_get}
use Rattle.std.proofs.lemmas.Bool.{and_parts, eqb-true}
use Rattle.raw_graph.specs.Graph.{Task, task_of}
use Rattle.raw_graph.specs.declared.raw.RawTask.{RawTask}
use Rattle.audit_checks.specs.Tasks.{IsAscending, key_of, keys_of, places_of, edge_count, writes, Writes}
use Rattle.audit_checks.specs.Accepted.{NamesTasks, HasFewPlaces, HasFewEdges, IsAcyclic, HasOneWriter, HasAllVersions, HasOrderedWriters, HasReadersBefore, IsAccepted}
use Rattle.audit_checks.proofs.LeastTask.{distinct, key_of_at, keys_long, some_task, contains_at}
use Rattle.audit_checks.proofs.Keys.{times_none}
use Rattle.audit_blocks.proofs.Counts.{count_once}
use Rattle.drill_input.specs.Drill.{drill_tasks}
use Rattle.drill_input.proofs.Rows.{IsRow, row_at, length_drill}
use Rattle.drill_input.proofs.Places.{IsKeyAt, key_row, keys_rise, same_place, same_key, HasPlaces, places_row, given_row}
use Rattle.drill_input.proofs.Blocks.{IsWritten, block_row, row_block, next_names, reads_row}
use Rattle.drill_input.proofs.Windows.{windowed}

-- these are the tasks of the number
abbrev pub Makes : ℕ → List RawTask → Type 0
Makes number ts = map task_of ts ≡ drill_tasks number

pub length_made : (number : ℕ) (ts : List RawTask) → Makes number ts → length ts ≡ 8257
length_made number ts made = omega (arith, length-map ts task_of, ap length made, length_drill number)

pub row_of : (number : ℕ) (ts : List RawTask) → Makes number ts → (i : ℕ) (d : RawTask) → i < length ts → IsRow number i (task_of (get_or ts i d))
row_of number ts made i d inside =
    subst (IsRow number i) (ap (λ (xs : List Task). get_or xs i (task_of d)) (sym made) ∙ get_or-map task_of ts i d) (row_at number i (task_of d) (omega (arith, length_made number ts made)))

row_in : (number : ℕ) (ts : List RawTask) → Makes number ts → (t : RawTask) (has : Contains ts t) → IsRow number has.0 (task_of t)
row_in number ts made t has = subst (λ (u : RawTask). IsRow number has.0 (task_of u)) has.2 (row_of number ts made has.0 t has.1)

row_got : (number : ℕ) (ts : List RawTask) → Makes number ts → (i : ℕ) (t : RawTask) → slice_get ts i ≡ Some t → IsRow number i (task_of t)
row_got number ts made i t here = subst (λ (u : RawTask). IsRow number i (task_of u)) (get_or_from_slice_get ts i t t here) (row_of number ts made i t (slice_get_within ts i t here))

-- ---- keys

pub key_made : (number : ℕ) (ts : List RawTask) → Makes number ts → (i : ℕ) → i < length ts → IsKeyAt i (get_or (keys_of ts) i 0)
key_made number ts made i inside =
    let d = some_task ts (omega arith) in
    subst (IsKeyAt i) (key_of_at ts (keys_of ts) i d refl inside) (key_row number i (task_of (get_or ts i d)) (row_of number ts made i d inside))

pub ascending : (number : ℕ) (ts : List RawTask) → Makes number ts → IsAscending (keys_of ts)
ascending number ts made = record {
  rises = λ i j less inside. keys_rise i j (get_or (keys_of ts) i 0) (get_or (keys_of ts) j 0) (key_made number ts made i (omega (arith, keys_long ts))) (key_made number ts made j (omega (arith, keys_long ts))) less
      (omega (arith, keys_long ts, length_made number ts made));
}

pub key_stands : (number : ℕ) (ts : List RawTask) → Makes number ts → (i p : ℕ) → IsKeyAt i p → i < 8257 → Contains (keys_of ts) p
key_stands number ts made i p at low =
    contains_at (keys_of ts) i p (
      omega (arith, keys_long ts, length_made number ts made),
      same_key i i (get_or (keys_of ts) i 0) p (key_made number ts made i (omega (arith, length_made number ts made))) at refl low,
    )

-- ---- places

places_at : (number : ℕ) (ts : List RawTask) → Makes number ts → (i : ℕ) (d : RawTask) → i < length ts → HasPlaces i (places_of (get_or ts i d))
places_at number ts made i d inside = places_row number i (task_of (get_or ts i d)) (row_of number ts made i d inside)

names : (number : ℕ) (ts : List RawTask) → Makes number ts → NamesTasks ts
names number ts made i d inside j e low =
    let back = (places_at number ts made i d inside).back j e low in
    key_stands number ts made back.place (get_or (places_of (get_or ts i d)) j e) back.key (omega (arith, back.before, length_made number ts made))

few_places : (number : ℕ) (ts : List RawTask) → Makes number ts → HasFewPlaces ts
few_places number ts made i d inside = omega (arith, (places_at number ts made i d inside).few)

-- a task that is not among the 65 behind place q does not name the key there
apart : (number : ℕ) (ts : List RawTask) → Makes number ts → (q key : ℕ) → IsKeyAt q key → q < 8257 → (i : ℕ) (d : RawTask) → i < length ts
    → (q < i → i ≤ q + 65 → ⊥) → count_by (λ p. p == key) (places_of (get_or ts i d)) ≡ 0
apart number ts made q key at low i d inside far = times_none key (places_of (get_or ts i d)) (λ j j_in same.
    let back = (places_at number ts made i d inside).back j 0 j_in in
    let place : back.place ≡ q = same_place back.place q key (subst (IsKeyAt back.place) same back.key) at (omega (arith, back.before, length_made number ts made)) low in
    far (omega (arith, back.before)) (omega (arith, back.near)))

few_named : (number : ℕ) (ts : List RawTask) → Makes number ts → (q key : ℕ) → IsKeyAt q key → q < 8257 → edge_count ts key ≤ 195
few_named number ts made q key at low = windowed (λ (t : RawTask). count_by (λ p. p == key) (places_of t)) ts (q + 1) 65
    (λ i d inside. omega (arith, count_by-le-length (λ p. p == key) (places_of (get_or ts i d)), (places_at number ts made i d inside).few))
    (λ i d inside early. apart number ts made q key at low i d inside (λ after near. omega arith))
    (λ i d inside late. apart number ts made q key at low i d inside (λ after near. omega arith))

one_more : (b : Bool) (n : ℕ) → n ≤ 195 → n + cond b 1 0 ≤ 640
one_more true n few = omega arith
one_more false n few = omega arith

few_edges : (number : ℕ) (ts : List RawTask) → Makes number ts → HasFewEdges ts 20000
few_edges number ts made i d inside =
    let key = key_of (get_or ts i d) in
    one_more (key == 20000) (edge_count ts key)
    (few_named number ts made i key (key_row number i (task_of (get_or ts i d)) (row_of number ts made i d inside)) (omega (arith, length_made number ts made)))

-- ---- each predecessor has a smaller key

smaller : (number : ℕ) (ts : List RawTask) → Makes number ts → (t : RawTask) → Contains ts t → (p : ℕ) → Contains (places_of t) p → p < key_of t
smaller number ts made t has p names =
    let row = row_in number ts made t has in
    let at = (places_row number has.0 (task_of t) row).back names.0 p names.1 in
    keys_rise at.place has.0 p (key_of t) (subst (IsKeyAt at.place) names.2 at.key) (key_row number has.0 (task_of t) row) at.before (omega (arith, has.1, length_made number ts made))

acyclic : (number : ℕ) (ts : List RawTask) → Makes number ts → IsAcyclic ts
acyclic number ts made = record {
  number = λ k. k;
  rises = λ p k before. subst (λ n. p < n) before.key (smaller number ts made before.task before.stands p before.names);
}

-- ---- versions

written_from : (b v : ℕ) (o : Option (ℕ × ℕ)) → option_map_or (λ w. (w.0 == b) && (w.1 == v)) o false ≡ true → o ≡ Some (b, v)
written_from b v None passes = absurd (cc)
written_from b v (Some (c, w)) passes =
    let both = and_parts (c == b) (w == v) passes in
    let block : c ≡ b = eqb-true c b both.0 in
    let version : w ≡ v = eqb-true w v both.1 in cc

written_at : (number : ℕ) (ts : List RawTask) → Makes number ts → (t : RawTask) (b v : ℕ) (is : Writes ts t b v) → IsWritten is.stands.0 b v
written_at number ts made t b v is = block_row number is.stands.0 b v (task_of t) (row_in number ts made t is.stands) is.place

one_writer : (number : ℕ) (ts : List RawTask) → Makes number ts → HasOneWriter ts
one_writer number ts made b v = count_once (writes b v) ts (λ i j x z less here there first second.
    let a = block_row number i b v (task_of x) (row_got number ts made i x here) (written_from b v x.block first) in
    let c = block_row number j b v (task_of z) (row_got number ts made j z there) (written_from b v z.block second) in
    omega (arith, a.place, c.place))

all_versions : (number : ℕ) (ts : List RawTask) → Makes number ts → HasAllVersions ts
all_versions number ts made t b v w is some less =
    let last = written_at number ts made t b v is in
    let inside : 8191 + w < length ts = omega (arith, last.few, length_made number ts made) in
    let s = get_or ts (8191 + w) t in
    let zero_block : b ≡ 0 = last.block in (
      s,
      record {
        stands = (8191 + w, inside, get_or_default ts (8191 + w) s t inside);
        place = row_block number (8191 + w) w (task_of s) (row_of number ts made (8191 + w) t inside) some (omega (arith, last.few)) refl ∙ ap (λ (n : ℕ). Some (n, w)) (sym zero_block);
      },
    )

-- the key of the writer of a version below 64
writer_key : (number : ℕ) (ts : List RawTask) → Makes number ts → (s : RawTask) (b v : ℕ) → Writes ts s b v → key_of s ≡ 10000 + v
writer_key number ts made s b v is =
    let at = written_at number ts made s b v is in
    omega (arith, at.place, at.some, at.few, (key_row number is.stands.0 (task_of s) (row_in number ts made s is.stands)).middle (omega (arith, at.place, at.some)) (omega (arith, at.place, at.few)))

ordered : (number : ℕ) (ts : List RawTask) → Makes number ts → HasOrderedWriters ts
ordered number ts made s t b v first second =
    let at = written_at number ts made s b v first in
    let to = written_at number ts made t b (v + 1) second in
    subst (Contains (places_of t)) (sym (writer_key number ts made s b v first))
    (next_names number second.stands.0 v (task_of t) (row_in number ts made t second.stands) at.some (omega (arith, to.few)) (omega (arith, to.place)))

readers : (number : ℕ) (ts : List RawTask) → Makes number ts → HasReadersBefore ts
readers number ts made s t r b v first second stands reads other =
    let at = written_at number ts made s b v first in
    let to = written_at number ts made t b (v + 1) second in
    let here : stands.0 ≡ 8192 + v = reads_row number stands.0 v (task_of r) (row_in number ts made r stands) at.some (omega (arith, to.few)) (subst (Contains r.inputs) (writer_key number ts made s b v first) reads) in
    absurd (other (same_key stands.0 second.stands.0 (key_of r) (key_of t) (key_row number stands.0 (task_of r) (row_in number ts made r stands))
    (key_row number second.stands.0 (task_of t) (row_in number ts made t second.stands)) (omega (arith, here, to.place)) (omega (arith, second.stands.1, length_made number ts made))))

-- ---- the whole

pub accepted : (number : ℕ) (ts : List RawTask) → Makes number ts → IsAccepted ts 20000
accepted number ts made = record {
  distinct = distinct ts (keys_of ts) refl (ascending number ts made);
  known = names number ts made;
  sink_task = key_stands number ts made 8256 20000 (record { low = λ h. omega arith; middle = λ h l. omega arith; top = λ h. refl }) (omega arith);
  places = few_places number ts made;
  edges = few_edges number ts made;
  acyclic = acyclic number ts made;
  once = one_writer number ts made;
  whole = all_versions number ts made;
  ordered = ordered number ts made;
  read = readers number ts made;
  given = λ i d inside. given_row number i (task_of (get_or ts i d)) (row_of number ts made i d inside);
}
