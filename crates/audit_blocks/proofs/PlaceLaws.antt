-- The numbers of the blocks obey what a task graph asks of them.
use Rattle.std.proofs.Common.{◌≡◌, ◌∙◌, ℕ, zero, suc, ◌+◌, ◌<◌, ◌≤◌, true, List, [], ◌∷◌, length, vec_len, get_or, map, take, refl, ap, sym, subst, arith, Contains, Option, Some, None, slice_get, inl, inr}
use Rattle.std.specs.Prelude.{◌==◌}
use Rattle.std.specs.List.{list_any, position_or_len}
use Rattle.std.proofs.lemmas.Bool.{cases_lt, eq-eqb, and_from}
use Rattle.std.proofs.lemmas.Bool.Decides.{eqb_tells}
use Rattle.std.proofs.lemmas.Grind.{merely}
use Rattle.std.proofs.lemmas.List.{get_or_default, get_or_past, take_all}
use Rattle.std.proofs.lemmas.Option.{slice_get-get_or, slice_get_within, slice_get_cases, get_or_from_slice_get}
use Rattle.graph_model.specs.declared.graph.Place.{Place}
use Rattle.raw_graph.specs.declared.raw.RawTask.{RawTask}
use Rattle.audit_checks.specs.Tasks.{IsAscending, Writes, writes, key_of, keys_of, places_of}
use Rattle.audit_checks.specs.Rows.{row}
use Rattle.audit_checks.specs.ByKey.{number_in, keyed, row_by, IsReverseByKey}
use Rattle.audit_checks.specs.Accepted.{HasOneWriter, HasAllVersions, HasOrderedWriters, HasReadersBefore}
use Rattle.audit_checks.proofs.Keys.{same_key}
use Rattle.audit_checks.proofs.KeyLaws.{number_at}
use Rattle.audit_checks.proofs.LeastTask.{contains_at, keys_count}
use Rattle.std.specs.Prelude.{All}
use Rattle.audit_checks.specs.Links.{Tells, places_in}
use Rattle.audit_checks.specs.declared.links.Links.{Links}
use Rattle.audit_checks.proofs.RowLemmas.{rows_long}
use Rattle.audit_blocks.specs.declared.written.Written.{Written}
use Rattle.audit_blocks.specs.Versions.{AreWritten, HasFileVersions}
use Rattle.audit_blocks.specs.Edges.{TellsPlaces}
use Rattle.audit_blocks.specs.Numbering.{is_own, own_count, HasPlace, AreNumbered, versions_in, writer_in, block_in, version_in}
use Rattle.audit_blocks.specs.Laws.{names_key, HasBlockLaws}
use Rattle.audit_blocks.proofs.Counts.{count_twice}
use Rattle.audit_blocks.proofs.Places.{contains_get, get_contains}
use Rattle.audit_blocks.proofs.EdgeLemmas.{any_from, key_here, place_at, place_of}
use Rattle.audit_blocks.proofs.LateLemmas.{pair_same}
use Rattle.audit_blocks.proofs.NameLemmas.{own_more, own_small}
use Rattle.audit_blocks.proofs.ReaderLaws.{input_place}
use Rattle.audit_blocks.proofs.PlaceCounts.{mono, is_at, HasVersion, AreWhole, version_le, first_of_version, first_of_count}

-- the versions in order, by task
pub record IsOrderly (ts : List RawTask) : Type 0 where
  pub given : HasFileVersions ts
  pub once : HasOneWriter ts
  pub whole : HasAllVersions ts
  pub ordered : HasOrderedWriters ts
  pub read : HasReadersBefore ts

writes_true : (t : RawTask) (b v : ℕ) → t.block ≡ Some (b, v) → writes b v t ≡ true
writes_true t b v e = rw e (and_from (b == b) (v == v) (eq-eqb b b refl) (eq-eqb v v refl))

some_number : (m n : ℕ) → Some m ≡ Some n → m ≡ n
some_number m n e = cc

abbrev some_pair : ℕ → ℕ → Option (ℕ × ℕ)
some_pair a b = Some (a, b)

pair_some : (w : ℕ × ℕ) (b v : ℕ) → w.0 ≡ b → w.1 ≡ v → Some w ≡ Some (b, v)
pair_some w b v x y = ap (λ (n : ℕ). some_pair n w.1) x ∙ ap (some_pair b) y

keyed_at : (keys : List ℕ) (es : List (ℕ × ℕ)) (j : ℕ) (e : ℕ × ℕ) → slice_get es j ≡ Some e → slice_get (keyed keys es) j ≡ Some (get_or keys e.0 0, e.1)
keyed_at keys [] j e here = absurd (cc)
keyed_at keys (x ∷ xs) zero e here = let same : x ≡ e = pair_same x e here in ap (λ (y : ℕ × ℕ). some_pair (get_or keys y.0 0) y.1) same
keyed_at keys (x ∷ xs) (suc j) e here = keyed_at keys xs j e here

keyed_from : (keys : List ℕ) (es : List (ℕ × ℕ)) (j : ℕ) (f : ℕ × ℕ) → slice_get (keyed keys es) j ≡ Some f → (e : ℕ × ℕ) × (slice_get es j ≡ Some e) × (f ≡ (get_or keys e.0 0, e.1))
keyed_from keys [] j f here = absurd (cc)
keyed_from keys (x ∷ xs) zero f here = (x, refl, pair_same f (get_or keys x.0 0, x.1) (sym here))
keyed_from keys (x ∷ xs) (suc j) f here = keyed_from keys xs j f here

-- a key that has a number stands there
number_is : (keys : List ℕ) (k : ℕ) → number_in keys k < length keys → get_or keys (number_in keys k) 0 ≡ k
number_is [] k inside = absurd (omega arith)
number_is (x ∷ xs) k inside = elim (eqb_tells x k) [
  | inl same ↦ let e = same.0 in rw e same.1
  | inr other ↦ let e = other.0 in let low : suc (number_in xs k) < suc (length xs) = rw e at inside in rw e (number_is xs k (omega arith))
]

own_step : (ts : List RawTask) (i j : ℕ) (t : RawTask) → slice_get ts i ≡ Some t → t.block ≡ None → i < j → own_count (take i ts) < own_count (take j ts)
own_step ts i j t here none_stated less =
    let own : is_own t ≡ true = rw none_stated refl in
    omega (arith, rw own at (own_more ts i t here), mono is_own ts (i + 1) j (omega arith))

apart_places : (ts : List RawTask) (names : List ℕ) (i j : ℕ) (t u : RawTask) (o e : Option (ℕ × ℕ)) (p q : Place) → HasOneWriter ts → t.block ≡ o → u.block ≡ e
    → HasPlace names (length names + own_count (take i ts)) o p → HasPlace names (length names + own_count (take j ts)) e q
    → i < j → slice_get ts i ≡ Some t → slice_get ts j ≡ Some u → p.block ≡ q.block → p.version ≡ q.version → ⊥
apart_places ts names i j t u None None p q once x y a b less here there block version = omega (arith, a.0, b.0, own_step ts i j t here x less)
apart_places ts names i j t u (Some w) None p q once x y a b less here there block version = omega (arith, slice_get_within names p.block w.0 a.0, b.0)
apart_places ts names i j t u None (Some w) p q once x y a b less here there block version = omega (arith, slice_get_within names q.block w.0 b.0, a.0)
apart_places ts names i j t u (Some w) (Some z) p q once x y a b less here there block version =
    let name : w.0 ≡ z.0 = some_number w.0 z.0 (sym a.0 ∙ (ap (slice_get names) block ∙ b.0)) in
    let same : w.1 ≡ z.1 = sym a.1 ∙ (version ∙ b.1) in
    let u_is : u.block ≡ Some (w.0, w.1) = y ∙ pair_some z w.0 w.1 (sym name) (sym same) in
    omega (arith, once w.0 w.1, count_twice (writes w.0 w.1) ts i j t u less here there (writes_true t w.0 w.1 x) (writes_true u w.0 w.1 u_is))

-- the task of a place, and the place of a task
task_of : (ts : List RawTask) (places : List Place) (i : ℕ) (p : Place) → length places ≡ length ts → slice_get places i ≡ Some p → (t : RawTask) × (slice_get ts i ≡ Some t)
task_of ts places i p long here = elim (slice_get_cases ts i).1 [
  | inl a ↦ (a.0, a.2)
  | inr a ↦ absurd (omega (arith, a.0, slice_get_within places i p here))
]

place_at_task : (ts : List RawTask) (places : List Place) (i : ℕ) (t : RawTask) → length places ≡ length ts → slice_get ts i ≡ Some t → (p : Place) × (slice_get places i ≡ Some p)
place_at_task ts places i t long here = elim (slice_get_cases places i).1 [
  | inl a ↦ (a.0, a.2)
  | inr a ↦ absurd (omega (arith, a.0, slice_get_within ts i t here))
]

same_place : (names : List ℕ) (x y b : ℕ) → IsAscending names → slice_get names x ≡ Some b → slice_get names y ≡ Some b → x ≡ y
same_place names x y b up here there =
    same_key names up x y (slice_get_within names x b here) (slice_get_within names y b there) (get_or_from_slice_get names x b 0 here ∙ sym (get_or_from_slice_get names y b 0 there))

below_place : (ts : List RawTask) (places : List Place) (count i w : ℕ) (t : RawTask) (o : Option (ℕ × ℕ)) (p : Place) (are : AreNumbered ts places count) → HasAllVersions ts
    → t.block ≡ o → HasPlace are.names (length are.names + own_count (take i ts)) o p → slice_get ts i ≡ Some t → 1 ≤ w → w < p.version → HasVersion places p.block w
below_place ts places count i w t None p are whole is place here some less = absurd (omega (arith, place.1))
below_place ts places count i w t (Some z) p are whole is place here some less =
    let s = whole t z.0 z.1 w (record { stands = contains_get ts i t here; place = is }) some (omega (arith, place.1)) in
    let j = s.1.stands.0 in
    let there : slice_get ts j ≡ Some s.0 = get_contains ts s.0 s.1.stands in
    let q = place_at_task ts places j s.0 are.long there in
    let q_is : HasPlace are.names (length are.names + own_count (take j ts)) (Some (z.0, w)) q.0
    = subst (λ x. HasPlace are.names (length are.names + own_count (take j ts)) x q.0) s.1.place (are.each j s.0 q.0 there q.1) in
    record { at = j; place = q.0; here = q.1; block = same_place are.names q.0.block p.block z.0 are.ascending q_is.0 place.0; version = q_is.1 }

some_version : (ts : List RawTask) (names : List ℕ) (next i : ℕ) (t : RawTask) (o : Option (ℕ × ℕ)) (p : Place) → HasFileVersions ts → t.block ≡ o → HasPlace names next o p
    → slice_get ts i ≡ Some t → 1 ≤ p.version
some_version ts names next i t None p given is place here = omega (arith, place.1)
some_version ts names next i t (Some w) p given is place here = omega (arith, place.1, (given i t w.0 w.1 here is).0)

are_whole : (ts : List RawTask) (places : List Place) (count : ℕ) → AreNumbered ts places count → IsOrderly ts → AreWhole places
are_whole ts places count are orderly = record {
  apart = λ i j p q less here there block version.
      let t = task_of ts places i p are.long here in
      let u = task_of ts places j q are.long there in
      apart_places ts are.names i j t.0 u.0 t.0.block u.0.block p q orderly.once refl refl (are.each i t.0 p t.1 here) (are.each j u.0 q u.1 there) less t.1 u.1 block version;
  below = λ i w p here some less.
      let t = task_of ts places i p are.long here in
      below_place ts places count i w t.0 t.0.block p are orderly.whole refl (are.each i t.0 p t.1 here) t.1 some less;
  positive = λ i p here.
      let t = task_of ts places i p are.long here in
      some_version ts are.names (length are.names + own_count (take i ts)) i t.0 t.0.block p orderly.given refl (are.each i t.0 p t.1 here) t.1;
}

block_low : (ts : List RawTask) (places : List Place) (count i : ℕ) (t : RawTask) (o : Option (ℕ × ℕ)) (p : Place) (are : AreNumbered ts places count) → t.block ≡ o
    → HasPlace are.names (length are.names + own_count (take i ts)) o p → slice_get ts i ≡ Some t → p.block < count
block_low ts places count i t None p are is place here =
    omega (arith, place.0, are.count_is, own_step ts i (length ts) t here is (slice_get_within ts i t here), ap own_count (take_all (length ts) ts (omega arith)))
block_low ts places count i t (Some w) p are is place here = omega (arith, slice_get_within are.names p.block w.0 place.0, are.count_is)

-- two places of one block, the second of a version above 1, are stated under one name
stated_pair : (names : List ℕ) (m n : ℕ) (t u : RawTask) (o e : Option (ℕ × ℕ)) (p q : Place) → t.block ≡ o → u.block ≡ e → HasPlace names (length names + m) o p
    → HasPlace names (length names + n) e q → p.block ≡ q.block → 1 < q.version → (b : ℕ) × (t.block ≡ Some (b, p.version)) × (u.block ≡ Some (b, q.version))
stated_pair names m n t u o None p q x y a b block above = absurd (omega (arith, b.1))
stated_pair names m n t u None (Some w) p q x y a b block above = absurd (omega (arith, a.0, slice_get_within names q.block w.0 b.0))
stated_pair names m n t u (Some z) (Some w) p q x y a b block above =
    let name : z.0 ≡ w.0 = some_number z.0 w.0 (sym a.0 ∙ (ap (slice_get names) block ∙ b.0)) in (
      z.0,
      x ∙ pair_some z z.0 p.version refl (sym a.1),
      y ∙ pair_some w z.0 q.version (sym name) (sym b.1),
    )

pub map_at : {X : Type 0} (f : X → ℕ) (xs : List X) (i : ℕ) (x : X) → slice_get xs i ≡ Some x → get_or (map f xs) i 0 ≡ f x
map_at f [] i x here = absurd (cc)
map_at f (y ∷ ys) zero x here = cc
map_at f (y ∷ ys) (suc i) x here = map_at f ys i x here

-- the place of a key
record IsKeyPlace (keys : List ℕ) (ts : List RawTask) (places : List Place) (k : ℕ) : Type 0 where
  i : ℕ
  task : RawTask
  place : Place
  stands : slice_get ts i ≡ Some task
  here : slice_get places i ≡ Some place
  key : get_or keys i 0 ≡ k
  inside : i < length keys
  number : number_in keys k ≡ i
  block : block_in keys places k ≡ place.block
  version : version_in keys places k ≡ place.version

key_place : (keys : List ℕ) (ts : List RawTask) (places : List Place) (rows : List (List (ℕ × ℕ))) (i : ℕ) (p : Place) → TellsPlaces ts keys rows → length places ≡ length ts
    → slice_get places i ≡ Some p → (w : IsKeyPlace keys ts places (get_or keys i 0)) × (w.place ≡ p)
key_place keys ts places rows i p tp long here =
    let t = task_of ts places i p long here in
    let inside : i < length keys = omega (arith, slice_get_within ts i t.0 t.1, keys_count ts keys tp.is) in
    let number : number_in keys (get_or keys i 0) ≡ i = number_at keys i (get_or keys i 0) tp.up inside refl in (
      record {
        i = i;
        task = t.0;
        place = p;
        stands = t.1;
        here = here;
        key = refl;
        inside = inside;
        number = number;
        block = ap (λ n. get_or (map (λ (x : Place). x.block) places) n 0) number ∙ map_at (λ (x : Place). x.block) places i p here;
        version = ap (λ n. get_or (map (λ (x : Place). x.version) places) n 0) number ∙ map_at (λ (x : Place). x.version) places i p here;
      },
      refl,
    )

place_of_key : (keys : List ℕ) (ts : List RawTask) (places : List Place) (rows : List (List (ℕ × ℕ))) (k : ℕ) → TellsPlaces ts keys rows → length places ≡ length ts
    → Contains keys k → IsKeyPlace keys ts places k
place_of_key keys ts places rows k tp long has =
    let i = has.0 in
    let key : get_or keys i 0 ≡ k = get_or_default keys i 0 k has.1 ∙ has.2 in
    let d : Place = record { block = 0; version = 0 } in
    let here : slice_get places i ≡ Some (get_or places i d) = slice_get-get_or places i d (omega (arith, has.1, long, keys_count ts keys tp.is)) in
    subst (IsKeyPlace keys ts places) key (key_place keys ts places rows i (get_or places i d) tp long here).0

writer_place : (keys : List ℕ) (ts : List RawTask) (places : List Place) (rows : List (List (ℕ × ℕ))) (count b v : ℕ) → TellsPlaces ts keys rows → AreNumbered ts places count → IsOrderly ts
    → 1 ≤ v → v ≤ versions_in places b → (w : IsKeyPlace keys ts places (writer_in keys places b v)) × (w.place.block ≡ b) × (w.place.version ≡ v)
writer_place keys ts places rows count b v tp are orderly some le =
    let f = first_of_count places b v (are_whole ts places count are orderly) some le in
    let k = key_place keys ts places rows (position_or_len (is_at b v) places) f.place tp are.long f.here in
    (k.0, ap (λ (x : Place). x.block) k.1 ∙ f.block, ap (λ (x : Place). x.version) k.1 ∙ f.version)

-- a task that names the key of another has it in its row
key_named : (keys : List ℕ) (ts : List RawTask) (rows : List (List (ℕ × ℕ))) (k s i : ℕ) (t x : RawTask) → TellsPlaces ts keys rows → slice_get ts i ≡ Some t → slice_get ts s ≡ Some x
    → number_in keys k ≡ i → Contains (places_of t) (key_of x) → names_key (row_by keys rows k) (key_of x)
key_named keys ts rows k s i t x tp here there number has =
    let p = place_of ts keys rows i has.0 s t x tp here there has.1 (get_or_default (places_of t) has.0 0 (key_of x) has.1 ∙ has.2) in
    let key : get_or keys p.0.0 0 ≡ key_of x = ap (λ n. get_or keys n 0) p.2 ∙ key_here ts keys s x tp.is there in
    subst (λ n. list_any (λ (e : ℕ × ℕ). e.0 == key_of x) (keyed keys (row rows n)) ≡ true) (sym number)
    (any_from (λ (e : ℕ × ℕ). e.0 == key_of x) (keyed keys (row rows i)) has.0 (get_or keys p.0.0 0, p.0.1)
    (keyed_at keys (row rows i) has.0 p.0 p.1) (eq-eqb (get_or keys p.0.0 0) (key_of x) key))

-- the tasks of two versions, one after the other
record AreNeighbours (keys : List ℕ) (ts : List RawTask) (places : List Place) (b v : ℕ) : Type 0 where
  first : IsKeyPlace keys ts places (writer_in keys places b v)
  second : IsKeyPlace keys ts places (writer_in keys places b (v + 1))
  name : ℕ
  first_writes : Writes ts first.task name v
  second_writes : Writes ts second.task name (v + 1)

neighbours : (keys : List ℕ) (ts : List RawTask) (places : List Place) (rows : List (List (ℕ × ℕ))) (count b v : ℕ) → TellsPlaces ts keys rows → AreNumbered ts places count → IsOrderly ts
    → 1 ≤ v → v < versions_in places b → AreNeighbours keys ts places b v
neighbours keys ts places rows count b v tp are orderly some less =
    let f = writer_place keys ts places rows count b v tp are orderly some (omega arith) in
    let s = writer_place keys ts places rows count b (v + 1) tp are orderly (omega arith) (omega arith) in
    let pair = stated_pair are.names (own_count (take f.0.i ts)) (own_count (take s.0.i ts)) f.0.task s.0.task f.0.task.block s.0.task.block f.0.place s.0.place refl refl
    (are.each f.0.i f.0.task f.0.place f.0.stands f.0.here) (are.each s.0.i s.0.task s.0.place s.0.stands s.0.here) (f.1 ∙ sym s.1) (omega (arith, s.2)) in record {
      first = f.0;
      second = s.0;
      name = pair.0;
      first_writes = record { stands = contains_get ts f.0.i f.0.task f.0.stands; place = pair.1 ∙ ap (some_pair pair.0) f.2 };
      second_writes = record { stands = contains_get ts s.0.i s.0.task s.0.stands; place = pair.2 ∙ ap (some_pair pair.0) s.2 };
    }

-- the task at a place of a row
reader_at : (keys : List ℕ) (ts : List RawTask) (rows : List (List (ℕ × ℕ))) (k j p q : ℕ) → TellsPlaces ts keys rows → slice_get (row_by keys rows k) j ≡ Some (p, q)
    → (t : RawTask) × (e : ℕ × ℕ) × (slice_get ts (number_in keys k) ≡ Some t) × (slice_get (row rows (number_in keys k)) j ≡ Some e) × (get_or keys e.0 0 ≡ p)
reader_at keys ts rows k j p q tp here =
    let r = number_in keys k in
    let e = keyed_from keys (row rows r) j (p, q) here in
    elim (slice_get_cases ts r).1 [
      | inl a ↦ (a.0, e.0, a.2, e.1, sym (ap (λ (x : ℕ × ℕ). x.0) e.2))
      | inr past ↦
          let empty : row rows r ≡ [] = get_or_past rows r [] (omega (arith, past.0, tp.long)) in
          let none_there : None ≡ Some e.0 = ap (λ l. slice_get l j) (sym empty) ∙ e.1 in
          absurd (cc)
    ]

pub has_laws : (keys : List ℕ) (ts : List RawTask) (places : List Place) (count : ℕ) (rows succs : List (List (ℕ × ℕ))) → TellsPlaces ts keys rows
    → IsReverseByKey keys (row_by keys rows) (row_by keys succs) → AreNumbered ts places count → IsOrderly ts → length ts ≤ 16384
    → HasBlockLaws keys places count (row_by keys rows) (row_by keys succs) (λ k. get_or (map (λ (t : RawTask). length t.inputs) ts) (number_in keys k) 0)
has_laws keys ts places count rows succs tp reverse are orderly few = record {
  few_blocks = omega (arith, are.count_is, are.few, own_small ts (length ts), ap own_count (take_all (length ts) ts (omega arith)));
  block_inside = λ k has.
      let w = place_of_key keys ts places rows k tp are.long has in
      omega (arith, w.block, block_low ts places count w.i w.task w.task.block w.place are refl (are.each w.i w.task w.place w.stands w.here) w.stands);
  version_inside = λ k has.
      let w = place_of_key keys ts places rows k tp are.long has in
      let whole = are_whole ts places count are orderly in (
        omega (arith, w.version, whole.positive w.i w.place w.here),
        omega (
          arith,
          w.version,
          ap (versions_in places) w.block,
          version_le places w.place.block w.place.version whole (record { at = w.i; place = w.place; here = w.here; block = refl; version = refl }),
        ),
      );
  writes = λ b v low some le.
      let w = writer_place keys ts places rows count b v tp are orderly some le in
      (w.0.block ∙ w.1, w.0.version ∙ w.2);
  writer_task = λ b v low some le.
      let w = writer_place keys ts places rows count b v tp are orderly some le in
      merely (contains_at keys w.0.i (writer_in keys places b v) (w.0.inside, w.0.key));
  one_writer = λ k has.
      let w = place_of_key keys ts places rows k tp are.long has in
      let f = first_of_version places w.place.block w.place.version (record { at = w.i; place = w.place; here = w.here; block = refl; version = refl }) in
      let i = position_or_len (is_at w.place.block w.place.version) places in
      let same : i ≡ w.i = elim (cases_lt i w.i) [
        | inl less ↦ absurd ((are_whole ts places count are orderly).apart i w.i f.place w.place less f.here w.here f.block f.version)
        | inr late ↦ elim (cases_lt w.i i) [
          | inl more ↦ absurd ((are_whole ts places count are orderly).apart w.i i w.place f.place more w.here f.here (sym f.block) (sym f.version))
          | inr there ↦ omega arith
        ]
      ] in
      ap (λ b. writer_in keys places b (version_in keys places k)) w.block ∙ (ap (writer_in keys places w.place.block) w.version ∙ (ap (λ n. get_or keys n 0) same ∙ w.key));
  ordered = λ b v low some less.
      let n = neighbours keys ts places rows count b v tp are orderly some less in
      subst (names_key (row_by keys rows (writer_in keys places b (v + 1)))) (sym (key_here ts keys n.first.i n.first.task tp.is n.first.stands) ∙ n.first.key)
      (key_named keys ts rows (writer_in keys places b (v + 1)) n.first.i n.second.i n.second.task n.first.task tp n.second.stands n.first.stands n.second.number
      (orderly.ordered n.first.task n.second.task n.name v n.first_writes n.second_writes));
  read_before = λ b v q k j low some less names input other.
      let n = neighbours keys ts places rows count b v tp are orderly some less in
      let back = reverse.back (writer_in keys places b v) q k j (contains_at keys n.first.i (writer_in keys places b v) (n.first.inside, n.first.key)) names in
      let r = reader_at keys ts rows k j (writer_in keys places b v) q tp back in
      let at = place_at ts keys rows (number_in keys k) j r.0 r.1 tp r.2 r.3 in
      let inside : j < length r.0.inputs = omega (arith, map_at (λ (t : RawTask). length t.inputs) ts (number_in keys k) r.0 r.2) in
      let given = input_place r.0 j inside in
      let first_key : key_of n.first.task ≡ writer_in keys places b v = sym (key_here ts keys n.first.i n.first.task tp.is n.first.stands) ∙ n.first.key in
      let second_key : key_of n.second.task ≡ writer_in keys places b (v + 1) = sym (key_here ts keys n.second.i n.second.task tp.is n.second.stands) ∙ n.second.key in
      let k_key : key_of r.0 ≡ k = sym (key_here ts keys (number_in keys k) r.0 tp.is r.2)
      ∙ number_is keys k (omega (arith, slice_get_within ts (number_in keys k) r.0 r.2, keys_count ts keys tp.is)) in
      let reads : Contains r.0.inputs (key_of n.first.task) = contains_at r.0.inputs j (key_of n.first.task) (inside, sym given.1 ∙ (sym at.2 ∙ (r.4 ∙ sym first_key))) in
      subst (names_key (row_by keys rows (writer_in keys places b (v + 1)))) k_key
      (key_named keys ts rows (writer_in keys places b (v + 1)) (number_in keys k) n.second.i n.second.task r.0 tp n.second.stands r.2 n.second.number
      (orderly.read n.first.task n.second.task r.0 n.name v n.first_writes n.second_writes (contains_get ts (number_in keys k) r.0 r.2) reads
      (λ same. other (sym k_key ∙ (same ∙ second_key)))));
}

-- ---- for the calls

pub tells_places : (ts : List RawTask) (keys : List ℕ) (links : Links) → keys_of ts ≡ keys → IsAscending keys → vec_len links.places ≡ length ts
    → ((i : ℕ) (d : RawTask) → i < length ts → Tells keys (places_of (get_or ts i d)) (row (places_in links) i)) → TellsPlaces ts keys (places_in links)
tells_places ts keys links is up long named = record {
  is = is;
  up = up;
  long = omega (arith, rows_long links.places.items);
  tells = λ i t here. subst (λ x. Tells keys (places_of x) (row (places_in links) i)) (get_or_from_slice_get ts i t t here) (named i t (slice_get_within ts i t here));
}

pub tells_own : (ts : List RawTask) (keys : List ℕ) (rows : List (List (ℕ × ℕ))) → TellsPlaces ts keys rows → TellsPlaces ts (keys_of ts) rows
tells_own ts keys rows tp = subst (λ l. TellsPlaces ts l rows) (sym tp.is) tp

pub positive_all : (ts : List RawTask) (ws : List Written) → AreWritten ts ws → HasFileVersions ts → All (λ w. 1 ≤ w.version) ws
positive_all ts ws are given i d inside = let s = are.sound i d inside in (given (get_or ws i d).writer s.task (get_or ws i d).block (get_or ws i d).version s.stands s.states).0

pub writers_inside : (ts : List RawTask) (ws : List Written) → AreWritten ts ws → (n : ℕ) → n ≡ length ts → All (λ w. w.writer < n) ws
writers_inside ts ws are n long i d inside = let s = are.sound i d inside in omega (arith, slice_get_within ts (get_or ws i d).writer s.task s.stands)
