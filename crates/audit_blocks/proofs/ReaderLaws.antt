-- Late readers by number are those by key.
use Rattle.std.proofs.Common.{◌≡◌, ◌∙◌, ◌≢◌, ℕ, ◌+◌, ◌-◌, ◌<◌, false, List, [], length, get_or, refl, ap, sym, subst, arith, Contains, Option, Some, None, slice_get, inl, inr}
use Rattle.std.proofs.lemmas.Bool.{cases_Bool, both_ways, false_from_ne_true}
use Rattle.std.proofs.lemmas.List.{get_or_default, get_or_append_left, get_or_past, length-append}
use Rattle.std.proofs.lemmas.Option.{slice_get_within, slice_get_cases}
use Rattle.raw_graph.specs.declared.raw.RawTask.{RawTask}
use Rattle.audit_checks.specs.Tasks.{Writes, key_of, keys_of, places_of}
use Rattle.audit_checks.specs.Rows.{row}
use Rattle.audit_checks.specs.Accepted.{HasReadersBefore}
use Rattle.audit_checks.specs.Faults.{IsLeast, ReadsLate}
use Rattle.audit_checks.proofs.Keys.{same_key}
use Rattle.audit_checks.proofs.LeastTask.{contains_at, keys_count}
use Rattle.audit_blocks.specs.declared.written.Written.{Written}
use Rattle.audit_blocks.specs.declared.readers.Late.{Late}
use Rattle.audit_blocks.specs.Versions.{at, AreWritten, IsRising, IsWhole}
use Rattle.audit_blocks.specs.Edges.{TellsPlaces, names_in}
use Rattle.audit_blocks.specs.Readers.{next_of, AreNexts, AreInside, IsLateTo, IsLate, IsFirstLate}
use Rattle.audit_blocks.proofs.Places.{stated_at, writes_at, contains_get, get_contains}
use Rattle.audit_blocks.proofs.EdgeLemmas.{key_here, key_inside, index_less, place_at, place_of, named_contains, contains_named}
use Rattle.audit_blocks.proofs.NextLemmas.{some_same}
use Rattle.audit_blocks.proofs.Orders.{ArePlaces, places_found}

pub input_place : (t : RawTask) (j : ℕ) → j < length t.inputs → (j < length (places_of t)) × (get_or (places_of t) j 0 ≡ get_or t.inputs j 0)
input_place t j inside = (omega (arith, length-append t.inputs t.after), get_or_append_left t.inputs t.after 0 j inside)

-- all that the readers' facts rest on
pub record IsTold (ts : List RawTask) (keys : List ℕ) (ws : List Written) (rows : List (List (ℕ × ℕ))) (nexts : List (Option ℕ)) : Type 0 where
  pub are : AreWritten ts ws
  pub up : IsRising ws
  pub whole : IsWhole ws
  pub tells : TellsPlaces ts keys rows
  pub nexts_are : AreNexts ws (length ws) nexts

make_late : (ts : List RawTask) (keys : List ℕ) (ws : List Written) (rows : List (List (ℕ × ℕ))) (nexts : List (Option ℕ)) (s t x : RawTask) (b v r : ℕ) → IsTold ts keys ws rows nexts
    → (p : ArePlaces ts ws s t b v) → slice_get ts r ≡ Some x → Contains x.inputs (key_of s) → key_of x ≢ key_of t → names_in rows p.second.writer r ≡ false
    → IsLate ts rows nexts r p.second.writer
make_late ts keys ws rows nexts s t x b v r told p here reads other apart =
    let j = reads.0 in
    let input = input_place x j reads.1 in
    let e = place_of ts keys rows r j p.first.writer x s told.tells here p.first.stands input.0 (input.1 ∙ (get_or_default x.inputs j 0 (key_of s) reads.1 ∙ reads.2)) in
    let next : next_of nexts (at ws (p.second.place - 1)).writer ≡ Some (at ws p.second.place).writer = told.nexts_are.complete p.second.place p.second.inside p.same in record {
      reader = x;
      stands = here;
      late = record {
        place = j;
        early = reads.1;
        late = record {
          pred = e.0;
          names = e.1;
          next = ap (next_of nexts) (e.2 ∙ sym p.writer) ∙ (next ∙ ap (λ n. Some n) p.second.writer_is);
          other = λ same. other (sym (key_here ts keys r x told.tells.is here) ∙ (ap (λ n. get_or keys n 0) (sym same) ∙ key_here ts keys p.second.writer t told.tells.is p.second.stands));
          apart = apart;
        };
      };
    }

pub has_readers : (ts : List RawTask) (keys : List ℕ) (ws : List Written) (rows : List (List (ℕ × ℕ))) (nexts : List (Option ℕ)) → IsTold ts keys ws rows nexts
    → ((r w : ℕ) → r < length ts → ¬ IsLate ts rows nexts r w) → HasReadersBefore ts
has_readers ts keys ws rows nexts told none_late s t x b v first second has reads other =
    let p = places_found ts ws s t b v told.are told.up first second in
    let here = get_contains ts x has in
    elim (cases_Bool (names_in rows p.second.writer has.0)) [
      | inl named ↦ named_contains ts keys rows p.second.writer has.0 t x told.tells p.second.stands here named
      | inr apart ↦ absurd (none_late has.0 p.second.writer has.1 (make_late ts keys ws rows nexts s t x b v has.0 told p here reads other apart))
    ]

-- a reader of ReadsLate, by number
record IsNumberedLate (ts : List RawTask) (keys : List ℕ) (rows : List (List (ℕ × ℕ))) (nexts : List (Option ℕ)) (reader writer : ℕ) : Type 0 where
  r : ℕ
  w : ℕ
  r_inside : r < length ts
  late : IsLate ts rows nexts r w
  r_key : get_or keys r 0 ≡ reader
  w_key : get_or keys w 0 ≡ writer
  r_low : r < length keys
  w_low : w < length keys

numbered_late : (ts : List RawTask) (keys : List ℕ) (ws : List Written) (rows : List (List (ℕ × ℕ))) (nexts : List (Option ℕ)) (reader writer : ℕ) → IsTold ts keys ws rows nexts
    → ReadsLate ts reader writer → IsNumberedLate ts keys rows nexts reader writer
numbered_late ts keys ws rows nexts reader writer told x =
    let p = places_found ts ws x.first x.second x.block x.version told.are told.up x.writes_first x.writes_second in
    let here = get_contains ts x.task x.stands in
    let apart : names_in rows p.second.writer x.stands.0 ≡ false = false_from_ne_true (names_in rows p.second.writer x.stands.0)
    (λ named. x.apart (subst (Contains (places_of x.second)) x.reader_key (named_contains ts keys rows p.second.writer x.stands.0 x.second x.task told.tells p.second.stands here named))) in record {
      r = x.stands.0;
      w = p.second.writer;
      r_inside = x.stands.1;
      late = make_late ts keys ws rows nexts x.first x.second x.task x.block x.version x.stands.0 told p here x.reads
          (λ same. x.other (sym x.reader_key ∙ (same ∙ x.writer_key))) apart;
      r_key = key_here ts keys x.stands.0 x.task told.tells.is here ∙ x.reader_key;
      w_key = key_here ts keys p.second.writer x.second told.tells.is p.second.stands ∙ x.writer_key;
      r_low = key_inside ts keys x.stands.0 x.task told.tells.is here;
      w_low = key_inside ts keys p.second.writer x.second told.tells.is p.second.stands;
    }

late_reads : (ts : List RawTask) (keys : List ℕ) (ws : List Written) (rows : List (List (ℕ × ℕ))) (nexts : List (Option ℕ)) (r w : ℕ) (x y : RawTask) → IsTold ts keys ws rows nexts
    → slice_get ts r ≡ Some x → slice_get ts w ≡ Some y → IsLateTo rows nexts r (length x.inputs) w → ReadsLate ts (key_of x) (key_of y)
late_reads ts keys ws rows nexts r w x y told r_is w_is late =
    let at_place = late.late in
    let n = told.nexts_are.sound at_place.pred.0 w at_place.next in
    let i = n.place in
    let low : i - 1 < length ws = omega (arith, n.inside) in
    let s = stated_at ts ws (i - 1) told.are low in
    let t = stated_at ts ws i told.are n.inside in
    let s_is : slice_get ts at_place.pred.0 ≡ Some s.task = ap (slice_get ts) (sym n.first) ∙ s.stands in
    let y_is : t.task ≡ y = some_same t.task y (sym t.stands ∙ (ap (slice_get ts) n.second ∙ w_is)) in
    let next : (at ws i).version ≡ (at ws (i - 1)).version + 1 = told.whole.next i (at ws (i - 1)).version n.inside (inl (n.same, refl)) in
    let names = place_at ts keys rows r late.place x at_place.pred told.tells r_is at_place.names in
    let input = input_place x late.place late.early in record {
      first = s.task;
      second = y;
      task = x;
      block = (at ws (i - 1)).block;
      version = (at ws (i - 1)).version;
      writes_first = writes_at ts ws (i - 1) told.are low;
      writes_second = subst (λ z. Writes ts z (at ws (i - 1)).block ((at ws (i - 1)).version + 1)) y_is
          (subst (λ v. Writes ts t.task (at ws (i - 1)).block v) next (subst (λ b. Writes ts t.task b (at ws i).version) (sym n.same.1) (writes_at ts ws i told.are n.inside)));
      stands = contains_get ts r x r_is;
      reads = contains_at x.inputs late.place (key_of s.task)
          (late.early, sym input.1 ∙ (sym names.2 ∙ key_here ts keys at_place.pred.0 s.task told.tells.is s_is));
      reader_key = refl;
      writer_key = refl;
      other = λ same. at_place.other (same_key keys told.tells.up w r (key_inside ts keys w y told.tells.is w_is) (key_inside ts keys r x told.tells.is r_is)
          (key_here ts keys w y told.tells.is w_is ∙ (sym same ∙ sym (key_here ts keys r x told.tells.is r_is))));
      apart = λ has. both_ways (names_in rows w r) at_place.apart (contains_named ts keys rows w r y x told.tells w_is r_is has);
    }

pub reader_fault : (ts : List RawTask) (keys : List ℕ) (ws : List Written) (rows : List (List (ℕ × ℕ))) (nexts : List (Option ℕ)) (l : Late) (x y : RawTask) → IsTold ts keys ws rows nexts
    → IsFirstLate ts rows nexts (length ts) l → slice_get ts l.reader ≡ Some x → slice_get ts l.writer ≡ Some y
    → IsLeast (λ writer. (reader : ℕ) × ReadsLate ts reader writer) (key_of y) × IsLeast (λ reader. ReadsLate ts reader (key_of y)) (key_of x)
reader_fault ts keys ws rows nexts l x y told first x_is y_is =
    let e : first.late.reader ≡ x = some_same first.late.reader x (sym first.late.stands ∙ x_is) in
    let reads = late_reads ts keys ws rows nexts l.reader l.writer x y told x_is y_is (subst (λ z. IsLateTo rows nexts l.reader (length z.inputs) l.writer) e first.late.late) in
    let x_key = key_here ts keys l.reader x told.tells.is x_is in
    let y_key = key_here ts keys l.writer y told.tells.is y_is in
    let y_low = key_inside ts keys l.writer y told.tells.is y_is in (
      record {
        holds = (key_of x, reads);
        least = λ m low more.
            let n = numbered_late ts keys ws rows nexts more.0 m told more.1 in
            let less : n.w < l.writer = index_less keys n.w l.writer told.tells.up n.w_low (omega (arith, n.w_key, y_key)) in
            elim (first.least n.r n.w n.r_inside n.late) [ inl a ↦ omega arith | inr a ↦ omega (arith, a.0) ];
      },
      record {
        holds = reads;
        least = λ m low more.
            let n = numbered_late ts keys ws rows nexts m (key_of y) told more in
            let same : n.w ≡ l.writer = same_key keys told.tells.up n.w l.writer n.w_low y_low (n.w_key ∙ sym y_key) in
            let less : n.r < l.reader = index_less keys n.r l.reader told.tells.up n.r_low (omega (arith, n.r_key, x_key)) in
            elim (first.least n.r n.w n.r_inside n.late) [ inl a ↦ omega arith | inr a ↦ omega (arith, a.1) ];
      },
    )

pub inside_of : (ts : List RawTask) (keys : List ℕ) (ws : List Written) (rows : List (List (ℕ × ℕ))) (nexts : List (Option ℕ)) → IsTold ts keys ws rows nexts
    → length nexts ≡ length ts → AreInside rows nexts
inside_of ts keys ws rows nexts told long = record {
  preds = λ k j e names. elim (slice_get_cases ts k).1 [
    | inl at_task ↦ omega (arith, (place_at ts keys rows k j at_task.0 e told.tells at_task.2 names).0, keys_count ts keys told.tells.is)
    | inr past ↦
        let empty : row rows k ≡ [] = get_or_past rows k [] (omega (arith, past.0, told.tells.long)) in
        let none_there : None ≡ Some e = ap (λ l. slice_get l j) (sym empty) ∙ names in
        absurd (cc)
  ];
  writers = λ p w next.
      let n = told.nexts_are.sound p w next in
      let t = stated_at ts ws n.place told.are n.inside in
      omega (arith, slice_get_within ts (at ws n.place).writer t.task t.stands, n.second, told.tells.long);
}

pub told_of : (ts : List RawTask) (ws : List Written) (rows : List (List (ℕ × ℕ))) (vs nexts : List (Option ℕ)) → AreWritten ts ws → IsRising ws → IsWhole ws
    → TellsPlaces ts (keys_of ts) rows → nexts ≡ vs → AreNexts ws (length ws) vs → IsTold ts (keys_of ts) ws rows nexts
told_of ts ws rows vs nexts are up whole tells same nexts_are =
    record { are = are; up = up; whole = whole; tells = tells; nexts_are = subst (AreNexts ws (length ws)) (sym same) nexts_are }

pub late_inside : (ts : List RawTask) (keys : List ℕ) (ws : List Written) (rows : List (List (ℕ × ℕ))) (nexts : List (Option ℕ)) (l : Late) → IsTold ts keys ws rows nexts
    → length nexts ≡ length ts → IsFirstLate ts rows nexts (length ts) l → l.writer < length ts
late_inside ts keys ws rows nexts l told long first =
    omega (arith, (inside_of ts keys ws rows nexts told long).writers first.late.late.late.pred.0 l.writer first.late.late.late.next, told.tells.long)
