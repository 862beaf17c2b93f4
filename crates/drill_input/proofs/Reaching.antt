-- The sink of a number's graph needs all its tasks.
use Rattle.std.proofs.Common.{◌≡◌, ◌∙◌, ◌≢◌, ℕ, zero, suc, ◌+◌, ◌-◌, ◌<◌, ◌≤◌, false, List, [], ◌∷◌, length, get_or, map, refl, ap, sym, subst, arith, inl, inr, Contains, Some, slice_get}
use Rattle.std.specs.Prelude.{◌==◌}
use Rattle.std.specs.List.Sorted.{IsStrictlyIncreasing}
use Rattle.std.proofs.lemmas.Bool.{cases_lt, ne_eqb}
use Rattle.std.proofs.lemmas.List.{get_or_default}
use Rattle.std.proofs.lemmas.List.Elements.{Contains-get_or}
use Rattle.std.proofs.lemmas.Option.{slice_get-get_or, slice_get_within, get_or_from_slice_get}
use Rattle.graph_model.specs.Graph.{Graph}
use Rattle.graph_model.specs.Serial.{Outcome}
use Rattle.graph_model.specs.Reaching.{IsReachable, at_sink, above}
use Rattle.raw_graph.specs.Graph.{Task, task_of}
use Rattle.raw_graph.specs.declared.raw.RawTask.{RawTask}
use Rattle.audit_checks.specs.Tasks.{IsAscending, key_of, keys_of, places_of}
use Rattle.audit_checks.proofs.LeastTask.{some_task, keys_long}
use Rattle.audit_checks.proofs.Keys.{ascending-≤}
use Rattle.acyclic_audit.specs.Reaching.{IsReachedCount}
use Rattle.acyclic_audit.proofs.Reached.{get_map_cases}
use Rattle.acyclic_audit.proofs.Lookups.{get_map}
use Rattle.drill_input.specs.Drill.{one_before}
use Rattle.drill_input.specs.Values.{IsDrill}
use Rattle.drill_input.proofs.Rows.{IsRow, first, later, start, next, last}
use Rattle.drill_input.proofs.Places.{places, IsKeyAt, key_row, same_key, LooksBack, places_row}
use Rattle.drill_input.proofs.Accepting.{length_made, row_of, key_made, ascending, key_stands}
use Rattle.drill_input.proofs.RowValues.{low_key, middle_key}
use Rattle.drill_input.proofs.Serially.{key_here}

-- ---- lists with the same elements, both ascending, are as long

climbs : (xs : List ℕ) → IsStrictlyIncreasing xs → (i n j : ℕ) → j ≡ i + n + 1 → j < length xs → get_or xs i 0 < get_or xs j 0
climbs xs up i zero j e inside = subst (λ m. get_or xs i 0 < get_or xs m 0) (let h : i + 1 ≡ j = omega arith in h) (up i (omega arith))
climbs xs up i (suc n) j e inside =
    let early : get_or xs i 0 < get_or xs (j - 1) 0 = climbs xs up i n (j - 1) (omega arith) (omega arith) in
    let late : get_or xs (j - 1) 0 < get_or xs j 0 = subst (λ m. get_or xs (j - 1) 0 < get_or xs m 0) (let h : j - 1 + 1 ≡ j = omega arith in h) (up (j - 1) (omega arith)) in
    omega (arith, early, late)

ascends : (xs : List ℕ) → IsStrictlyIncreasing xs → IsAscending xs
ascends xs up = record { rises = λ i j less inside. climbs xs up i (j - i - 1) j (omega arith) inside }

-- what stands at place i of the one stands at such a place or later in the other
record IsBeyond (xs ys : List ℕ) (i : ℕ) : Type 0 where
  place : ℕ
  late : i ≤ place
  inside : place < length ys
  same : get_or ys place 0 ≡ get_or xs i 0

beyond : (xs ys : List ℕ) → IsAscending xs → IsAscending ys → ((k : ℕ) → Contains xs k → Contains ys k) → (i : ℕ) → i < length xs → IsBeyond xs ys i
beyond xs ys up rises all zero inside =
    let has = all (get_or xs 0 0) (Contains-get_or xs 0 0 inside) in
    record { place = has.0; late = omega arith; inside = has.1; same = get_or_default ys has.0 0 (get_or xs 0 0) has.1 ∙ has.2 }
beyond xs ys up rises all (suc i) inside =
    let before = beyond xs ys up rises all i (omega arith) in
    let has = all (get_or xs (suc i) 0) (Contains-get_or xs (suc i) 0 inside) in
    let same : get_or ys has.0 0 ≡ get_or xs (suc i) 0 = get_or_default ys has.0 0 (get_or xs (suc i) 0) has.1 ∙ has.2 in
    let step : get_or xs i 0 < get_or xs (suc i) 0 = up.rises i (suc i) (omega arith) inside in
    let late : suc i ≤ has.0 = elim (cases_lt before.place has.0) [
      | inl less ↦ omega (arith, before.late)
      | inr more ↦ absurd (omega (arith, ascending-≤ ys rises has.0 before.place more before.inside, before.same, same, step))
    ] in
    record { place = has.0; late = late; inside = has.1; same = same }

no_longer : (xs ys : List ℕ) → IsAscending xs → IsAscending ys → ((k : ℕ) → Contains xs k → Contains ys k) → length xs ≤ length ys
no_longer xs ys up rises all = elim (cases_lt 0 (length xs)) [
  | inl some ↦ let b = beyond xs ys up rises all (length xs - 1) (omega arith) in omega (arith, b.late, b.inside)
  | inr none ↦ omega arith
]

-- ---- from a task to its predecessors

pred_reached : (number : ℕ) (g : Graph) (outcome : Outcome) (drill : IsDrill number g outcome) (q : ℕ) (d : RawTask) → q < length drill.tasks → IsReachable g (key_of (get_or drill.tasks q d))
    → (j : ℕ) → j < length (places_of (get_or drill.tasks q d)) → IsReachable g (get_or (places_of (get_or drill.tasks q d)) j 0)
pred_reached number g outcome drill q d inside reached j low =
    let t = get_or drill.tasks q d in
    let found = get_map_cases (λ (e : ℕ × ℕ). e.0) (g.preds (key_of t)) j (get_or (places_of t) j 0)
    (ap (λ (ps : List ℕ). slice_get ps j) (drill.graph.preds q d inside) ∙ slice_get-get_or (places_of t) j 0 low) in
    above (key_of t) j (get_or (places_of t) j 0) found.0.1 reached (found.1 ∙ ap (λ (n : ℕ). Some (n, found.0.1)) found.2)

-- the task at a place is reachable
abbrev At : Graph → ℕ → Type 0
At g q = (p : ℕ) → IsKeyAt q p → IsReachable g p

-- the first predecessor is the task before
abbrev NamesBefore : ℕ → List ℕ → Type 0
NamesBefore i ps = (0 < length ps) × IsKeyAt (i - 1) (get_or ps 0 0)

first_before : (i : ℕ) → i < 64 → 1 ≤ i → NamesBefore i (one_before (1 + i))
first_before i low some =
    let e : (1 + i == 1) ≡ false = ne_eqb (1 + i) 1 (λ same. omega arith) in rw e (omega arith, low_key (i - 1) (1 + i - 1) (omega arith) (omega arith))

names_before : (number i : ℕ) (x : Task) → IsRow number i x → 1 ≤ i → i ≢ 8192 → i < 8256 → NamesBefore i (places x)
names_before number i x (first low e) some other high = subst (NamesBefore i) (sym (ap places e)) (first_before i low some)
names_before number i x (later low less e) some other high = subst (NamesBefore i) (sym (ap places e)) (omega arith, low_key (i - 1) (1 + i - 1) (omega arith) (omega arith))
names_before number i x (start here e) some other high = absurd (other here)
names_before number i x (next low less e) some other high = subst (NamesBefore i) (sym (ap places e)) (omega arith, middle_key (i - 1) (9999 + (i - 8191)) (omega arith) (omega arith) (omega arith))
names_before number i x (last here e) some other high = absurd (omega arith)

sink_names : (number i : ℕ) (x : Task) → IsRow number i x → i ≡ 8256 → places x ≡ 8192 ∷ 10064 ∷ []
sink_names number i x (first low e) is = absurd (omega arith)
sink_names number i x (later low less e) is = absurd (omega arith)
sink_names number i x (start here e) is = absurd (omega arith)
sink_names number i x (next low less e) is = absurd (omega arith)
sink_names number i x (last here e) is = ap places e

-- from the key at place j of the task at q
reached_from : (number : ℕ) (g : Graph) (outcome : Outcome) (drill : IsDrill number g outcome) (q r j : ℕ) (d : RawTask) → q < length drill.tasks → At g q → r < 8257
    → j < length (places_of (get_or drill.tasks q d)) → IsKeyAt r (get_or (places_of (get_or drill.tasks q d)) j 0) → At g r
reached_from number g outcome drill q r j d inside reached low j_in is p at =
    let t = get_or drill.tasks q d in
    let row : IsRow number q (task_of t) = row_of number drill.tasks drill.made q d inside in
    subst (IsReachable g) (same_key r r (get_or (places_of t) j 0) p is at refl low)
    (pred_reached number g outcome drill q d inside (reached (key_of t) (key_row number q (task_of t) row)) j j_in)

sink_reached : (number : ℕ) (g : Graph) (outcome : Outcome) → IsDrill number g outcome → At g 8256
sink_reached number g outcome drill p at = subst (IsReachable g) (drill.graph.sink_is ∙ sym (at.top refl)) at_sink

under_sink : (number : ℕ) (g : Graph) (outcome : Outcome) → IsDrill number g outcome → At g 8191 × At g 8255
under_sink number g outcome drill =
    let long : length drill.tasks ≡ 8257 = length_made number drill.tasks drill.made in
    let d : RawTask = some_task drill.tasks (omega arith) in
    let inside : 8256 < length drill.tasks = omega arith in
    let t = get_or drill.tasks 8256 d in
    let names : places_of t ≡ 8192 ∷ 10064 ∷ [] = sink_names number 8256 (task_of t) (row_of number drill.tasks drill.made 8256 d inside) refl in
    let two : length (places_of t) ≡ 2 = ap length names in (
      reached_from number g outcome drill 8256 8191 0 d inside (sink_reached number g outcome drill) (omega arith) (omega arith)
          (subst (λ (ps : List ℕ). IsKeyAt 8191 (get_or ps 0 0)) (sym names) (low_key 8191 8192 (omega arith) (omega arith))),
      reached_from number g outcome drill 8256 8255 1 d inside (sink_reached number g outcome drill) (omega arith) (omega arith)
          (subst (λ (ps : List ℕ). IsKeyAt 8255 (get_or ps 1 0)) (sym names) (middle_key 8255 10064 (omega arith) (omega arith) (omega arith))),
    )

step_down : (number : ℕ) (g : Graph) (outcome : Outcome) (drill : IsDrill number g outcome) (q r : ℕ) → 1 ≤ q → q ≢ 8192 → q < 8256 → r ≡ q - 1 → At g q → At g r
step_down number g outcome drill q r some other high e reached =
    let long : length drill.tasks ≡ 8257 = length_made number drill.tasks drill.made in
    let d : RawTask = some_task drill.tasks (omega arith) in
    let inside : q < length drill.tasks = omega arith in
    let t = get_or drill.tasks q d in
    let before = names_before number q (task_of t) (row_of number drill.tasks drill.made q d inside) some other high in
    reached_from number g outcome drill q r 0 d inside reached (omega arith) before.0 (subst (λ (m : ℕ). IsKeyAt m (get_or (places_of t) 0 0)) (sym e) before.1)

low_reached : (number : ℕ) (g : Graph) (outcome : Outcome) → IsDrill number g outcome → (n r : ℕ) → r + n ≡ 8191 → At g r
low_reached number g outcome drill zero r e = subst (At g) (let h : 8191 ≡ r = omega arith in h) (under_sink number g outcome drill).0
low_reached number g outcome drill (suc n) r e =
    step_down number g outcome drill (r + 1) r (omega arith) (λ h. omega arith) (omega arith) (omega arith) (low_reached number g outcome drill n (r + 1) (omega arith))

chain_reached : (number : ℕ) (g : Graph) (outcome : Outcome) → IsDrill number g outcome → (n r : ℕ) → r + n ≡ 8255 → 8192 ≤ r → At g r
chain_reached number g outcome drill zero r e high = subst (At g) (let h : 8255 ≡ r = omega arith in h) (under_sink number g outcome drill).1
chain_reached number g outcome drill (suc n) r e high =
    step_down number g outcome drill (r + 1) r (omega arith) (λ h. omega arith) (omega arith) (omega arith) (chain_reached number g outcome drill n (r + 1) (omega arith) (omega arith))

all_reached : (number : ℕ) (g : Graph) (outcome : Outcome) → IsDrill number g outcome → (q : ℕ) → q < 8257 → At g q
all_reached number g outcome drill q inside = elim (cases_lt q 8192) [
  | inl low ↦ low_reached number g outcome drill (8191 - q) q (omega arith)
  | inr high ↦ elim (cases_lt q 8256) [
    | inl middle ↦ chain_reached number g outcome drill (8255 - q) q (omega arith) high
    | inr top ↦ subst (At g) (let h : 8256 ≡ q = omega arith in h) (sink_reached number g outcome drill)
  ]
]

-- ---- what is reachable is a task

record IsPlaced (k : ℕ) : Type 0 where
  place : ℕ
  inside : place < 8257
  key : IsKeyAt place k

reached_stands : (number : ℕ) (g : Graph) (outcome : Outcome) → IsDrill number g outcome → (k : ℕ) → IsReachable g k → IsPlaced k
reached_stands number g outcome drill _ at_sink =
    record { place = 8256; inside = omega arith; key = subst (IsKeyAt 8256) (sym drill.graph.sink_is) (record { low = λ h. omega arith; middle = λ h l. omega arith; top = λ h. refl }) }
reached_stands number g outcome drill _ (above k j p q r at) =
    let up = reached_stands number g outcome drill k r in
    let long : length drill.tasks ≡ 8257 = length_made number drill.tasks drill.made in
    let d : RawTask = some_task drill.tasks (omega arith) in
    let i = up.place in
    let inside : i < length drill.tasks = omega (arith, up.inside) in
    let t = get_or drill.tasks i d in
    let key : key_of t ≡ k = key_here number g outcome drill i k d up.key up.inside in
    let named : slice_get (places_of t) j ≡ Some p =
    ap (λ (ps : List ℕ). slice_get ps j) (sym (drill.graph.preds i d inside)) ∙ (ap (λ (m : ℕ). slice_get (map (λ (e : ℕ × ℕ). e.0) (g.preds m)) j) key ∙ get_map (λ (e : ℕ × ℕ). e.0) (g.preds k) j (p, q) at) in
    let back : LooksBack i (get_or (places_of t) j 0) = (places_row number i (task_of t) (row_of number drill.tasks drill.made i d inside)).back j 0 (slice_get_within (places_of t) j p named) in
    record { place = back.place; inside = omega (arith, back.before, up.inside); key = subst (IsKeyAt back.place) (get_or_from_slice_get (places_of t) j p 0 named) back.key }

pub count_reached : (number : ℕ) (g : Graph) (outcome : Outcome) → IsDrill number g outcome → (n : ℕ) → IsReachedCount g n → n ≡ 8257
count_reached number g outcome drill n count =
    let ts = drill.tasks in
    let long : length ts ≡ 8257 = length_made number ts drill.made in
    let up : IsAscending (keys_of ts) = ascending number ts drill.made in
    let there : IsAscending count.keys = ascends count.keys count.ascending in
    let few : length count.keys ≤ length (keys_of ts) = no_longer count.keys (keys_of ts) there up (λ k has.
    let placed = reached_stands number g outcome drill k ((count.reached k).0 has) in
    key_stands number ts drill.made placed.place k placed.key placed.inside) in
    let many : length (keys_of ts) ≤ length count.keys = no_longer (keys_of ts) count.keys up there (λ k has.
    let inside : has.0 < length ts = omega (arith, has.1, keys_long ts) in
    let key : get_or (keys_of ts) has.0 0 ≡ k = get_or_default (keys_of ts) has.0 0 k has.1 ∙ has.2 in
    (count.reached k).1 (all_reached number g outcome drill has.0 (omega arith) k (subst (IsKeyAt has.0) key (key_made number ts drill.made has.0 inside)))) in
    omega (arith, count.count, few, many, keys_long ts)
