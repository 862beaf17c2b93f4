-- From flags of rows to the keys that are reachable.
use Rattle.std.proofs.Common.{◌≡◌, ◌∙◌, ℕ, zero, suc, ◌+◌, ◌<◌, inl, inr, List, [], ◌∷◌, length, get_or, map, refl, ap, sym, subst, arith, Contains, Bool, true, false, cond, Some, slice_get, count_by}
use Rattle.std.specs.Prelude.{◌==◌, ◌↔◌, filter}
use Rattle.std.proofs.lemmas.Bool.{eq-eqb, ne_eqb, cases_eq}
use Rattle.std.proofs.lemmas.List.{get_or_default}
use Rattle.std.proofs.lemmas.List.Elements.{Contains-get_or}
use Rattle.std.proofs.lemmas.Option.{slice_get-get_or, slice_get_within, get_or_from_slice_get}
use Rattle.std.proofs.lemmas.List.Sums.{sum_by-cons, length-filter}
use Rattle.std.proofs.lemmas.List.Kept.{IsStrictlyIncreasing-filter}
use Rattle.raw_graph.specs.declared.raw.RawTask.{RawTask}
use Rattle.audit_checks.specs.Rows.{row, cell, Names}
use Rattle.audit_checks.specs.ByKey.{number_in, keyed}
use Rattle.audit_checks.specs.Links.{places_in}
use Rattle.audit_checks.proofs.KeyLaws.{number_at}
use Rattle.audit_checks.proofs.RowLemmas.{rows_long}
use Rattle.audit_cycles.specs.Ancestors.{Reaches, here, up, IsSeen}
use Rattle.acyclic_audit.specs.declared.findings.Findings.{Findings}
use Rattle.acyclic_audit.specs.FileGraphs.{IsWhole, graph_of}
use Rattle.graph_model.specs.Reaching.{IsReachable, at_sink, above, AreFlags}
use Rattle.acyclic_audit.specs.Reaching.{IsReachedCount}
use Rattle.acyclic_audit.proofs.Lookups.{get_map}

-- ---- numbers of keys

tail_at : (x k : ℕ) (xs : List ℕ) (i : ℕ) → i < length (x ∷ xs) → get_or (x ∷ xs) i k ≡ k → (x ≡ k → ⊥) → Contains xs k
tail_at x k xs zero inside is other = absurd (other is)
tail_at x k xs (suc i) inside is other = (i, omega arith, is)

inside_case : (x k : ℕ) (xs : List ℕ) → ((x ≡ k → ⊥) → number_in xs k < length xs) → number_in (x ∷ xs) k < length (x ∷ xs)
inside_case x k xs later = elim (cases_eq x k) [
  | inl same ↦ let e : (x == k) ≡ true = eq-eqb x k same in rw e (omega arith)
  | inr other ↦ let e : (x == k) ≡ false = ne_eqb x k other in let h : number_in xs k < length xs = later other in rw e (omega arith)
]

pub number_inside : (keys : List ℕ) (k : ℕ) → Contains keys k → number_in keys k < length keys
number_inside [] k has = absurd (omega (arith, has.1))
number_inside (x ∷ xs) k has = inside_case x k xs (λ other. number_inside xs k (tail_at x k xs has.0 has.1 has.2 other))

found_case : (x k : ℕ) (xs : List ℕ) → (number_in xs k < length xs → get_or xs (number_in xs k) 0 ≡ k)
    → number_in (x ∷ xs) k < length (x ∷ xs) → get_or (x ∷ xs) (number_in (x ∷ xs) k) 0 ≡ k
found_case x k xs later = elim (cases_eq x k) [
  | inl same ↦ let e : (x == k) ≡ true = eq-eqb x k same in rw e (λ _. same)
  | inr other ↦ let e : (x == k) ≡ false = ne_eqb x k other in rw e (λ inside. later (omega (arith, inside)))
]

pub number_found : (keys : List ℕ) (k : ℕ) → number_in keys k < length keys → get_or keys (number_in keys k) 0 ≡ k
number_found [] k inside = absurd (omega arith)
number_found (x ∷ xs) k inside = found_case x k xs (number_found xs k) inside

pub key_stands : (keys : List ℕ) (k : ℕ) → number_in keys k < length keys → Contains keys k
key_stands keys k inside = (number_in keys k, inside, get_or_default keys (number_in keys k) k 0 inside ∙ number_found keys k inside)

-- ---- cells of rows

pub get_map_cases : {X Y : Type 0} (f : X → Y) (xs : List X) (i : ℕ) (y : Y) → slice_get (map f xs) i ≡ Some y → (x : X) × (slice_get xs i ≡ Some x) × (f x ≡ y)
get_map_cases f [] i y e = absurd (cc)
get_map_cases f (x ∷ xs) zero y e = (x, refl, cc)
get_map_cases f (x ∷ xs) (suc i) y e = get_map_cases f xs i y e

pub cell_inside : (rows : List (List (ℕ × ℕ))) (a b : ℕ) (e : ℕ × ℕ) → cell rows a b ≡ Some e → a < length rows
cell_inside [] a b e is = absurd (cc)
cell_inside (r ∷ rs) zero b e is = omega arith
cell_inside (r ∷ rs) (suc a) b e is = omega (arith, cell_inside rs a b e is)

pub named_cell : (es : List (ℕ × ℕ)) (p : ℕ) → Names es p → (j : ℕ) × (q : ℕ) × (slice_get es j ≡ Some (p, q))
named_cell [] p has = absurd has
named_cell (e ∷ es) p (inl is) = (0, e.1, ap (λ n. Some (n, e.1)) is)
named_cell (e ∷ es) p (inr later) = let r = named_cell es p later in (suc r.0, r.1, r.2)

pub cell_names : (es : List (ℕ × ℕ)) (j : ℕ) (e : ℕ × ℕ) → slice_get es j ≡ Some e → Names es e.0
cell_names [] j e is = absurd (cc)
cell_names (x ∷ es) zero e is = let same : x ≡ e = cc in inl (ap (λ r. r.0) same)
cell_names (x ∷ es) (suc j) e is = inr (cell_names es j e is)

-- ---- what the sink reaches, by numbers and by keys

key_reached : (keys : List ℕ) (ts : List RawTask) (x : Findings) → IsWhole keys ts x → (i : ℕ) → Reaches (places_in x.links) x.sink i → IsReachable (graph_of keys ts x) (get_or keys i 0)
key_reached keys ts x w _ here = at_sink
key_reached keys ts x w _ (up k p r names) =
    let places = places_in x.links in
    let at = named_cell (row places k) p names in
    let f : ℕ × ℕ → ℕ × ℕ = λ e. (get_or keys e.0 0, e.1) in
    let inside : k < length keys = omega (arith, cell_inside places k at.0 (p, at.1) at.2, rows_long x.links.places.items, w.places) in
    let number : number_in keys (get_or keys k 0) ≡ k = number_at keys k (get_or keys k 0) w.ascending inside refl in
    above (get_or keys k 0) at.0 (get_or keys p 0) at.1 (key_reached keys ts x w k r)
    (ap (λ n. slice_get (keyed keys (row places n)) at.0) number ∙ get_map f (row places k) at.0 (p, at.1) at.2)

number_reached : (keys : List ℕ) (ts : List RawTask) (x : Findings) → IsWhole keys ts x → (k : ℕ) → IsReachable (graph_of keys ts x) k → Reaches (places_in x.links) x.sink (number_in keys k)
number_reached keys ts x w _ at_sink =
    subst (Reaches (places_in x.links) x.sink) (sym (number_at keys x.sink (get_or keys x.sink 0) w.ascending w.sink refl)) here
number_reached keys ts x w _ (above k j p q r at) =
    let places = places_in x.links in
    let i = number_in keys k in
    let f : ℕ × ℕ → ℕ × ℕ = λ e. (get_or keys e.0 0, e.1) in
    let found = get_map_cases f (row places i) j (p, q) at in
    let e = found.0 in
    let number : number_in keys p ≡ e.0 = number_at keys e.0 p w.ascending (w.places_inside i j e found.1) (ap (λ r. r.0) found.2) in
    subst (Reaches places x.sink) (sym number) (up i e.0 (number_reached keys ts x w k r) (cell_names (row places i) j e found.1))

reachable_stands : (keys : List ℕ) (ts : List RawTask) (x : Findings) → IsWhole keys ts x → (k : ℕ) → IsReachable (graph_of keys ts x) k → Contains keys k
reachable_stands keys ts x w _ at_sink = Contains-get_or keys x.sink 0 w.sink
reachable_stands keys ts x w _ (above k j p q r at) =
    let i = number_in keys k in
    let f : ℕ × ℕ → ℕ × ℕ = λ e. (get_or keys e.0 0, e.1) in
    let found = get_map_cases f (row (places_in x.links) i) j (p, q) at in
    subst (Contains keys) (ap (λ r. r.0) found.2) (Contains-get_or keys found.0.0 0 (w.places_inside i j found.0 found.1))

-- ---- counts

seen_inside : (seen : List Bool) (i : ℕ) → get_or seen i false ≡ true → i < length seen
seen_inside [] i is = absurd (cc)
seen_inside (b ∷ bs) zero is = omega arith
seen_inside (b ∷ bs) (suc i) is = omega (arith, seen_inside bs i is)

same_counts : (f : ℕ → Bool) (keys : List ℕ) (seen : List Bool) → length seen ≡ length keys → ((i : ℕ) → i < length keys → f (get_or keys i 0) ≡ get_or seen i false)
    → count_by (λ b. b) seen ≡ count_by f keys
same_counts f [] [] long same = refl
same_counts f [] (b ∷ bs) long same = absurd (omega arith)
same_counts f (x ∷ xs) [] long same = absurd (omega arith)
same_counts f (x ∷ xs) (b ∷ bs) long same =
    let first : f x ≡ b = same 0 (omega arith) in
    let rest = same_counts f xs bs (omega arith) (λ i inside. same (suc i) (omega arith)) in
    rw (sum_by-cons (λ (c : Bool). cond c 1 0) b bs, sum_by-cons (λ (y : ℕ). cond (f y) 1 0) x xs) (ap (λ c. cond c 1 0 + count_by (λ b. b) bs) (sym first) ∙ ap (λ n. cond (f x) 1 0 + n) rest)

filter_keeps_case : (p : ℕ → Bool) (x k : ℕ) (xs : List ℕ) (b : Bool) → p x ≡ b → ((x ≡ k → ⊥) → Contains (filter p xs) k) → p k ≡ true → Contains (filter p (x ∷ xs)) k
filter_keeps_case p x k xs true e later passes = rw e (elim (cases_eq x k) [
  | inl same ↦ (0, omega arith, same)
  | inr other ↦ let h = later other in (suc h.0, omega (arith, h.1), h.2)
])
filter_keeps_case p x k xs false e later passes = rw e (later (λ same. absurd (let no : p k ≡ false = ap p (sym same) ∙ e in cc)))

filter_keeps : (p : ℕ → Bool) (xs : List ℕ) (k : ℕ) → Contains xs k → p k ≡ true → Contains (filter p xs) k
filter_keeps p [] k has passes = absurd (omega (arith, has.1))
filter_keeps p (x ∷ xs) k has passes = filter_keeps_case p x k xs (p x) refl (λ other. filter_keeps p xs k (tail_at x k xs has.0 has.1 has.2 other) passes) passes

later_has : (x k : ℕ) (xs : List ℕ) → Contains xs k → Contains (x ∷ xs) k
later_has x k xs has = (suc has.0, omega (arith, has.1), has.2)

filter_gives : (p : ℕ → Bool) (xs : List ℕ) (k : ℕ) → Contains (filter p xs) k → p k ≡ true
filter_gives p [] k has = absurd (omega (arith, has.1))
filter_gives p (x ∷ xs) k has = gives_case p x k xs (p x) refl (filter_gives p xs k) has
  where
    gives_at : (p : ℕ → Bool) (x k : ℕ) (xs : List ℕ) (i : ℕ) → i < length (x ∷ xs) → get_or (x ∷ xs) i k ≡ k → p x ≡ true → (Contains xs k → p k ≡ true) → p k ≡ true
    gives_at p x k xs zero inside is passes later = ap p (sym is) ∙ passes
    gives_at p x k xs (suc i) inside is passes later = later (i, omega arith, is)

    gives_case : (p : ℕ → Bool) (x k : ℕ) (xs : List ℕ) (b : Bool) → p x ≡ b → (Contains (filter p xs) k → p k ≡ true) → Contains (filter p (x ∷ xs)) k → p k ≡ true
    gives_case p x k xs true e later = rw e (λ has. gives_at p x k (filter p xs) has.0 has.1 has.2 e later)
    gives_case p x k xs false e later = rw e later

-- the flags of rows that are ancestors of the sink's are those of the reachable keys
pub flags_of : (keys : List ℕ) (ts : List RawTask) (x : Findings) → IsWhole keys ts x → (seen : List Bool) → length seen ≡ length keys → ((i : ℕ) → IsSeen seen i ↔ Reaches (places_in x.links) x.sink i)
    → AreFlags (graph_of keys ts x) seen
flags_of keys ts x w seen long is = record {
  long = long;
  sound = λ i k number flag. subst (IsReachable (graph_of keys ts x)) (get_or_from_slice_get keys i k 0 number) (key_reached keys ts x w i ((is i).0 (get_or_from_slice_get seen i true false flag)));
  complete = λ i k number reaches.
      let yes : get_or seen (number_in keys k) false ≡ true = (is (number_in keys k)).1 (number_reached keys ts x w k reaches) in
      let same : number_in keys k ≡ i = number_at keys i k w.ascending (slice_get_within keys i k number) (get_or_from_slice_get keys i k 0 number) in
      subst (λ n. slice_get seen n ≡ Some true) same (slice_get-get_or seen (number_in keys k) false (seen_inside seen (number_in keys k) yes) ∙ ap Some yes);
}

-- the set flags are as many as the reachable keys
pub reached_count : (keys : List ℕ) (ts : List RawTask) (x : Findings) → IsWhole keys ts x → (seen : List Bool) → AreFlags (graph_of keys ts x) seen
    → IsReachedCount (graph_of keys ts x) (count_by (λ b. b) seen)
reached_count keys ts x w seen flags =
    let reached : ℕ → Bool = λ k. get_or seen (number_in keys k) false in
    let long : length seen ≡ length keys = flags.long in
    record {
      keys = filter reached keys;
      ascending = IsStrictlyIncreasing-filter reached keys (λ k next. w.ascending.rises k (k + 1) (omega arith) next);
      reached = λ k. (
        (λ has.
            let passes : reached k ≡ true = filter_gives reached keys k has in
            let low : number_in keys k < length seen = seen_inside seen (number_in keys k) passes in
            let inside : number_in keys k < length keys = omega (arith, low, long) in
            flags.sound (number_in keys k) k (slice_get-get_or keys (number_in keys k) 0 inside ∙ ap Some (number_found keys k inside)) (slice_get-get_or seen (number_in keys k) false low ∙ ap Some passes)),
        (λ reaches.
            let stands : Contains keys k = reachable_stands keys ts x w k reaches in
            let inside : number_in keys k < length keys = number_inside keys k stands in
            let flag = flags.complete (number_in keys k) k (slice_get-get_or keys (number_in keys k) 0 inside ∙ ap Some (number_found keys k inside)) reaches in
            filter_keeps reached keys k stands (get_or_from_slice_get seen (number_in keys k) true false flag)),
      );
      count = same_counts reached keys seen long (λ i inside. ap (λ n. get_or seen n false) (number_at keys i (get_or keys i 0) w.ascending inside refl))
          ∙ sym (length-filter reached keys);
    }
