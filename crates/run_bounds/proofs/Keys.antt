-- The keys of a run: the tasks and the root, each once, with all places that there are.
use Rattle.std.proofs.Common.{◌≡◌, ◌≢◌, ℕ, suc, ◌+◌, ◌<◌, ◌≤◌, eqb, List, [], ◌∷◌, length, Contains, slice_index_or, ⊎_elim, arith, refl, ap, sym, subst}
use Rattle.std.specs.List.{AllByRecursion, AllPairs, sum_by}
use Rattle.std.proofs.lemmas.Bool.Decides.{eqb_tells}
use Rattle.std.proofs.lemmas.List.{get_or_default}
use Rattle.std.proofs.lemmas.List.Elements.{recursion_from_All}
use Rattle.std.proofs.lemmas.List.Kept.{AllPairs-from_increasing}
use Rattle.std.proofs.lemmas.List.Sums.{sum_by-cons}
use Rattle.graph_model.specs.Graph.{Graph as TaskGraph, IsLawful}
use Rattle.core_state.specs.Counts.{count, hit}
use Rattle.core_state.specs.Graph.{Graph, Setting}
use Rattle.core_state.specs.Rooted.{graph_of, root_key}
use Rattle.core_state.proofs.Base.Counting.{bump_is, not_here}
use Rattle.core_state.proofs.Start.Root.{place_of_key}
use Rattle.core_state.proofs.Start.Setting.{root_matches, task_matches}
use Rattle.run_bounds.specs.Budgets.{IsRunOf, all_places}

-- numbers that ascend stand once
none_above : (m x : ℕ) (xs : List ℕ) → ((j : ℕ) (d : ℕ) → j < length xs → x < slice_index_or xs j d) → m ≤ x → count (eqb m) xs ≡ 0
none_above m x [] above low = refl
none_above m x (y ∷ xs) above low = let a = bump_is (eqb m y) (count (eqb m) xs) in let b = above 0 0 (omega arith) in let c = none_above m x xs (λ j d inside. above (suc j) d (omega (arith, inside))) low in
    let d = not_here m y (λ same. omega (arith, same, low, b)) in omega (arith, a, c, d)

ascending_once : (xs : List ℕ) → AllPairs (λ x y. x < y) xs → (m : ℕ) → count (eqb m) xs ≤ 1
ascending_once [] up m = omega arith
ascending_once (x ∷ xs) up m = let a = bump_is (eqb m x) (count (eqb m) xs) in
    ⊎_elim (λ here. let same = here.1 in let b = none_above m x xs (λ j d inside. up 0 (suc j) d (omega arith) (omega (arith, inside))) (omega (arith, same)) in let c = ap hit here.0 in omega (arith, a, b, c))
    (λ other. let b = ascending_once xs (λ i j d less inside. up (suc i) (suc j) d (omega (arith, less)) (omega (arith, inside))) m in let c = ap hit other.0 in omega (arith, a, b, c)) (eqb_tells m x)

-- what holds of each number of a list
each_in : (P : ℕ → Type 0) (xs : List ℕ) → ((k : ℕ) → Contains xs k → P k) → AllByRecursion P xs
each_in P xs all = recursion_from_All P xs (λ i d low. all (slice_index_or xs i d) (i, low, get_or_default xs i (slice_index_or xs i d) d low))

same_sums : (f h : ℕ → ℕ) (xs : List ℕ) → AllByRecursion (λ k. f k ≡ h k) xs → sum_by f xs ≡ sum_by h xs
same_sums f h [] all = refl
same_sums f h (x ∷ xs) all = let a = sum_by-cons f x xs in let b = sum_by-cons h x xs in let c = same_sums f h xs all.1 in let d = all.0 in omega (arith, a, b, c, d)

none_such : (m : ℕ) (xs : List ℕ) → AllByRecursion (λ k. m ≢ k) xs → count (eqb m) xs ≡ 0
none_such m [] all = refl
none_such m (x ∷ xs) all = let a = bump_is (eqb m x) (count (eqb m) xs) in let b = none_such m xs all.1 in let c = not_here m x all.0 in omega (arith, a, b, c)

module _ (g : TaskGraph) (e : Setting) (run : IsRunOf g e) where
  keys_are : e.keys ≡ root_key ∷ g.keys
  keys_are = ap (λ (s : Setting). s.keys) run.setting_is

  pub rows_are : e.shape.rows ≡ length g.keys + 1
  rows_are = ap (λ (s : Setting). s.shape.rows) run.setting_is

  pub keys_many : length e.keys ≡ length g.keys + 1
  keys_many = let a = ap length keys_are in let b : length (root_key ∷ g.keys) ≡ length g.keys + 1 = omega arith in omega (arith, a, b)

  graph_is : e.graph ≡ graph_of g run.outcome
  graph_is = ap (λ (s : Setting). s.graph) run.setting_is

  laws : IsLawful g
  laws = run.laws

  pub keys_once : (k : ℕ) → count (eqb k) e.keys ≤ 1
  keys_once k = subst (λ ks. count (eqb k) ks ≤ 1) (sym keys_are)
      (let a = bump_is (eqb k root_key) (count (eqb k) g.keys) in let b = ascending_once g.keys (AllPairs-from_increasing g.keys laws.ascending) k in
      ⊎_elim (λ here. let c = none_such root_key g.keys (each_in (λ m. root_key ≢ m) g.keys (λ m task same. let low = laws.small_keys m task in omega (arith, low, same))) in let d = ap (λ m. count (eqb m) g.keys) here.1 in let f = ap hit here.0 in omega (arith, a, c, d, f))
      (λ other. let f = ap hit other.0 in omega (arith, a, b, f)) (eqb_tells k root_key))

  pub key_of_place : (k j : ℕ) → j < e.graph.places k → Contains e.keys k
  key_of_place k j low = subst (λ ks. Contains ks k) (sym keys_are)
      (⊎_elim (λ root. (0, omega arith, sym root.0)) (λ task. let has = task.0.1 in (suc has.0, (let inside = has.1 in omega (arith, inside)), has.2))
      (place_of_key root_key g run.outcome k j (subst (λ (r : Graph). j < r.places k) graph_is low)))

  pub places_are : sum_by e.graph.places e.keys ≡ all_places g + 1
  places_are = let a = ap (λ (r : Graph). sum_by r.places e.keys) graph_is in let b = ap (sum_by (graph_of g run.outcome).places) keys_are in
      let c = sum_by-cons (graph_of g run.outcome).places root_key g.keys in let d = (root_matches g run.outcome laws).places in
      let f = same_sums (graph_of g run.outcome).places (λ k. length (g.preds k)) g.keys (each_in (λ k. (graph_of g run.outcome).places k ≡ length (g.preds k)) g.keys (λ k task. (task_matches g run.outcome laws k task).places)) in omega (arith, a, b, c, d, f)
