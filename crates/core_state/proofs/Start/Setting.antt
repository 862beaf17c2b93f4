-- The setting of a run is sound, its shape is that of the graph's layout, and its meanings are those of the graph that was handed in.
use Rattle.std.proofs.Common.{◌≡◌, ◌≢◌, ◌⊎◌, ◌∙◌, ℕ, zero, suc, ◌+◌, ◌^◌, ◌<◌, ◌≤◌, List, [], ◌∷◌, length, Contains, slice_index_or, ⊎_elim, sym, ap, subst, refl, arith}
use Rattle.std.proofs.lemmas.List.{get_or_default}
use Rattle.std.proofs.lemmas.List.Elements.{All-get_or}
use Rattle.graph_model.specs.Graph.{Graph as TaskGraph, IsTask, IsLawful}
use Rattle.graph_model.specs.Plans.{HasTaskKeys}
use Rattle.graph_model.specs.Reaching.{IsReachable}
use Rattle.graph_model.specs.Reaching.IsReachable.{at_sink}
use Rattle.graph_model.specs.Serial.{Outcome, serial}
use Rattle.graph_model.specs.declared.plan.Strike.{Strike}
use Rattle.core_state.specs.Graph.{Reached, Lawful, Sound}
use Rattle.core_state.specs.Words.{Shape}
use Rattle.core_state.specs.Shapes.{IsWidest, IsLayoutOf, words_of, edges_of}
use Rattle.core_state.specs.Rooted.{root_key, graph_of, widest, shape_for, no_strike, setting_of, IsTaskIn, IsRootIn}
use Rattle.core_state.specs.declared.layout.Layout.{Layout}
use Rattle.core_state.proofs.Start.Widest.{sink_task}
use Rattle.core_state.proofs.Start.Root.{which, by_root, by_task, by_none, pred_root, pred_task, succ_root, succ_task, writer_root, value_root, value_task, cells_root, cells_task}
use Rattle.core_state.proofs.Start.Laws.{lawful, reached_cases, reached_from, ports_of, sink_ports, block_of, version_of, root_block_is, root_version}

-- ---- the shape

widest_some : (g : TaskGraph) (ks : List ℕ) → 1 ≤ widest g ks
widest_some g [] = omega arith
widest_some g (k ∷ ks) = let a = widest_some g ks in omega (arith, a)

widest_enough : (g : TaskGraph) (ks : List ℕ) (i d : ℕ) → i < length ks → words_of g (slice_index_or ks i d) ≤ widest g ks
widest_enough g [] i d low = absurd (omega (arith, low))
widest_enough g (k ∷ ks) zero d low = omega arith
widest_enough g (k ∷ ks) (suc i) d low = let a = widest_enough g ks i d (omega (arith, low)) in omega (arith, a)

widest_least : (g : TaskGraph) (ks : List ℕ) (m : ℕ) → 1 ≤ m → ((i : ℕ) → i < length ks → words_of g (slice_index_or ks i 0) ≤ m) → widest g ks ≤ m
widest_least g [] m some all = some
widest_least g (k ∷ ks) m some all = let a = all 0 (omega arith) in let b = widest_least g ks m some (λ i low. all (suc i) (omega (arith, low))) in omega (arith, a, b)

-- the widest of all tasks is what a layout has
widest_is : (g : TaskGraph) → IsWidest g (widest g g.keys)
widest_is g = record {
  some_word = widest_some g g.keys;
  enough = λ k has. subst (λ x. words_of g x ≤ widest g g.keys) has.2 (widest_enough g g.keys has.0 k has.1);
  least = λ m some all. widest_least g g.keys m some (λ i low. all (slice_index_or g.keys i 0) (i, low, get_or_default g.keys i (slice_index_or g.keys i 0) 0 low));
}

-- the layout of a graph has the shape that its setting has
pub shape_fits : (g : TaskGraph) (x : Layout) → IsLayoutOf g x → shape_for g ≡ record { rows = x.rows; notify_words = x.words_per_row; blocks = length x.cells.items }
shape_fits g x is =
    let wide : widest g g.keys ≡ x.words_per_row = (let w = widest_is g in let a = w.least x.words_per_row is.widest.some_word is.widest.enough in let b = is.widest.least (widest g g.keys) w.some_word w.enough in omega (arith, a, b)) in
    ap (λ (n : ℕ). the (record { rows = n; notify_words = widest g g.keys; blocks = g.block_count + 1 })) (sym is.rows)
    ∙ ap (λ (n : ℕ). the (record { rows = x.rows; notify_words = n; blocks = g.block_count + 1 })) wide
    ∙ ap (λ (n : ℕ). the (record { rows = x.rows; notify_words = x.words_per_row; blocks = n })) (sym is.blocks)
  where
    the : Shape → Shape
    the h = h

-- ---- the graph

module _ (g : TaskGraph) (outcome : Outcome) (laws : IsLawful g) where
  -- the root's key is above all tasks
  pub apart : (k : ℕ) → IsTask g k → k ≢ root_key
  apart k has is = let a = laws.small_keys k has in omega (arith, a, is)

  pub lawful_graph : Lawful (graph_of g outcome)
  lawful_graph = lawful root_key g outcome laws apart

  -- the root depends on itself and on exactly the tasks that the sink needs
  pub needed_of : (k : ℕ) → Reached (graph_of g outcome) k → (k ≡ root_key) ⊎ (IsTask g k × IsReachable g k)
  needed_of k reached = reached_cases root_key g outcome laws apart k reached

  pub reached_of : (k : ℕ) → IsReachable g k → Reached (graph_of g outcome) k
  reached_of k needed = (reached_from root_key g outcome laws apart k needed).0

  -- what the calls of the task graph answer for a task holds of the core's graph
  pub task_matches : (k : ℕ) → IsTask g k → IsTaskIn g outcome (graph_of g outcome) k
  task_matches k has = let ne = apart k has in record {
    places = by_task root_key g k 1 (length (g.preds k)) 0 ne has;
    inputs = by_task root_key g k 1 (g.inputs k) 0 ne has;
    pred = λ j p q at. pred_task root_key g outcome k j p q ne at;
    ports = by_task root_key g k 0 (edges_of g k) 0 ne has;
    succ = λ q m j at. succ_task root_key g outcome k q m j at;
    notify_words = by_task root_key g k 1 (words_of g k) 1 ne has;
    block = block_of root_key g outcome laws apart k has;
    version = version_of root_key g outcome laws apart k has;
    value = value_task root_key g outcome k ne;
  }

  pub root_matches : IsRootIn g outcome (graph_of g outcome)
  root_matches = record {
    places = by_root root_key g root_key 1 (length (g.preds root_key)) 0 refl;
    inputs = by_root root_key g root_key 1 (g.inputs root_key) 0 refl;
    pred = pred_root root_key g outcome root_key 0 refl;
    sink_ports = ports_of root_key g outcome laws apart g.sink (sink_task g g.sink refl laws) ∙ sink_ports root_key g outcome laws apart;
    succ = succ_root root_key g outcome g.sink (length (g.succs g.sink)) refl;
    ports = by_root root_key g root_key 0 (edges_of g root_key) 0 refl;
    notify_words = by_root root_key g root_key 1 (words_of g root_key) 1 refl;
    block = root_block_is root_key g outcome laws apart root_key refl;
    version = root_version root_key g outcome laws apart root_key refl;
    writer = λ v. writer_root root_key g outcome g.block_count v refl;
    value = value_root root_key g outcome root_key refl;
  }

  -- the words of each key fit the widest row
  words_fit : (k : ℕ) → (graph_of g outcome).notify_words k ≤ widest g g.keys
  words_fit k = let some = widest_some g g.keys in ⊎_elim
      (λ is. let e = by_root root_key g k 1 (words_of g k) 1 is in omega (arith, e, some))
      (⊎_elim (λ t. let e = by_task root_key g k 1 (words_of g k) 1 t.0 t.1 in let a = (widest_is g).enough k t.1 in omega (arith, e, a))
      (λ n. let e = by_none root_key g k 1 (words_of g k) 1 n.0 n.1 in omega (arith, e, some)))
      (which root_key g k)

  blocks_fit : (k : ℕ) → Reached (graph_of g outcome) k → (graph_of g outcome).block k < g.block_count + 1
  blocks_fit k reached = ⊎_elim
      (λ is. let e = root_block_is root_key g outcome laws apart k is in omega (arith, e))
      (λ t. let e = block_of root_key g outcome laws apart k t.0 in let a = laws.block_inside k t.0 in omega (arith, e, a))
      (needed_of k reached)

  listed : (k : ℕ) → Reached (graph_of g outcome) k → Contains (root_key ∷ g.keys) k
  listed k reached = ⊎_elim (λ is. (0, omega arith, sym is)) (λ t. let has = t.0 in (suc has.0, (let low = has.1 in omega (arith, low)), has.2)) (needed_of k reached)

  small_keys : (k : ℕ) → Reached (graph_of g outcome) k → k ≤ 2 ^ 63
  small_keys k reached = ⊎_elim (λ is. omega (arith, is)) (λ t. let a = laws.small_keys k t.0 in omega (arith, a)) (needed_of k reached)

  -- where the value of each needed task fits its block, so does that of the root
  value_fits : ((k : ℕ) → IsReachable g k → length (serial g outcome k) ≡ g.cells (g.block k)) → (k : ℕ) → Reached (graph_of g outcome) k → length ((graph_of g outcome).value k) ≡ (graph_of g outcome).cells ((graph_of g outcome).block k)
  value_fits sizes k reached = ⊎_elim
      (λ is. ap length (value_root root_key g outcome k is) ∙ sizes g.sink at_sink ∙ sym (cells_root root_key g outcome ((graph_of g outcome).block k) (root_block_is root_key g outcome laws apart k is)))
      (λ t. let b = block_of root_key g outcome laws apart k t.0 in let low = laws.block_inside k t.0 in
      ap length (value_task root_key g outcome k (apart k t.0)) ∙ sizes k t.1 ∙ ap g.cells (sym b) ∙ sym (cells_task root_key g outcome ((graph_of g outcome).block k) (λ is. omega (arith, b, low, is))))
      (needed_of k reached)

  -- a setting of a run is sound, where the value of each needed task fits its block
  pub sound : (strikes : List Strike) (lives : ℕ) → HasTaskKeys strikes → 1 ≤ lives → lives ≤ 65535 → ((k : ℕ) → IsReachable g k → length (serial g outcome k) ≡ g.cells (g.block k)) → Sound (setting_of g outcome strikes lives)
  sound strikes lives keys some most sizes = record {
    lawful = lawful_graph;
    words_fit = words_fit;
    blocks_fit = blocks_fit;
    some_row = omega arith;
    some_life = (some, most);
    root_free = λ n low is. let a = All-get_or (λ (s : Strike). s.key.0 < 2 ^ 63) strikes n no_strike low keys in omega (arith, a, is);
    small = (let a = laws.few_tasks in omega (arith, a), let b = laws.few_blocks in omega (arith, b));
    few_keys = omega arith;
    listed = listed;
    small_keys = small_keys;
    value_fits = value_fits sizes;
  }
