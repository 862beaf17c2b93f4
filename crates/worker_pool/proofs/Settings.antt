-- The setting of a run meets all that its table and its turns ask.
use Rattle.std.proofs.Common.{◌≡◌, ◌∙◌, ℕ, ℤ, zero, suc, ◌+◌, ◌/◌, ◌<◌, ◌≤◌, max, cond, eqb, Bool, true, false, List, ◌∷◌, length, map, slice_index_or, Contains, ⊎_elim, inl, inr, ap, subst, sym, refl, arith}
use Rattle.graph_model.specs.Graph.{Graph as TaskGraph, IsLawful, IsTask}
use Rattle.graph_model.specs.Plans.{HasTaskKeys}
use Rattle.graph_model.specs.Serial.{Outcome, serial, inputs_of}
use Rattle.graph_model.specs.declared.plan.Strike.{Strike}
use Rattle.core_state.specs.Asked.{IsCoreKey, IsGraphOf}
use Rattle.core_state.specs.Rooted.{graph_of, root_key, setting_of}
use Rattle.core_state.specs.Shapes.{edges_of}
use Rattle.core_state.proofs.Start.Asked.{graph_matches}
use Rattle.core_state.proofs.Start.Setting.{apart, root_matches, sound, task_matches}
use Rattle.core_state.proofs.Start.Root.{cells_root, cells_task, writer_task}
use Rattle.core_state.proofs.Start.Widest.{sink_task}
use Rattle.recovery.proofs.Settings.{serves_its_setting}
use Rattle.compute_notify.specs.Running.{Runs}
use Rattle.worker_pool.specs.Calling.{AreAlike, CanRun, FirstFits, first_outcome}
use Rattle.worker_pool.specs.Pooling.{IsRun, KernelsMake}
use Rattle.core_state.proofs.Start.Laws.{reached_from}

-- the keys of a run's table are the root's and those of tasks
pub names_tasks : (g : TaskGraph) (outcome : Outcome) (strikes : List Strike) (lives k : ℕ) → Contains (root_key ∷ g.keys) k → IsCoreKey g k
names_tasks g outcome strikes lives k (zero, low, is) = inl (sym is)
names_tasks g outcome strikes lives k (suc i, low, is) = inr (i, omega (arith, low), is)

-- at most 640 ports and the root's fill at most 17 words
few_edges : (edges : ℕ) → edges ≤ 641 → max 1 ((edges + 39) / 40) ≤ 17
few_edges edges few = omega (arith, few)

module _ (g : TaskGraph) (outcome : Outcome) (laws : IsLawful g) where
  -- a task has at most one edge more than ports
  edges_few : (k : ℕ) → IsTask g k → edges_of g k ≤ 641
  edges_few k has = by (eqb k g.sink) (laws.few_ports k has)
    where
      by : (b : Bool) → length (g.succs k) ≤ 640 → cond b (length (g.succs k) + 1) (length (g.succs k)) ≤ 641
      by true few = omega (arith, few)
      by false few = omega (arith, few)

  few_words : (k : ℕ) → IsCoreKey g k → (graph_of g outcome).notify_words k ≤ 17
  few_words k key = ⊎_elim
      (λ is. let e : (graph_of g outcome).notify_words k ≡ 1 = ap (graph_of g outcome).notify_words is ∙ (root_matches g outcome laws).notify_words in omega (arith, e))
      (λ has. let e = (task_matches g outcome laws k has).notify_words in let few = few_edges (edges_of g k) (edges_few k has) in omega (arith, e, few)) key

  from_one : (k : ℕ) → IsCoreKey g k → 0 < (graph_of g outcome).version k
  from_one k key = ⊎_elim
      (λ is. let e : (graph_of g outcome).version k ≡ 1 = ap (graph_of g outcome).version is ∙ (root_matches g outcome laws).version in omega (arith, e))
      (λ has. let e = (task_matches g outcome laws k has).version in let some = (laws.version_inside k has).0 in omega (arith, e, some)) key

  written_by : (k : ℕ) → IsCoreKey g k → (graph_of g outcome).writer ((graph_of g outcome).block k) ((graph_of g outcome).version k) ≡ k
  written_by k key = ⊎_elim
      (λ is. let root = root_matches g outcome laws in
      ap (λ b. (graph_of g outcome).writer b ((graph_of g outcome).version k)) (ap (graph_of g outcome).block is ∙ root.block) ∙ root.writer ((graph_of g outcome).version k) ∙ sym is)
      (λ has. let task = task_matches g outcome laws k has in
      ap (λ b. (graph_of g outcome).writer b ((graph_of g outcome).version k)) task.block ∙ writer_task root_key g outcome (g.block k) ((graph_of g outcome).version k) (laws.block_inside k has) ∙ ap (g.writer (g.block k)) task.version ∙ laws.one_writer k has) key

  value_fits : ((k : ℕ) → IsTask g k → length (serial g outcome k) ≡ g.cells (g.block k)) → (k : ℕ) → IsCoreKey g k → length ((graph_of g outcome).value k) ≡ (graph_of g outcome).cells ((graph_of g outcome).block k)
  value_fits sizes k key = ⊎_elim
      (λ is. let root = root_matches g outcome laws in
      ap length (ap (graph_of g outcome).value is ∙ root.value) ∙ sizes g.sink (sink_task g g.sink refl laws) ∙ sym (cells_root root_key g outcome ((graph_of g outcome).block k) (ap (graph_of g outcome).block is ∙ root.block)))
      (λ has. let task = task_matches g outcome laws k has in let low = laws.block_inside k has in
      ap length task.value ∙ sizes k has ∙ ap g.cells (sym task.block) ∙ sym (cells_task root_key g outcome ((graph_of g outcome).block k) (λ is. let b = task.block in omega (arith, b, low, is)))) key

  module _ (strikes : List Strike) (lives : ℕ) (few : length strikes ≤ 4096) (keys : HasTaskKeys strikes) (some : (1 ≤ lives) × (lives ≤ 65535)) where
    -- each turn of a run can be made in its setting
    pub runs : ((k : ℕ) → IsTask g k → length (serial g outcome k) ≡ g.cells (g.block k)) → Runs g strikes lives (setting_of g outcome strikes lives)
    runs sizes = record {
      serves = serves_its_setting g outcome strikes lives laws;
      laws = laws;
      plan_is = refl;
      few_strikes = few;
      task_strikes = keys;
      lives_are = refl;
      some_life = some;
      some_row = omega arith;
      few_rows = (let a = laws.few_tasks in omega (arith, a));
      blocks_are = refl;
      few_words = few_words;
      from_one = from_one;
      written_by = written_by;
      value_fits = value_fits sizes;
    }

    -- the setting is that of a run, and sound where each value fits its block
    pub is_run : ((k : ℕ) → IsTask g k → length (serial g outcome k) ≡ g.cells (g.block k)) → IsRun g (setting_of g outcome strikes lives)
    is_run sizes = record {
      outcome = outcome;
      strikes = strikes;
      lives = lives;
      setting_is = refl;
      laws = laws;
      sound = sound g outcome laws strikes lives keys some.0 some.1 (λ k needed. sizes k (reached_from root_key g outcome laws (apart g outcome laws) k needed).1);
    }

-- each kernel of a run makes the values of its setting
pub kernels_make : {K : Type 0} (outcome : K → Outcome) (fits : K → ℕ → List (List ℤ) → Type 0) (ks : List K) (g : TaskGraph) (strikes : List Strike) (lives : ℕ) → IsLawful g → AreAlike outcome fits ks → CanRun g (first_outcome outcome ks) (FirstFits fits ks) → KernelsMake g (setting_of g (first_outcome outcome ks) strikes lives) outcome fits ks
kernels_make outcome fits ks g strikes lives laws alike can = λ i d low. let a = slice_index_or ks i d in let same = alike.same_outcome i d low in record {
  graph_is = subst (λ o. IsGraphOf g o (graph_of g (first_outcome outcome ks))) (sym same) (graph_matches g (first_outcome outcome ks) laws);
  can = λ k has. subst (λ o. fits a k (map (serial g o) (inputs_of g k))) (sym same) ((alike.same_fits i d low k (map (serial g (first_outcome outcome ks)) (inputs_of g k))).1 (can.inputs k has));
}
