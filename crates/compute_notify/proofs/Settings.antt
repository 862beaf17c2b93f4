-- The setting of a run that is handed a lawful graph, its kernel's outcome, a plan and a greatest life.
use Rattle.std.proofs.Common.{◌≡◌, ℕ, ℤ, ◌+◌, ◌/◌, ◌<◌, ◌≤◌, ⊎_elim, Bool, true, false, cond, eqb, List, length, map, max, arith, ap, sym, refl, ◌∙◌, subst}
use Rattle.graph_model.specs.Graph.{Graph as TaskGraph, IsLawful, IsTask}
use Rattle.graph_model.specs.Plans.{HasTaskKeys}
use Rattle.graph_model.specs.Serial.{Outcome, inputs_of, serial}
use Rattle.graph_model.specs.declared.plan.Strike.{Strike}
use Rattle.graph_model.proofs.Members.{is_member}
use Rattle.core_state.specs.Asked.{IsCoreKey, IsGraphOf}
use Rattle.core_state.specs.Graph.{Graph}
use Rattle.core_state.specs.Rooted.{graph_of, root_key, setting_of}
use Rattle.core_state.specs.Shapes.{edges_of, words_of}
use Rattle.core_state.proofs.Start.Asked.{graph_matches}
use Rattle.recovery.proofs.Settings.{serves_its_setting}
use Rattle.compute_notify.specs.Running.{Makes, Runs}

-- each task's value has as many cells as its block
abbrev pub HasSizes : TaskGraph → Outcome → Type 0
HasSizes g outcome = (k : ℕ) → IsTask g k → length (serial g outcome k) ≡ g.cells (g.block k)

module _ (g : TaskGraph) (outcome : Outcome) (laws : IsLawful g) where
  abbrev r : Graph
  r = graph_of g outcome

  is : IsGraphOf g outcome (graph_of g outcome)
  is = graph_matches g outcome laws

  -- what holds of the root and of each task
  each : (P : ℕ → Type 0) → P root_key → ((k : ℕ) → IsTask g k → P k) → (k : ℕ) → IsCoreKey g k → P k
  each P root task k key = ⊎_elim (λ at. subst P (sym at) root) (λ has. task k has) key

  from_one : (k : ℕ) → IsCoreKey g k → 0 < r.version k
  from_one = each (λ k. 0 < r.version k) (let a = is.at_root.version in omega (arith, a)) (λ k task. let a = (is.at_task k task).version in let b = (laws.version_inside k task).0 in omega (arith, a, b))

  written_by : (k : ℕ) → IsCoreKey g k → r.writer (r.block k) (r.version k) ≡ k
  written_by = each (λ k. r.writer (r.block k) (r.version k) ≡ k)
      (ap (λ b. r.writer b (r.version root_key)) is.at_root.block ∙ is.at_root.writer (r.version root_key))
      (λ k task. ap (λ b. r.writer b (r.version k)) (is.at_task k task).block ∙ ap (r.writer (g.block k)) (is.at_task k task).version ∙ is.writer (g.block k) (g.version k) (laws.block_inside k task) ∙ laws.one_writer k task)

  value_fits : HasSizes g outcome → (k : ℕ) → IsCoreKey g k → length (r.value k) ≡ r.cells (r.block k)
  value_fits sizes = each (λ k. length (r.value k) ≡ r.cells (r.block k))
      (ap length is.at_root.value ∙ sizes g.sink (is_member g.keys g.sink laws.sink) ∙ sym (ap r.cells is.at_root.block ∙ is.root_cells))
      (λ k task. ap length (is.at_task k task).value ∙ sizes k task ∙ sym (ap r.cells (is.at_task k task).block ∙ is.cells (g.block k) (laws.block_inside k task)))

  few_words : (k : ℕ) → IsCoreKey g k → r.notify_words k ≤ 17
  few_words = each (λ k. r.notify_words k ≤ 17) (let a = is.at_root.notify_words in omega (arith, a)) (λ k task. let a = (is.at_task k task).notify_words in let b = words_few k task in omega (arith, a, b))
    where
      words_few : (k : ℕ) → IsTask g k → words_of g k ≤ 17
      words_few k task = bound (edges_of g k) (by (eqb k g.sink))
        where
          bound : (x : ℕ) → x ≤ 641 → max 1 ((x + 39) / 40) ≤ 17
          bound x low = omega (arith, low)

          by : (b : Bool) → cond b (length (g.succs k) + 1) (length (g.succs k)) ≤ 641
          by true = let a = laws.few_ports k task in omega (arith, a)
          by false = let a = laws.few_ports k task in omega (arith, a)

  -- The seat serves these tasks.
  pub runs_its_setting : (strikes : List Strike) (lives : ℕ) → HasTaskKeys strikes → length strikes ≤ 4096 → 0 < lives → lives ≤ 65535 → HasSizes g outcome → Runs g strikes lives (setting_of g outcome strikes lives)
  runs_its_setting strikes lives keys few some most sizes = record {
    serves = serves_its_setting g outcome strikes lives laws;
    laws = laws;
    plan_is = refl;
    few_strikes = few;
    task_strikes = keys;
    lives_are = refl;
    some_life = (some, most);
    some_row = omega arith;
    few_rows = let a = laws.few_tasks in omega (arith, a);
    blocks_are = refl;
    few_words = few_words;
    from_one = from_one;
    written_by = written_by;
    value_fits = value_fits sizes;
  }

  -- The kernel makes its values.
  pub makes_its_setting : (fits : ℕ → List (List ℤ) → Type 0) (strikes : List Strike) (lives : ℕ) → ((k : ℕ) → IsTask g k → fits k (map (serial g outcome) (inputs_of g k))) → Makes g outcome fits (setting_of g outcome strikes lives)
  makes_its_setting fits strikes lives can = record { graph_is = is; can = can }
