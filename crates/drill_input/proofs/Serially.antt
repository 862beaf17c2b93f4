-- Serial evaluation gives each task of a number its value.
use Rattle.std.proofs.Common.{◌≡◌, ◌∙◌, ℕ, zero, suc, ◌+◌, ◌-◌, ◌^◌, ◌<◌, ◌≤◌, ℤ, pos, List, [], ◌∷◌, ◌++◌, length, get_or, map, take, refl, ap, sym, subst, arith, All}
use Rattle.std.specs.List.{flat_map}
use Rattle.std.proofs.Math.Seq.{take-append_seam}
use Rattle.std.proofs.lemmas.List.{length-append, get_or_append_left, get_or_default, take-map}
use Rattle.formula_text.specs.Formulas.{tree}
use Rattle.formula_text.specs.Trees.{value_of}
use Rattle.graph_model.specs.Graph.{Graph}
use Rattle.graph_model.specs.Serial.{Outcome, inputs_of, value_within, serial}
use Rattle.raw_graph.specs.Graph.{task_of}
use Rattle.raw_graph.specs.declared.raw.RawTask.{RawTask}
use Rattle.audit_checks.specs.Tasks.{key_of, places_of, IsBefore}
use Rattle.audit_checks.proofs.LeastTask.{some_task}
use Rattle.acyclic_audit.specs.Meaning.{below, IsDepth}
use Rattle.drill_input.specs.Values.{IsDrill}
use Rattle.drill_input.proofs.Places.{IsKeyAt, key_row, same_key, LooksBack, places_row}
use Rattle.drill_input.proofs.Accepting.{length_made, row_of}
use Rattle.drill_input.proofs.RowValues.{IsWorth, Serves, row_value, low_key, middle_key, low_worth, middle_worth}

-- the inputs that the graph names are those of the task
inputs_made : (g : Graph) (k : ℕ) (inputs after : List ℕ) → map (λ (e : ℕ × ℕ). e.0) (g.preds k) ≡ inputs ++ after → g.inputs k ≡ length inputs → inputs_of g k ≡ inputs
inputs_made g k inputs after names count =
    sym (take-map (λ (e : ℕ × ℕ). e.0) (g.inputs k) (g.preds k)) ∙ (ap (λ (ps : List ℕ). take (g.inputs k) ps) names ∙ (ap (λ (n : ℕ). take n (inputs ++ after)) count ∙ take-append_seam inputs after))

-- the key at a place is that of the task there
pub key_here : (number : ℕ) (g : Graph) (outcome : Outcome) (drill : IsDrill number g outcome) (q p : ℕ) (d : RawTask) → IsKeyAt q p → q < 8257 → key_of (get_or drill.tasks q d) ≡ p
key_here number g outcome drill q p d at low =
    let inside : q < length drill.tasks = omega (arith, length_made number drill.tasks drill.made) in
    same_key q q (key_of (get_or drill.tasks q d)) p (key_row number q (task_of (get_or drill.tasks q d)) (row_of number drill.tasks drill.made q d inside)) at refl low

-- a predecessor has a lower rank
falls : (number : ℕ) (g : Graph) (outcome : Outcome) (drill : IsDrill number g outcome) (q : ℕ) (d : RawTask) → q < length drill.tasks
    → (j e : ℕ) → j < length (places_of (get_or drill.tasks q d)) → g.rank (get_or (places_of (get_or drill.tasks q d)) j e) < g.rank (key_of (get_or drill.tasks q d))
falls number g outcome drill q d inside j e low =
    let ts = drill.tasks in
    let t = get_or ts q d in
    let p = get_or (places_of t) j e in
    let long : length ts ≡ 8257 = length_made number ts drill.made in
    let back : LooksBack q p = (places_row number q (task_of t) (row_of number ts drill.made q d inside)).back j e low in
    let near : back.place < length ts = omega (arith, back.before) in
    let key : key_of (get_or ts back.place d) ≡ p = key_here number g outcome drill back.place p d back.key (omega (arith, near, long)) in
    let depth : IsDepth ts p (g.rank p) = subst (λ (k : ℕ). IsDepth ts k (g.rank k)) key (drill.graph.ranks back.place d near) in
    let before : IsBefore ts p (key_of t) = record { task = t; stands = (q, inside, get_or_default ts q t d inside); key = refl; names = (j, low, get_or_default (places_of t) j p e low) } in
    omega (arith, (drill.graph.ranks q d inside).longest (suc (g.rank p)) (below (key_of t) p (g.rank p) before depth.chain))

input_falls : (number : ℕ) (g : Graph) (outcome : Outcome) (drill : IsDrill number g outcome) (q : ℕ) (d : RawTask) (n : ℕ) → q < length drill.tasks → g.rank (key_of (get_or drill.tasks q d)) < suc n
    → All (λ p. g.rank p < n) (get_or drill.tasks q d).inputs
input_falls number g outcome drill q d n inside low j e j_in =
    let t = get_or drill.tasks q d in
    let here : get_or (places_of t) j e ≡ get_or t.inputs j e = get_or_append_left t.inputs t.after e j j_in in
    let less : g.rank (get_or (places_of t) j e) < g.rank (key_of t) = falls number g outcome drill q d inside j e (omega (arith, length-append t.inputs t.after)) in
    subst (λ (p : ℕ). g.rank p < n) here (omega arith)

-- one task, where the values of lower ranks are known
served : (number : ℕ) (g : Graph) (outcome : Outcome) (drill : IsDrill number g outcome) (n : ℕ) → number < 2 ^ 32 → Serves g number n (value_within g outcome n)
    → (q v : ℕ) (d : RawTask) → q < length drill.tasks → g.rank (key_of (get_or drill.tasks q d)) < suc n → IsWorth number q v → value_within g outcome (suc n) (key_of (get_or drill.tasks q d)) ≡ pos v ∷ []
served number g outcome drill n small serves q v d inside low worth =
    let t = get_or drill.tasks q d in
    let W = value_within g outcome n in
    let ins : inputs_of g (key_of t) ≡ t.inputs = inputs_made g (key_of t) t.inputs t.after (drill.graph.preds q d inside) (drill.graph.inputs q d inside) in
    drill.computes q d inside (map W (inputs_of g (key_of t)))
    ∙ (ap (λ (ps : List ℕ). value_of (tree t.formula) (flat_map (λ (cells : List ℤ). cells) (map W ps)) ∷ []) ins
    ∙ ap (λ (z : ℤ). z ∷ []) (row_value g number n q v W (task_of t) small serves (row_of number drill.tasks drill.made q d inside) (input_falls number g outcome drill q d n inside low) worth))

within : (number : ℕ) (g : Graph) (outcome : Outcome) (drill : IsDrill number g outcome) → number < 2 ^ 32 → (n : ℕ) → Serves g number n (value_within g outcome n)
within number g outcome drill small zero = record { gives = λ q p v at low rank worth. absurd (omega arith) }
within number g outcome drill small (suc n) = record {
  gives = λ q p v at low rank worth.
      let long : length drill.tasks ≡ 8257 = length_made number drill.tasks drill.made in
      let d : RawTask = some_task drill.tasks (omega arith) in
      let key : key_of (get_or drill.tasks q d) ≡ p = key_here number g outcome drill q p d at low in
      subst (λ (k : ℕ). value_within g outcome (suc n) k ≡ pos v ∷ []) key
      (served number g outcome drill n small (within number g outcome drill small n) q v d (omega arith) (omega (arith, ap g.rank key)) worth);
}

pub serial_task : (number : ℕ) (g : Graph) (outcome : Outcome) (drill : IsDrill number g outcome) → number < 2 ^ 32 → (q p v : ℕ) → IsKeyAt q p → q < 8257 → IsWorth number q v → serial g outcome p ≡ pos v ∷ []
serial_task number g outcome drill small q p v at low worth = (within number g outcome drill small (suc (g.rank p))).gives q p v at low (omega arith) worth

pub serial_sink : (number : ℕ) (g : Graph) (outcome : Outcome) (drill : IsDrill number g outcome) → number < 2 ^ 32 → serial g outcome g.sink ≡ pos (number + 8256) ∷ []
serial_sink number g outcome drill small =
    ap (serial g outcome) drill.graph.sink_is
    ∙ serial_task number g outcome drill small 8256 20000 (number + 8256) (record { low = λ h. omega arith; middle = λ h l. omega arith; top = λ h. refl }) (omega arith)
    (record { low = λ h. omega arith; middle = λ h l. omega arith; top = λ h. refl })

pub serial_numbered : (number : ℕ) (g : Graph) (outcome : Outcome) (drill : IsDrill number g outcome) → number < 2 ^ 32 → (k : ℕ) → 1 ≤ k → k ≤ 8192 → serial g outcome k ≡ pos (number + k) ∷ []
serial_numbered number g outcome drill small k some low =
    serial_task number g outcome drill small (k - 1) k (number + k) (low_key (k - 1) k (omega arith) (omega arith)) (omega arith) (low_worth number (k - 1) (number + k) (omega arith) (omega arith))

pub serial_version : (number : ℕ) (g : Graph) (outcome : Outcome) (drill : IsDrill number g outcome) → number < 2 ^ 32 → (i : ℕ) → 1 ≤ i → i ≤ 64 → serial g outcome (10000 + i) ≡ pos i ∷ []
serial_version number g outcome drill small i some few =
    serial_task number g outcome drill small (8191 + i) (10000 + i) i (middle_key (8191 + i) (10000 + i) (omega arith) (omega arith) (omega arith)) (omega arith) (middle_worth number (8191 + i) i (omega arith) (omega arith) (omega arith))
