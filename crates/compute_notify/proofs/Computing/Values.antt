-- The values that a task reads: how many they are, their cells together, and what the kernel makes of them.
use Rattle.std.proofs.Common.{◌≡◌, ℕ, zero, suc, ℤ, ◌+◌, ◌-◌, ◌<◌, ◌≤◌, List, [], ◌∷◌, ◌++◌, Some, length, length-append, map, take, slice_get, arith, ap, sym, refl, ◌∙◌, add-one}
use Rattle.std.proofs.lemmas.List.{map-append}
use Rattle.graph_model.specs.Gathered.{cells_in}
use Rattle.graph_model.specs.Graph.{Graph as TaskGraph, IsLawful, IsPred, IsTask}
use Rattle.graph_model.specs.Serial.{Outcome, inputs_of, serial}
use Rattle.graph_model.proofs.Members.{pred_there}
use Rattle.graph_model.proofs.Serials.{serial_step}
use Rattle.core_state.specs.Asked.{IsGraphOf}
use Rattle.core_state.specs.Graph.{Edge, Graph}
use Rattle.compute_notify.specs.Rooms.{cells_before, input_values}

cells_more : (xs : List (List ℤ)) (y : List ℤ) → cells_in (xs ++ y ∷ []) ≡ cells_in xs + length y
cells_more [] y = omega arith
cells_more (x ∷ xs) y = let a = cells_more xs y in omega (arith, a)

module _ (r : Graph) (k : ℕ) where
  -- one value more
  pub values_more : (n : ℕ) → input_values r k (n + 1) ≡ input_values r k n ++ r.value (r.pred k n).task ∷ []
  values_more n = ap (input_values r k) (add-one n)

  pub values_count : (n : ℕ) → length (input_values r k n) ≡ n
  values_count zero = refl
  values_count (suc n) = let a = values_count n in let b = length-append (input_values r k n) (r.value (r.pred k n).task ∷ []) in omega (arith, a, b)

  -- their cells, where each has as many as its block
  pub values_cells : (n : ℕ) → ((j : ℕ) → j < n → length (r.value (r.pred k j).task) ≡ r.cells (r.block (r.pred k j).task)) → cells_in (input_values r k n) ≡ cells_before r k n
  values_cells zero fits = refl
  values_cells (suc n) fits =
      let rest = values_cells n (λ j low. fits j (omega (arith, low))) in
      let here = fits n (omega arith) in
      let more = cells_more (input_values r k n) (r.value (r.pred k n).task) in
      omega (arith, rest, here, more)

  pub before_more : (n : ℕ) → cells_before r k (n + 1) ≡ cells_before r k n + r.cells (r.block (r.pred k n).task)
  before_more n = ap (cells_before r k) (add-one n)

  -- the first of them have no more cells than all
  pub before_grows : (n d : ℕ) → cells_before r k n ≤ cells_before r k (n + d)
  before_grows n zero = let a : n ≡ n + 0 = omega arith in let b = ap (cells_before r k) a in omega (arith, b)
  before_grows n (suc d) = let a = before_grows n d in let b : n + suc d ≡ suc (n + d) = omega arith in let c = ap (cells_before r k) b in omega (arith, a, c)

  pub before_within : (n m : ℕ) → n ≤ m → cells_before r k n ≤ cells_before r k m
  before_within n m low = let a = before_grows n (m - n) in let b : n + (m - n) ≡ m = omega (arith, low) in let c = ap (cells_before r k) b in omega (arith, a, c)

-- one element more of a list
take_one : {X : Type 0} (xs : List X) (n : ℕ) (x : X) → slice_get xs n ≡ Some x → take (suc n) xs ≡ take n xs ++ x ∷ []
take_one [] n x at = absurd cc
take_one (y ∷ xs) zero x at = let same : y ≡ x = cc in ap (λ z. z ∷ []) same
take_one (y ∷ xs) (suc n) x at = ap (λ ys. y ∷ ys) (take_one xs n x at)

pub found_at : {X : Type 0} (xs : List X) (n : ℕ) → n < length xs → (x : X) × (slice_get xs n ≡ Some x)
found_at [] n low = absurd (omega (arith, low))
found_at (x ∷ xs) zero low = (x, refl)
found_at (x ∷ xs) (suc n) low = found_at xs n (omega (arith, low))

-- What the graph of the tasks has for a task.
module _ (g : TaskGraph) (outcome : Outcome) (r : Graph) (laws : IsLawful g) (is : IsGraphOf g outcome r) (k : ℕ) (task : IsTask g k) where
  pub inputs_are : (n : ℕ) → n ≤ length (g.preds k) → map (serial g outcome) (map (λ e. e.0) (take n (g.preds k))) ≡ input_values r k n
  inputs_are zero low = refl
  inputs_are (suc n) low =
      let found = found_at (g.preds k) n (omega (arith, low)) in
      let p : ℕ = found.0.0 in let q : ℕ = found.0.1 in
      let there : IsPred g k n p q = found.1 in
      let at : (r.pred k n).task ≡ p = ap (λ (e : Edge). e.task) ((is.at_task k task).pred n p q there) in
      let value : serial g outcome p ≡ r.value (r.pred k n).task = sym (ap r.value at ∙ (is.at_task p (pred_there g laws k n p q task there)).value) in
      ap (λ es. map (serial g outcome) (map (λ e. e.0) es)) (take_one (g.preds k) n found.0 found.1)
      ∙ ap (map (serial g outcome)) (map-append (λ e. e.0) (take n (g.preds k)) (found.0 ∷ []))
      ∙ map-append (serial g outcome) (map (λ e. e.0) (take n (g.preds k))) (p ∷ [])
      ∙ ap (λ (x : List ℤ). map (serial g outcome) (map (λ e. e.0) (take n (g.preds k))) ++ x ∷ []) value
      ∙ ap (λ xs. xs ++ r.value (r.pred k n).task ∷ []) (inputs_are n (omega (arith, low)))

  -- the serial values of its data predecessors are the values of its inputs
  pub values_serial : map (serial g outcome) (inputs_of g k) ≡ input_values r k (r.inputs k)
  values_serial = inputs_are (g.inputs k) (laws.data_first k task) ∙ ap (input_values r k) (sym (is.at_task k task).inputs)

  -- and its value is what the kernel makes of them
  pub value_made : r.value k ≡ outcome k (input_values r k (r.inputs k))
  value_made = (is.at_task k task).value ∙ serial_step g outcome laws k task ∙ ap (outcome k) values_serial
