-- The serial value of each task of a number.
use Rattle.std.proofs.Common.{◌≡◌, ◌∙◌, ℕ, ◌+◌, ◌-◌, ◌^◌, ◌<◌, ◌≤◌, ℤ, pos, List, [], ◌∷◌, map, ap, subst, arith, All}
use Rattle.std.specs.List.{flat_map}
use Rattle.formula_text.specs.Trees.{value_of}
use Rattle.graph_model.specs.Graph.{Graph}
use Rattle.raw_graph.specs.Graph.{Task}
use Rattle.drill_input.specs.Drill.{second_back, third_back, later_tree, next_tree, last_tree}
use Rattle.drill_input.proofs.Rows.{IsRow}
use Rattle.drill_input.proofs.Rows as rows
use Rattle.drill_input.proofs.Places.{IsKeyAt, second_small, third_small}
use Rattle.drill_input.proofs.Sums.{later_sum, next_sum, last_sum, cells_one, cells_two, cells_three}

-- the task at place i is worth v
pub record IsWorth (number i v : ℕ) : Type 0 where
  pub low : i < 8192 → v ≡ number + (i + 1)
  pub middle : 8192 ≤ i → i < 8256 → v ≡ i - 8191
  pub top : i ≡ 8256 → v ≡ number + 8256

pub low_key : (i p : ℕ) → i < 8192 → p ≡ i + 1 → IsKeyAt i p
low_key i p less e = record { low = λ h. e; middle = λ h l. omega arith; top = λ h. omega arith }

pub middle_key : (i p : ℕ) → 8192 ≤ i → i < 8256 → p ≡ i + 1809 → IsKeyAt i p
middle_key i p high less e = record { low = λ h. omega arith; middle = λ h l. e; top = λ h. omega arith }

pub low_worth : (number i v : ℕ) → i < 8192 → v ≡ number + (i + 1) → IsWorth number i v
low_worth number i v less e = record { low = λ h. e; middle = λ h l. omega arith; top = λ h. omega arith }

pub middle_worth : (number i v : ℕ) → 8192 ≤ i → i < 8256 → v ≡ i - 8191 → IsWorth number i v
middle_worth number i v high less e = record { low = λ h. omega arith; middle = λ h l. e; top = λ h. omega arith }

-- W gives the values of the tasks of ranks below n
pub record Serves (g : Graph) (number n : ℕ) (W : ℕ → List ℤ) : Type 0 where
  pub gives : (q p v : ℕ) → IsKeyAt q p → q < 8257 → g.rank p < n → IsWorth number q v → W p ≡ pos v ∷ []

-- the value of a task's formula, where W gives its inputs
abbrev value_at : (ℕ → List ℤ) → Task → ℤ
value_at W x = value_of x.tree (flat_map (λ (cells : List ℤ). cells) (map W x.inputs))

abbrev Ranks : Graph → ℕ → List ℕ → Type 0
Ranks g n ps = All (λ p. g.rank p < n) ps

later_value : (g : Graph) (number n i d e v : ℕ) (W : ℕ → List ℤ) → number < 2 ^ 32 → Serves g number n W → 64 ≤ i → i < 8192 → (1 ≤ d) × (d ≤ 64) → (1 ≤ e) × (e ≤ 64)
    → Ranks g n ((1 + i - 1) ∷ (1 + i - d) ∷ (1 + i - e) ∷ []) → v ≡ number + (i + 1)
    → value_of (later_tree d e) (flat_map (λ (cells : List ℤ). cells) (map W ((1 + i - 1) ∷ (1 + i - d) ∷ (1 + i - e) ∷ []))) ≡ pos v
later_value g number n i d e v W small serves low high d_in e_in ranks is =
    let a : W (1 + i - 1) ≡ pos (number + i) ∷ [] = serves.gives (i - 1) (1 + i - 1) (number + i) (low_key (i - 1) (1 + i - 1) (omega arith) (omega arith)) (omega arith) (ranks 0 0 (omega arith)) (low_worth number (i - 1) (number + i) (omega arith) (omega arith)) in
    let b : W (1 + i - d) ≡ pos (number + (1 + i - d)) ∷ [] =
    serves.gives (i - d) (1 + i - d) (number + (1 + i - d)) (low_key (i - d) (1 + i - d) (omega arith) (omega arith)) (omega arith) (ranks 1 0 (omega arith)) (low_worth number (i - d) (number + (1 + i - d)) (omega arith) (omega arith)) in
    let c : W (1 + i - e) ≡ pos (number + (1 + i - e)) ∷ [] =
    serves.gives (i - e) (1 + i - e) (number + (1 + i - e)) (low_key (i - e) (1 + i - e) (omega arith) (omega arith)) (omega arith) (ranks 2 0 (omega arith)) (low_worth number (i - e) (number + (1 + i - e)) (omega arith) (omega arith)) in
    ap (value_of (later_tree d e)) (cells_three W (1 + i - 1) (1 + i - d) (1 + i - e) (pos (number + i)) (pos (number + (1 + i - d))) (pos (number + (1 + i - e))) a b c)
    ∙ later_sum (number + i) (number + (1 + i - d)) (number + (1 + i - e)) d e v (omega arith) (omega arith) (omega arith) (omega arith)

next_value : (g : Graph) (number n i v : ℕ) (W : ℕ → List ℤ) → Serves g number n W → 8193 ≤ i → i < 8256 → Ranks g n ((9999 + (i - 8191)) ∷ []) → v ≡ i - 8191
    → value_of next_tree (flat_map (λ (cells : List ℤ). cells) (map W ((9999 + (i - 8191)) ∷ []))) ≡ pos v
next_value g number n i v W serves low high ranks is =
    let p = 9999 + (i - 8191) in
    let a : W p ≡ pos (i - 8192) ∷ [] = serves.gives (i - 1) p (i - 8192) (middle_key (i - 1) p (omega arith) (omega arith) (omega arith)) (omega arith) (ranks 0 0 (omega arith)) (middle_worth number (i - 1) (i - 8192) (omega arith) (omega arith) (omega arith)) in
    ap (value_of next_tree) (cells_one W p (pos (i - 8192)) a) ∙ next_sum (i - 8192) v (omega arith) (omega arith)

last_value : (g : Graph) (number n v : ℕ) (W : ℕ → List ℤ) → number < 2 ^ 32 → Serves g number n W → Ranks g n (8192 ∷ 10064 ∷ []) → v ≡ number + 8256
    → value_of last_tree (flat_map (λ (cells : List ℤ). cells) (map W (8192 ∷ 10064 ∷ []))) ≡ pos v
last_value g number n v W small serves ranks is =
    let a : W 8192 ≡ pos (number + 8192) ∷ [] = serves.gives 8191 8192 (number + 8192) (low_key 8191 8192 (omega arith) (omega arith)) (omega arith) (ranks 0 0 (omega arith)) (low_worth number 8191 (number + 8192) (omega arith) (omega arith)) in
    let b : W 10064 ≡ pos 64 ∷ [] = serves.gives 8255 10064 64 (middle_key 8255 10064 (omega arith) (omega arith) (omega arith)) (omega arith) (ranks 1 0 (omega arith)) (middle_worth number 8255 64 (omega arith) (omega arith) (omega arith)) in
    ap (value_of last_tree) (cells_two W 8192 10064 (pos (number + 8192)) (pos 64) a b) ∙ last_sum (number + 8192) 64 v (omega arith) (omega arith)

abbrev inputs_in : Task → List ℕ
inputs_in x = x.inputs

pub row_value : (g : Graph) (number n i v : ℕ) (W : ℕ → List ℤ) (x : Task) → number < 2 ^ 32 → Serves g number n W → IsRow number i x → Ranks g n x.inputs → IsWorth number i v → value_at W x ≡ pos v
row_value g number n i v W x small serves (rows.first low e) ranks worth = ap (value_at W) e ∙ ap pos (let h : number + (1 + i) ≡ v = omega (arith, worth.low (omega arith)) in h)
row_value g number n i v W x small serves (rows.later low high e) ranks worth =
    ap (value_at W) e ∙ later_value g number n i (second_back number (1 + i)) (third_back number (1 + i)) v W small serves low high (second_small number (1 + i)) (third_small number (1 + i)) (subst (Ranks g n) (ap inputs_in e) ranks) (worth.low high)
row_value g number n i v W x small serves (rows.start here e) ranks worth = ap (value_at W) e ∙ ap pos (let h : 1 ≡ v = omega (arith, worth.middle (omega arith) (omega arith)) in h)
row_value g number n i v W x small serves (rows.next low high e) ranks worth =
    ap (value_at W) e ∙ next_value g number n i v W serves low high (subst (Ranks g n) (ap inputs_in e) ranks) (worth.middle (omega arith) high)
row_value g number n i v W x small serves (rows.last here e) ranks worth =
    ap (value_at W) e ∙ last_value g number n v W small serves (subst (Ranks g n) (ap inputs_in e) ranks) (worth.top here)
