-- The serial value of a task, as an equation.
use Rattle.std.proofs.Common.{◌≡◌, ℕ, zero, suc, ◌<◌, List, [], ◌∷◌, map, take, slice_get, Some, refl, ap, arith}
use Rattle.graph_model.specs.Graph.{Graph, IsTask, IsPred, IsLawful}
use Rattle.graph_model.specs.Serial.{Outcome, inputs_of, value_within, serial}
use Rattle.graph_model.proofs.Members.{pred_there}

-- two functions that agree at the elements of a list
map_same : {X Y : Type 0} (f g : X → Y) (xs : List X) → ((j : ℕ) (x : X) → slice_get xs j ≡ Some x → f x ≡ g x) → map f xs ≡ map g xs
map_same f g [] same = refl
map_same {Y = Y} f g (x ∷ xs) same =
    let here : f x ≡ g x = same 0 x refl in
    let rest : map f xs ≡ map g xs = map_same f g xs (λ j y h. same (suc j) y h) in
    cc

input_at : (es : List (ℕ × ℕ)) (n j p : ℕ) → slice_get (map (λ e. e.0) (take n es)) j ≡ Some p → (q : ℕ) × (j < n) × (slice_get es j ≡ Some (p, q))
input_at [] zero j p here = absurd (cc)
input_at [] (suc n) j p here = absurd (cc)
input_at (e ∷ es) zero j p here = absurd (cc)
input_at (e ∷ es) (suc n) zero p here = let same : e.0 ≡ p = cc in (e.1, omega arith, ap (λ x. Some (x, e.1)) same)
input_at (e ∷ es) (suc n) (suc j) p here = let r = input_at es n j p here in (r.0, (let less : j < n = r.1 in omega arith), r.2)

-- a data predecessor stands at a data place
pub input_pred : (g : Graph) (k j p : ℕ) → slice_get (inputs_of g k) j ≡ Some p → (q : ℕ) × (j < g.inputs k) × IsPred g k j p q
input_pred g k j p here = input_at (g.preds k) (g.inputs k) j p here

enough : (g : Graph) (outcome : Outcome) → IsLawful g → (n m k : ℕ) → IsTask g k → g.rank k < n → g.rank k < m → value_within g outcome n k ≡ value_within g outcome m k
enough g outcome lawful zero m k task low low' = absurd (omega arith)
enough g outcome lawful (suc n) zero k task low low' = absurd (omega arith)
enough g outcome lawful (suc n) (suc m) k task low low' =
    ap (outcome k) (map_same (value_within g outcome n) (value_within g outcome m) (inputs_of g k) (λ j p here.
    let pred = input_pred g k j p here in
    let falls : g.rank p < g.rank k = lawful.falls k j p pred.0 task pred.2 in
    enough g outcome lawful n m p (pred_there g lawful k j p pred.0 task pred.2) (omega arith) (omega arith)))

-- it is what the kernel makes of the serial values of its data predecessors
pub serial_step : (g : Graph) (outcome : Outcome) → IsLawful g → (k : ℕ) → IsTask g k → serial g outcome k ≡ outcome k (map (serial g outcome) (inputs_of g k))
serial_step g outcome lawful k task =
    ap (outcome k) (map_same (value_within g outcome (g.rank k)) (serial g outcome) (inputs_of g k) (λ j p here.
    let pred = input_pred g k j p here in
    let falls : g.rank p < g.rank k = lawful.falls k j p pred.0 task pred.2 in
    enough g outcome lawful (g.rank k) (suc (g.rank p)) p (pred_there g lawful k j p pred.0 task pred.2) falls (omega arith)))
