-- The serial values of a file's graph are the values of its formulas.
use Rattle.std.proofs.Common.{◌≡◌, ◌∙◌, ℕ, zero, suc, ◌<◌, ◌≤◌, ℤ, pos, List, [], ◌∷◌, ◌++◌, length, map, take, get_or, All, Contains, refl, ap, arith}
use Rattle.std.proofs.lemmas.List.Sorted.{Contains-permutation}
use Rattle.std.proofs.lemmas.List.Elements.{All-nil, All-cons}
use Rattle.formula_text.specs.Trees.{Tree, value_of}
use Rattle.graph_model.specs.Graph.{IsTask, IsLawful}
use Rattle.graph_model.specs.Serial.{inputs_of, serial}
use Rattle.raw_graph.specs.declared.raw.RawGraph.{RawGraph}
use Rattle.raw_graph.specs.declared.raw.RawTask.{RawTask}
use Rattle.audit_checks.specs.Tasks.{key_of, keys_of, places_of}
use Rattle.acyclic_audit.specs.Views.{graph, tree_at}
use Rattle.acyclic_audit.specs.declared.graph.FileGraph.{FileGraph}
use Rattle.worker_pool.specs.Calling.{CanRun}
use Rattle.graph_model.proofs.Serials.{serial_step}
use Rattle.graph_runner.specs.Accepting.{IsAcceptedAs}
use Rattle.graph_runner.specs.Formulas.{cells_of, formula_outcome, FitsFormula}
use Rattle.graph_runner.specs.Files.{IsValuation}

pub map_long : {X Y : Type 0} (f : X → Y) (xs : List X) → length (map f xs) ≡ length xs
map_long f [] = refl
map_long f (x ∷ xs) = omega (arith, map_long f xs)

take_long : {X : Type 0} (n : ℕ) (xs : List X) → n ≤ length xs → length (take n xs) ≡ n
take_long zero [] few = refl
take_long zero (x ∷ xs) few = refl
take_long (suc n) [] few = absurd (omega arith)
take_long (suc n) (x ∷ xs) few = omega (arith, take_long n xs (omega arith))

single_serials : (g : FileGraph) (ks : List ℕ) → All (λ cells. length cells ≡ 1) (map (serial (graph g) (formula_outcome g)) ks)
single_serials g [] = All-nil (λ (cells : List ℤ). length cells ≡ 1)
single_serials g (k ∷ ks) =
    All-cons (λ cells. length cells ≡ 1) (serial (graph g) (formula_outcome g) k) (map (serial (graph g) (formula_outcome g)) ks) refl (single_serials g ks)

-- the serial inputs of each task fit the kernel, and each task has one cell, as its block has
pub can_be : (g : FileGraph) → CanRun (graph g) (formula_outcome g) (FitsFormula g)
can_be g = record {
  inputs = λ k task. record {
    task = task;
    count = (
        let lawful : IsLawful (graph g) = g.lawful in
        let few : (graph g).inputs k ≤ length ((graph g).preds k) = lawful.data_first k task in
        map_long (serial (graph g) (formula_outcome g)) (inputs_of (graph g) k) ∙ map_long (λ e. e.0) (take ((graph g).inputs k) ((graph g).preds k)) ∙ take_long ((graph g).inputs k) ((graph g).preds k) few
        );
    single = single_serials g (inputs_of (graph g) k);
  };
  cells = λ k task. refl;
}

-- the one cell of a task
abbrev pub value_at : FileGraph → ℕ → ℤ
value_at g k = get_or (serial (graph g) (formula_outcome g) k) 0 (pos 0)

joined_cells : (g : FileGraph) (ks : List ℕ) → cells_of (map (serial (graph g) (formula_outcome g)) ks) ≡ map (value_at g) ks
joined_cells g [] = refl
joined_cells g (k ∷ ks) = ap (λ zs. value_at g k ∷ zs) (joined_cells g ks)

map_take : {X Y : Type 0} (f : X → Y) (n : ℕ) (xs : List X) → map f (take n xs) ≡ take n (map f xs)
map_take f zero [] = refl
map_take f zero (x ∷ xs) = refl
map_take f (suc n) [] = refl
map_take f (suc n) (x ∷ xs) = ap (λ ys. f x ∷ ys) (map_take f n xs)

take_front : (xs ys : List ℕ) → take (length xs) (xs ++ ys) ≡ xs
take_front [] [] = refl
take_front [] (y ∷ ys) = refl
take_front (x ∷ xs) ys = ap (λ zs. x ∷ zs) (take_front xs ys)

-- a task's data predecessors are its inputs
task_inputs : (raw : RawGraph) (g : FileGraph) → IsAcceptedAs raw g → (i : ℕ) (d : RawTask) → i < length raw.tasks.items
    → inputs_of (graph g) (key_of (get_or raw.tasks.items i d)) ≡ (get_or raw.tasks.items i d).inputs
task_inputs raw g told i d inside =
    let t : RawTask = get_or raw.tasks.items i d in
    let places : map (λ e. e.0) ((graph g).preds (key_of t)) ≡ places_of t = told.is.preds i d inside in
    let count : (graph g).inputs (key_of t) ≡ length t.inputs = told.is.inputs i d inside in
    map_take (λ e. e.0) ((graph g).inputs (key_of t)) ((graph g).preds (key_of t)) ∙ ap (λ n. take n (map (λ e. e.0) ((graph g).preds (key_of t)))) count
    ∙ ap (take (length t.inputs)) places ∙ take_front t.inputs t.after

key_stands : (ts : List RawTask) (i : ℕ) (d : RawTask) → i < length ts → Contains (keys_of ts) (key_of (get_or ts i d))
key_stands [] i d inside = absurd (omega arith)
key_stands (t ∷ ts) zero d inside = (0, omega arith, refl)
key_stands (t ∷ ts) (suc i) d inside =
    let has = key_stands ts i d (omega arith) in
    (suc has.0, (let low : has.0 < length (keys_of ts) = has.1 in omega arith), has.2)

pub valuation : (raw : RawGraph) (g : FileGraph) → IsAcceptedAs raw g → IsValuation raw.tasks.items (value_at g)
valuation raw g told = λ i d inside.
    let t : RawTask = get_or raw.tasks.items i d in
    let k : ℕ = key_of t in
    let lawful : IsLawful (graph g) = g.lawful in
    let task : IsTask (graph g) k = Contains-permutation (keys_of raw.tasks.items) (graph g).keys k told.is.keys (key_stands raw.tasks.items i d inside) in
    let step = serial_step (graph g) (formula_outcome g) lawful k task in
    ap (λ (cells : List ℤ). get_or cells 0 (pos 0)) step
    ∙ ap (λ cells. value_of (tree_at g k) cells) (joined_cells g (inputs_of (graph g) k) ∙ ap (map (value_at g)) (task_inputs raw g told i d inside))
    ∙ ap (λ (f : Tree). value_of f (map (value_at g) t.inputs)) (told.trees i d inside)

-- the sink's one cell, by its key in the file
pub sink_value : (raw : RawGraph) (g : FileGraph) → IsAcceptedAs raw g → serial (graph g) (formula_outcome g) (graph g).sink ≡ value_at g raw.sink.0 ∷ []
sink_value raw g told = ap (λ k. value_at g k ∷ []) told.is.sink_is
