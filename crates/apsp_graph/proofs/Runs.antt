-- The serial values of a matrix's graph are the tiles round by round, and each task can be computed from those of its inputs.
use Rattle.std.proofs.Common.{◌≡◌, ℕ, zero, suc, ◌+◌, ◌*◌, ◌<◌, ◌≤◌, ℤ, List, [], ◌∷◌, length, map, take, All, Option, refl, ap, sym, subst, ◌∙◌, arith, length-append, inl, inr}
use Rattle.std.specs.List.{range_with_len}
use Rattle.std.proofs.lemmas.Bool.{lt-ltb, le-ltb, cases_eq}
use Rattle.std.proofs.lemmas.List.Elements.{All-nil, All-cons}
use Rattle.std.proofs.lemmas.List.FromFn.{length-map-range_with_len, take-map-range_with_len}
use Rattle.lane_kernels.specs.MinPlus.{closed, min_plus_of, IsNonNegative}
use Rattle.graph_model.specs.Graph.{IsTask as IsKey, IsLawful}
use Rattle.graph_model.specs.Serial.{serial, inputs_of}
use Rattle.graph_model.proofs.Serials.{serial_step}
use Rattle.path_tasks.specs.declared.Part.{Part}
use Rattle.path_tasks.specs.declared.Part.TheVariants.{Load, Pivot, Row, Column, Rest}
use Rattle.path_tasks.specs.declared.Task.{Task}
use Rattle.path_tasks.specs.declared.Task.TheVariants.{Tile, Gather, Sink}
use Rattle.path_tasks.specs.Tasks.{IsTask, part, inputs, key_of, rank_of, block_of, input_count_of, pred_count_of, pred_of, source_row, source_column}
use Rattle.path_tasks.specs.Keys.{task_of, task_total}
use Rattle.path_tasks.specs.Paths.{tiles_of, named, preds_of, cells_of, path_graph}
use Rattle.path_tasks.specs.declared.End.{End}
use Rattle.path_tasks.proofs.Edges.{port_in_range, pred_data, rank_falls}
use Rattle.path_tasks.proofs.Lawful.{inputs_first, is_lawful}
use Rattle.path_tasks.proofs.EdgeLists.{in_range, in_range_at}
use Rattle.path_tasks.proofs.KeyLemmas.{task_known, key_of_task, key_small, task_of_key, place_small}
use Rattle.path_tasks.proofs.Tiles.{tiles_some}
use Rattle.apsp_graph.specs.Blocked.{edge, next_tile, tile_after, gathered, closure, below, task_made, task_value}
use Rattle.apsp_graph.specs.Kernels.{path_outcome, cells_in, AreInputs, FitsPath}
use Rattle.graph_model.specs.declared.plan.Strike.{Strike}
use Rattle.apsp_graph.specs.Answers.{answer_text}
use Rattle.apsp_graph.specs.Writing.{text_of}
use Rattle.apsp_graph.specs.Views.{graph, matrix_of, sink_cells}
use Rattle.apsp_graph.specs.declared.graph.PathGraph.{PathGraph}
use Rattle.apsp_graph.proofs.CellLemmas.{tile_long, product_long, closed_long, beside_long}
use Rattle.apsp_graph.proofs.WeightLemmas.{loaded_from_zero, closed_from_zero, product_from_zero, beside_from_zero, below_from_zero}
use Rattle.apsp_graph.proofs.Rounds.{input_values, value_step}

-- ---- lists by a function of the place
map_map : {X Y Z : Type 0} (f : Y → Z) (g : X → Y) (xs : List X) → map f (map g xs) ≡ map (λ x. f (g x)) xs
map_map f g [] = refl
map_map f g (x ∷ xs) = ap (λ ys. f (g x) ∷ ys) (map_map f g xs)

same_listed : {X : Type 0} (f g : ℕ → X) (a n : ℕ) → ((k : ℕ) → a ≤ k → k < a + n → f k ≡ g k) → map f (range_with_len a n) ≡ map g (range_with_len a n)
same_listed f g a zero same = refl
same_listed f g a (suc n) same =
    ap (λ y. y ∷ map f (range_with_len (a + 1) n)) (same a (omega arith) (omega arith))
    ∙ ap (λ ys. g a ∷ ys) (same_listed f g (a + 1) n (λ k ge lt. same k (omega arith) (omega arith)))

all_listed : {X : Type 0} (P : X → Type 0) (f : ℕ → X) (a n : ℕ) → ((k : ℕ) → a ≤ k → k < a + n → P (f k)) → All P (map f (range_with_len a n))
all_listed P f a zero each = All-nil P
all_listed P f a (suc n) each =
    All-cons P (f a) (map f (range_with_len (a + 1) n)) (each a (omega arith) (omega arith)) (all_listed P f (a + 1) n (λ k ge lt. each k (omega arith) (omega arith)))

-- ---- the inputs of a task by keys
first_keys : (b : ℕ) (x : Task) → IsTask b x → map (λ e. e.0) (take (input_count_of b x) (preds_of b x)) ≡ map (λ k. key_of b (pred_of b x k).task) (range_with_len 0 (input_count_of b x))
unfolding preds_of
first_keys b x known =
    ap (map (λ e. e.0)) (take-map-range_with_len (λ k. named b (pred_of b x k)) 0 (pred_count_of b x) (input_count_of b x) (inputs_first b x known))
    ∙ map_map (λ e. e.0) (λ k. named b (pred_of b x k)) (range_with_len 0 (input_count_of b x))

input_keys : (b side : ℕ) (x : Task) → IsTask b x → inputs_of (path_graph b side) (key_of b x) ≡ map (λ k. key_of b (pred_of b x k).task) (range_with_len 0 (input_count_of b x))
input_keys b side x known = ap (λ (y : Task). map (λ e. e.0) (take (input_count_of b y) (preds_of b y))) (task_of_key b x known) ∙ first_keys b x known

-- ---- serial values
lawful : (g : PathGraph) → IsLawful (graph g)
lawful g = is_lawful (tiles_of g.n g.side) g.side (tiles_some g.n g.side g.some g.wide) g.tiled

abbrev value : PathGraph → Task → List ℤ
value g x = task_value g.n g.side g.weights.items x

abbrev values : PathGraph → Task → List (List ℤ)
values g x = input_values g.n g.side g.weights.items (tiles_of g.n g.side) x

listed_values : (g : PathGraph) (x : Task) → IsTask (tiles_of g.n g.side) x
    → ((k : ℕ) → k < input_count_of (tiles_of g.n g.side) x → serial (graph g) (path_outcome g) (key_of (tiles_of g.n g.side) (pred_of (tiles_of g.n g.side) x k).task) ≡ value g (pred_of (tiles_of g.n g.side) x k).task)
    → map (serial (graph g) (path_outcome g)) (inputs_of (graph g) (key_of (tiles_of g.n g.side) x)) ≡ values g x
listed_values g x known each =
    let b = tiles_of g.n g.side in
    let f = serial (graph g) (path_outcome g) in
    ap (map f) (input_keys b g.side x known)
    ∙ map_map f (λ k. key_of b (pred_of b x k).task) (range_with_len 0 (input_count_of b x))
    ∙ same_listed (λ k. f (key_of b (pred_of b x k).task)) (λ k. value g (pred_of b x k).task) 0 (input_count_of b x) (λ k ge lt. each k (omega arith))

value_below : (g : PathGraph) (m : ℕ) (x : Task) → IsTask (tiles_of g.n g.side) x → rank_of (tiles_of g.n g.side) x < m
    → serial (graph g) (path_outcome g) (key_of (tiles_of g.n g.side) x) ≡ value g x
value_below g zero x known low = absurd (omega arith)
value_below g (suc m) x known low =
    let b = tiles_of g.n g.side in
    let f = path_outcome g in
    let key : IsKey (graph g) (key_of b x) = in_range_at (task_total b) (key_of b x) (key_small b x known) in
    let lists = listed_values g x known (λ k lt.
    let few = inputs_first b x known in
    let within : k < pred_count_of b x = omega (arith, few) in
    let lower = rank_falls b x k known within in
    value_below g m (pred_of b x k).task (port_in_range b x k known within).0 (omega (arith, lower))) in
    serial_step (graph g) f (lawful g) (key_of b x) key
    ∙ ap (f (key_of b x)) lists
    ∙ ap (λ (y : Task). task_made g.n g.side g.weights.items b y (values g x)) (task_of_key b x known)
    ∙ value_step g.n g.side g.weights.items x

-- the serial value of a task, by the rounds
pub serial_is : (g : PathGraph) (x : Task) → IsTask (tiles_of g.n g.side) x → serial (graph g) (path_outcome g) (key_of (tiles_of g.n g.side) x) ≡ task_value g.n g.side g.weights.items x
serial_is g x known = value_below g (suc (rank_of (tiles_of g.n g.side) x)) x known (omega arith)

input_values_are : (g : PathGraph) (x : Task) → IsTask (tiles_of g.n g.side) x → map (serial (graph g) (path_outcome g)) (inputs_of (graph g) (key_of (tiles_of g.n g.side) x)) ≡ values g x
input_values_are g x known = listed_values g x known (λ k lt.
    let b = tiles_of g.n g.side in
    let few = inputs_first b x known in
    serial_is g (pred_of b x k).task (port_in_range b x k known (omega (arith, few))).0)

-- the sink's
pub sink_value : (g : PathGraph) → serial (graph g) (path_outcome g) (graph g).sink ≡ closure g.n g.side g.weights.items
sink_value g = serial_is g Sink tt

-- ---- how many cells there are
next_long : (side : ℕ) (p : Part) (own pivot left above : List ℤ) → length own ≡ side * side → length pivot ≡ side * side → length (next_tile side p own pivot left above) ≡ side * side
next_long side Load own pivot left above e f = e
next_long side Pivot own pivot left above e f = f
next_long side Row own pivot left above e f = product_long side own pivot own
next_long side Column own pivot left above e f = product_long side own own pivot
next_long side Rest own pivot left above e f = product_long side own (min_plus_of side left left pivot) (min_plus_of side above pivot above)

pub tile_size : (n side : ℕ) (ws : List (Option ℕ)) (t i j : ℕ) → 1 ≤ side → length (tile_after n side ws t i j) ≡ side * side
unfolding tile_after
tile_size n side ws zero i j some = tile_long side (λ p q. edge n ws (i * side + p) (j * side + q))
tile_size n side ws (suc r) i j some =
    next_long side (part (suc r) i j) (tile_after n side ws r i j) (closed side (tile_after n side ws r r r)) (tile_after n side ws r i r) (tile_after n side ws r r j)
    (tile_size n side ws r i j some) (closed_long side (tile_after n side ws r r r) some)

pub gathered_size : (n side : ℕ) (ws : List (Option ℕ)) (i : ℕ) → length (gathered n side ws i) ≡ side * (tiles_of n side * side)
unfolding gathered
gathered_size n side ws i = let b = tiles_of n side in beside_long b side (map (tile_after n side ws b i) (range_with_len 0 b))

below_long : (f : ℕ → List ℤ) (a n m : ℕ) → ((k : ℕ) → length (f k) ≡ m) → length (below (map f (range_with_len a n))) ≡ n * m
below_long f a zero m each = omega arith
below_long f a (suc n) m each =
    let rest = below_long f (a + 1) n m each in
    let first = each a in
    let sum = length-append (f a) (below (map f (range_with_len (a + 1) n))) in
    omega (arith, rest, first, sum)

closure_cells : (n side : ℕ) (ws : List (Option ℕ)) → length (closure n side ws) ≡ tiles_of n side * (side * (tiles_of n side * side))
unfolding closure
closure_cells n side ws = below_long (gathered n side ws) 0 (tiles_of n side) (side * (tiles_of n side * side)) (gathered_size n side ws)

-- as many as the block has
value_size : (n side : ℕ) (ws : List (Option ℕ)) (x : Task) → 1 ≤ side → IsTask (tiles_of n side) x → length (task_value n side ws x) ≡ cells_of (tiles_of n side) side (block_of (tiles_of n side) x)
value_size n side ws (Tile t i j) some known =
    let b = tiles_of n side in
    rw (lt-ltb (i * b + j) (b * b) (place_small b i j known.1 known.2)) (tile_size n side ws t i j some)
value_size n side ws (Gather i) some known =
    let b = tiles_of n side in
    let e = gathered_size n side ws i in
    rw (le-ltb (b * b + i) (b * b) (omega arith), lt-ltb (b * b + i) (b * b + b) (omega arith)) (omega (arith, e))
value_size n side ws Sink some known =
    let b = tiles_of n side in
    let e = closure_cells n side ws in
    rw (le-ltb (b * b + b) (b * b) (omega arith), le-ltb (b * b + b) (b * b + b) (omega arith)) (omega (arith, e))

-- ---- none is below 0
next_weights : (side : ℕ) (p : Part) (own pivot left above : List ℤ) → IsNonNegative own → IsNonNegative pivot → IsNonNegative left → IsNonNegative above → IsNonNegative (next_tile side p own pivot left above)
next_weights side Load own pivot left above ho hp hl ha = ho
next_weights side Pivot own pivot left above ho hp hl ha = hp
next_weights side Row own pivot left above ho hp hl ha = product_from_zero side own pivot own ho hp ho
next_weights side Column own pivot left above ho hp hl ha = product_from_zero side own own pivot ho ho hp
next_weights side Rest own pivot left above ho hp hl ha =
    product_from_zero side own (min_plus_of side left left pivot) (min_plus_of side above pivot above) ho (product_from_zero side left left pivot hl hl hp) (product_from_zero side above pivot above ha hp ha)

pub tile_weights : (n side : ℕ) (ws : List (Option ℕ)) (t i j : ℕ) → IsNonNegative (tile_after n side ws t i j)
unfolding tile_after
tile_weights n side ws zero i j = loaded_from_zero n side ws i j
tile_weights n side ws (suc r) i j =
    next_weights side (part (suc r) i j) (tile_after n side ws r i j) (closed side (tile_after n side ws r r r)) (tile_after n side ws r i r) (tile_after n side ws r r j)
    (tile_weights n side ws r i j) (closed_from_zero side (tile_after n side ws r r r) (tile_weights n side ws r r r)) (tile_weights n side ws r i r) (tile_weights n side ws r r j)

gathered_weights : (n side : ℕ) (ws : List (Option ℕ)) (i : ℕ) → IsNonNegative (gathered n side ws i)
unfolding gathered
gathered_weights n side ws i =
    let b = tiles_of n side in
    beside_from_zero b side (map (tile_after n side ws b i) (range_with_len 0 b)) (all_listed IsNonNegative (tile_after n side ws b i) 0 b (λ k ge lt. tile_weights n side ws b i k))

closure_weights : (n side : ℕ) (ws : List (Option ℕ)) → IsNonNegative (closure n side ws)
unfolding closure
closure_weights n side ws = below_from_zero (gathered n side ws) 0 (tiles_of n side) (gathered_weights n side ws)

value_weights : (n side : ℕ) (ws : List (Option ℕ)) (x : Task) → IsNonNegative (task_value n side ws x)
value_weights n side ws (Tile t i j) = tile_weights n side ws t i j
value_weights n side ws (Gather i) = gathered_weights n side ws i
value_weights n side ws Sink = closure_weights n side ws

-- ---- what a kernel takes
pred_tile : (b r i j k : ℕ) → k < inputs (part (suc r) i j) → (t : ℕ) × (x : ℕ) × (y : ℕ) × ((pred_of b (Tile (suc r) i j) k).task ≡ Tile t x y)
pred_tile b r i j k lt = elim (cases_eq k 0) [
  | inl e ↦ (r, i, j, ap (λ v. (pred_of b (Tile (suc r) i j) v).task) e)
  | inr ne ↦
      let p = part (suc r) i j in
      (suc r, source_row r p i k, source_column r p j k, ap (λ (x : End). x.task) (pred_data b r i j k ne lt))
]

input_size : (n side : ℕ) (ws : List (Option ℕ)) (x : Task) (k : ℕ) → 1 ≤ side → k < input_count_of (tiles_of n side) x
    → length (task_value n side ws (pred_of (tiles_of n side) x k).task) ≡ cells_in (tiles_of n side) side x
input_size n side ws (Tile zero i j) k some lt = absurd (omega arith)
input_size n side ws (Tile (suc r) i j) k some lt =
    let is = pred_tile (tiles_of n side) r i j k lt in
    ap (λ (x : Task). length (task_value n side ws x)) is.3 ∙ tile_size n side ws is.0 is.1 is.2 some
input_size n side ws (Gather i) k some lt = tile_size n side ws (tiles_of n side) i k some
input_size n side ws Sink k some lt = let e = gathered_size n side ws k in omega (arith, e)

values_fit : (g : PathGraph) (x : Task) → AreInputs (input_count_of (tiles_of g.n g.side) x) (cells_in (tiles_of g.n g.side) g.side x) (values g x)
values_fit g x =
    let b = tiles_of g.n g.side in
    let ws = g.weights.items in
    let each : ℕ → List ℤ = λ k. task_value g.n g.side ws (pred_of b x k).task in
    record {
      many = length-map-range_with_len each 0 (input_count_of b x);
      sized = all_listed (λ (xs : List ℤ). length xs ≡ cells_in b g.side x) each 0 (input_count_of b x) (λ k ge lt. input_size g.n g.side ws x k g.wide (omega arith));
      weights = all_listed IsNonNegative each 0 (input_count_of b x) (λ k ge lt. value_weights g.n g.side ws (pred_of b x k).task);
    }

-- each task can be computed from the serial values of its data predecessors
pub inputs_fit : (g : PathGraph) (k : ℕ) → IsKey (graph g) k → FitsPath g k (map (serial (graph g) (path_outcome g)) (inputs_of (graph g) k))
inputs_fit g k key =
    let b = tiles_of g.n g.side in
    let x = task_of b k in
    let some = tiles_some g.n g.side g.some g.wide in
    let inside = in_range (task_total b) k key in
    let same : key_of b x ≡ k = key_of_task b k some inside in
    let lists : map (serial (graph g) (path_outcome g)) (inputs_of (graph g) k) ≡ values g x =
    ap (λ v. map (serial (graph g) (path_outcome g)) (inputs_of (graph g) v)) (sym same) ∙ input_values_are g x (task_known b k some inside) in
    record {
      task = key;
      inputs = subst (λ (ls : List (List ℤ)). AreInputs (input_count_of b x) (cells_in b g.side x) ls) (sym lists) (values_fit g x);
    }

-- its serial value has as many cells as its block
pub value_cells : (g : PathGraph) (k : ℕ) → IsKey (graph g) k → length (serial (graph g) (path_outcome g) k) ≡ (graph g).cells ((graph g).block k)
value_cells g k key =
    let b = tiles_of g.n g.side in
    let x = task_of b k in
    let some = tiles_some g.n g.side g.some g.wide in
    let inside = in_range (task_total b) k key in
    let known = task_known b k some inside in
    ap (λ v. length (serial (graph g) (path_outcome g) v)) (sym (key_of_task b k some inside))
    ∙ ap length (serial_is g x known)
    ∙ value_size g.n g.side g.weights.items x g.wide known

pub closure_size : (g : PathGraph) → length (closure g.n g.side g.weights.items) ≡ sink_cells g
closure_size g =
    let b = tiles_of g.n g.side in
    value_size g.n g.side g.weights.items Sink g.wide tt ∙ ap (λ (x : Task). cells_of b g.side (block_of b x)) (sym (task_of_key b Sink tt))

-- the text of the sink's serial value is the answer to the matrix that was read
pub answer_is : (g : PathGraph) (strikes : List Strike) (cells : List ℤ) (text : List ℕ) → cells ≡ serial (graph g) (path_outcome g) (graph g).sink
    → text ≡ text_of (tiles_of g.n g.side * g.side) g.n cells → text ≡ answer_text (matrix_of g strikes)
answer_is g strikes cells text e f = f ∙ ap (text_of (tiles_of g.n g.side * g.side) g.n) (e ∙ sink_value g)
