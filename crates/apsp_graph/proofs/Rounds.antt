-- The value of each task is what it makes of the values of its inputs.
use Rattle.std.proofs.Common.{◌≡◌, ℕ, zero, suc, ◌<◌, ℤ, List, [], map, Option, refl, ap, sym, ◌∙◌, arith}
use Rattle.std.specs.List.{range_with_len}
use Rattle.std.proofs.lemmas.List.FromFn.{get_or-map-range_with_len}
use Rattle.lane_kernels.specs.MinPlus.{closed, min_plus_of}
use Rattle.path_tasks.specs.declared.Part.{Part}
use Rattle.path_tasks.specs.declared.Part.TheVariants.{Load, Pivot, Row, Column, Rest}
use Rattle.path_tasks.specs.declared.End.{End}
use Rattle.path_tasks.specs.declared.Task.{Task}
use Rattle.path_tasks.specs.declared.Task.TheVariants.{Tile, Gather, Sink}
use Rattle.path_tasks.specs.Tasks.{part, inputs, input_count_of, pred_of, source_row, source_column}
use Rattle.path_tasks.specs.Paths.{tiles_of}
use Rattle.path_tasks.proofs.Edges.{pred_data}
use Rattle.path_tasks.proofs.Parts.{PartIs, pivot, row, column, rest, part_is, is_part, source_row_first, source_column_first, source_row_second, source_column_second}
use Rattle.apsp_graph.specs.Blocked.{nth, loaded, tile_made, task_made, next_tile, tile_after, gathered, closure, beside, below, task_value}

-- a tile after the next round, by its part there
pub after_as : (n side : ℕ) (ws : List (Option ℕ)) (r i j : ℕ) (p : Part) → part (suc r) i j ≡ p
    → tile_after n side ws (suc r) i j ≡ next_tile side p (tile_after n side ws r i j) (closed side (tile_after n side ws r r r)) (tile_after n side ws r i r) (tile_after n side ws r r j)
unfolding tile_after
after_as n side ws r i j p e =
    ap (λ (x : Part). next_tile side x (tile_after n side ws r i j) (closed side (tile_after n side ws r r r)) (tile_after n side ws r i r) (tile_after n side ws r r j)) e

-- the values of a task's inputs, in order
abbrev pub input_values : ℕ → ℕ → List (Option ℕ) → ℕ → Task → List (List ℤ)
input_values n side ws b x = map (λ k. task_value n side ws (pred_of b x k).task) (range_with_len 0 (input_count_of b x))

input_at : (n side : ℕ) (ws : List (Option ℕ)) (b : ℕ) (x : Task) (k : ℕ) → k < input_count_of b x → nth (input_values n side ws b x) k ≡ task_value n side ws (pred_of b x k).task
input_at n side ws b x k lt = get_or-map-range_with_len (λ m. task_value n side ws (pred_of b x m).task) 0 (input_count_of b x) k k [] lt (omega arith)

count_as : (b r i j : ℕ) (p : Part) → part (suc r) i j ≡ p → input_count_of b (Tile (suc r) i j) ≡ inputs p
count_as b r i j p e = ap inputs e

-- the first input is the tile before its round
own : (n side : ℕ) (ws : List (Option ℕ)) (b r i j : ℕ) (p : Part) → part (suc r) i j ≡ p → 0 < inputs p → nth (input_values n side ws b (Tile (suc r) i j)) 0 ≡ tile_after n side ws r i j
own n side ws b r i j p e some = let count = count_as b r i j p e in input_at n side ws b (Tile (suc r) i j) 0 (omega (arith, count))

-- the others are tiles of its round
source : (n side : ℕ) (ws : List (Option ℕ)) (b r i j : ℕ) (p : Part) (k : ℕ) → part (suc r) i j ≡ p → 0 < k → k < inputs p
    → nth (input_values n side ws b (Tile (suc r) i j)) k ≡ tile_after n side ws (suc r) (source_row r p i k) (source_column r p j k)
source n side ws b r i j p k e some lt =
    let count = count_as b r i j p e in
    let within : k < inputs (part (suc r) i j) = omega (arith, count) in
    input_at n side ws b (Tile (suc r) i j) k within
    ∙ ap (λ (x : End). task_value n side ws x.task) (pred_data b r i j k (omega arith) within)
    ∙ ap (λ (q : Part). tile_after n side ws (suc r) (source_row r q i k) (source_column r q j k)) e

-- the pivot, and what shares its column and its row
pivot_after : (n side : ℕ) (ws : List (Option ℕ)) (r : ℕ) → tile_after n side ws (suc r) r r ≡ closed side (tile_after n side ws r r r)
pivot_after n side ws r = after_as n side ws r r r Pivot (part_is r r r (pivot refl refl))

same_product : (side : ℕ) (out out' a a' b b' : List ℤ) → out ≡ out' → a ≡ a' → b ≡ b' → min_plus_of side out a b ≡ min_plus_of side out' a' b'
same_product side out out' a a' b b' e f g = ap (λ v. min_plus_of side v a b) e ∙ ap (λ v. min_plus_of side out' v b) f ∙ ap (λ v. min_plus_of side out' a' v) g

tile_step : (n side : ℕ) (ws : List (Option ℕ)) (b r i j : ℕ) (p : Part) → PartIs r i j p
    → tile_made n side ws i j p (input_values n side ws b (Tile (suc r) i j)) ≡ tile_after n side ws (suc r) i j
tile_step n side ws b r i j Load h = elim h [ ]
tile_step n side ws b r i j Pivot (pivot e f) =
    let is = part_is r i j (pivot e f) in
    ap (closed side) (own n side ws b r i j Pivot is (omega arith) ∙ ap (λ v. tile_after n side ws r v j) e ∙ ap (λ v. tile_after n side ws r r v) f)
    ∙ sym (after_as n side ws r i j Pivot is)
tile_step n side ws b r i j Row (row e f) =
    let is = part_is r i j (row e f) in
    let mine = own n side ws b r i j Row is (omega arith) in
    same_product side _ _ _ _ _ _ mine (source n side ws b r i j Row 1 is (omega arith) (omega arith) ∙ pivot_after n side ws r) mine
    ∙ sym (after_as n side ws r i j Row is)
tile_step n side ws b r i j Column (column e f) =
    let is = part_is r i j (column e f) in
    let mine = own n side ws b r i j Column is (omega arith) in
    same_product side _ _ _ _ _ _ mine mine (source n side ws b r i j Column 1 is (omega arith) (omega arith) ∙ pivot_after n side ws r)
    ∙ sym (after_as n side ws r i j Column is)
tile_step n side ws b r i j Rest (rest e f) =
    let is = part_is r i j (rest e f) in
    let left : nth (input_values n side ws b (Tile (suc r) i j)) 1 ≡ tile_after n side ws (suc r) i r =
    source n side ws b r i j Rest 1 is (omega arith) (omega arith)
    ∙ ap (λ v. tile_after n side ws (suc r) v (source_column r Rest j 1)) (source_row_first r i 1 refl)
    ∙ ap (λ v. tile_after n side ws (suc r) i v) (source_column_first r j 1 refl) in
    let above : nth (input_values n side ws b (Tile (suc r) i j)) 2 ≡ tile_after n side ws (suc r) r j =
    source n side ws b r i j Rest 2 is (omega arith) (omega arith)
    ∙ ap (λ v. tile_after n side ws (suc r) v (source_column r Rest j 2)) (source_row_second r i 2 (omega arith))
    ∙ ap (λ v. tile_after n side ws (suc r) r v) (source_column_second r j 2 (omega arith)) in
    same_product side _ _ _ _ _ _ (own n side ws b r i j Rest is (omega arith))
    (left ∙ after_as n side ws r i r Column (part_is r i r (column e refl)))
    (above ∙ after_as n side ws r r j Row (part_is r r j (row refl f)))
    ∙ sym (after_as n side ws r i j Rest is)

tile_start : (n side : ℕ) (ws : List (Option ℕ)) (i j : ℕ) → loaded n side ws i j ≡ tile_after n side ws 0 i j
unfolding tile_after
tile_start n side ws i j = refl

gather_step : (n side : ℕ) (ws : List (Option ℕ)) (i : ℕ) → beside (tiles_of n side) side (input_values n side ws (tiles_of n side) (Gather i)) ≡ gathered n side ws i
unfolding gathered
gather_step n side ws i = refl

sink_step : (n side : ℕ) (ws : List (Option ℕ)) → below (input_values n side ws (tiles_of n side) Sink) ≡ closure n side ws
unfolding closure
sink_step n side ws = refl

-- the value of a task is made of those of its inputs
pub value_step : (n side : ℕ) (ws : List (Option ℕ)) (x : Task) → task_made n side ws (tiles_of n side) x (input_values n side ws (tiles_of n side) x) ≡ task_value n side ws x
value_step n side ws (Tile zero i j) = tile_start n side ws i j
value_step n side ws (Tile (suc r) i j) = tile_step n side ws (tiles_of n side) r i j (part (suc r) i j) (is_part r i j)
value_step n side ws (Gather i) = gather_step n side ws i
value_step n side ws Sink = sink_step n side ws
