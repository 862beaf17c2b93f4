-- Blocked Floyd-Warshall: what each task makes of its inputs, and from that the tiles round by round.
use Rattle.std.specs.Prelude.{ℕ, zero, suc, ◌+◌, ◌*◌, ◌/◌, ◌%◌, eqb, ltb, ◌&&◌, cond, ℤ, pos, List, [], map, Option, Some, None, slice_index_or}
use Rattle.std.specs.List.{range_with_len, flat_map}
use Rattle.lane_kernels.specs.MinPlus.{none, cell, tile, min_plus_of, closed}
use Rattle.path_tasks.specs.declared.Part.{Part}
use Rattle.path_tasks.specs.declared.Part.TheVariants.{Load, Pivot, Row, Column, Rest}
use Rattle.path_tasks.specs.declared.Task.{Task}
use Rattle.path_tasks.specs.declared.Task.TheVariants.{Tile, Gather, Sink}
use Rattle.path_tasks.specs.Tasks.{part, part_from}
use Rattle.path_tasks.specs.Paths.{tiles_of}

-- an item of the matrix as a weight
abbrev pub as_weight : Option ℕ → ℤ
as_weight None = none
as_weight (Some w) = pos w

-- from vertex u to vertex v: from n on there are no edges, and the weight to oneself is 0
unfoldable pub edge : ℕ → List (Option ℕ) → ℕ → ℕ → ℤ
edge n ws u v = cond (ltb u n && ltb v n) (as_weight (slice_index_or ws (u * n + v) None)) (cond (eqb u v) (pos 0) none)

-- the weights of the edges from the vertices of row i to those of column j
abbrev pub loaded : ℕ → ℕ → List (Option ℕ) → ℕ → ℕ → List ℤ
loaded n side ws i j = tile side (λ p q. edge n ws (i * side + p) (j * side + q))

-- the list at a place
abbrev pub nth : List (List ℤ) → ℕ → List ℤ
nth lists i = slice_index_or lists i []

-- what a tile is made of by its part in its round: first its own last version, then what it reads of its round
abbrev pub tile_made : ℕ → ℕ → List (Option ℕ) → ℕ → ℕ → Part → List (List ℤ) → List ℤ
tile_made n side ws i j Load lists = loaded n side ws i j
tile_made n side ws i j Pivot lists = closed side (nth lists 0)
tile_made n side ws i j Row lists = min_plus_of side (nth lists 0) (nth lists 1) (nth lists 0)
tile_made n side ws i j Column lists = min_plus_of side (nth lists 0) (nth lists 0) (nth lists 1)
tile_made n side ws i j Rest lists = min_plus_of side (nth lists 0) (nth lists 1) (nth lists 2)

-- the cell at place p of b tiles side by side
abbrev pub beside_at : ℕ → ℕ → List (List ℤ) → ℕ → ℤ
beside_at b side tiles p = cell (nth tiles (p % (b * side) / side)) side (p / (b * side)) (p % (b * side) % side)

-- b tiles side by side, row by row
abbrev pub beside : ℕ → ℕ → List (List ℤ) → List ℤ
beside b side tiles = map (beside_at b side tiles) (range_with_len 0 (side * (b * side)))

-- lists one below the other
abbrev pub below : List (List ℤ) → List ℤ
below lists = flat_map (λ cells. cells) lists

-- what a task makes of its inputs, over b tiles a side
abbrev pub task_made : ℕ → ℕ → List (Option ℕ) → ℕ → Task → List (List ℤ) → List ℤ
task_made n side ws b (Tile t i j) lists = tile_made n side ws i j (part t i j) lists
task_made n side ws b (Gather i) lists = beside b side lists
task_made n side ws b Sink lists = below lists

-- a tile after its round, by its part there: its own last version, the pivot as closed, and the tiles that share a column and a row with the pivot
abbrev pub next_tile : ℕ → Part → List ℤ → List ℤ → List ℤ → List ℤ → List ℤ
next_tile side Load own pivot left above = own
next_tile side Pivot own pivot left above = pivot
next_tile side Row own pivot left above = min_plus_of side own pivot own
next_tile side Column own pivot left above = min_plus_of side own own pivot
next_tile side Rest own pivot left above = min_plus_of side own (min_plus_of side left left pivot) (min_plus_of side above pivot above)

-- tile (i, j) after so many rounds
unfoldable pub tile_after : ℕ → ℕ → List (Option ℕ) → ℕ → ℕ → ℕ → List ℤ
tile_after n side ws zero i j = loaded n side ws i j
tile_after n side ws (suc r) i j =
    next_tile side (part_from (eqb i r) (eqb j r)) (tile_after n side ws r i j) (closed side (tile_after n side ws r r r))
    (tile_after n side ws r i r) (tile_after n side ws r r j)

-- row i of the tiles after all rounds, side by side
unfoldable pub gathered : ℕ → ℕ → List (Option ℕ) → ℕ → List ℤ
gathered n side ws i = let b = tiles_of n side in beside b side (map (tile_after n side ws b i) (range_with_len 0 b))

-- all tiles after all rounds
unfoldable pub closure : ℕ → ℕ → List (Option ℕ) → List ℤ
closure n side ws = below (map (gathered n side ws) (range_with_len 0 (tiles_of n side)))

-- the value of a task
abbrev pub task_value : ℕ → ℕ → List (Option ℕ) → Task → List ℤ
task_value n side ws (Tile t i j) = tile_after n side ws t i j
task_value n side ws (Gather i) = gathered n side ws i
task_value n side ws Sink = closure n side ws
