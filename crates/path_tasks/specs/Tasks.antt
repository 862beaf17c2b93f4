-- The tasks of blocked Floyd-Warshall over b tiles a side, and the edges between them, each computed from the task.
-- Round 0 loads the tiles. Round suc r has the pivot tile (r, r).
use Rattle.path_tasks.specs.declared.Part.{Part}
use Rattle.path_tasks.specs.declared.Part.TheVariants.{Load, Pivot, Row, Column, Rest}
use Rattle.path_tasks.specs.declared.Task.{Task}
use Rattle.path_tasks.specs.declared.Task.TheVariants.{Tile, Gather, Sink}
use Rattle.path_tasks.specs.declared.End.{End}
use Rattle.std.specs.Prelude.{◌≡◌, ◌≢◌, ℕ, zero, suc, pred, ◌+◌, ◌-◌, ◌*◌, ◌<◌, ◌≤◌, min, max, ◌⊎◌, Bool, true, false, cond, eqb, ltb}

-- ---- what a tile is in its round, by whether its row and its column are the pivot's
abbrev pub part_from : Bool → Bool → Part
part_from true true = Pivot
part_from true false = Row
part_from false true = Column
part_from false false = Rest

-- the part of tile (i, j) in round t
abbrev pub part : ℕ → ℕ → ℕ → Part
part zero i j = Load
part (suc r) i j = part_from (eqb i r) (eqb j r)

-- how many inputs it has
abbrev pub inputs : Part → ℕ
inputs Load = 0
inputs Pivot = 1
inputs Row = 2
inputs Column = 2
inputs Rest = 3

-- its input at place 1 or 2, a tile of the same round: its row
abbrev pub source_row : ℕ → Part → ℕ → ℕ → ℕ
source_row r Load i n = r
source_row r Pivot i n = r
source_row r Row i n = r
source_row r Column i n = r
source_row r Rest i n = cond (eqb n 1) i r

-- its column
abbrev pub source_column : ℕ → Part → ℕ → ℕ → ℕ
source_column r Load j n = r
source_column r Pivot j n = r
source_column r Row j n = r
source_column r Column j n = r
source_column r Rest j n = cond (eqb n 1) r j

-- ---- numbers without r
-- the number at place n
abbrev pub skip : ℕ → ℕ → ℕ
skip r n = cond (ltb n r) n (n + 1)

-- the place of the number x
abbrev pub place_without : ℕ → ℕ → ℕ
place_without r x = cond (ltb x r) x (x - 1)

-- ---- the tiles of the same round that read this one, in order of key
-- how many they are
abbrev pub readers : ℕ → Part → ℕ
readers b Load = 0
readers b Pivot = 2 * (b - 1)
readers b Row = b - 1
readers b Column = b - 1
readers b Rest = 0

-- the row of the one at place n
abbrev pub reader_row : ℕ → ℕ → Part → ℕ → ℕ → ℕ
reader_row b r Load i n = i
reader_row b r Pivot i n = cond (ltb n r) n (cond (ltb n (r + (b - 1))) r (n + 2 - b))
reader_row b r Row i n = skip r n
reader_row b r Column i n = i
reader_row b r Rest i n = i

-- its column
abbrev pub reader_column : ℕ → ℕ → Part → ℕ → ℕ → ℕ
reader_column b r Load j n = j
reader_column b r Pivot j n = cond (ltb n r) r (cond (ltb n (r + (b - 1))) (skip r (n - r)) r)
reader_column b r Row j n = j
reader_column b r Column j n = skip r n
reader_column b r Rest j n = j

-- the place of the reader (x, y) among them
abbrev pub reader_at : ℕ → ℕ → Part → ℕ → ℕ → ℕ
reader_at b r Load x y = 0
reader_at b r Pivot x y = cond (eqb x r) (r + place_without r y) (cond (ltb x r) x (x + b - 2))
reader_at b r Row x y = place_without r x
reader_at b r Column x y = place_without r y
reader_at b r Rest x y = 0

-- the place at which they have it
abbrev pub read_place : Part → ℕ
read_place Load = 0
read_place Pivot = 1
read_place Row = 2
read_place Column = 1
read_place Rest = 0

-- ---- the tiles whose next round waits for this one: itself and what it reads in its round, in order of key
-- how many they are
abbrev pub waits : Part → ℕ
waits Load = 1
waits Pivot = 1
waits Row = 2
waits Column = 2
waits Rest = 3

-- the row of the one at place n
abbrev pub wait_row : ℕ → Part → ℕ → ℕ → ℕ
wait_row r Load i n = i
wait_row r Pivot i n = i
wait_row r Row i n = i
wait_row r Column i n = cond (eqb n 0) (min i r) (max i r)
wait_row r Rest i n = cond (ltb i r) (cond (ltb n 2) i r) (cond (eqb n 0) r i)

-- its column
abbrev pub wait_column : ℕ → Part → ℕ → ℕ → ℕ → ℕ
wait_column r Load i j n = j
wait_column r Pivot i j n = j
wait_column r Row i j n = cond (eqb n 0) (min j r) (max j r)
wait_column r Column i j n = j
wait_column r Rest i j n = cond (ltb i r) (cond (eqb n 0) (min j r) (cond (eqb n 1) (max j r) j)) (cond (eqb n 0) j (cond (eqb n 1) (min j r) (max j r)))

-- the place of (x, y) among them
abbrev pub wait_at : ℕ → Part → ℕ → ℕ → ℕ → ℕ → ℕ
wait_at r Load i j x y = 0
wait_at r Pivot i j x y = 0
wait_at r Row i j x y = cond (eqb y (min j r)) 0 1
wait_at r Column i j x y = cond (eqb x (min i r)) 0 1
wait_at r Rest i j x y = cond (eqb x i) (cond (ltb i r) 0 1 + cond (eqb y (min j r)) 0 1) (cond (ltb i r) 2 0)

-- ---- the tasks
-- what is a task over b tiles a side
abbrev pub IsTask : ℕ → Task → Type 0
IsTask b (Tile t i j) = (t ≤ b) × (i < b) × (j < b)
IsTask b (Gather i) = i < b
IsTask b Sink = Unit {0}

-- rounds one after the other, each row by row, then the gathers and the sink
abbrev pub key_of : ℕ → Task → ℕ
key_of b (Tile t i j) = t * (b * b) + i * b + j
key_of b (Gather i) = (b + 1) * (b * b) + i
key_of b Sink = (b + 1) * (b * b) + b

-- the rank of a tile in round t: the pivot, then its row and column, then the rest
abbrev pub rank_in : ℕ → Part → ℕ
rank_in t Load = 0
rank_in t Pivot = 3 * t - 2
rank_in t Row = 3 * t - 1
rank_in t Column = 3 * t - 1
rank_in t Rest = 3 * t

-- a number that falls along each edge to a predecessor
abbrev pub rank_of : ℕ → Task → ℕ
rank_of b (Tile t i j) = rank_in t (part t i j)
rank_of b (Gather i) = 3 * b + 1
rank_of b Sink = 3 * b + 2

-- how many predecessors there are: the inputs, and the readers of the version that is overwritten
abbrev pub pred_count_of : ℕ → Task → ℕ
pred_count_of b (Tile zero i j) = 0
pred_count_of b (Tile (suc r) i j) = inputs (part (suc r) i j) + readers b (part r i j)
pred_count_of b (Gather i) = b
pred_count_of b Sink = b

-- the predecessor at place n, with the port of this edge
abbrev pub pred_of : ℕ → Task → ℕ → End
pred_of b (Tile zero i j) n = record { task = Sink; at = 0 }
pred_of b (Tile (suc r) i j) n =
    let p = part (suc r) i j in
    let q = part r i j in
    let x = source_row r p i n in
    let y = source_column r p j n in
    let x' = reader_row b (pred r) q i (n - inputs p) in
    let y' = reader_column b (pred r) q j (n - inputs p) in
    cond (eqb n 0)
    (record { task = Tile r i j; at = readers b q + wait_at (pred r) q i j i j })
    (cond (ltb n (inputs p))
    (record { task = Tile (suc r) x y; at = reader_at b r (part (suc r) x y) i j })
    (record { task = Tile r x' y'; at = readers b (part r x' y') + wait_at (pred r) (part r x' y') x' y' i j }))
pred_of b (Gather i) n = record { task = Tile b i n; at = readers b (part b i n) }
pred_of b Sink n = record { task = Gather n; at = 0 }

-- how many successors there are: the readers of the round, and who waits in the next one, or the gather
abbrev pub succ_count_of : ℕ → Task → ℕ
succ_count_of b (Tile t i j) = readers b (part t i j) + cond (ltb t b) (waits (part t i j)) 1
succ_count_of b (Gather i) = 1
succ_count_of b Sink = 0

-- the successor at port n, with the place of this edge
abbrev pub succ_of : ℕ → Task → ℕ → End
succ_of b (Tile t i j) n =
    let p = part t i j in
    let m = n - readers b p in
    let x = wait_row (pred t) p i m in
    let y = wait_column (pred t) p i j m in
    cond (ltb n (readers b p))
    (record { task = Tile t (reader_row b (pred t) p i n) (reader_column b (pred t) p j n); at = read_place p })
    (cond (ltb t b)
    (record { task = Tile (suc t) x y; at = cond (eqb x i) (cond (eqb y j) 0 (inputs (part (suc t) x y) + reader_at b (pred t) (part t x y) i j)) (inputs (part (suc t) x y) + reader_at b (pred t) (part t x y) i j) })
    (record { task = Gather i; at = j }))
succ_of b (Gather i) n = record { task = Sink; at = i }
succ_of b Sink n = record { task = Sink; at = 0 }

-- ---- the laws
-- each predecessor has a lower rank
abbrev pub RankFalls : ℕ → Type 0
RankFalls b = (k : Task) (n : ℕ) → IsTask b k → n < pred_count_of b k → rank_of b (pred_of b k n).task < rank_of b k

-- each predecessor has this task as the successor at the port that is told
abbrev pub PredIsSucc : ℕ → Type 0
PredIsSucc b = (k : Task) (n : ℕ) → IsTask b k → n < pred_count_of b k → succ_of b (pred_of b k n).task (pred_of b k n).at ≡ record { task = k; at = n }

-- each successor has this task as the predecessor at the place that is told
abbrev pub SuccIsPred : ℕ → Type 0
SuccIsPred b = (k : Task) (n : ℕ) → IsTask b k → n < succ_count_of b k → pred_of b (succ_of b k n).task (succ_of b k n).at ≡ record { task = k; at = n }

-- each predecessor is a task that has the port
abbrev pub PortInRange : ℕ → Type 0
PortInRange b = (k : Task) (n : ℕ) → IsTask b k → n < pred_count_of b k → IsTask b (pred_of b k n).task × ((pred_of b k n).at < succ_count_of b (pred_of b k n).task)

-- each successor is a task that has the place
abbrev pub PlaceInRange : ℕ → Type 0
PlaceInRange b = (k : Task) (n : ℕ) → IsTask b k → n < succ_count_of b k → IsTask b (succ_of b k n).task × ((succ_of b k n).at < pred_count_of b (succ_of b k n).task)

-- ---- blocks: each tile is one block, whose version is one more than the round
abbrev pub block_of : ℕ → Task → ℕ
block_of b (Tile t i j) = i * b + j
block_of b (Gather i) = b * b + i
block_of b Sink = b * b + b

-- which version of its block a task writes
abbrev pub version_of : Task → ℕ
version_of (Tile t i j) = t + 1
version_of (Gather i) = 1
version_of Sink = 1

-- how many predecessors are data, which come first
abbrev pub input_count_of : ℕ → Task → ℕ
input_count_of b (Tile t i j) = inputs (part t i j)
input_count_of b (Gather i) = b
input_count_of b Sink = b

-- who overwrites a version waits for its writer, and for every other task that has it as an input
abbrev pub OverwritesLast : ℕ → Type 0
OverwritesLast b =
    (r i j : ℕ) → suc r ≤ b → i < b → j < b → (k : Task) (n : ℕ) → IsTask b k → n < input_count_of b k → (pred_of b k n).task ≡ Tile r i j
    → (k ≡ Tile (suc r) i j) ⊎ ((m : ℕ) × (m < pred_count_of b (Tile (suc r) i j)) × ((pred_of b (Tile (suc r) i j) m).task ≡ k))

-- x is a tile of round t, other than (i, j), that has tile (i, j) of this round as an input
pub record IsOtherReader (b t i j : ℕ) (x : Task) : Type 0 where
  pub row : ℕ
  pub column : ℕ
  pub tile : x ≡ Tile t row column
  pub other : (row ≢ i) ⊎ (column ≢ j)
  pub place : ℕ
  pub input : place < input_count_of b x
  pub reads : (pred_of b x place).task ≡ Tile t i j

-- the order predecessors of who overwrites a version are other readers of it
abbrev pub OrderIsReaders : ℕ → Type 0
OrderIsReaders b =
    (r i j n : ℕ) → suc r ≤ b → i < b → j < b → input_count_of b (Tile (suc r) i j) ≤ n → n < pred_count_of b (Tile (suc r) i j)
    → IsOtherReader b r i j (pred_of b (Tile (suc r) i j) n).task

-- order predecessors ascend by key
abbrev pub OrderAscends : ℕ → Type 0
OrderAscends b =
    (r i j n : ℕ) → suc r ≤ b → i < b → j < b → input_count_of b (Tile (suc r) i j) ≤ n → suc n < pred_count_of b (Tile (suc r) i j)
    → key_of b (pred_of b (Tile (suc r) i j) n).task < key_of b (pred_of b (Tile (suc r) i j) (suc n)).task

-- ports are in the order of keys
abbrev pub InKeyOrder : ℕ → Type 0
InKeyOrder b = (k : Task) (n : ℕ) → IsTask b k → suc n < succ_count_of b k → key_of b (succ_of b k n).task < key_of b (succ_of b k (suc n)).task
