-- The min-plus product of square tiles, as lists of their rows one after the other.
use Rattle.std.specs.Prelude.{◌≡◌, ℕ, zero, suc, ◌+◌, ◌-◌, ◌*◌, ◌/◌, ◌%◌, ◌^◌, ℤ, pos, ◌+ℤ◌, ◌<◌, ◌≤◌, ◌≤ℤ◌, List, map, slice_index_or}
use Rattle.std.specs.Int.{int_min}
use Rattle.std.specs.List.{range_with_len}

-- the weight that stands for no walk, the greatest i64
abbrev pub none : ℤ
none = pos (2 ^ 63 - 1)

-- the weight of two walks, one after the other
abbrev pub plus : ℤ → ℤ → ℤ
plus x y = int_min (x +ℤ y) none

-- the number at a place, and 0 past the end
abbrev pub at : List ℤ → ℕ → ℤ
at xs p = slice_index_or xs p (pos 0)

-- no number is below 0
abbrev pub IsNonNegative : List ℤ → Type 0
IsNonNegative xs = (p : ℕ) → pos 0 ≤ℤ at xs p

-- a weight, or none
pub record IsWeight (z : ℤ) : Type 0 where
  pub from_zero : pos 0 ≤ℤ z
  pub to_none : z ≤ℤ none

-- each number is a weight
abbrev pub AllWeights : List ℤ → Type 0
AllWeights xs = (p : ℕ) → IsWeight (at xs p)

-- row i, column j
abbrev pub cell : List ℤ → ℕ → ℕ → ℕ → ℤ
cell xs side i j = at xs (i * side + j)

-- from i to j over k
abbrev pub over : List ℤ → List ℤ → ℕ → ℕ → ℕ → ℕ → ℤ
over a b side i j k = plus (cell a side i k) (cell b side k j)

-- the least of `old` and the ways over each k below n
abbrev pub least : List ℤ → List ℤ → ℕ → ℕ → ℕ → ℤ → ℕ → ℤ
least a b side i j old zero = old
least a b side i j old (suc n) = int_min (least a b side i j old n) (over a b side i j n)

-- the tile with `f i j` in row i, column j
abbrev pub tile : ℕ → (ℕ → ℕ → ℤ) → List ℤ
tile side f = map (λ p. f (p / side) (p % side)) (range_with_len 0 (side * side))

-- the product of a and b, and what stood before where that is less
abbrev pub min_plus_of : ℕ → List ℤ → List ℤ → List ℤ → List ℤ
min_plus_of side out a b = tile side (λ i j. least a b side i j (cell out side i j) side)

-- what a call leaves that does columns `from` to `to` of row i, and no other cell
pub record RowUpdated (old a b new : List ℤ) (side i from to : ℕ) : Type 0 where
  pub done : (c : ℕ) → from ≤ c → c < to → cell new side i c ≡ least a b side i c (cell old side i c) side
  pub before : (p : ℕ) → p < i * side + from → at new p ≡ at old p
  pub after : (p : ℕ) → i * side + to ≤ p → at new p ≡ at old p

-- Floyd-Warshall over the vertices below n, in order
abbrev pub closed_over : ℕ → List ℤ → ℕ → List ℤ
closed_over side t zero = t
closed_over side t (suc n) = let s = closed_over side t n in tile side (λ i j. int_min (cell s side i j) (over s s side i j n))

-- Floyd-Warshall over all vertices of the tile
abbrev pub closed : ℕ → List ℤ → List ℤ
closed side t = closed_over side t side

-- what a call leaves that takes each way over k in columns `from` to `to`, and touches no other cell
pub record ColumnsOver (old new : List ℤ) (side k from to : ℕ) : Type 0 where
  pub done : (i c : ℕ) → i < side → from ≤ c → c < to → cell new side i c ≡ int_min (cell old side i c) (over old old side i c k)
  pub left : (i c : ℕ) → i < side → c < from → cell new side i c ≡ cell old side i c
  pub right : (i c : ℕ) → i < side → to ≤ c → c < side → cell new side i c ≡ cell old side i c

-- the tile's own cells are weights
abbrev pub CellWeights : List ℤ → ℕ → Type 0
CellWeights xs side = (i c : ℕ) → i < side → c < side → IsWeight (cell xs side i c)
