-- Walks along the edges of a matrix, and least weights of walks.
use Rattle.std.specs.Prelude.{◌≡◌, ◌≢◌, ◌↔◌, ℕ, ◌+◌, ◌*◌, ◌<◌, ℤ, pos, ◌≤ℤ◌, ltb, ◌&&◌, cond, List, [], ◌∷◌, Option, Some, None, slice_index_or}
use Rattle.lane_kernels.specs.MinPlus.{none, at}
use Rattle.path_tasks.specs.Paths.{tiles_of}
use Rattle.apsp_graph.specs.Blocked.{closure}
use Rattle.apsp_graph.specs.Matrices.{Matrix}

-- the weight of the edge from u to v, where there is one among n vertices
abbrev pub edge_weight : ℕ → List (Option ℕ) → ℕ → ℕ → Option ℕ
edge_weight n ws u v = cond (ltb u n && ltb v n) (slice_index_or ws (u * n + v) None) None

-- the vertices are those of a walk from u to v behind u: neighbours have an edge
abbrev pub LeadsTo : ℕ → List (Option ℕ) → ℕ → List ℕ → ℕ → Type 0
LeadsTo n ws u [] v = u ≡ v
LeadsTo n ws u (x ∷ xs) v = ((w : ℕ) × (edge_weight n ws u x ≡ Some w)) × LeadsTo n ws x xs v

abbrev pub weight_or_zero : Option ℕ → ℕ
weight_or_zero None = 0
weight_or_zero (Some w) = w

-- the sum of its edges' weights
abbrev pub walk_weight : ℕ → List (Option ℕ) → ℕ → List ℕ → ℕ
walk_weight n ws u [] = 0
walk_weight n ws u (x ∷ xs) = weight_or_zero (edge_weight n ws u x) + walk_weight n ws x xs

-- The number is the least weight of a walk from u to v, and none just where there is no walk.
pub record IsLeast (n : ℕ) (ws : List (Option ℕ)) (u v : ℕ) (z : ℤ) : Type 0 where
  pub reached : z ≢ none → (xs : List ℕ) × LeadsTo n ws u xs v × (z ≡ pos (walk_weight n ws u xs))
  pub least : (xs : List ℕ) → LeadsTo n ws u xs v → z ≤ℤ pos (walk_weight n ws u xs)
  pub no_walk : z ≡ none ↔ ((xs : List ℕ) → LeadsTo n ws u xs v → ⊥)

-- the tiles of a matrix after all rounds hold the least weights of its walks: in row i, column j from i to j
abbrev pub HasLeast : Matrix → Type 0
HasLeast m = (i j : ℕ) → i < m.n → j < m.n → IsLeast m.n m.weights i j (at (closure m.n m.side m.weights) (i * (tiles_of m.n m.side * m.side) + j))
