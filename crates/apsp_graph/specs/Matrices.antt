-- A matrix with its strikes, and the text that stands for it.
use Rattle.std.specs.Prelude.{◌≡◌, ℕ, ◌+◌, ◌*◌, ◌≤◌, Bool, nat_le, ◌==◌, ◌&&◌, List, [], ◌∷◌, ◌++◌, Option, Some, None, length, map, if◌then◌else◌, true}
use Rattle.graph_model.specs.declared.plan.Strike.{Strike}
use Rattle.path_tasks.specs.Paths.{tiles_of}
use Rattle.apsp_graph.specs.Lines.{lines_of, words_of}
use Rattle.apsp_graph.specs.Numbers.{number_of}
use Rattle.apsp_graph.specs.Strikes.{strike_of}

-- the words of a line
abbrev pub Words : Type 0
Words = List (List ℕ)

-- vertices, the side of a tile, weights row by row, and strikes in order
pub record Matrix : Type 0 where
  pub n : ℕ
  pub side : ℕ
  pub weights : List (Option ℕ)
  pub strikes : List Strike

-- 1 to 512 vertices in tiles of a side of 1 to 32, at most 16 tiles a side
unfoldable pub is_size : ℕ → ℕ → Bool
is_size n side = nat_le n 512 && (nat_le side 32 && (nat_le 1 n && (nat_le 1 side && nat_le (tiles_of n side) 16)))

-- the greatest key
abbrev pub top_of : ℕ → ℕ → ℕ
top_of n side = let b = tiles_of n side in (b + 1) * (b * b) + b

-- `-`, or a number up to the greatest weight
pub data IsWeight : List ℕ → Option ℕ → Type 0 where
  none : IsWeight (45 ∷ []) None
  some : {w : List ℕ} {v : ℕ} → number_of w ≡ Some v → v ≤ 2147483647 → IsWeight w (Some v)

-- the items of row i from column j on. The weight on the diagonal is 0, whatever item stands there
pub data IsRow (i : ℕ) : ℕ → Words → List (Option ℕ) → Type 0 where
  end : {j : ℕ} → IsRow i j [] []
  item : {j : ℕ} {w : List ℕ} {ws : Words} {x : Option ℕ} {xs : List (Option ℕ)} → IsWeight w x → IsRow i (j + 1) ws xs → IsRow i j (w ∷ ws) ((if i == j then Some 0 else x) ∷ xs)

-- rows of n items, from row i on
pub data AreRows (n : ℕ) : ℕ → List Words → List (Option ℕ) → Type 0 where
  end : {i : ℕ} → AreRows n i [] []
  row : {i : ℕ} {l : Words} {ls : List Words} {xs ys : List (Option ℕ)} → IsRow i 0 l xs → length l ≡ n → AreRows n (i + 1) ls ys → AreRows n i (l ∷ ls) (xs ++ ys)

-- strikes, a line each, with empty lines between them
pub data AreStrikes (top : ℕ) : List Words → List Strike → Type 0 where
  end : AreStrikes top [] []
  skip : {ls : List Words} {ss : List Strike} → AreStrikes top ls ss → AreStrikes top ([] ∷ ls) ss
  strike : {l : Words} {ls : List Words} {s : Strike} {ss : List Strike} → strike_of top l ≡ Some s → AreStrikes top ls ss → AreStrikes top (l ∷ ls) (s ∷ ss)

-- The text stands for the matrix.
pub record IsMatrix (text : List ℕ) (m : Matrix) : Type 0 where
  pub first : Words
  pub rows : List Words
  pub more : List Words
  pub lines : map words_of (lines_of text) ≡ first ∷ (rows ++ more)
  pub head : (a : List ℕ) × (b : List ℕ) × (first ≡ a ∷ b ∷ []) × (number_of a ≡ Some m.n) × (number_of b ≡ Some m.side)
  pub size : is_size m.n m.side ≡ true
  pub each : AreRows m.n 0 rows m.weights
  pub count : length rows ≡ m.n
  pub strikes : AreStrikes (top_of m.n m.side) more m.strikes
  pub few : length m.strikes ≤ 4096
