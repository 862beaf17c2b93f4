-- Lists of cells in room that was taken before.
use Rattle.std.specs.Prelude.{◌≡◌, ℕ, ◌+◌, ◌≤◌, ℤ, List, [], ◌∷◌, length, slice_range}

-- the lists that are held, and for how many lists and cells there is room in all
pub record Gathered : Type 0 where
  pub lists : List (List ℤ)
  pub most_lists : ℕ
  pub most_cells : ℕ

-- how many cells lists have together
abbrev pub cells_in : List (List ℤ) → ℕ
cells_in [] = 0
cells_in (cells ∷ lists) = length cells + cells_in lists

-- the pieces of a list that end at these places, where the first begins at `from` and each later one at the end before
abbrev pub pieces : ℕ → List ℕ → List ℤ → List (List ℤ)
pieces from [] cells = []
pieces from (end ∷ ends) cells = slice_range cells from end ∷ pieces end ends cells

-- places that never fall, the last of which is `last`
abbrev pub IsRising : ℕ → List ℕ → ℕ → Type 0
IsRising from [] last = from ≡ last
IsRising from (end ∷ ends) last = (from ≤ end) × IsRising end ends last
